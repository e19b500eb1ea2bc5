-- No public contract names these: they are of private steps and of proofs.
use Rattle.std.specs.Prelude.{◌≤◌, ◌<◌, ◌+◌, ◌/◌, Bool, ℕ, List, Option, Some, None, get_or}
use Rattle.mt_base.specs.declared.rules.Rules.{Rules}
use Rattle.mt_cover.specs.declared.sliced.Slice.{Slice}
use Rattle.mt_cover.specs.Sliced.{Sliced, no_slice}
use Rattle.mt_meet.specs.Meeting.{IsHullOf, MeetAt, SlicesMeet}

-- those seconds, or none where no second has P
abbrev pub IsHull : (ℕ → Type 0) → Option (ℕ × ℕ) → Type 0
IsHull P (Some span) = IsHullOf P span.0 span.1
IsHull P None = (k : ℕ) → ¬ P k

-- the first of the pieces that have P, or none where no piece has it
abbrev pub IsFirstPiece : (ℕ → Type 0) → Option ℕ → Type 0
IsFirstPiece P (Some piece) = P piece × ((other : ℕ) → P other → piece ≤ other)
IsFirstPiece P None = (piece : ℕ) → ¬ P piece

-- the last of the pieces that have P
abbrev pub IsLastPiece : (ℕ → Type 0) → ℕ → Type 0
IsLastPiece P piece = P piece × ((other : ℕ) → P other → other ≤ piece)

-- P, of the numbers before one
abbrev pub Before : (ℕ → Type 0) → ℕ → ℕ → Type 0
Before P at k = (k < at) × P k

-- the slices of two lists in the piece of a number meet. With each piece the next slice of one list begins, of that whose first slice ends earlier at first.
abbrev pub PieceMeets : Rules → Bool → List Slice → List Slice → ℕ × ℕ → ℕ → Type 0
PieceMeets rules approved a b turn piece = SlicesMeet rules approved (get_or a ((piece + turn.0) / 2) no_slice) (get_or b ((piece + turn.1) / 2) no_slice)

-- two trajectories have all seconds from one on and before another one, and outside of these their slices never meet
pub record MeetOnlyIn (rules : Rules) (a b : Sliced) (begin end : ℕ) : Type 0 where
  pub some : begin < end
  pub a_begun : a.from ≤ begin
  pub b_begun : b.from ≤ begin
  pub a_within : end ≤ a.to
  pub b_within : end ≤ b.to
  pub all : (k : ℕ) → MeetAt rules a b k → (begin ≤ k) × (k < end)
