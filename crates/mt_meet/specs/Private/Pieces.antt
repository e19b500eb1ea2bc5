-- No public contract names these: they are of private steps and of proofs.
-- Pieces of the time of two trajectories, in each of which both have one slice.
use Rattle.std.specs.Prelude.{◌≡◌, ◌≤◌, ◌<◌, ◌+◌, ◌-◌, ◌*◌, ◌/◌, ◌%◌, ℕ, List, All, length, max, min}
use Rattle.mt_cover.specs.Layer.{IsLayerKept}
use Rattle.mt_cover.specs.Sliced.{Sliced}
use Rattle.mt_cover.specs.declared.sliced.Slice.{Slice}
use Rattle.mt_meet.specs.declared.meeting.Pieces.{Pieces}

-- these are the pieces of the seconds from one on and before another
pub record ArePieces (a b : Sliced) (begin end : ℕ) (p : Pieces) : Type 0 where
  pub left_start : p.starts.0 ≡ begin - (begin - a.from) % 128
  pub right_start : p.starts.1 ≡ begin - (begin - b.from) % 128
  pub left_first : p.starts.0 < p.starts.1 → p.turn.0 ≡ 1
  pub left_not : p.starts.1 ≤ p.starts.0 → p.turn.0 ≡ 0
  pub right_first : p.starts.1 < p.starts.0 → p.turn.1 ≡ 1
  pub right_not : p.starts.0 ≤ p.starts.1 → p.turn.1 ≡ 0
  pub number_is : p.number ≡ (end - 1 - p.starts.0) / 128 + (end - 1 - p.starts.1) / 128 + 1

-- `left_begun`, `right_begun`: the seconds in which the slices of a piece begin
abbrev pub left_begun : Pieces → ℕ → ℕ
left_begun p piece = p.starts.0 + 128 * ((piece + p.turn.0) / 2)

abbrev pub right_begun : Pieces → ℕ → ℕ
right_begun p piece = p.starts.1 + 128 * ((piece + p.turn.1) / 2)

-- from which second on and before which one both slices of a piece stand
abbrev pub piece_seconds : Pieces → ℕ → ℕ × ℕ
piece_seconds p piece = (max (left_begun p piece) (right_begun p piece), min (left_begun p piece) (right_begun p piece) + 128)

-- the slices of a piece begin by the last second before which slices end
pub record BeginEarly (p : Pieces) (piece : ℕ) : Type 0 where
  pub left : left_begun p piece ≤ 10014400
  pub right : right_begun p piece ≤ 10014400

-- two lists have a slice for each of some pieces, whose heights are kept
pub record HaveSlices (a b : List Slice) (p : Pieces) : Type 0 where
  pub left : (piece : ℕ) → piece < p.number → (piece + p.turn.0) / 2 < length a
  pub right : (piece : ℕ) → piece < p.number → (piece + p.turn.1) / 2 < length b
  pub left_kept : All (λ (slice : Slice). IsLayerKept slice.layer) a
  pub right_kept : All (λ (slice : Slice). IsLayerKept slice.layer) b
