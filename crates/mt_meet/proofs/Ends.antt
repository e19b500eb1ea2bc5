-- The first and the last of some pieces.
use Rattle.std.proofs.Common.{◌≡◌, ◌<◌, ◌+◌, ◌-◌, IsTrue, false, ℕ, Some, ⊎_elim, rules, subst, arith}
use Rattle.std.proofs.lemmas.Bool.{cases_lt}
use Rattle.mt_meet.specs.Meeting.{IsHullOf}
use Rattle.mt_meet.specs.Private.Meeting.{Before, IsFirstPiece, IsLastPiece}

pub not_true : IsTrue false → ⊥
not_true h = search rules

module _ (P : ℕ → Type 0) where
  -- none of the pieces before the next one meets, where this one doesn't
  pub none_yet : (piece : ℕ) → ((j : ℕ) → j < piece → ¬ P j) → ¬ P piece → (j : ℕ) → j < piece + 1 → ¬ P j
  none_yet piece none apart j early met = ⊎_elim
      (λ less. none j less met)
      (λ late. let same : j ≡ piece = omega (arith, late, early) in apart (subst P same met))
      (cases_lt j piece)

  -- none of the pieces from this one on meets, where this one doesn't
  pub none_from : (piece number : ℕ) → ((j : ℕ) → piece < j → j < number → ¬ P j) → ¬ P piece → (j : ℕ) → piece - 1 < j → j < number → ¬ P j
  none_from piece number none apart j late within met = ⊎_elim
      (λ later. none j later within met)
      (λ no. let same : j ≡ piece = omega (arith, no, late) in apart (subst P same met))
      (cases_lt piece j)

  -- none of the pieces after the last one that meets does
  pub last_met : (piece number : ℕ) → Before P number piece → ((j : ℕ) → piece < j → j < number → ¬ P j) → IsLastPiece (Before P number) piece
  last_met piece number met none = (met, λ j h. ⊎_elim (λ later. absurd (none j later h.0 h.1)) (λ no. no) (cases_lt piece j))

  -- they are the hull of the pieces that meet
  pub hull_of : (first last : ℕ) → IsFirstPiece P (Some first) → IsLastPiece P last → IsHullOf P first last
  hull_of first last is_first is_last = record { first_is = is_first.0; last_is = is_last.0; none_outside = λ k met. (is_first.1 k met, is_last.1 k met) }
