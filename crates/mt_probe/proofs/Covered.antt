-- The items of a place, and their stays.
use Rattle.std.proofs.Common.{◌≡◌, Bool, true, false, ℕ, ◌+◌, ◌*◌, ◌/◌, ◌%◌, List, Option, None, get_or, nat_eq, refl, ◌∙◌, ap, if◌then◌else◌, arith}
use Rattle.std.proofs.lemmas.Bool.Decides.{nat_tests}
use Rattle.mt_base.specs.declared.conflict.Kind.{Kind}
use Rattle.mt_base.specs.declared.conflict.Kind.TheVariants.{Actual, Tentative}
use Rattle.mt_base.specs.declared.rules.Rules.{Rules}
use Rattle.mt_probe.specs.declared.flight.Flight.{Flight}
use Rattle.mt_probe.specs.Items.{kind_at, stays_at, stays_by}

pub even_half : (i : ℕ) → (2 * i) / 2 ≡ i
even_half i = omega arith

pub odd_half : (i : ℕ) → (2 * i + 1) / 2 ≡ i
odd_half i = omega arith

pub even_kind : (i : ℕ) → kind_at (2 * i) ≡ Actual
even_kind i = by_test (nat_eq ((2 * i) % 2) 0) refl where
  by_test : (b : Bool) → nat_eq ((2 * i) % 2) 0 ≡ b → (if b then Actual else Tentative) ≡ Actual
  by_test true e = refl
  by_test false e = let zero : (2 * i) % 2 ≡ 0 = omega arith in absurd (grind (arith, nat_tests))

pub odd_kind : (i : ℕ) → kind_at (2 * i + 1) ≡ Tentative
odd_kind i = by_test (nat_eq ((2 * i + 1) % 2) 0) refl where
  by_test : (b : Bool) → nat_eq ((2 * i + 1) % 2) 0 ≡ b → (if b then Actual else Tentative) ≡ Tentative
  by_test true e = let one : (2 * i + 1) % 2 ≡ 1 = omega arith in absurd (grind (arith, nat_tests))
  by_test false e = refl

pub at_even : (rules : Rules) (slots : List (Option Flight)) (i : ℕ) → stays_at rules slots (2 * i) ≡ stays_by rules Actual (get_or slots i None)
at_even rules slots i = ap (λ (kind : Kind). stays_by rules kind (get_or slots ((2 * i) / 2) None)) (even_kind i)
    ∙ ap (λ (j : ℕ). stays_by rules Actual (get_or slots j None)) (even_half i)

pub at_odd : (rules : Rules) (slots : List (Option Flight)) (i : ℕ) → stays_at rules slots (2 * i + 1) ≡ stays_by rules Tentative (get_or slots i None)
at_odd rules slots i = ap (λ (kind : Kind). stays_by rules kind (get_or slots ((2 * i + 1) / 2) None)) (odd_kind i)
    ∙ ap (λ (j : ℕ). stays_by rules Tentative (get_or slots j None)) (odd_half i)
