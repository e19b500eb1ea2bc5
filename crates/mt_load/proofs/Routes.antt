-- The two fixes of a route differ.
use Rattle.std.proofs.Common.{◌≡◌, Bool, true, false, ℕ, ◌+◌, ◌*◌, ◌/◌, ◌%◌, ◌<◌, ◌≤◌, List, [], ◌∷◌, All, refl, arith, if◌then◌else◌}
use Rattle.std.proofs.lemmas.Bool.Decides.{nat_tests}
use Rattle.std.proofs.lemmas.List.Elements.{All-from_recursion}
use Rattle.std.proofs.lemmas.Slice.Eq.{bytes_eq-Decides}
use Rattle.std.specs.Prelude.{nat_le}
use Rattle.std.specs.Str.{bytes_eq}
use Rattle.mt_base.specs.declared.route.RouteNo.{RouteNo}
use Rattle.mt_base.specs.Tables.{differ_from_next, length_checks}
use Rattle.mt_load.specs.Draws.{drawn, state_after}
use Rattle.mt_load.specs.Input.{HasRightRoute, digit, fix_name, inputs, other_than, plan_of}
use Rattle.mt_load.proofs.Inputs.{all_inputs}

passed_over : (a b : ℕ) → a ≡ other_than a b → ⊥
passed_over a b = by_test (nat_le a b) refl where
  by_test : (t : Bool) → nat_le a b ≡ t → a ≡ (if t then b + 1 else b) → ⊥
  by_test true is same =
      let upper : a ≤ b = grind (arith, nat_tests) in
      omega arith
  by_test false is same =
      let lower : b < a = grind (arith, nat_tests) in
      omega arith

names_apart : (a b : ℕ) → (a ≡ b → ⊥) → fix_name a ≡ fix_name b → ⊥
names_apart a b apart same =
    let columns : digit (a / 8) ≡ digit (b / 8) = cc in
    let places : digit (a % 8) ≡ digit (b % 8) = cc in
    apart (omega arith)

tested : (n m : List ℕ) → (n ≡ m → ⊥) → bytes_eq n m ≡ false
tested n m apart = by_test (bytes_eq n m) refl where
  by_test : (t : Bool) → bytes_eq n m ≡ t → t ≡ false
  by_test true is = absurd (apart ((bytes_eq-Decides n m).0 is))
  by_test false is = refl

differ : (n m : List ℕ) → (n ≡ m → ⊥) → differ_from_next (n ∷ m ∷ []) ≡ true
differ n m apart = rw (tested n m apart) refl

two_names : (n m : List ℕ) → (n ≡ m → ⊥) → All (λ (c : RouteNo × Bool). c.1 ≡ true) (length_checks (n ∷ m ∷ []))
two_names n m apart =
    All-from_recursion (λ (c : RouteNo × Bool). c.1 ≡ true) (length_checks (n ∷ m ∷ [])) (refl, (refl, (differ n m apart, tt)))

plan_routed : (number n : ℕ) → HasRightRoute (plan_of number n)
plan_routed number n =
    let state = state_after (4 * n) number in
    let first = drawn 64 (state_after 1 state) in
    let other = drawn 63 (state_after 2 state) in
    two_names (fix_name first) (fix_name (other_than first other)) (names_apart first (other_than first other) (passed_over first other))

pub inputs_routed : (flights number : ℕ) → All HasRightRoute (inputs flights number)
inputs_routed flights number = all_inputs HasRightRoute flights number (λ k below. tt) tt tt (plan_routed number) tt
