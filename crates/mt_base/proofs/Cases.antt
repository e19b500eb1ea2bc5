-- What follows from a truth value, an option or a list by its cases.
use Rattle.std.proofs.Common.{◌≡◌, ℤ, pos, ◌≤ℤ◌, Bool, true, false, not, List, [], ◌∷◌, length, Option, Some, None, refl, arith, ◌==◌}
use Rattle.std.proofs.lemmas.Bool.Decides.{nat_tests}
use Rattle.std.proofs.lemmas.Int.{ints}
use Rattle.std.specs.Prelude.{MatchBool, int_lt, is_some}

-- what follows from the one and from the other follows from either
pub on_either : (b : Bool) (P Q R : Type 0) → (P → R) → (Q → R) → MatchBool b P Q → R
on_either true P Q R p q m = p m
on_either false P Q R p q m = q m

-- the same of two facts by one truth value
pub on_both : (b : Bool) (P Q P' Q' R : Type 0) → (P → P' → R) → (Q → Q' → R) → MatchBool b P Q → MatchBool b P' Q' → R
on_both true P Q P' Q' R p q x y = p x y
on_both false P Q P' Q' R p q x y = q x y

pub is_none : {X : Type 0} (at : Option X) → not (is_some at) ≡ true → at ≡ None
is_none None none = refl
is_none (Some x) none = cc

pub empty_list : {A : Type 0} (xs : List A) → (length xs == 0) ≡ true → xs ≡ []
empty_list [] none = refl
empty_list (x ∷ xs) none = grind (arith, nat_tests, none)

-- there is room for one where the most is at least one
pub room_for_one : (most : ℤ) → pos 1 ≤ℤ most → int_lt (pos 0) most ≡ true
room_for_one most some = grind (arith, ints)
