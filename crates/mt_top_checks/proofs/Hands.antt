-- Seats that are joined.
use Rattle.std.proofs.Common.{◌≡◌, ℕ, zero, suc, List, [], ◌∷◌, map, Contains, sym, refl, subst, arith}
use Rattle.mt_turn.specs.declared.view.Joined.{Joined}
use Rattle.mt_turn.specs.declared.view.View.{View}
use Rattle.mt_turn.specs.Lending.{AllJoined, IsJoined}

one_of : {E : Type 0} (js : List (Joined E)) (n : ℕ) → Contains (map (λ j. j.number) js) n → IsJoined js n
one_of [] n (k, l, is) = absurd (omega arith)
one_of (j ∷ js) n (zero, l, is) = (j, (0, omega arith, refl), is)
one_of (j ∷ js) n (suc k, l, is) =
    let later = one_of js n (k, omega (arith, l), is) in
    (later.0, (suc later.1.0, omega (arith, later.1.1), later.1.2), later.2)

-- the seats that were split off are joined where the numbers of those that are joined are the numbers that were given
pub all_joined : {E F : Type 0} (v : View E F) → map (λ j. j.number) v.joined ≡ v.gave → AllJoined v
all_joined v same n given = one_of v.joined n (subst (λ numbers. Contains numbers n) (sym same) given)
