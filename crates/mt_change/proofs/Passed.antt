-- Checks that are passed.
use Rattle.std.proofs.Common.{◌≡◌, List, [], ◌∷◌, ◌++◌, Result, Ok, Err, IsOk, refl}
use Rattle.std.specs.List.{AllByRecursion}
use Rattle.std.specs.Prelude.{⊤}

-- both halves of a list of which all holds
pub halves : {X : Type 0} (P : X → Type 0) (xs ys : List X) → AllByRecursion P (xs ++ ys) → AllByRecursion P xs × AllByRecursion P ys
halves P [] ys all = (tt, all)
halves P (x ∷ xs) ys all = let h = halves P xs ys all.1 in ((all.0, h.0), h.1)

-- a check that passes answers the one thing that it can
pub ok_is : {F : Type 0} (r : Result ⊤ F) → IsOk r → r ≡ Ok (tt {0})
ok_is (Ok _) ok = refl
ok_is (Err f) ok = cc
