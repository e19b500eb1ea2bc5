-- A tally that is raised again, and the sum of a list with one more.
use Rattle.std.proofs.Common.{◌≡◌, ℕ, zero, suc, ◌+◌, List, [], ◌∷◌, ◌++◌, refl, ap, arith}
use Rattle.std.proofs.lemmas.List.Sums.{sum_by-append, sum_by-cons}
use Rattle.std.specs.List.{sum_by}
use Rattle.mt_base.specs.Tally.{raised, raised_by}

pub raised_by-add : (m n count : ℕ) → raised_by n (raised_by m count) ≡ raised_by (m + n) count
raised_by-add m zero count = let e : m + 0 ≡ m = omega arith in rw e refl
raised_by-add m (suc n) count = let e : m + suc n ≡ suc (m + n) = omega arith in rw e (ap raised (raised_by-add m n count))

pub sum_by-push : {X : Type 0} (f : X → ℕ) (xs : List X) (x : X) → sum_by f (xs ++ x ∷ []) ≡ sum_by f xs + f x
sum_by-push f xs x = let last : sum_by f (x ∷ []) ≡ f x + sum_by f [] = sum_by-cons f x [] in omega (arith, sum_by-append f xs (x ∷ []))
