-- Members of lists.
use Rattle.std.proofs.Common.{◌≡◌, Bool, true, List, map, filter, Contains}
use Rattle.mt_base.proofs.Members.{Contains-filter, Contains-map_cases}

pub contains_unmap : {A B : Type 0} (f : A → B) (xs : List A) (y : B) → Contains (map f xs) y → (x : A) × Contains xs x × (f x ≡ y)
contains_unmap f xs y c = let it = Contains-map_cases f xs y c in (it.of, it.held, it.is)

pub contains_filter : {A : Type 0} (test : A → Bool) (xs : List A) (x : A) → Contains xs x → test x ≡ true → Contains (filter test xs) x
contains_filter test xs x c is = (Contains-filter test xs x).1 (c, is)
