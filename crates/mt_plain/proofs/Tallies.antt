-- The number of tests, one trajectory more at a time.
use Rattle.std.proofs.Common.{◌≡◌, ℕ, ◌+◌, ◌<◌, ◌≤◌, true, List, [], ◌∷◌, ◌++◌, length, map, take, get_or, Result, Ok, Err, OnErr, refl, arith}
use Rattle.std.proofs.lemmas.List.Sums.{sum_by-take-le}
use Rattle.std.proofs.lemmas.List.{take-map}
use Rattle.std.specs.List.{sum_by}
use Rattle.std.specs.Cmp.Lexicographic.{slice_cmp}
use Rattle.std.specs.Ordering.{nat_cmp, is_lt}
use Rattle.std.specs.declared.cmp.Ordering.{Ordering}
use Rattle.std.specs.declared.cmp.Ordering.TheVariants.{Less, Equal, Greater}
use Rattle.mt_base.specs.Tally.{RoseUpTo, raised, raised_by}
use Rattle.mt_base.specs.Picture.{NamedTrajectory}
use Rattle.mt_base.proofs.Tallies.{raised_by-add, sum_by-push}
use Rattle.mt_plain.specs.Private.Tests.{tests_of_pair}
use Rattle.mt_plain.proofs.Found.{map_take_push}

-- the sum so far, over what a list is seen as, and one term more
sum_by-part : {X Y : Type 0} (f : Y → ℕ) (g : X → Y) (xs : List X) (i : ℕ) (x : X) → i < length xs → x ≡ get_or xs i x
    → sum_by f (map g (take i xs)) + f (g x) ≤ sum_by f (map g xs)
sum_by-part {X} {Y} f g xs i x below is =
    rw (take-map g (i + 1) xs, map_take_push g xs i x below is, sum_by-push f (map g (take i xs)) (g x)) at (sum_by-take-le {X = Y} f (map g xs) (i + 1))

-- the sum of the tests so far, and those of one more
pub raised_by-push : {X : Type 0} (f : X → ℕ) (xs : List X) (x : X) (old mid new : ℕ) → mid ≡ raised_by (sum_by f xs) old → new ≡ raised_by (f x) mid
    → new ≡ raised_by (sum_by f (xs ++ x ∷ [])) old
raised_by-push f xs x old mid new first second = rw (second, first, sum_by-push f xs x) (raised_by-add (sum_by f xs) (f x) old)

pub less_from_lt : (o : Ordering) → true ≡ is_lt o → o ≡ Less
less_from_lt Less e = refl
less_from_lt Equal e = cc
less_from_lt Greater e = cc

-- the pair with the lesser callsign first is tested once
pub raised_by-pair : (left right : NamedTrajectory) (old new : ℕ) → slice_cmp nat_cmp left.call right.call ≡ Less → new ≡ raised old
    → new ≡ raised_by (tests_of_pair left right) old
raised_by-pair left right old new before is = rw before is

-- an error at one of the terms of a sum, the tests of which were made in part
pub RoseUpTo-part : {X Y : Type 0} (f : Y → ℕ) (g : X → Y) (xs : List X) (i : ℕ) (x : X) (old mid new : ℕ) → i < length xs → x ≡ get_or xs i x
    → mid ≡ raised_by (sum_by f (map g (take i xs))) old → RoseUpTo (f (g x)) mid new → RoseUpTo (sum_by f (map g xs)) old new
RoseUpTo-part f g xs i x old mid new below is first last = record {
  more = sum_by f (map g (take i xs)) + last.more;
  within = let part = sum_by-part f g xs i x below is in omega (arith, last.within);
  is = rw (last.is, first) (raised_by-add (sum_by f (map g (take i xs))) last.more old);
}

-- what holds in any case holds on an error
pub on_err : {T E P : Type 0} (r : Result T E) → P → OnErr r P
on_err (Ok x) p = tt
on_err (Err e) p = p
