-- How many tests there were at least.
use Rattle.std.proofs.Common.{◌≡◌, ℕ, ◌+◌, ◌≤◌, List, [], ◌∷◌, ◌++◌, length, length-append, arith}
use Rattle.mt_base.specs.Tally.{raised}
use Rattle.mt_probe.specs.Tests.{WereAtLeast}

pub none_least : (old : ℕ) → WereAtLeast 0 old old
none_least old = omega arith

pub one_least : (old new : ℕ) → new ≡ raised old → WereAtLeast 1 old new
one_least old new is = omega (arith, is)

pub fewer_least : (few least old new : ℕ) → few ≤ least → WereAtLeast least old new → WereAtLeast few old new
fewer_least few least old new fewer were = omega (arith, fewer, were)

pub both_least : (least more old between new : ℕ) → WereAtLeast least old between → WereAtLeast more between new → WereAtLeast (least + more) old new
both_least least more old between new one other = omega (arith, one, other)

pub same_least : (least old between new : ℕ) → WereAtLeast least old between → WereAtLeast 0 between new → WereAtLeast least old new
same_least least old between new one other = omega (arith, one, other)

-- one more, with one in a list more
pub more_least : {X : Type 0} (old between new : ℕ) (xs : List X) (x : X) → WereAtLeast (length xs) old between → WereAtLeast 1 between new
    → WereAtLeast (length (xs ++ x ∷ [])) old new
more_least old between new xs x one other =
    let n = length-append xs (x ∷ []) in
    let both = both_least (length xs) 1 old between new one other in
    omega (arith, n, both)
