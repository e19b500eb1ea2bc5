-- Requests that are answered one after the other.
use Rattle.std.proofs.Common.{◌≡◌, ℕ, ◌+◌, ◌%◌, List, refl, add-one, nat_eq}
use Rattle.std.specs.Prelude.{MatchBool}
use Rattle.mt_load.specs.Input.{callsign}
use Rattle.mt_world.specs.World.{World}
use Rattle.mt_load.specs.Load.{EachDivided}

-- no flight
pub each_none : (Does : World → List ℕ → World → Type 0) (divisor : ℕ) (w : World) → EachDivided Does divisor 0 w w
unfolding EachDivided
each_none Does divisor w = refl

-- one flight more
pub each_more : (Does : World → List ℕ → World → Type 0) (divisor n : ℕ) (w middle end : World) → EachDivided Does divisor n w middle
    → MatchBool (nat_eq (n % divisor) 0) (Does middle (callsign n) end) (end ≡ middle) → EachDivided Does divisor (n + 1) w end
unfolding EachDivided
each_more Does divisor n w middle end done last = rw add-one (middle, done, last)
