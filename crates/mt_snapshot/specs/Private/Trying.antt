-- No public contract names these: they are of private steps and of proofs.
-- How an advice is found.
use Rattle.std.specs.Prelude.{◌≡◌, ℕ, List, [], ◌∷◌, All, map, Option, Some, None, Result, Ok}
use Rattle.mt_memory.specs.declared.Memory.{Memory}
use Rattle.mt_advise.specs.Trying.{CanBeTried}
use Rattle.mt_base.specs.declared.clearance.Clearance.{Clearance}
use Rattle.mt_base.specs.Advice.{advice_checks, candidates_in}
use Rattle.mt_base.specs.Checks.{judged}
use Rattle.mt_base.specs.Picture.{flight_of}
use Rattle.mt_probe.specs.Hits.{Trial}
use Rattle.mt_probe.specs.Shot.{Shot, state_in_shot}

-- no check refuses advice, and these are the candidates, each of which can be tried
pub record AreAdviceCandidates (shot : Shot) (call : List ℕ) (list : List Clearance) : Type 0 where
  pub passed : judged (advice_checks shot.setup shot.now (flight_of (state_in_shot shot).records call) call) (tt {0}) ≡ Ok (tt {0})
  pub are : list ≡ candidates_in shot.setup (state_in_shot shot) call
  pub can : All (CanBeTried shot.setup (state_in_shot shot) call) list

-- the probes among what was found
abbrev pub free_among : List (Option Trial) → List Trial
free_among [] = []
free_among (None ∷ found) = free_among found
free_among (Some p ∷ found) = p ∷ free_among found

-- each try found a probe or none, and these are the probes, in order
pub record AreFreeOf (tries : List (Result (Option Trial) Memory)) (free : List Trial) : Type 0 where
  pub found : List (Option Trial)
  pub all : tries ≡ map Ok found
  pub are : free ≡ free_among found
