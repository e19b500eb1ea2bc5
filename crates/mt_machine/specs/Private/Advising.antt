-- No public contract names these: they are of private steps and of proofs.
use Rattle.std.specs.Prelude.{◌≡◌, ℕ, List, All, map, Result, Ok, Err}
use Rattle.mt_advise.specs.Trying.{CanBeTried}
use Rattle.mt_base.specs.declared.clearance.Clearance.{Clearance}
use Rattle.mt_base.specs.declared.command.Refusal.{Refusal}
use Rattle.mt_base.specs.Advice.{Tried, WasFound, advice_checks, candidates_in, free_of}
use Rattle.mt_base.specs.Checks.{judged}
use Rattle.mt_base.specs.Picture.{State, flight_of}
use Rattle.mt_base.specs.Tables.{Setup}

-- the candidates for a flight, each of which can be tried; or why it isn't advised
abbrev pub AreCandidatesOrRefused : Setup → State → List ℕ → Result (List Clearance) Refusal → Type 0
AreCandidatesOrRefused setup s call (Err refusal) = judged (advice_checks setup s.now (flight_of s.records call) call) (tt {0}) ≡ Err refusal
AreCandidatesOrRefused setup s call (Ok tried) =
    (judged (advice_checks setup s.now (flight_of s.records call) call) (tt {0}) ≡ Ok (tt {0}))
    × (tried ≡ candidates_in setup s call)
    × All (CanBeTried setup s call) tried

-- each of some clearances was tried, and these are the free ones, in order
pub record AreFreeAmong (setup : Setup) (s : State) (call : List ℕ) (clearances free : List Clearance) : Type 0 where
  pub tried : List Tried
  pub all : map (λ t. t.clearance) tried ≡ clearances
  pub each : All (λ t. WasFound setup s call t.clearance t.free) tried
  pub free_is : free ≡ free_of tried
