-- The answer to a request for advice on a snapshot.
use Rattle.std.specs.Prelude.{◌≡◌, ◌≤◌, ℕ, List, All, length, map, None, Ok, Err, ⊤}
use Rattle.mt_base.specs.declared.clearance.Clearance.{Clearance}
use Rattle.mt_base.specs.Advice.{IsAdvice}
use Rattle.mt_board.specs.declared.no.No.{No}
use Rattle.mt_board.specs.declared.no.No.TheVariants as nos
use Rattle.mt_board.specs.Probing.{free_probe}
use Rattle.mt_probe.specs.Hits.{IsFreeProbe, Trial, told_of}
use Rattle.mt_probe.specs.Shot.{Shot, state_in_shot}

-- a clearance's probe from now on, without hits
abbrev pub IsFreeFor : Shot → List ℕ → Trial → Type 0
IsFreeFor shot call p = IsFreeProbe shot call p.clearance None p

-- these probes, at most sixteen, are the snapshot's free clearances, in order. They are advised on its state, each tried on it from its moment on and
-- without hits.
pub record IsAdvisedOn (shot : Shot) (call : List ℕ) (eff version : ℕ) (probes : List Trial) : Type 0 where
  pub eff_is : eff ≡ shot.now
  pub version_is : version ≡ shot.version
  pub clearances : List Clearance
  pub advice : IsAdvice shot.setup (state_in_shot shot) call (Ok clearances)
  pub told : map told_of probes ≡ map (free_probe call eff version) clearances
  pub each : All (IsFreeFor shot call) probes
  pub few : length probes ≤ 16

-- the refusal of advice on a snapshot, at its version
abbrev pub IsNotAdvisedOn : Shot → List ℕ → No → Type 0
IsNotAdvisedOn shot call (nos.Refused refusal version) = IsAdvice shot.setup (state_in_shot shot) call (Err refusal) × (version ≡ shot.version)
IsNotAdvisedOn shot call nos.Memory = ⊤
