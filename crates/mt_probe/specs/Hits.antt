-- A probe, and its hits among what was found.
use Rattle.std.specs.Prelude.{◌≡◌, ◌≤◌, ℕ, List, [], Option, Some, None, Ok, Err, ⊤, unwrap_or}
use Rattle.mt_base.specs.declared.clearance.Clearance.{Clearance}
use Rattle.mt_base.specs.declared.hit.Hit.{Hit}
use Rattle.mt_base.specs.Bounds.{AreWithinBounds, IsBoundedClearance}
use Rattle.mt_base.specs.WhatIf.{IsConflicting, IsWhatIf}
use Rattle.mt_board.specs.declared.no.No.{No}
use Rattle.mt_board.specs.declared.no.No.TheVariants as nos
use Rattle.mt_board.specs.Probing.{ToldProbe}
use Rattle.mt_board.specs.Short.{AreShortHits}
use Rattle.mt_probe.specs.Shot.{Shot, state_in_shot}

-- a clearance that was tried on a snapshot, and its hits
pub record Trial : Type 0 where
  pub shot : Shot
  pub call : List ℕ
  pub clearance : Clearance
  pub eff : ℕ
  pub hits : List Hit

-- a trial's hits are exact, and its numbers bounded. It has few enough hits for a reply.
pub record IsTried (p : Trial) : Type 0 where
  pub clearance : IsBoundedClearance p.clearance
  pub early : p.eff ≤ 10000000
  pub rules : AreWithinBounds p.shot.setup.rules
  pub moment : p.shot.now ≤ 10000000
  pub follows : IsWhatIf p.shot.setup (state_in_shot p.shot) p.call p.clearance (Some p.eff) (Ok p.hits)
  pub short : AreShortHits p.hits

-- a trial as a board's probe
abbrev pub told_of : Trial → ToldProbe
told_of p = record { call = p.call; clearance = p.clearance; eff = p.eff; version = p.shot.version; hits = p.hits }

-- `IsProbe`, `IsUnprobed`: a what-if on a snapshot: its probe, or its refusal. At the snapshot's version.
pub record IsProbe (shot : Shot) (call : List ℕ) (clearance : Clearance) (eff : Option ℕ) (p : Trial) : Type 0 where
  pub call_is : p.call ≡ call
  pub clearance_is : p.clearance ≡ clearance
  pub eff_is : p.eff ≡ unwrap_or eff shot.now
  pub shot_is : p.shot ≡ shot
  pub hits_are : IsWhatIf shot.setup (state_in_shot shot) call clearance eff (Ok p.hits)

abbrev pub IsUnprobed : Shot → List ℕ → Clearance → Option ℕ → No → Type 0
IsUnprobed shot call clearance eff (nos.Refused refusal version) =
    IsWhatIf shot.setup (state_in_shot shot) call clearance eff (Err refusal) × (version ≡ shot.version)
IsUnprobed shot call clearance eff nos.Memory = ⊤

-- the probe of a clearance without hits
pub record IsFreeProbe (shot : Shot) (call : List ℕ) (clearance : Clearance) (eff : Option ℕ) (p : Trial) : Type 0 where
  pub probe : IsProbe shot call clearance eff p
  pub free : p.hits ≡ []

-- a free clearance's probe, or none where it has hits
abbrev pub IsFreeOrConflicting : Shot → List ℕ → Clearance → Option ℕ → Option Trial → Type 0
IsFreeOrConflicting shot call clearance eff (Some p) = IsFreeProbe shot call clearance eff p
IsFreeOrConflicting shot call clearance eff None = IsConflicting shot.setup (state_in_shot shot) call clearance eff
