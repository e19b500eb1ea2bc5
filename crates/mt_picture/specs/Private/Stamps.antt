-- No public contract names these: they are of private steps and of proofs.
use Rattle.std.specs.Prelude.{◌≡◌, ℕ, ◌≤◌, All, List, Contains, Some}
use Rattle.mt_base.specs.declared.command.Entry.{Entry}
use Rattle.mt_base.specs.declared.conflict.Kind.{Kind}
use Rattle.mt_base.specs.Complete.{IsComplete}
use Rattle.mt_base.specs.Effect.{state_of}
use Rattle.mt_base.specs.Picture.{trajectories}
use Rattle.mt_kept.specs.Kept.{Watched}
use Rattle.mt_probe.specs.declared.flight.Flight.{Flight}
use Rattle.mt_probe.specs.declared.flight.Made.{Made}
use Rattle.mt_probe.specs.Prepared.{Prepared}
use Rattle.mt_probe.specs.Shot.{Shot, flight_at, made_of}
use Rattle.mt_probe.specs.Shot.{state_in_shot as state_in}
use Rattle.mt_picture.specs.Private.Places.{all_places, made_of_kind}
use Rattle.mt_picture.specs.Stamps.{AreNamedLast, AreStamped, HaveFilings}

-- what every picture keeps. The snapshot stands for the state of the history, whose entries are complete; each trajectory has stood since its stamp,
-- each flight is there since it was filed and has the version that names it last, and what is kept is kept of the snapshot's places.
pub record IsPicture (shot : Shot) (h : List Entry) (kept : Watched) : Type 0 where
  pub stands : state_in shot ≡ state_of shot.setup h
  pub stamped : AreStamped shot.setup h shot.slots
  pub complete : All IsComplete h
  pub filed : HaveFilings shot.setup h shot.slots
  pub named : AreNamedLast h shot.slots
  pub rules_are : kept.rules ≡ shot.setup.rules
  pub moment_is : kept.moment ≡ shot.now
  pub places_are : kept.places ≡ all_places shot.slots

-- each trajectory that was made by the preparation's version is one of its state
abbrev pub HaveStood : Shot → Prepared → Type 0
HaveStood shot p = (i : ℕ) (f : Flight) (kind : Kind) (made : Made) → flight_at shot i ≡ Some f → made_of f kind ≡ Some made
    → made.stamp ≤ p.state.version → Contains (trajectories p.setup p.state) (made_of_kind f kind made)
