-- No public contract names these: they are of private steps and of proofs.
-- What a command brings into a slot, and its preparation.
use Rattle.std.specs.Prelude.{◌≡◌, ◌<◌, ◌^◌, ℕ, Bool, true, All, Option, Some, IfSome, IsSomeAnd, length, map}
use Rattle.std.specs.Arc.{arc_value}
use Rattle.mt_base.specs.Bounds.{IsBoundedCommand}
use Rattle.mt_base.specs.declared.conflict.Kind.{Kind}
use Rattle.mt_base.specs.declared.flight.Record.{Record}
use Rattle.mt_base.specs.Picture.{NamedTrajectory}
use Rattle.mt_kept.specs.Finds.{AreFindsOfPlaces}
use Rattle.mt_kept.specs.Places.{change_place, with_changes}
use Rattle.mt_probe.specs.declared.flight.Flight.{Flight}
use Rattle.mt_probe.specs.Prepared.{IsLeftByEntry, Prepared}
use Rattle.mt_probe.specs.Meeting.{slices_by}
use Rattle.mt_probe.specs.Putting.{IsKindKept, made_beside}
use Rattle.mt_probe.specs.Shot.{Shot, flight_at}
use Rattle.mt_probe.specs.Shot.{state_in_shot as state_in}
use Rattle.mt_picture.specs.declared.change.SlotChange.{SlotChange}
use Rattle.mt_picture.specs.declared.entering.Entering.{Entering}
use Rattle.mt_picture.specs.Private.Places.{all_places, other_kind, place_kind, places_put}
use Rattle.mt_picture.specs.Private.Stamps.{HaveStood}
use Rattle.mt_picture.specs.Private.Known.{IsPreps}

-- a flight with a new trajectory comes into a slot. The slot is empty or its own. The trajectory is that of its preparation where that is known to be
-- of use; of the other kind it has what it had, or nothing. Each trajectory that was made by the preparation's version is one of the preparation's
-- state.
pub record BringsNew (shot : Shot) (slot : ℕ) (f : Flight) (kind : Kind) (p : Prepared) (known : Bool) : Type 0 where
  pub inside : slot < length shot.slots
  pub was : (g : Flight) → flight_at shot slot ≡ Some g → g.card.call ≡ f.card.call
  pub setup_is : p.setup ≡ shot.setup
  pub call_is : f.card.call ≡ p.card.call
  pub new : IsSomeAnd (place_kind kind (Some f)) (λ m. IsPreps p known m.path)
  pub other : (m : NamedTrajectory) → place_kind (other_kind kind) (Some f) ≡ Some m → place_kind (other_kind kind) (flight_at shot slot) ≡ Some m
  pub stood : HaveStood shot p

-- the change of the kept conflicts where a flight is put into a slot, or none. What comes into places, the pairs of these, the kind of trajectory that
-- stays, and the slices of the one that was made.
pub record IsChangeFor (shot : Shot) (slot : ℕ) (x : Option Flight) (change : SlotChange) : Type 0 where
  pub inside : All (λ c. c.place < length (all_places shot.slots)) change.changes.items
  pub places_are : with_changes (all_places shot.slots) change.changes.items ≡ places_put shot slot x
  pub finds_are : AreFindsOfPlaces shot.setup.rules (places_put shot slot x) shot.now (map change_place change.changes.items) change.finds.items
  pub stays_is : IfSome change.stays (IsKindKept shot slot x)
  pub slices_are : IfSome change.slices (λ s. Some (arc_value s) ≡ slices_by shot.setup.rules (made_beside change.stays) x)

-- a command leaves a flight with this record, and the preparation is of it. The record is the preparation's, where that is known to be of use.
pub record IsPreparedNow (shot : Shot) (e : Entering) (card : Record) : Type 0 where
  pub left : IsLeftByEntry shot.setup (state_in shot) e.who e.command.now card
  pub setup_is : e.prep.now.setup ≡ shot.setup
  pub call_is : e.prep.now.card.call ≡ card.call
  pub command_is : e.prep.now.command ≡ e.command.now
  pub card_is : e.known ≡ true → card ≡ e.prep.now.card
  pub stood : HaveStood shot e.prep.now

-- it can be entered: the history has room for it, its values are within their bounds, and it is prepared
pub record IsEnterable (shot : Shot) (e : Entering) (card : Record) : Type 0 where
  pub counted : shot.version < 2 ^ 40
  pub bounded : IsBoundedCommand e.command.now
  pub prepared : IsPreparedNow shot e card
