use Rattle.std.proofs.Common.{ℕ, ◌/◌, Some, ap, ap₂, sym, ◌∙◌}
use Rattle.std.proofs.lemmas.Option.{none-some}
use Rattle.mt_probe.specs.Items.{kind_at}
use Rattle.mt_probe.specs.Shot.{flight_at, records_in}
use Rattle.mt_probe.proofs.Placed.{filled_inside}
use Rattle.mt_picture.specs.declared.places.FoundPlace.{FoundPlace}
use Rattle.mt_picture.proofs.Entered.{there}
use Rattle.mt_picture.proofs.Exits.{few_slots}
use Rattle.mt_picture.proofs.Slotted.{place_half, place_kind_is}
use Rattle.mt_picture.proofs.Standings.{call_found, flight_listed, one_standing, stamp_listed, stands_found}
use Rattle.mt_picture.proofs.places.find_trajectory.Goals as goal

pub place_of-place-requires : goal.place_of-place-requires
place_of-place-requires c =
    let shot = c.args.snapshot.now in
    let slot = c.in_ok-slot.slot in
    let called = call_found (records_in shot.slots) c.args.call (flight_at shot slot) c.in_ok-slot.ensures.there c.in_ok-slot.ensures.flight in
    let it = there (flight_at shot slot) c.args.call called in
    let inside = filled_inside shot.slots slot it.flight it.at_is in
    few_slots slot _ _ inside c.keeps.ensures.sound.places c.keeps.ensures.sound.rules.flights

pub returns-clause-there : goal.returns-clause-there
returns-clause-there c =
    let shot = c.args.snapshot.now in
    let slot = c.in_ok-slot.slot in
    let called = call_found (records_in shot.slots) c.args.call (flight_at shot slot) c.in_ok-slot.ensures.there c.in_ok-slot.ensures.flight in
    stands_found shot slot c.place_of-place.result c.args.call c.args.kind c.in_ok-stamp.stamp (ap (λ (p : ℕ). p / 2) c.place_of-place.ensures ∙ place_half slot c.args.kind)
    (ap kind_at c.place_of-place.ensures ∙ place_kind_is slot c.args.kind) called c.in_ok-stamp.ensures

pub returns-clause-only : goal.returns-clause-only
returns-clause-only c = λ place stamp stands.
    let shot = c.args.snapshot.now in
    let slot = c.in_ok-slot.slot in
    let called = call_found (records_in shot.slots) c.args.call (flight_at shot slot) c.in_ok-slot.ensures.there c.in_ok-slot.ensures.flight in
    let mine = stands_found shot slot c.place_of-place.result c.args.call c.args.kind c.in_ok-stamp.stamp (ap (λ (p : ℕ). p / 2) c.place_of-place.ensures ∙ place_half slot c.args.kind)
    (ap kind_at c.place_of-place.ensures ∙ place_kind_is slot c.args.kind) called c.in_ok-stamp.ensures in
    let one = one_standing shot c.keeps.ensures.sound c.args.call c.args.kind c.place_of-place.result place c.in_ok-stamp.stamp stamp mine stands in
    let made : ℕ → ℕ → FoundPlace = λ p q. record { place = p; stamp = q } in
    ap₂ (λ (p q : ℕ). Some (made p q)) one.0 one.1

pub returns-in_err-slot-clause-only : goal.returns-in_err-slot-clause-only
returns-in_err-slot-clause-only c = λ place stamp stands.
    absurd (none-some stands.flight.card (sym c.in_err-slot.ensures.flight
    ∙ flight_listed c.args.snapshot.now c.keeps.ensures.sound c.args.call c.args.kind place stamp stands))

pub returns-in_err-stamp-clause-only : goal.returns-in_err-stamp-clause-only
returns-in_err-stamp-clause-only c = λ place stamp stands.
    let shot = c.args.snapshot.now in
    let slot = c.in_ok-slot.slot in
    let called = call_found (records_in shot.slots) c.args.call (flight_at shot slot) c.in_ok-slot.ensures.there c.in_ok-slot.ensures.flight in
    absurd (none-some stamp (c.in_err-stamp.ensures ∙ stamp_listed shot c.keeps.ensures.sound c.args.call c.args.kind slot place stamp called stands))
