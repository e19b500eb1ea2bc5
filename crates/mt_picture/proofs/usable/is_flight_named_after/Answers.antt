use Rattle.mt_picture.specs.Private.Holding.{held_story}
use Rattle.mt_picture.proofs.Named.{after_last, below, last_found, none_after, none_now, not_below, some_named, there_now}
use Rattle.mt_picture.proofs.usable.is_flight_named_after.Goals as goal

-- there is no such flight
pub returns-in_default-clause-unnamed : goal.returns-in_default-clause-unnamed
returns-in_default-clause-unnamed c = λ told after.
    none_now c.args.held.now.snapshot (held_story c.args.held.now) c.args.call c.keeps.ensures.picture.stands (rw c.in_default.is at c.requires.flight) after.there

pub returns-in_default-named-clause-unnamed : goal.returns-in_default-named-clause-unnamed
returns-in_default-named-clause-unnamed c = λ told after.
    some_named _ (rw c.in-Some.is at c.requires.there) (rw c.snapshot.ensures.value at c.in_default-named.ensures)

-- its slot has the version of the last entry that names it
pub returns-clause-named : goal.returns-clause-named
returns-clause-named c = λ told.
    let shot = c.args.held.now.snapshot in
    let flight = rw c.in-Some.is at c.requires.flight in
    let was = last_found shot c.args.held.now.history c.in-Some.slot c.in-Some-named.last c.args.call c.keeps.ensures.picture.named flight
    (rw c.snapshot.ensures.value at c.in-Some-named.ensures) in
    record {
      there = there_now shot (held_story c.args.held.now) c.in-Some.slot c.args.call c.keeps.ensures.picture.stands (rw c.in-Some.is at c.requires.there) flight;
      named = after_last c.args.held.now.history c.args.call c.in-Some-named.last c.args.version was (below c.args.version c.in-Some-named.last told);
    }

pub returns-clause-unnamed : goal.returns-clause-unnamed
returns-clause-unnamed c = λ told after.
    let shot = c.args.held.now.snapshot in
    let was = last_found shot c.args.held.now.history c.in-Some.slot c.in-Some-named.last c.args.call c.keeps.ensures.picture.named
    (rw c.in-Some.is at c.requires.flight) (rw c.snapshot.ensures.value at c.in-Some-named.ensures) in
    none_after c.args.held.now.history c.args.call c.in-Some-named.last c.args.version was (not_below c.args.version c.in-Some-named.last told) after.named
