use Rattle.std.proofs.Common.{ap, inl, inr, refl}
use Rattle.mt_base.specs.Tables.{Setup}
use Rattle.mt_track.specs.Named.{named}
use Rattle.mt_picture.proofs.Knowing.{candidates_right}
use Rattle.mt_picture.proofs.change.new_finds.Goals as goal

pub candidates-requires-clause-preps : goal.candidates-requires-clause-preps
candidates-requires-clause-preps c = rw c.deref.ensures c.requires.known

pub candidates-requires-clause-stamped : goal.candidates-requires-clause-stamped
candidates-requires-clause-stamped c = rw (c.snapshot-snapshot.ensures.value, c.history.ensures) c.keeps.ensures.picture.stamped

pub gather-requires : goal.gather-requires
gather-requires c =
    let near = rw (c.deref.ensures, c.snapshot-snapshot.ensures.value) at c.in_ok-candidates.ensures in
    rw (c.kept.ensures, c.keeps.ensures.picture.rules_are, c.keeps.ensures.picture.places_are, c.deref-2.ensures.value)
    (candidates_right c.args.held.now.snapshot c.args.place (named c.args.item.now) c.args.entering.now.prep.now c.args.entering.now.known
    c.in_ok-candidates.candidates.items (ap (λ (u : Setup). u.rules) c.requires.setup) c.requires.call near)

pub returns-clause-finds : goal.returns-clause-finds
returns-clause-finds c =
    rw (c.kept.ensures, c.keeps.ensures.picture.rules_are, c.keeps.ensures.picture.places_are, c.keeps.ensures.picture.moment_is) at c.gather.ensures.finds

pub returns-in_err-candidates-clause-counted : goal.returns-in_err-candidates-clause-counted
returns-in_err-candidates-clause-counted c = inl refl

pub returns-clause-counted : goal.returns-clause-counted
returns-clause-counted c =
    let near = rw (c.deref.ensures, c.snapshot-snapshot.ensures.value) at c.in_ok-candidates.ensures in
    let rose = rw (c.kept.ensures, c.keeps.ensures.picture.places_are, c.keeps.ensures.picture.moment_is, c.deref-2.ensures.value) at c.gather.ensures.counted in
    inr (record { xs = c.in_ok-candidates.candidates.items; near = near; rose = rose })
