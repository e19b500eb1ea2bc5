use Rattle.std.proofs.Common.{◌≡◌, ◌∙◌, None, Some, refl, sym}
use Rattle.mt_base.specs.Advice.{base_now, candidates}
use Rattle.mt_base.specs.Picture.{flight_of}
use Rattle.mt_advise.specs.Trying.{FliesOn}
use Rattle.mt_advise.proofs.Passing.{candidates_is, none_there, one_advised, one_ended, one_outer}
use Rattle.mt_probe.specs.declared.flight.Made.{Made}
use Rattle.mt_probe.specs.Shot.{state_in_shot}
use Rattle.mt_snapshot.proofs.Planned.{planned_there}
use Rattle.mt_snapshot.proofs.asking.asked.Goals as goal

pub returns-in_default-clause-refused : goal.returns-in_default-clause-refused
returns-in_default-clause-refused c =
    let shot = c.args.snapshot.now in
    let s = state_in_shot shot in
    rw c.refused.ensures (none_there shot.setup s.now (flight_of s.records c.args.call) c.args.call c.in_default.ensures.flight, refl)

pub returns-in_default-path-clause-refused : goal.returns-in_default-path-clause-refused
returns-in_default-path-clause-refused c =
    let shot = c.args.snapshot.now in
    let s = state_in_shot shot in
    let flight = c.in-Some-flight.flight.now in
    let there : flight_of s.records c.args.call ≡ Some flight = c.in-Some.ensures.flight ∙ sym c.in-Some-flight.ensures in
    rw c.refused-in_default-path.ensures (
      one_outer shot.setup s.now (flight_of s.records c.args.call) flight c.in_default-path.field-0 c.args.call there c.in_default-path.is,
      refl,
    )

pub returns-in_default-base_from-clause-refused : goal.returns-in_default-base_from-clause-refused
returns-in_default-base_from-clause-refused c =
    let shot = c.args.snapshot.now in
    let s = state_in_shot shot in
    let flight = c.in-Some-flight.flight.now in
    let course = c.in-Planned.course in
    let made : Made = record { strand = c.in-Some-strand.strand.now; stamp = 0 } in
    let planned = planned_there shot c.in-Some.slot flight course c.deref.result.now made c.keeps.ensures.sound c.in-Some-flight.ensures
    c.in-Some-strand.ensures c.deref.ensures c.in-Planned.is in
    let there : flight_of s.records c.args.call ≡ Some flight = c.in-Some.ensures.flight ∙ sym c.in-Some-flight.ensures in
    let ended : base_now shot.setup s.now course ≡ None = sym (rw (planned.strand_is, c.now.ensures.now) at c.in_default-base_from.ensures.exact) in
    rw c.refused-in_default-base_from.ensures (
      one_ended shot.setup s.now (flight_of s.records c.args.call) flight course c.args.call there c.in-Planned.is ended,
      refl,
    )

pub candidates-requires : goal.candidates-requires
candidates-requires c =
    let made : Made = record { strand = c.in-Some-strand.strand.now; stamp = 0 } in
    let planned = planned_there c.args.snapshot.now c.in-Some.slot c.in-Some-flight.flight.now c.in-Planned.course c.deref.result.now made
    c.keeps.ensures.sound c.in-Some-flight.ensures c.in-Some-strand.ensures c.deref.ensures c.in-Planned.is in
    planned.sound.level

pub returns-clause-asked : goal.returns-clause-asked
returns-clause-asked c =
    let shot = c.args.snapshot.now in
    let s = state_in_shot shot in
    let flight = c.in-Some-flight.flight.now in
    let course = c.in-Planned.course in
    let base = c.in-Some-base_from.base in
    let made : Made = record { strand = c.in-Some-strand.strand.now; stamp = 0 } in
    let planned = planned_there shot c.in-Some.slot flight course c.deref.result.now made c.keeps.ensures.sound c.in-Some-flight.ensures
    c.in-Some-strand.ensures c.deref.ensures c.in-Planned.is in
    let there : flight_of s.records c.args.call ≡ Some flight = c.in-Some.ensures.flight ∙ sym c.in-Some-flight.ensures in
    let from : base_now shot.setup s.now course ≡ Some base = sym (rw (planned.strand_is, c.now.ensures.now) at c.in-Some-base_from.ensures.exact) in
    let flies : FliesOn shot.setup s c.args.call course base = record {
      tables = rw c.tables-tables.ensures at c.keeps-2.ensures;
      sound = planned.sound;
      flight = flight;
      there = there;
      planned = c.in-Planned.is;
      from = from;
    } in
    let exact = rw c.tables-tables.ensures at c.in_ok-candidates.ensures.exact in
    let can = rw c.tables-tables.ensures at c.in_ok-candidates.ensures.tried in
    record {
      passed = one_advised shot.setup s.now (flight_of s.records c.args.call) flight course base c.args.call there c.in-Planned.is from;
      are = ◌∙◌ {b = candidates shot.setup.tables course base} exact
          (sym (candidates_is shot.setup s flight course base c.args.call there c.in-Planned.is from));
      can = can shot.setup.rules s c.args.call flies;
    }
