use Rattle.std.proofs.Common.{option_copied, sym, ap, ◌∙◌}
use Rattle.mt_advise.specs.Trying.{FliesOn}
use Rattle.mt_base.specs.Bounds.{IsSoundCourse}
use Rattle.mt_base.specs.Picture.{flight_of}
use Rattle.mt_base.specs.Tables.{Setup, setup_with}
use Rattle.mt_advise.proofs.Passing.{candidates_is, none_there, one_advised, one_ended, one_outer}
use Rattle.mt_machine.proofs.Clearances.{sound_path}
use Rattle.mt_machine.proofs.advising.asked.Goals as goal

pub returns-in_default : goal.returns-in_default
returns-in_default c =
    let setup : Setup = setup_with c.args.rules.now c.args.tables.now in
    none_there setup c.args.plain.now.now (flight_of c.args.plain.now.records c.args.call) c.args.call
    (sym c.flight.ensures ∙ ap option_copied c.in_default.is)

pub returns-in_default-path : goal.returns-in_default-path
returns-in_default-path c =
    let setup : Setup = setup_with c.args.rules.now c.args.tables.now in
    one_outer setup c.args.plain.now.now (flight_of c.args.plain.now.records c.args.call) c.in-Some.flight.now c.in_default-path.field-0 c.args.call
    (sym c.flight.ensures ∙ ap option_copied c.in-Some.is) c.in_default-path.is

pub predict-requires-clause-sound : goal.predict-requires-clause-sound
predict-requires-clause-sound c =
    let setup : Setup = setup_with c.args.rules.now c.args.tables.now in
    rw c.in-Planned.is at (sound_path setup c.args.plain.now c.args.call c.in-Some.flight.now c.requires.sound (sym c.flight.ensures ∙ ap option_copied c.in-Some.is))

pub returns-in_default-base_from : goal.returns-in_default-base_from
returns-in_default-base_from c =
    let setup : Setup = setup_with c.args.rules.now c.args.tables.now in
    let none = rw (c.in_ok-strand.ensures.rows, c.now.ensures) at c.in_default-base_from.ensures.exact in
    one_ended setup c.args.plain.now.now (flight_of c.args.plain.now.records c.args.call) c.in-Some.flight.now c.in-Planned.course c.args.call
    (sym c.flight.ensures ∙ ap option_copied c.in-Some.is) c.in-Planned.is (sym none)

pub candidates-requires : goal.candidates-requires
candidates-requires c =
    let setup : Setup = setup_with c.args.rules.now c.args.tables.now in
    let sound : IsSoundCourse setup c.in-Planned.course =
    rw c.in-Planned.is at (sound_path setup c.args.plain.now c.args.call c.in-Some.flight.now c.requires.sound (sym c.flight.ensures ∙ ap option_copied c.in-Some.is)) in
    sound.level

pub returns : goal.returns
returns c =
    let setup : Setup = setup_with c.args.rules.now c.args.tables.now in
    let s = c.args.plain.now in
    let flight = c.in-Some.flight.now in
    let course = c.in-Planned.course in
    let base = c.in-Some-base_from.base in
    let there = sym c.flight.ensures ∙ ap option_copied c.in-Some.is in
    let from = sym (rw (c.in_ok-strand.ensures.rows, c.now.ensures) at c.in-Some-base_from.ensures.exact) in
    let sound : IsSoundCourse setup course = rw c.in-Planned.is at (sound_path setup s c.args.call flight c.requires.sound there) in
    let flies : FliesOn setup s c.args.call course base = record {
      tables = c.keeps.ensures;
      sound = sound;
      flight = flight;
      there = there;
      planned = c.in-Planned.is;
      from = from;
    } in
    rw c.of.ensures (
      one_advised setup s.now (flight_of s.records c.args.call) flight course base c.args.call there c.in-Planned.is from,
      c.in_ok-candidates.ensures.exact ∙ sym (candidates_is setup s flight course base c.args.call there c.in-Planned.is from),
      c.in_ok-candidates.ensures.tried c.args.rules.now s c.args.call flies,
    )
