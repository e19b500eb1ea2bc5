use Rattle.std.proofs.Common.{option_copied, sym, ap, ◌∙◌}
use Rattle.std.specs.Prelude.{unwrap_or}
use Rattle.mt_base.specs.Picture.{flight_of}
use Rattle.mt_base.specs.Tables.{Setup, setup_with}
use Rattle.mt_machine.proofs.Clearances.{no_flight, not_cleared, outer_flight, sound_path, tried}
use Rattle.mt_machine.proofs.what_if.hits.Goals as goal

pub returns-in_default-clause-exact : goal.returns-in_default-clause-exact
returns-in_default-clause-exact g c =
    no_flight (setup_with c.args.rules.now c.args.tables.now) _ (flight_of c.args.plain.now.records c.args.call) c.args.call _ _
    (sym c.flight.ensures ∙ ap option_copied c.in_default.is)

pub returns-in_default-path-clause-exact : goal.returns-in_default-path-clause-exact
returns-in_default-path-clause-exact g c =
    outer_flight (setup_with c.args.rules.now c.args.tables.now) _ (flight_of c.args.plain.now.records c.args.call) c.in-Some.flight.now
    c.in_default-path.field-0 c.args.call _ _ (sym c.flight.ensures ∙ ap option_copied c.in-Some.is) c.in_default-path.is

pub aim-requires-clause-sound : goal.aim-requires-clause-sound
aim-requires-clause-sound g c =
    let setup : Setup = setup_with c.args.rules.now c.args.tables.now in
    rw c.in-Planned.is at (sound_path setup c.args.plain.now c.args.call c.in-Some.flight.now c.requires.sound (sym c.flight.ensures ∙ ap option_copied c.in-Some.is))

pub aimed-requires-clause-sound : goal.aimed-requires-clause-sound
aimed-requires-clause-sound g c =
    let setup : Setup = setup_with c.args.rules.now c.args.tables.now in
    rw c.in-Planned.is at (sound_path setup c.args.plain.now c.args.call c.in-Some.flight.now c.requires.sound (sym c.flight.ensures ∙ ap option_copied c.in-Some.is))

pub returns-in_ok-hits_of-in-Ok-clause-exact : goal.returns-in_ok-hits_of-in-Ok-clause-exact
returns-in_ok-hits_of-in-Ok-clause-exact g c =
    let setup : Setup = setup_with c.args.rules.now c.args.tables.now in
    let exact = rw (c.in-Ok.is, c.unwrap_or-second.ensures, c.now-now.ensures) at c.in_ok-aim.ensures.exact in
    tried setup c.args.plain.now c.args.call c.in-Some.flight.now c.in-Planned.course c.args.clearance
    (unwrap_or c.args.eff c.args.plain.now.now) c.in-Ok.aim c.in_ok-strand-in-Ok.strand c.in_ok-hits_of-in-Ok.field-0
    (sym c.flight.ensures ∙ ap option_copied c.in-Some.is) c.in-Planned.is exact c.in_ok-strand-in-Ok.ensures c.in_ok-hits_of-in-Ok.ensures.exact

pub returns-in-Err-clause-exact : goal.returns-in-Err-clause-exact
returns-in-Err-clause-exact g c =
    let setup : Setup = setup_with c.args.rules.now c.args.tables.now in
    let exact = rw (c.in-Err.is, c.unwrap_or-second.ensures, c.now-now.ensures) at c.in_ok-aim.ensures.exact in
    not_cleared setup c.args.plain.now.now (flight_of c.args.plain.now.records c.args.call) c.in-Some.flight.now c.in-Planned.course c.args.call
    c.args.clearance (unwrap_or c.args.eff c.args.plain.now.now) c.in-Err.refusal
    (sym c.flight.ensures ∙ ap option_copied c.in-Some.is) c.in-Planned.is exact
