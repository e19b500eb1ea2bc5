use Rattle.std.proofs.Common.{Some, option_copied, sym, ap, ◌∙◌}
use Rattle.mt_base.specs.Bounds.{IsSoundCourse}
use Rattle.mt_base.specs.Tables.{Setup, setup_with}
use Rattle.mt_machine.proofs.Clearances.{sound_path}
use Rattle.mt_change.proofs.Plans.{few_names}
use Rattle.mt_machine.proofs.decision.planned_strand.Goals as goal

pub returns-in_default : goal.returns-in_default
returns-in_default c = rw (sym c.flight.ensures ∙ ap option_copied c.in_default.is) tt

pub returns-in_default-path : goal.returns-in_default-path
returns-in_default-path c = rw (sym c.flight.ensures ∙ ap option_copied c.in-Some.is, c.in_default-path.is) tt

pub predict-requires-clause-marked : goal.predict-requires-clause-marked
predict-requires-clause-marked c = λ is. cc

pub predict-requires-clause-sound : goal.predict-requires-clause-sound
predict-requires-clause-sound c =
    let setup : Setup = setup_with c.args.rules.now c.args.tables.now in
    rw c.in-Planned.is at (sound_path setup c.args.plain.now c.args.call c.in-Some.flight.now c.requires.sound (sym c.flight.ensures ∙ ap option_copied c.in-Some.is))

pub returns : goal.returns
returns c =
    let setup : Setup = setup_with c.args.rules.now c.args.tables.now in
    let is = sym c.flight.ensures ∙ ap option_copied c.in-Some.is in
    let sound : IsSoundCourse setup c.in-Planned.course = rw c.in-Planned.is at (sound_path setup c.args.plain.now c.args.call c.in-Some.flight.now c.requires.sound is) in
    rw (is, c.in-Planned.is) (ap Some c.in_ok-predict.ensures.rows, few_names setup c.in-Planned.course sound)
