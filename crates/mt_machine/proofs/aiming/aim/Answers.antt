use Rattle.mt_base.specs.Tables.{setup_with}
use Rattle.mt_change.proofs.Plans.{few_names}
use Rattle.mt_machine.proofs.aiming.aim.Goals as goal

pub cleared-requires : goal.cleared-requires
cleared-requires c = record { short = few_names (setup_with c.args.rules.now c.args.tables.now) c.args.course.now c.requires.sound }
