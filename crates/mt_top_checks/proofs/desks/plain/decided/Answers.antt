use Rattle.mt_base.specs.Tables.{setup_with}
use Rattle.mt_picture.proofs.Filled.{decided_is, entry_bounded}
use Rattle.mt_top_checks.proofs.desks.plain.decided.Goals as goal

pub apply-requires-clause-bounded : goal.apply-requires-clause-bounded
apply-requires-clause-bounded g c =
    entry_bounded (setup_with c.args.rules.now c.args.tables.now) c.args.plain.now c.args.who c.args.command.now c.in-Ok.entry (rw c.in-Ok.ensures at c.decide.ensures) c.requires.sound.early
    c.requires.bounded

pub apply-requires-clause-decided : goal.apply-requires-clause-decided
apply-requires-clause-decided g c =
    decided_is (setup_with c.args.rules.now c.args.tables.now) c.args.plain.now c.args.who c.args.command.now c.in-Ok.entry (rw c.in-Ok.ensures at c.decide.ensures)
