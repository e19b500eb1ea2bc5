use Rattle.mt_probe.proofs.Left.{few_left, few_quiet}
use Rattle.mt_probe.proofs.preparing.prepare.Goals as goal

pub returns-in_err-prep_of-in-Ok-clause-counted : goal.returns-in_err-prep_of-in-Ok-clause-counted
returns-in_err-prep_of-in-Ok-clause-counted c =
    let counted = rw c.in_ok-command-in-Ok.ensures at c.prep_of.ensures.counted in
    few_left c.args.snapshot.now c.args.who c.args.command.now c.in-Ok.card c.args.tests.now c.prep_of.new.tests c.in-Ok.ensures.left counted

pub returns-in_ok-prep_of-in-Ok-clause-counted : goal.returns-in_ok-prep_of-in-Ok-clause-counted
returns-in_ok-prep_of-in-Ok-clause-counted c =
    let counted = rw c.in_ok-command-in-Ok.ensures at c.prep_of.ensures.counted in
    few_left c.args.snapshot.now c.args.who c.args.command.now c.in-Ok.card c.args.tests.now c.prep_of.new.tests c.in-Ok.ensures.left counted

pub returns-in-Err-clause-counted : goal.returns-in-Err-clause-counted
returns-in-Err-clause-counted c = few_quiet c.args.snapshot.now c.args.who c.args.command.now c.args.tests.now
