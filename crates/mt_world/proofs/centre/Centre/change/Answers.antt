use Rattle.mt_world.proofs.Entering.{changed_is}
use Rattle.mt_world.proofs.centre.Centre.change.Goals as goal

pub returns-clause-answered : goal.returns-clause-answered
returns-clause-answered c =
    rw c.reply_to_change.ensures.reply (changed_is c.args.self.now c.enter.new.self c.args.who c.args.command.now c.enter.result
    c.enter.ensures.kept c.enter.ensures.entered c.enter.ensures.refused c.enter.ensures.unchanged)

pub returns-clause-tested : goal.returns-clause-tested
returns-clause-tested c = c.enter.ensures.tested
