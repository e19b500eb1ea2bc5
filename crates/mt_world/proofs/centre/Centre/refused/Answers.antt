use Rattle.std.proofs.Common.{ap}
use Rattle.mt_write.specs.declared.reply.Reply.TheVariants as replies
use Rattle.mt_world.proofs.centre.Centre.refused.Goals as goal

-- the version is the one now
pub returns-clause-answered : goal.returns-clause-answered
returns-clause-answered c = ap (replies.Refused c.args.refusal) c.version.ensures
