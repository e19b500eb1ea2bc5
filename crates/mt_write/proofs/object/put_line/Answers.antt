use Rattle.std.proofs.Common.{[], ◌∷◌}
use Rattle.mt_write.proofs.Putting.{puts_is}
use Rattle.mt_write.proofs.ValueTexts.{ended_on}
use Rattle.mt_write.proofs.object.put_line.Goals as goal

pub returns : goal.returns
returns c = puts_is c.put_members.result c.args.out.now c.put_members.new.out _ _ (ended_on (125 ∷ []) (10 ∷ []) c.args.members.now) c.put_members.ensures
