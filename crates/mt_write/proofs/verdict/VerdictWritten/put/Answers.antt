use Rattle.mt_write.proofs.Putting.{puts_is}
use Rattle.mt_write.proofs.ValueTexts.{verdict_text}
use Rattle.mt_write.proofs.verdict.VerdictWritten.put.Goals as goal

pub returns : goal.returns
returns c = puts_is c.put_flags.result c.args.out.now c.put_flags.new.out _ _ (verdict_text c.args.self.now) c.put_flags.ensures
