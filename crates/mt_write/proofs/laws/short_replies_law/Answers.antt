use Rattle.mt_write.proofs.Lengths.{short_text}
use Rattle.mt_write.proofs.laws.short_replies_law.Goals as goal

pub returns : goal.returns
returns c = short_text
