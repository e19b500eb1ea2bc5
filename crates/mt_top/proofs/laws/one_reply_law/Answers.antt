use Rattle.mt_top.proofs.OneReply.{one_reply}
use Rattle.mt_top.specs.Script.{asked}
use Rattle.mt_top.proofs.laws.one_reply_law.Goals as goal

pub returns : goal.returns
returns c = λ w line r s next other is also. one_reply w (asked w line) r s next other is also
