use Rattle.mt_wire.proofs.EntryBack.{entry_back}
use Rattle.mt_wire.proofs.ReplyBack.{reply_back}
use Rattle.mt_wire.proofs.laws.read_back_law.Goals as goal

pub returns-clause-replies : goal.returns-clause-replies
returns-clause-replies c = reply_back

pub returns-clause-entries : goal.returns-clause-entries
returns-clause-entries c = entry_back
