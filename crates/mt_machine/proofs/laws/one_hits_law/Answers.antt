use Rattle.mt_base.proofs.OneHits.{one_hits}
use Rattle.mt_machine.proofs.laws.one_hits_law.Goals as goal

pub returns : goal.returns
returns c = one_hits
