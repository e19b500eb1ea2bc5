use Rattle.mt_probe.proofs.Filing.{filing_order}
use Rattle.mt_probe.proofs.laws.filing_order_law.Goals as goal

pub returns : goal.returns
returns c = filing_order
