use Rattle.std.proofs.Common.{rules}
use Rattle.mt_predict.proofs.renewing.base_at_report.Goals as goal

-- the first margins, at the report's place
pub returns : goal.returns
returns c = search rules
