use Rattle.std.proofs.Common.{rules}
use Rattle.mt_predict.proofs.climb.margin_at.Goals as goal

-- a level second has the first margin again
pub returns-then-climb-eq0 : goal.returns-then-climb-eq0
returns-then-climb-eq0 c = search rules
