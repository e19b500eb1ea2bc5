use Rattle.mt_cover.proofs.Law.{misses_none}
use Rattle.mt_cover.proofs.laws.misses_none_law.Goals as goal

pub returns : goal.returns
returns c = misses_none
