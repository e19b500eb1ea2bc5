use Rattle.mt_cover.proofs.Law.{touching_is_near}
use Rattle.mt_cover.proofs.laws.touching_is_near_law.Goals as goal

pub returns : goal.returns
returns c = touching_is_near
