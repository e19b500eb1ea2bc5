use Rattle.mt_pair.proofs.Greatest.{numbers_fit}
use Rattle.mt_pair.proofs.laws.numbers_fit_law.Goals as goal

pub returns : goal.returns
returns c = numbers_fit
