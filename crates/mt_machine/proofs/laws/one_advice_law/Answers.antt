use Rattle.mt_base.proofs.OneAdvice.{one_advice}
use Rattle.mt_machine.proofs.laws.one_advice_law.Goals as goal

pub returns : goal.returns
returns c = one_advice
