use Rattle.mt_world.proofs.OneAnswer.{one_served}
use Rattle.mt_world.proofs.laws.one_answer_law.Goals as goal

pub returns : goal.returns
returns c = λ w who request r s next other is also. one_served w who request r s next other is also
