use Rattle.mt_law.proofs.Since.{withdrawn}
use Rattle.mt_law.proofs.withdrawal_law.Goals as goal

pub returns : goal.returns
returns c = λ setup before after who call force. withdrawn setup call before after who force
