use Rattle.std.proofs.Common.{rules, tests}
use Rattle.mt_load.proofs.driving.accept_first.Goals as goal

pub returns : goal.returns
returns g c = search (rules, tests)
