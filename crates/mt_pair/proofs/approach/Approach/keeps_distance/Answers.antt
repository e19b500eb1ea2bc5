use Rattle.mt_pair.proofs.Low.{quiet_gap}
use Rattle.mt_pair.proofs.approach.Approach.keeps_distance.Goals as goal

pub returns-clause-is : goal.returns-clause-is
returns-clause-is c = λ yes low high. quiet_gap c.args.self.now low high (c.stays_above.ensures yes)
