use Rattle.mt_base.proofs.RuleLemmas.{bounded, every}
use Rattle.mt_base.proofs.rules.Rules.check.Goals as goal

pub returns-clause-bounded : goal.returns-clause-bounded
returns-clause-bounded c = rw c.first_outside.ensures (bounded c.args.self.now, every c.args.self.now)
