use Rattle.std.proofs.Common.{All, rules, subst, sym}
use Rattle.mt_read.specs.Bounded.{IsBoundedRequest}
use Rattle.mt_load.proofs.InputBounds.{inputs_in}
use Rattle.mt_load.proofs.making.input.Goals as goal

pub returns-clause-exact : goal.returns-clause-exact
returns-clause-exact c = search rules

pub returns-clause-bounded : goal.returns-clause-bounded
returns-clause-bounded c = λ chosen.
    subst (All (IsBoundedRequest chosen)) (sym (returns-clause-exact c)) (inputs_in chosen c.args.flights c.args.number)
