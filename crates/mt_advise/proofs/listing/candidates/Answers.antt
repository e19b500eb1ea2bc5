use Rattle.std.proofs.Common.{All, rules, subst, sym}
use Rattle.mt_base.specs.Tables.{setup_with}
use Rattle.mt_advise.specs.Trying.{CanBeTried}
use Rattle.mt_advise.proofs.Passing.{candidates_can}
use Rattle.mt_advise.proofs.listing.candidates.Goals as goal

pub returns-clause-exact : goal.returns-clause-exact
returns-clause-exact c = search rules

pub returns-clause-tried : goal.returns-clause-tried
returns-clause-tried c = λ chosen s call flies.
    let setup = setup_with chosen c.args.tables.now in
    subst (All (CanBeTried setup s call)) (sym (returns-clause-exact c)) (candidates_can setup s c.args.flight.now c.args.base.now call flies)
