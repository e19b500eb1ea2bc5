use Rattle.mt_base.specs.Tables.{setup_with}
use Rattle.mt_machine.proofs.Advised.{advice_is, each_free, few_free}
use Rattle.mt_machine.proofs.advising.plain_advice.Goals as goal

pub returns-clause-exact : goal.returns-clause-exact
returns-clause-exact g c =
    advice_is (setup_with c.args.rules.now c.args.tables.now) c.args.plain.now c.args.call c.in-Ok.tried c.in_ok-free.free
    (rw c.in-Ok.is at c.in_ok-tried.ensures) (rw c.items.ensures at c.in_ok-free.ensures)

pub returns-clause-free : goal.returns-clause-free
returns-clause-free g c =
    each_free (setup_with c.args.rules.now c.args.tables.now) c.args.plain.now c.args.call c.in-Ok.tried c.in_ok-free.free
    (rw c.in-Ok.is at c.in_ok-tried.ensures) (rw c.items.ensures at c.in_ok-free.ensures)

pub returns-clause-few : goal.returns-clause-few
returns-clause-few g c =
    few_free (setup_with c.args.rules.now c.args.tables.now) c.args.plain.now c.args.call c.in-Ok.tried c.in_ok-free.free
    (rw c.in-Ok.is at c.in_ok-tried.ensures) (rw c.items.ensures at c.in_ok-free.ensures)
