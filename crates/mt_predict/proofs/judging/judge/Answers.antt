use Rattle.std.proofs.Common.{ℕ, Some, Result, ap, ◌∙◌}
use Rattle.std.specs.Prelude.{⊤}
use Rattle.mt_base.specs.declared.command.Command.TheVariants.{Clear, Tentative}
use Rattle.mt_base.specs.declared.command.Refusal.{Refusal}
use Rattle.mt_base.specs.Checks.{judged}
use Rattle.mt_base.specs.Tables.{setup_with}
use Rattle.mt_predict.specs.Looking.{checks_along, look_of, strand_in}
use Rattle.mt_predict.proofs.judging.judge.Goals as goal

pub returns-in-Plan : goal.returns-in-Plan
returns-in-Plan c = rw c.in-Plan.is (c.check_plan.ensures c.args.who c.in-Plan.call c.in-Plan.at c.in-Plan.rvsm)

pub returns-in-External : goal.returns-in-External
returns-in-External c = rw c.in-External.is c.check_external.ensures

pub returns-in-Drop : goal.returns-in-Drop
returns-in-Drop c = rw c.in-Drop.is (c.check_drop.ensures c.args.who c.args.tables.now)

pub returns-in-Report : goal.returns-in-Report
returns-in-Report c = rw c.in-Report.is (c.check_report.ensures c.args.who c.args.tables.now)

pub returns-in-Tick : goal.returns-in-Tick
returns-in-Tick c = rw c.in-Tick.is (c.check_tick.ensures c.args.who c.args.tables.now)

pub returns-in-Renew : goal.returns-in-Renew
returns-in-Renew c = rw c.in-Renew.is (c.check_renewal.ensures c.args.who c.args.tables.now)

pub returns-in-Clear : goal.returns-in-Clear
returns-in-Clear c =
    let at_second : ℕ → Result ⊤ Refusal = λ eff. judged (checks_along (setup_with c.args.rules.now c.args.tables.now) (strand_in c.args.looked.now) (look_of c.args.looked.now) c.args.who
    (Clear c.in-Clear.call c.in-Clear.clearance (Some eff))) (tt {0}) in
    rw c.in-Clear.is (c.check_clearance.ensures c.args.who ∙ ap at_second c.unwrap_or-eff.ensures)

pub returns-in-Accept : goal.returns-in-Accept
returns-in-Accept c = rw c.in-Accept.is (c.check_clearance-in-Accept.ensures c.args.who)

pub returns-in-Tentative : goal.returns-in-Tentative
returns-in-Tentative c =
    let at_second : ℕ → Result ⊤ Refusal = λ eff. judged (checks_along (setup_with c.args.rules.now c.args.tables.now) (strand_in c.args.looked.now) (look_of c.args.looked.now) c.args.who
    (Tentative c.in-Tentative.call c.in-Tentative.clearance (Some eff))) (tt {0}) in
    rw c.in-Tentative.is (c.check_tentative.ensures c.args.who ∙ ap at_second c.unwrap_or-eff-in-Tentative.ensures)

pub returns-in-Withdraw : goal.returns-in-Withdraw
returns-in-Withdraw c = rw c.in-Withdraw.is (c.check_withdrawal.ensures c.args.tables.now)

pub returns-in-Commit : goal.returns-in-Commit
returns-in-Commit c = rw c.in-Commit.is (c.check_commitment.ensures c.args.who c.args.tables.now)
