use Rattle.std.proofs.Common.{sym}
use Rattle.std.proofs.lemmas.Result.{IfOk-from_err}
use Rattle.mt_base.proofs.command.Command.copy.Goals as goal

pub returns-in_err-copy-in-Plan : goal.returns-in_err-copy-in-Plan
returns-in_err-copy-in-Plan c = IfOk-from_err _ _ c.from_residual.ensures.0

pub returns-in_ok-copy-in-Plan : goal.returns-in_ok-copy-in-Plan
returns-in_ok-copy-in-Plan c = rw c.in_ok-copy-in-Plan.ensures (sym c.in-Plan.is)

pub returns-in-External : goal.returns-in-External
returns-in-External c = sym c.in-External.is

pub returns-in-Drop : goal.returns-in-Drop
returns-in-Drop c = sym c.in-Drop.is

pub returns-in-Report : goal.returns-in-Report
returns-in-Report c = sym c.in-Report.is

pub returns-in-Tick : goal.returns-in-Tick
returns-in-Tick c = sym c.in-Tick.is

pub returns-in-Renew : goal.returns-in-Renew
returns-in-Renew c = sym c.in-Renew.is

pub returns-in-Tentative : goal.returns-in-Tentative
returns-in-Tentative c = sym c.in-Tentative.is

pub returns-in-Withdraw : goal.returns-in-Withdraw
returns-in-Withdraw c = sym c.in-Withdraw.is

pub returns-in-Commit : goal.returns-in-Commit
returns-in-Commit c = sym c.in-Commit.is

pub returns-in-Clear : goal.returns-in-Clear
returns-in-Clear c = sym c.in-Clear.is

pub returns-in-Accept : goal.returns-in-Accept
returns-in-Accept c = sym c.in-Accept.is
