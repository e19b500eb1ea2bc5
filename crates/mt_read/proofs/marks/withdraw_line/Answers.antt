use Rattle.mt_base.specs.declared.command.Command.TheVariants as command
use Rattle.mt_read.proofs.ReadingLemmas.{asked, ◌▹◌}
use Rattle.mt_read.proofs.marks.withdraw_line.Goals as goal

pub returns : goal.returns
returns c = asked (c.callsign-call.ensures ▹ c.force-force.ensures) (λ ms e i. command.Withdraw (e i).0 (e i).1)
