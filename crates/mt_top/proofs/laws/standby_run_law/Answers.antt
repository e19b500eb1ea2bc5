use Rattle.mt_top.proofs.RunCaughtUp.{done_caught_up, run_caught_up}
use Rattle.mt_top.proofs.laws.standby_run_law.Goals as goal

pub returns : goal.returns
returns c = record { lines = run_caught_up; done = done_caught_up }
