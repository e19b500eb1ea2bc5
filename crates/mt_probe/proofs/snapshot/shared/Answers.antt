use Rattle.std.proofs.Common.{Some, ap}
use Rattle.mt_probe.proofs.snapshot.shared.Goals as goal

-- what is shared is the flight itself
pub returns-in_ok-new-in-Some : goal.returns-in_ok-new-in-Some
returns-in_ok-new-in-Some c = rw c.in-Some.is (ap Some c.in_ok-new-in-Some.ensures.ok)
