use Rattle.std.proofs.Common.{subst}
use Rattle.mt_standby.proofs.Told.{Replays}
use Rattle.mt_standby.proofs.standby.Standby.picture.Goals as goal

pub returns-clause-replayable : goal.returns-clause-replayable
returns-clause-replayable c = subst Replays c.self.view_is c.self.invariant
