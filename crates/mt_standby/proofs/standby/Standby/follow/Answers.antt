use Rattle.mt_standby.proofs.Told.{still_replays}
use Rattle.mt_standby.proofs.standby.Standby.follow.Goals as goal

pub invariant_of-self : goal.invariant_of-self
invariant_of-self c =
    still_replays c.follow_entry.result c.self.inside.picture c.follow_entry.new.picture c.follow_entry.ensures.replayable c.follow_entry.ensures.unchanged c.self.invariant
