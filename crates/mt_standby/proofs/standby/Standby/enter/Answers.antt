use Rattle.mt_standby.proofs.Told.{follow_told}
use Rattle.mt_standby.proofs.standby.Standby.enter.Goals as goal

pub returns-clause-followed : goal.returns-clause-followed
returns-clause-followed c = rw c.followed.ensures.reply (follow_told c.args.self.now c.follow.new.self c.args.entry.now c.follow.result c.follow.ensures.followed c.follow.ensures.no c.follow.ensures.unchanged)
