use Rattle.mt_standby.proofs.CaughtUp.{caught_up}
use Rattle.mt_read.proofs.FeedEntries.{entry_followed}
use Rattle.mt_standby.proofs.laws.standby_law.Goals as goal

pub returns-clause-follows : goal.returns-clause-follows
returns-clause-follows c = caught_up

pub returns-clause-read : goal.returns-clause-read
returns-clause-read c = entry_followed
