use Rattle.mt_meet.proofs.Meetings.{losing_meet}
use Rattle.mt_meet.proofs.laws.losing_meet_law.Goals as goal

pub returns : goal.returns
returns c = losing_meet
