use Rattle.mt_meet.proofs.Meetings.{meeting_is_near}
use Rattle.mt_meet.proofs.laws.meeting_is_near_law.Goals as goal

pub returns : goal.returns
returns c = meeting_is_near
