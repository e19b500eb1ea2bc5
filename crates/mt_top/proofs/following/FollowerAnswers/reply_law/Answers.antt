use Rattle.mt_top.proofs.Stood.{given_stood, long_stood}
use Rattle.mt_top.proofs.following.FollowerAnswers.reply_law.Goals as goal

pub returns-clause-too_long : goal.returns-clause-too_long
returns-clause-too_long c = long_stood

pub returns-clause-given : goal.returns-clause-given
returns-clause-given c = given_stood
