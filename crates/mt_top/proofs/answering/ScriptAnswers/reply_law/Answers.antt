use Rattle.mt_top.proofs.Replying.{given_replied, long_replied}
use Rattle.mt_top.proofs.answering.ScriptAnswers.reply_law.Goals as goal

pub returns-clause-too_long : goal.returns-clause-too_long
returns-clause-too_long c = long_replied

pub returns-clause-given : goal.returns-clause-given
returns-clause-given c = given_replied
