use Rattle.std.proofs.Common.{rules}
use Rattle.mt_session.proofs.serving.Serving.follow.Goals as goal

-- a job that came back is done here
pub returns-in-Err-clause-done : goal.returns-in-Err-clause-done
returns-in-Err-clause-done g c = search rules
