use Rattle.std.proofs.Common.{inl}
use Rattle.mt_session.proofs.serving.Serving.serve.Goals as goal

pub returns-in-Change-clause-served : goal.returns-in-Change-clause-served
returns-in-Change-clause-served g c = rw c.in-Change.is (inl c.command.ensures.commanded)

pub returns-in_default-clause-served : goal.returns-in_default-clause-served
returns-in_default-clause-served g c = c.reply_to.ensures.served
