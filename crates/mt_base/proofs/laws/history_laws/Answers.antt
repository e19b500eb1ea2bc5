use Rattle.mt_base.proofs.HistoryLemmas.{legal_prefix, legal_push, replayable_prefix, replayable_push, version_is}
use Rattle.mt_base.proofs.laws.history_laws.Goals as goal

pub returns-clause-replayable_fronts : goal.returns-clause-replayable_fronts
returns-clause-replayable_fronts c = replayable_prefix

pub returns-clause-legal_fronts : goal.returns-clause-legal_fronts
returns-clause-legal_fronts c = legal_prefix

pub returns-clause-one_more : goal.returns-clause-one_more
returns-clause-one_more c = replayable_push

pub returns-clause-one_more_legal : goal.returns-clause-one_more_legal
returns-clause-one_more_legal c = legal_push

pub returns-clause-version : goal.returns-clause-version
returns-clause-version c = version_is
