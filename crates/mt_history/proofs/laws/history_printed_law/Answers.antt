use Rattle.mt_history.proofs.LinesPrinted.{read_back}
use Rattle.mt_history.proofs.LinesRead.{never_bad, one_reading}
use Rattle.mt_history.proofs.laws.history_printed_law.Goals as goal

pub returns-clause-back : goal.returns-clause-back
returns-clause-back c = read_back

pub returns-clause-one : goal.returns-clause-one
returns-clause-one c = one_reading

pub returns-clause-good : goal.returns-clause-good
returns-clause-good c = never_bad
