use Rattle.mt_load.proofs.OneRun.{one_loaded, one_run}
use Rattle.mt_load.proofs.laws.one_summary_law.Goals as goal

pub returns-clause-run : goal.returns-clause-run
returns-clause-run c = λ flights number end other run also. one_run flights number end other run also

pub returns-clause-summary : goal.returns-clause-summary
returns-clause-summary c = λ flights number s t loaded also. one_loaded flights number s t loaded also
