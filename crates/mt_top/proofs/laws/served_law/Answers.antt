use Rattle.std.proofs.Common.{sym, subst}
use Rattle.mt_base.specs.History.{IsReplayable}
use Rattle.mt_base.specs.Tables.{Setup}
use Rattle.mt_top.proofs.laws.served_law.Goals as goal

pub returns : goal.returns
returns g c = λ setup port sessions workers old new faulted closed counts served.
    (subst (λ (s : Setup). IsReplayable s closed.history) (sym served.setup_is) served.legal.replayable, served.complete)
