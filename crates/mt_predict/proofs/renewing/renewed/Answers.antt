use Rattle.mt_base.specs.Tables.{setup_with}
use Rattle.mt_predict.proofs.Renewals.{renewed_right}
use Rattle.mt_predict.proofs.renewing.renewed.Goals as goal

pub returns-clause-right : goal.returns-clause-right
returns-clause-right c = λ tables kept sound flies.
    rw c.base_at_report.ensures (renewed_right (setup_with c.args.rules.now tables) c.args.course.now c.args.strand.now c.in-Some.report kept sound flies c.in-Some.is)
