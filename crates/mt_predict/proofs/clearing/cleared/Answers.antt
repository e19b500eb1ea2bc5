use Rattle.mt_base.specs.declared.clearance.Clearance.TheVariants.{Level, Direct}
use Rattle.mt_base.specs.Tables.{setup_with}
use Rattle.mt_predict.proofs.Aims.{cleared_right}
use Rattle.mt_predict.proofs.clearing.cleared.Goals as goal

pub returns-in-Level-clause-exact : goal.returns-in-Level-clause-exact
returns-in-Level-clause-exact c = rw c.in-Level.is c.cleared_to.ensures.exact

pub returns-in-Level-clause-right : goal.returns-in-Level-clause-right
returns-in-Level-clause-right c = λ rules kept sound flies bounded early.
    cleared_right (setup_with rules c.args.tables.now) c.args.course.now c.args.strand.now (Level c.in-Level.level) c.args.eff c.args.now c.cleared_to.result
    kept sound flies (rw c.in-Level.is at bounded) early c.cleared_to.ensures.exact c.cleared_to.ensures.air

pub returns-in-Direct-clause-right : goal.returns-in-Direct-clause-right
returns-in-Direct-clause-right c = λ rules kept sound flies bounded early.
    cleared_right (setup_with rules c.args.tables.now) c.args.course.now c.args.strand.now (Direct c.in-Direct.fix) c.args.eff c.args.now c.cleared_direct.result
    kept sound flies tt early c.cleared_direct.ensures.exact c.cleared_direct.ensures.air
