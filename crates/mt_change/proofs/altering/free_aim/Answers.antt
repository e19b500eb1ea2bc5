use Rattle.std.proofs.Common.{sym}
use Rattle.mt_base.specs.Cleared.{aim_of, clearance_checks}
use Rattle.mt_base.specs.Tables.{setup_with}
use Rattle.mt_base.proofs.CheckLemmas.{answer_is}
use Rattle.mt_predict.proofs.Refusing.{refused_alike}
use Rattle.mt_change.proofs.Plans.{few_names}
use Rattle.mt_change.proofs.altering.free_aim.Goals as goal

pub cleared-requires : goal.cleared-requires
cleared-requires c = record { short = few_names (setup_with c.args.rules.now c.args.tables.now) c.args.course.now c.requires.sound }

pub unreachable-requires : goal.unreachable-requires
unreachable-requires c =
    let exact = rw c.in_default.is at c.cleared.ensures.exact in
    let refused = refused_alike (clearance_checks c.args.tables.now c.args.course.now c.args.strand.now c.args.clearance c.args.eff c.args.now)
    (aim_of c.args.course.now c.args.strand.now c.args.clearance c.args.eff) c.in_default.field-0 exact in
    let passed = c.requires.passed in
    cc

pub returns-clause-exact : goal.returns-clause-exact
returns-clause-exact c =
    let exact = rw c.in-Ok.is at c.cleared.ensures.exact in
    sym (answer_is (clearance_checks c.args.tables.now c.args.course.now c.args.strand.now c.args.clearance c.args.eff c.args.now)
    (aim_of c.args.course.now c.args.strand.now c.args.clearance c.args.eff) c.in-Ok.aim (sym exact))

pub returns-clause-right : goal.returns-clause-right
returns-clause-right c =
    let right = c.cleared.ensures.right c.args.rules.now c.requires.rules c.requires.sound c.requires.strand c.requires.clearance c.requires.early in
    rw c.in-Ok.is at right
