use Rattle.std.proofs.Common.{◌≡◌, ◌∙◌, refl}
use Rattle.std.proofs.lemmas.Result.{err_from_is_err_and}
use Rattle.std.specs.Option.{option_copied}
use Rattle.mt_base.specs.declared.command.Refusal.TheVariants.{Fixed, UnknownCall}
use Rattle.mt_base.specs.Cleared.{aim_checks, aim_of, clearance_checks}
use Rattle.mt_base.specs.Tables.{Setup, setup_with}
use Rattle.mt_base.specs.Trajectory.{Trajectory}
use Rattle.mt_predict.specs.Looking.{strand_in}
use Rattle.mt_predict.proofs.Refusing.{check-true, never_future, passed_alike, planned_is_there, refused_alike, refused_early}
use Rattle.mt_predict.proofs.judging.check_aim.Goals as goal

pub returns-in_err-course : goal.returns-in_err-course
returns-in_err-course c =
    let p = err_from_is_err_and c.from_residual.result c.from_residual.ensures.1 in
    rw (p.1, p.2) (refused_early _ _ _ _ c.in_err-course.ensures.err)

pub returns-in_err-cleared : goal.returns-in_err-cleared
returns-in_err-cleared c =
    let p = err_from_is_err_and c.from_residual-in_err-cleared.result c.from_residual-in_err-cleared.ensures.1 in
    let setup : Setup = setup_with c.args.rules.now c.args.tables.now in
    let course = c.in_ok-course.course.now in
    let t : Trajectory = strand_in c.args.looked.now in
    let is = c.in_ok-course.ensures.ok in
    let there = planned_is_there (option_copied c.args.looked.now.flight) course is in
    let flies : c.in-Some.strand.now ≡ t = rw c.in-Some.is refl in
    let exact = rw flies at c.in_err-cleared.ensures.exact in
    let refused = refused_alike (clearance_checks setup.tables course t c.args.clearance c.args.eff c.args.eff) (aim_of course t c.args.clearance c.args.eff) c.in_err-cleared.field-0.0 exact in
    rw (p.1, p.2, there, check-true (UnknownCall c.args.call), is, check-true Fixed) (refused ∙ never_future (aim_checks setup.tables course t c.args.clearance c.args.eff) c.args.eff)

pub returns : goal.returns
returns c =
    let setup : Setup = setup_with c.args.rules.now c.args.tables.now in
    let course = c.in_ok-course.course.now in
    let t : Trajectory = strand_in c.args.looked.now in
    let is = c.in_ok-course.ensures.ok in
    let there = planned_is_there (option_copied c.args.looked.now.flight) course is in
    let flies : c.in-Some.strand.now ≡ t = rw c.in-Some.is refl in
    let exact = rw flies at c.in_ok-cleared.ensures.exact in
    let passed = passed_alike (clearance_checks setup.tables course t c.args.clearance c.args.eff c.args.eff) (aim_of course t c.args.clearance c.args.eff) c.in_ok-cleared.field-0 exact in
    rw (there, check-true (UnknownCall c.args.call), is, check-true Fixed) (passed ∙ never_future (aim_checks setup.tables course t c.args.clearance c.args.eff) c.args.eff)
