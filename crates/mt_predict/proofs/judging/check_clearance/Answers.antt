use Rattle.std.proofs.Common.{◌∷◌, [], refl}
use Rattle.std.proofs.lemmas.Result.{err_from_is_err_and}
use Rattle.std.specs.Prelude.{is_some, nat_le}
use Rattle.mt_base.specs.declared.command.Refusal.TheVariants.{Future, HistoryFull, UnknownCall}
use Rattle.mt_base.specs.Cleared.{aim_checks}
use Rattle.mt_base.specs.Decision.{Look, has_history}
use Rattle.mt_base.specs.Tables.{Setup, setup_with}
use Rattle.mt_base.specs.WhatIf.{course_in}
use Rattle.mt_base.proofs.CheckLemmas.{next-ok}
use Rattle.mt_predict.specs.Looking.{look_of, strand_in}
use Rattle.mt_predict.proofs.Refusing.{moment_last}
use Rattle.mt_predict.proofs.judging.check_clearance.Goals as goal

pub returns-in_err-check_aim : goal.returns-in_err-check_aim
returns-in_err-check_aim c = λ who.
    let p = err_from_is_err_and c.from_residual.result c.from_residual.ensures.1 in
    let setup : Setup = setup_with c.args.rules.now c.args.tables.now in
    let look : Look = look_of c.args.looked.now in
    let split = moment_last (UnknownCall c.args.call, is_some look.flight) (course_in look.flight)
    (λ course. aim_checks setup.tables course (strand_in c.args.looked.now) c.args.clearance c.args.eff) (Future, nat_le c.args.eff look.now)
    ((HistoryFull, has_history setup.rules look) ∷ []) in
    rw (p.1, p.2, split, ← c.in_err-check_aim.ensures) refl

pub returns-in_err-must : goal.returns-in_err-must
returns-in_err-must c = λ who.
    let p = err_from_is_err_and c.from_residual-in_err-must.result c.from_residual-in_err-must.ensures.1 in
    let setup : Setup = setup_with c.args.rules.now c.args.tables.now in
    let look : Look = look_of c.args.looked.now in
    let split = moment_last (UnknownCall c.args.call, is_some look.flight) (course_in look.flight)
    (λ course. aim_checks setup.tables course (strand_in c.args.looked.now) c.args.clearance c.args.eff) (Future, nat_le c.args.eff look.now)
    ((HistoryFull, has_history setup.rules look) ∷ []) in
    rw (p.1, p.2, split, ← c.in_ok-check_aim.ensures, ← c.in_err-must.ensures) refl

pub returns : goal.returns
returns c = λ who.
    let setup : Setup = setup_with c.args.rules.now c.args.tables.now in
    let look : Look = look_of c.args.looked.now in
    let split = moment_last (UnknownCall c.args.call, is_some look.flight) (course_in look.flight)
    (λ course. aim_checks setup.tables course (strand_in c.args.looked.now) c.args.clearance c.args.eff) (Future, nat_le c.args.eff look.now)
    ((HistoryFull, has_history setup.rules look) ∷ []) in
    rw (split, ← c.in_ok-check_aim.ensures, ← c.in_ok-must.ensures, ← c.has_history.ensures, next-ok, c.must-2.ensures) refl
