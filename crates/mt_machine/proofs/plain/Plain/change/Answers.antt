use Rattle.std.proofs.Common.{rules, not, List, ap, refl}
use Rattle.std.proofs.lemmas.Fn.{filter_same}
use Rattle.std.specs.Str.{bytes_eq}
use Rattle.mt_base.specs.declared.flight.Record.{Record}
use Rattle.mt_base.specs.Tables.{setup_with}
use Rattle.mt_machine.proofs.Effects.{sound_drop, sound_external, sound_plan}
use Rattle.std.proofs.lemmas.Result.{MatchResult-from_err}
use Rattle.mt_machine.proofs.plain.Plain.change.Goals as goal

pub returns-in_ok-file-in-Plan-clause-sound : goal.returns-in_ok-file-in-Plan-clause-sound
returns-in_ok-file-in-Plan-clause-sound c =
    let passed = rw c.in-Plan.is at c.requires.passed in
    let within = rw c.in-Plan.is at c.requires.bounded in
    let plane = rw c.in_ok-route-in-Plan.ensures at c.planned_course-course.ensures.plane in
    rw (c.in_ok-file-in-Plan.ensures.ok, c.planned_course-course.ensures.course, c.in_ok-route-in-Plan.ensures)
    (sound_plan (setup_with c.args.rules.now c.args.tables.now) c.args.self.now c.args.who c.in-Plan.call c.in-Plan.kind
    c.in-Plan.route c.in-Plan.at c.in-Plan.from c.in-Plan.level c.in-Plan.rvsm c.requires.rules c.requires.sound passed within plane)

pub returns-in_ok-file-in-External-clause-sound : goal.returns-in_ok-file-in-External-clause-sound
returns-in_ok-file-in-External-clause-sound c =
    let passed = rw c.in-External.is at c.requires.passed in
    let within = rw c.in-External.is at c.requires.bounded in
    rw (c.in_ok-file-in-External.ensures.ok)
    (sound_external (setup_with c.args.rules.now c.args.tables.now) c.args.self.now c.args.who c.in-External.call c.in-External.straight
    c.requires.rules c.requires.sound passed within)

pub returns-in-Drop-clause-ok : goal.returns-in-Drop-clause-ok
returns-in-Drop-clause-ok c = rw (c.in-Drop.is, ← c.self-in-Drop.view_is)
    (ap (λ (flights : List Record). record { now = c.self-in-Drop.inside.moment; records = flights; version = c.self-in-Drop.inside.version })
    (filter_same _ (λ flight. not (bytes_eq flight.call c.in-Drop.call)) _ (λ x b f' h. search rules) _ _ c.retain.ensures.filtered))

pub returns-in-Drop-clause-sound : goal.returns-in-Drop-clause-sound
returns-in-Drop-clause-sound c = rw (returns-in-Drop-clause-ok c, c.in-Drop.is)
    (sound_drop (setup_with c.args.rules.now c.args.tables.now) c.args.self.now c.in-Drop.call c.requires.sound)

pub returns-in_ok-file-in-Plan-clause-ok : goal.returns-in_ok-file-in-Plan-clause-ok
returns-in_ok-file-in-Plan-clause-ok c = rw (c.in-Plan.is, c.in_ok-file-in-Plan.ensures.ok, c.planned_course-course.ensures.course, c.in_ok-route-in-Plan.ensures) refl

pub returns-in_ok-file-in-Plan-clause-verdict : goal.returns-in_ok-file-in-Plan-clause-verdict
returns-in_ok-file-in-Plan-clause-verdict c = rw c.in-Plan.is refl

pub returns-in_ok-file-in-External-clause-ok : goal.returns-in_ok-file-in-External-clause-ok
returns-in_ok-file-in-External-clause-ok c = rw (c.in-External.is, c.in_ok-file-in-External.ensures.ok) refl

pub returns-in_ok-file-in-External-clause-verdict : goal.returns-in_ok-file-in-External-clause-verdict
returns-in_ok-file-in-External-clause-verdict c = rw c.in-External.is refl

pub returns-in-Drop-clause-verdict : goal.returns-in-Drop-clause-verdict
returns-in-Drop-clause-verdict c = rw c.in-Drop.is refl

pub returns-in-Tick-clause-ok : goal.returns-in-Tick-clause-ok
returns-in-Tick-clause-ok c = rw (c.in-Tick.is, ← c.self-in-Tick.view_is) refl

pub returns-in-Tick-clause-verdict : goal.returns-in-Tick-clause-verdict
returns-in-Tick-clause-verdict c = rw c.in-Tick.is refl

pub returns-in_err-route-in-Plan-clause-err : goal.returns-in_err-route-in-Plan-clause-err
returns-in_err-route-in-Plan-clause-err c = MatchResult-from_err c.from_residual.result _ _ c.from_residual.ensures.0 (λ err. refl)

pub returns-in_err-file-in-Plan-clause-err : goal.returns-in_err-file-in-Plan-clause-err
returns-in_err-file-in-Plan-clause-err c = MatchResult-from_err c.from_residual-in_err-file-in-Plan.result _ _ c.from_residual-in_err-file-in-Plan.ensures.0 (λ err. c.in_err-file-in-Plan.ensures.err)

pub returns-in_err-file-in-External-clause-err : goal.returns-in_err-file-in-External-clause-err
returns-in_err-file-in-External-clause-err c = MatchResult-from_err c.from_residual-in_err-file-in-External.result _ _ c.from_residual-in_err-file-in-External.ensures.0 (λ err. c.in_err-file-in-External.ensures.err)
