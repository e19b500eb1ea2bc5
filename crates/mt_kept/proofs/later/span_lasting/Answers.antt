use Rattle.std.proofs.Common.{Option, None, subst, arith}
use Rattle.mt_base.specs.declared.conflict.Conflict.{Conflict}
use Rattle.mt_base.specs.Conflict.{IsLossSecond, IsSpanOfLoss}
use Rattle.mt_base.specs.Picture.{window_end}
use Rattle.mt_base.specs.Trajectory.{horizon}
use Rattle.mt_track.specs.Named.{named}
use Rattle.mt_kept.specs.Window.{IsFoundOf}
use Rattle.mt_kept.proofs.Shifted.{found_span, last_new, last_stays, one_test}
use Rattle.mt_kept.proofs.later.span_lasting.Goals as goal
use Rattle.mt_kept.proofs.later.span_lasting.Goals.{in-Some, in-None}

pub returns-in_err-conflict-clause-conflict : goal.returns-in_err-conflict-clause-conflict
returns-in_err-conflict-clause-conflict c =
    let left = named c.args.left.now in
    let right = named c.args.right.now in
    let late = c.requires.begins in
    let later = c.requires.later in
    let none : IsFoundOf c.args.rules.now c.args.moment left right None =
    subst (λ (x : Option Conflict). IsFoundOf c.args.rules.now c.args.moment left right x) c.in_err-conflict.was c.requires.shown in
    absurd (none c.args.pair.now.edge.first (omega arith) c.requires.was.0 c.requires.span.first_is)

pub returns-clause-conflict : goal.returns-clause-conflict
returns-clause-conflict c =
    let rules = c.args.rules.now in
    let left = named c.args.left.now in
    let right = named c.args.right.now in
    let moment = c.args.moment in
    let now = c.args.now in
    let e = c.args.pair.now.edge in
    let d = c.in_ok-conflict.conflict in
    let early = c.requires.early in
    let later = c.requires.later in
    let was : IsSpanOfLoss rules left.path right.path moment (window_end moment) d.first d.last = found_span rules moment left right d
    (subst (λ (x : Option Conflict). IsFoundOf rules moment left right x) c.in_ok-conflict.was c.requires.shown) in
    elim c.match-lose.branch [
      | in-Some w ↦ rw w.last-is (last_new (IsLossSecond rules left.path right.path) now (window_end now) moment (window_end moment) horizon e.first e.last
          c.requires.span c.requires.begins c.requires.was.0 later (omega arith) (omega arith) w.in-Some.field-0-0 w.in-Some.last
          (rw (c.deref.ensures, c.deref-2.ensures) at w.in-Some.ensures.conflict))
      | in-None w ↦ rw w.last-is (last_stays (IsLossSecond rules left.path right.path) now (window_end now) moment (window_end moment) horizon e.first e.last
          c.requires.span c.requires.begins c.requires.was.0 later (omega arith) (omega arith) d.first d.last was
          (rw (c.deref.ensures, c.deref-2.ensures) at w.in-None.ensures.conflict))
    ]

pub returns-clause-counted : goal.returns-clause-counted
returns-clause-counted c = one_test 0 c.args.tests.now c.lose.new.tests c.lose.ensures.counted
