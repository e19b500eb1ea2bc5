use Rattle.std.proofs.Common.{arith}
use Rattle.mt_base.specs.Conflict.{IsLossSecond}
use Rattle.mt_base.specs.Picture.{window_end}
use Rattle.mt_base.specs.Trajectory.{horizon}
use Rattle.mt_track.specs.Named.{named}
use Rattle.mt_base.specs.StrikeOut.{one_if}
use Rattle.mt_kept.proofs.Shifted.{begun_shown, first_there, one_test, two_tests}
use Rattle.mt_kept.proofs.Windows.{window_within}
use Rattle.mt_kept.proofs.later.span_begun.Goals as goal
use Rattle.mt_kept.proofs.later.span_begun.Goals.{then-edge-now+in_default+then-spare+in_default-lose, then-edge-now+in_default+else-spare, else-edge-now}

pub returns-in-Some-clause-conflict : goal.returns-in-Some-clause-conflict
returns-in-Some-clause-conflict c =
    begun_shown c.args.rules.now (named c.args.left.now) (named c.args.right.now) c.args.now c.args.edge.now.first c.args.edge.now.last c.args.shown.now
    c.in-Some.first c.requires.early c.requires.span c.requires.lasting c.if-edge-now.true c.requires.shown c.in-Some.ensures

pub returns-in-Some-lose-clause-conflict : goal.returns-in-Some-lose-clause-conflict
returns-in-Some-lose-clause-conflict c =
    let early = c.requires.early in
    first_there (IsLossSecond c.args.rules.now (named c.args.left.now).path (named c.args.right.now).path) c.args.now (window_end c.args.now) horizon
    c.args.edge.now.first c.args.edge.now.last c.requires.span c.requires.lasting c.if-edge-now.true (omega arith)
    c.in-Some-lose.first c.in-Some-lose.field-0-1 (rw (c.deref.ensures, c.deref-then-spare.ensures) at c.in-Some-lose.ensures.conflict)

pub returns-in-Some-lose-clause-counted : goal.returns-in-Some-lose-clause-counted
returns-in-Some-lose-clause-counted c = one_test (one_if c.args.spare.now) c.args.tests.now c.lose.new.tests c.lose.ensures.counted

pub returns-clause-conflict : goal.returns-clause-conflict
returns-clause-conflict c =
    window_within c.args.rules.now (named c.args.left.now).path (named c.args.right.now).path c.args.now c.args.edge.now c.lose-2.result c.requires.early
    c.requires.span (rw (c.span_within-within.ensures, c.deref-2.ensures, c.deref-3.ensures) at c.lose-2.ensures.conflict)

pub returns-clause-counted : goal.returns-clause-counted
returns-clause-counted c = elim c.if-edge-now.branch [
  | then-edge-now+in_default+then-spare+in_default-lose w ↦ rw w.spare-is (two_tests c.args.spare.now c.args.tests.now w.lose.new.tests c.lose-2.new.tests
      w.if-spare.true w.lose.ensures.counted (rw w.tests-is at c.lose-2.ensures.counted))
  | then-edge-now+in_default+else-spare w ↦ rw w.spare-is (one_test (one_if c.args.spare.now) c.args.tests.now c.lose-2.new.tests
      (rw w.tests-is at c.lose-2.ensures.counted))
  | else-edge-now w ↦ rw w.spare-is (one_test (one_if c.args.spare.now) c.args.tests.now c.lose-2.new.tests
      (rw w.tests-is at c.lose-2.ensures.counted))
]
