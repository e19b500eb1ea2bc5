use Rattle.std.proofs.Common.{◌≡◌, arith, subst}
use Rattle.mt_meet.specs.Private.Meeting.{Before, PieceMeets}
use Rattle.mt_meet.proofs.Ends.{last_met, none_from, not_true}
use Rattle.mt_meet.proofs.meeting.last_that_meets.Goals as goal

pub loop-last-preserved : goal.loop-last-preserved
loop-last-preserved c = (
  omega (arith, c.loop-last-test.true),
  omega (arith, c.loop-last.invariant.1),
  none_from (PieceMeets c.args.rules.now c.args.approved c.args.a.now c.args.b.now c.args.pieces.now.turn) c.loop-last.last c.args.pieces.now.number c.loop-last.invariant.2
      (λ met. not_true (c.if-not-piece_meets.ensures.1 met)),
)

pub returns-after-loop-last : goal.returns-after-loop-last
returns-after-loop-last c =
    let same : c.args.first ≡ c.loop-last.last = omega (arith, c.loop-last.invariant.0, c.loop-last-test.false) in
    let meets = PieceMeets c.args.rules.now c.args.approved c.args.a.now c.args.b.now c.args.pieces.now.turn in
    last_met meets c.loop-last.last c.args.pieces.now.number (subst (Before meets c.args.pieces.now.number) same c.requires.first) c.loop-last.invariant.2
