use Rattle.mt_meet.specs.Private.Meeting.{PieceMeets}
use Rattle.mt_meet.proofs.Ends.{none_yet, not_true}
use Rattle.mt_meet.proofs.meeting.first_that_meets.Goals as goal

pub loop-piece-preserved : goal.loop-piece-preserved
loop-piece-preserved c = none_yet (PieceMeets c.args.rules.now c.args.approved c.args.a.now c.args.b.now c.args.pieces.now.turn) c.loop-piece.piece c.loop-piece.invariant
    (λ met. not_true (c.if-piece_meets.ensures.1 met))
