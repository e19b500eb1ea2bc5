use Rattle.std.proofs.Common.{◌<◌, ℕ}
use Rattle.mt_meet.specs.Private.Meeting.{PieceMeets}
use Rattle.mt_meet.proofs.meeting.first_that_meets.Given as goal

abbrev pub invariant-loop-piece : goal.invariant-loop-piece
invariant-loop-piece l = (j : ℕ) → j < l.piece → ¬ PieceMeets l.rules l.approved l.a l.b l.pieces.turn j
