use Rattle.std.proofs.Common.{◌≤◌, ◌<◌, ℕ}
use Rattle.mt_meet.specs.Private.Meeting.{PieceMeets}
use Rattle.mt_meet.proofs.meeting.last_that_meets.Given as goal

-- no later piece than this one meets
abbrev pub invariant-loop-last : goal.invariant-loop-last
invariant-loop-last l = (l.first ≤ l.last) × (l.last < l.pieces.number) × ((j : ℕ) → l.last < j → j < l.pieces.number → ¬ PieceMeets l.rules l.approved l.a l.b l.pieces.turn j)

abbrev pub decreases-loop-last : goal.decreases-loop-last
decreases-loop-last l = l.last
