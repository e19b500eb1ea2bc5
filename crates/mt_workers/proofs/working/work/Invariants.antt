use Rattle.std.proofs.Common.{◌≡◌}
use Rattle.mt_board.specs.BoardSeat.{GoesOn, IsSameSeat}
use Rattle.mt_workers.specs.Private.Work.{HasWorked}
use Rattle.mt_workers.proofs.working.work.Given as goal

abbrev pub invariant-loop : goal.invariant-loop
invariant-loop g l = record {
  worked : HasWorked (g.I.Inbox.left l.fn.jobs) (g.I.Inbox.left l.jobs) (g.B.Board.seat l.fn.board) (g.B.Board.seat l.board);
  same : IsSameSeat (g.B.Board.seat l.fn.board) (g.B.Board.seat l.board);
  begins : GoesOn (g.B.Board.seat l.fn.board).seen (g.B.Board.seat l.board).seen;
  home : g.B.Board.home l.board ≡ g.B.Board.home l.fn.board;
}
