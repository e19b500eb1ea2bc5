use Rattle.std.proofs.Common.{◌≡◌}
use Rattle.mt_board.specs.Book.{with_all}
use Rattle.mt_board.proofs.book.Book.put_all.Given as goal

abbrev pub invariant-loop-probe : goal.invariant-loop-probe
invariant-loop-probe g l = l.self ≡ with_all l.initial.self l.yielded
