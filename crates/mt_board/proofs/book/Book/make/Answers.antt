use Rattle.std.proofs.Common.{rules}
use Rattle.mt_board.proofs.book.Book.make.Goals as goal

-- it keeps 64 values
pub invariant_of-result : goal.invariant_of-result
invariant_of-result g c = search rules
