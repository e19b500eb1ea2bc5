use Rattle.std.proofs.Common.{◌≡◌, ◌<◌, drop}
use Rattle.mt_names.specs.Private.Rows.{row_from, row_of}
use Rattle.mt_names.proofs.names.row_of.Given as goal

abbrev pub invariant-loop-letter : goal.invariant-loop-letter
invariant-loop-letter l = record {
  row : row_from l.row (drop l.letter-index l.letter-items) ≡ row_of l.fn.call;
  below : l.row < 32;
}
