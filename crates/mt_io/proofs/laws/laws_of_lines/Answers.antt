use Rattle.std.proofs.Common.{refl}
use Rattle.mt_io.proofs.Lines.{lines_of-first, lines_of-last, whole_lines_of-first, whole_lines_of-last}
use Rattle.mt_io.proofs.laws.laws_of_lines.Goals as goal

pub returns : goal.returns
returns c = record {
  none = refl;
  first = lines_of-first;
  last = lines_of-last;
  first_whole = whole_lines_of-first;
  last_whole = whole_lines_of-last;
}
