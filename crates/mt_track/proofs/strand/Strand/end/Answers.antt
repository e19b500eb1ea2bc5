use Rattle.std.proofs.Common.{sym}
use Rattle.mt_track.proofs.Segments.{length-all_rows}
use Rattle.mt_track.proofs.strand.Strand.end.Goals as goal

pub returns-clause-end : goal.returns-clause-end
returns-clause-end c = rw (← c.self.view_is) (sym (length-all_rows _ _ _ c.self.invariant.adjoin))
