use Rattle.std.proofs.Common.{refl}
use Rattle.mt_track.proofs.Segments.{length-all_rows}
use Rattle.mt_track.proofs.strand.Strand.segments.Goals as goal

pub returns-clause-are : goal.returns-clause-are
returns-clause-are c = rw (c.deref.ensures.value, ← c.self.view_is) (record {
  adjoin = rw (length-all_rows _ _ _ c.self.invariant.adjoin) c.self.invariant.adjoin;
  rows = refl;
  apart = c.self.invariant.apart;
})

pub returns-clause-kept : goal.returns-clause-kept
returns-clause-kept c = rw (← c.self.view_is) c.self.invariant.kept
