use Rattle.std.proofs.Common.{take}
use Rattle.mt_picture.specs.Private.Candidates.{AreStill}
use Rattle.mt_picture.proofs.candidates.still_ones.Given as goal

abbrev pub invariant-loop-found : goal.invariant-loop-found
invariant-loop-found l = AreStill l.snapshot.slots l.version (take l.found-index l.found-items) l.list.items
