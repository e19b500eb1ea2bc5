use Rattle.std.proofs.Common.{◌≡◌, take, All}
use Rattle.mt_write.specs.Short.{IsShortHit}
use Rattle.mt_session.proofs.probing.short_hits.Given as goal

abbrev pub invariant-loop-hit : goal.invariant-loop-hit
invariant-loop-hit l = (l.copy ≡ take l.hit-index l.hits) × All IsShortHit l.copy
