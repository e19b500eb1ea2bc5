use Rattle.std.proofs.Common.{◌*◌, ◌-◌, [], length}
use Rattle.mt_probe.proofs.Ahead.{WasTriedBelow}
use Rattle.mt_probe.proofs.HitPlaces.{AreHitsBelow}
use Rattle.mt_probe.specs.Private.Boxed.{IsSearchedIn}
use Rattle.mt_probe.proofs.hitting.has_hit_among.Given as goal

abbrev pub invariant-loop-met : goal.invariant-loop-met
invariant-loop-met l = record {
  searched : IsSearchedIn l.snapshot l.mine.sliced l.search;
  clear : AreHitsBelow l.snapshot l.fn.call l.strand l.search.from [];
  counted : WasTriedBelow l.snapshot l.fn.call l.strand l.search.from l.fn.tests l.tests;
}

abbrev pub decreases-loop-met : goal.decreases-loop-met
decreases-loop-met l = 2 * length l.snapshot.slots - l.search.from
