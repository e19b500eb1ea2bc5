use Rattle.std.proofs.Common.{◌≡◌, ◌*◌, ◌-◌, All, length, true}
use Rattle.mt_base.specs.declared.hit.Hit.{Hit}
use Rattle.mt_base.specs.Name.{is_name}
use Rattle.mt_probe.proofs.Ahead.{WasTriedBelow}
use Rattle.mt_probe.proofs.HitPlaces.{AreHitsBelow}
use Rattle.mt_probe.specs.Private.Boxed.{IsSearchedIn}
use Rattle.mt_probe.specs.Tests.{WereAtLeast}
use Rattle.mt_probe.proofs.hitting.hits_among.Given as goal

abbrev pub invariant-loop-met : goal.invariant-loop-met
invariant-loop-met l = record {
  searched : IsSearchedIn l.snapshot l.mine.sliced l.search;
  members : AreHitsBelow l.snapshot l.fn.call l.strand l.search.from l.list;
  named : All (λ (hit : Hit). is_name 1 7 hit.with ≡ true) l.list;
  counted : WasTriedBelow l.snapshot l.fn.call l.strand l.search.from l.fn.tests l.tests;
  tested : WereAtLeast (length l.list) l.fn.tests l.tests;
}

abbrev pub decreases-loop-met : goal.decreases-loop-met
decreases-loop-met l = 2 * length l.snapshot.slots - l.search.from
