use Rattle.std.proofs.Common.{◌≡◌, map, take}
use Rattle.std.specs.List.{count_by}
use Rattle.mt_base.specs.Tally.{raised_by}
use Rattle.mt_kept.specs.Places.{seen}
use Rattle.mt_kept.specs.Private.Made.{is_tested}
use Rattle.mt_kept.specs.Private.Window.{AreAdded}
use Rattle.mt_kept.proofs.renewing.renew.Given as goal

abbrev pub invariant-loop-edge : goal.invariant-loop-edge
invariant-loop-edge l = record {
  added : AreAdded l.rules (map seen l.places) l.now (take l.edge-index l.edges) l.initial.renewed.items l.renewed.items;
  counted : l.tests ≡ raised_by (count_by (is_tested l.now) (take l.edge-index l.edges)) l.initial.tests;
}
