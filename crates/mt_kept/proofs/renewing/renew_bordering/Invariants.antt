use Rattle.std.proofs.Common.{ℕ, map, take}
use Rattle.std.specs.List.{count_by}
use Rattle.mt_kept.specs.Places.{seen}
use Rattle.mt_base.specs.StrikeOut.{one_if}
use Rattle.mt_kept.specs.Private.Made.{WereTestedOf, straddles_on}
use Rattle.mt_kept.specs.Private.Stale.{AreStale}
use Rattle.mt_kept.specs.Private.Window.{AreLookedAt}
use Rattle.mt_kept.specs.Window.{edge_of}
use Rattle.mt_kept.proofs.renewing.renew_bordering.Given as goal

abbrev pub invariant-loop-pair : goal.invariant-loop-pair
invariant-loop-pair l = record {
  renewed : AreLookedAt l.rules (map seen l.places) l.now (take l.pair-index l.pairs) l.stale l.initial.renewed.items l.renewed.items;
  stale : (moment : ℕ) → AreStale moment l.now l.initial.stale → AreStale moment l.now l.stale;
  counted : WereTestedOf (count_by (straddles_on l.now) (take l.pair-index (map edge_of l.pairs))) (one_if l.spare) l.initial.tests l.tests;
}
