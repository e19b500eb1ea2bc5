use Rattle.std.proofs.Common.{map, take}
use Rattle.std.specs.List.{sum_by}
use Rattle.mt_track.specs.Named.{named}
use Rattle.mt_kept.specs.Finds.{cost}
use Rattle.mt_kept.specs.Places.{seen}
use Rattle.mt_base.specs.Tally.{RoseUpTo}
use Rattle.mt_kept.proofs.Gathering.{AreGathered}
use Rattle.mt_kept.proofs.finds.gather.Given as goal

abbrev pub invariant-loop-candidate : goal.invariant-loop-candidate
invariant-loop-candidate l = record {
  gathered : AreGathered l.rules (map seen l.places) l.now l.place (named l.item) (take l.candidate-index l.candidates) l.finds.items;
  counted : RoseUpTo (sum_by (cost (map seen l.places) l.place l.item.call l.now) (take l.candidate-index l.candidates)) l.initial.tests l.tests;
}
