use Rattle.std.proofs.Common.{◌≡◌, map, take}
use Rattle.mt_track.specs.Named.{named}
use Rattle.mt_plain.specs.Private.Added.{AddsConflicts, IsOfRight}
use Rattle.mt_base.specs.Tally.{raised_by}
use Rattle.mt_plain.specs.Tests.{tests_of_left}
use Rattle.mt_plain.proofs.pairs.add_pairs.Given as goal

abbrev pub invariant-loop-right : goal.invariant-loop-right
invariant-loop-right l = record {
  found : AddsConflicts (IsOfRight l.rules l.now (named l.left) (map named (take l.right-index l.items))) l.initial.found l.found;
  counted : l.tests ≡ raised_by (tests_of_left (map named (take l.right-index l.items)) (named l.left)) l.initial.tests;
}
