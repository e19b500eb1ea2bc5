use Rattle.std.proofs.Common.{◌≡◌, [], map, take}
use Rattle.std.specs.List.{sum_by}
use Rattle.mt_track.specs.Named.{named}
use Rattle.mt_plain.specs.Private.Added.{AddsConflicts}
use Rattle.mt_base.specs.Tally.{raised_by}
use Rattle.mt_plain.specs.Tests.{tests_of_left}
use Rattle.mt_plain.proofs.Found.{IsOfTwo}
use Rattle.mt_plain.proofs.pairs.all_pairs.Given as goal

abbrev pub invariant-loop-left : goal.invariant-loop-left
invariant-loop-left l = record {
  found : AddsConflicts (IsOfTwo l.rules l.now (map named (take l.left-index l.items)) (map named l.items)) [] l.found;
  counted : l.tests ≡ raised_by (sum_by (tests_of_left (map named l.items)) (map named (take l.left-index l.items))) l.initial.tests;
}
