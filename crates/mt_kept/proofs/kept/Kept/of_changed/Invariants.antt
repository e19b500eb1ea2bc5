use Rattle.std.proofs.Common.{map, take}
use Rattle.mt_kept.specs.Places.{change_place}
use Rattle.mt_kept.specs.Private.Window.{AreOwnPairs}
use Rattle.mt_kept.proofs.kept.Kept.of_changed.Given as goal

abbrev pub invariant-loop-change : goal.invariant-loop-change
invariant-loop-change l =
    AreOwnPairs l.fn.self.rules l.fn.self.places l.fn.self.moment (map change_place (take l.change-index l.changes)) l.own.items
