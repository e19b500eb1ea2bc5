use Rattle.std.proofs.Common.{◌≡◌, ◌++◌, ◌-◌, map}
use Rattle.std.specs.List.{range_with_len}
use Rattle.mt_cover.proofs.Counted.{stay}
use Rattle.mt_cover.proofs.stays.Cover.add_line.Given as goal

abbrev pub invariant-loop-column : goal.invariant-loop-column
invariant-loop-column l = l.self ≡ l.initial.self ++ map (stay l.line l.from l.to) (range_with_len l.first (l.column - l.first))
