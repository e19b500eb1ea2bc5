use Rattle.std.proofs.Common.{◌≡◌, ◌++◌, ◌-◌, ℕ, flat_map}
use Rattle.std.specs.List.{range_with_len}
use Rattle.mt_cover.specs.Cells.{cells_in, stays_of}
use Rattle.mt_cover.proofs.stays.Cover.add_cells.Given as goal

abbrev pub invariant-loop-line : goal.invariant-loop-line
invariant-loop-line l = l.self ≡ l.initial.self ++ flat_map (λ (line : ℕ). stays_of l.from l.to (cells_in l.x line)) (range_with_len l.first (l.line - l.first))
