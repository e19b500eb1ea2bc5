use Rattle.std.proofs.Common.{◌≡◌, drop}
use Rattle.std.specs.Prelude.{is_some}
use Rattle.mt_json.specs.View.{items_view}
use Rattle.mt_read.specs.Bands.{as_numbers}
use Rattle.mt_read.specs.Field.{each_of}
use Rattle.mt_read.proofs.bands.are_numbers.Given as goal

abbrev pub invariant-loop-value : goal.invariant-loop-value
invariant-loop-value l =
    is_some (each_of as_numbers (items_view (drop l.value-index l.values))) ≡ is_some (each_of as_numbers (items_view l.values))
