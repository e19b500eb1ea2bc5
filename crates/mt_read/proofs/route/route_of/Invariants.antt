use Rattle.std.proofs.Common.{◌≡◌, ◌++◌, drop, option_map}
use Rattle.mt_json.specs.View.{items_view}
use Rattle.mt_read.specs.Field.{as_fix, each_of}
use Rattle.mt_read.proofs.route.route_of.Given as goal

abbrev pub invariant-loop-value : goal.invariant-loop-value
invariant-loop-value l =
    option_map (λ xs. l.route ++ xs) (each_of as_fix (items_view (drop l.value-index l.values))) ≡ each_of as_fix (items_view l.values)
