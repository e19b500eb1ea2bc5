-- No public contract names these: they are of private steps and of proofs.
use Rattle.std.specs.Prelude.{List, [], Option, None, Some}
use Rattle.mt_grid.specs.declared.placed.Placed.{Placed}

-- the list that stands at a place; none stands for the empty one
abbrev pub list_or_empty : Option (List Placed) → List Placed
list_or_empty None = []
list_or_empty (Some list) = list
