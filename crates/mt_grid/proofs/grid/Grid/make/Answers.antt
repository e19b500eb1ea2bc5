use Rattle.std.proofs.Common.{◌∙◌, ap, map}
use Rattle.mt_grid.specs.Private.Lists.{list_or_empty}
use Rattle.mt_grid.proofs.Near.{map-empty}
use Rattle.mt_grid.proofs.grid.Grid.make.Goals as goal

pub returns : goal.returns
returns c = ap (map list_or_empty) c.in_ok-make.ensures ∙ map-empty 4096
