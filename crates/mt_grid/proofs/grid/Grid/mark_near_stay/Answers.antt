use Rattle.std.proofs.Common.{◌<◌, length, arith}
use Rattle.mt_grid.proofs.Near.{list_is}
use Rattle.mt_grid.proofs.grid.Grid.mark_near_stay.Goals as goal

pub returns-in-Some : goal.returns-in-Some
returns-in-Some c =
    let found = rw c.in-Some.is at c.get.ensures in
    let below : c.args.stay.now.cell < length c.self.inside.cells = omega (arith, c.self.invariant, c.requires) in
    let list = list_is c.self.inside.cells c.args.stay.now.cell _ below found in
    let near = rw (c.items.ensures, ← list) at c.mark_near.ensures in
    rw (← c.self.view_is) near
