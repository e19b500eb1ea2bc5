use Rattle.std.proofs.lemmas.Result.{on_ok_weaker}
use Rattle.mt_grid.proofs.Near.{list_replaced}
use Rattle.mt_grid.proofs.grid.Grid.replace.Goals as goal

pub returns : goal.returns
returns c = on_ok_weaker c.replace.result (λ is. list_replaced _ _ _ c.args.cell _ _ c.self.view_is c.in_ok-list.ensures.ok is) c.replace.ensures.ok
