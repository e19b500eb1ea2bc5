use Rattle.std.proofs.Common.{refl}
use Rattle.mt_cover.proofs.Windows.{holds_window}
use Rattle.mt_cover.proofs.sliced.Slices.over_window.Goals as goal

pub returns-clause-hold : goal.returns-clause-hold
returns-clause-hold c = rw (← c.self.view_is) (holds_window _ c.args.window c.max-begin.result c.min-end.result _ _ _ c.joined.result c.joined-front.result
    c.index.result.now c.index-2.result.now c.index-3.result.now c.self.invariant (rw (← c.self.view_is) at c.requires) c.max-begin.ensures c.min-end.ensures
    refl refl refl c.index.ensures c.index-2.ensures c.index-3.ensures c.joined-front.ensures.left c.joined-front.ensures.right c.joined.ensures.left
    c.joined.ensures.right)
