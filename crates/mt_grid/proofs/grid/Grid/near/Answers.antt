use Rattle.std.proofs.Common.{take_all}
use Rattle.std.proofs.lemmas.Result.{IfOk-weaker}
use Rattle.mt_grid.proofs.Near.{listed, near_on}
use Rattle.mt_grid.proofs.grid.Grid.near.Goals as goal

pub loop-stay-preserved : goal.loop-stay-preserved
loop-stay-preserved c =
    let stays = c.stays-stay-items.ensures in
    let below = rw stays at c.loop-stay-test.true in
    let step = rw stays at c.in_ok-mark_near_stay.ensures in
    near_on _ _ _ _ _ _ below c.loop-stay.invariant step

pub returns : goal.returns
returns c =
    let past = rw c.stays-stay-items.ensures at c.loop-stay-test.false in
    let e = take_all c.loop-stay.stay-index c.args.cover.now past in
    let near = rw e at c.loop-stay.invariant in
    IfOk-weaker _ _ _ (λ items are. listed _ _ _ _ near are) c.numbers.ensures
