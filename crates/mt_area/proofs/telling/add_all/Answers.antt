use Rattle.std.proofs.Common.{List, Contains, subst, take}
use Rattle.std.proofs.lemmas.List.{take_all}
use Rattle.mt_base.specs.declared.area.Pierced.{Pierced}
use Rattle.mt_area.specs.Private.Telling.{AddsPierced}
use Rattle.mt_area.proofs.Tellings.{Adds-more, Adds-pushed, one_held_more}
use Rattle.mt_base.proofs.Members.{take_push}
use Rattle.mt_area.proofs.telling.add_all.Goals as goal

pub loop-told-preserved : goal.loop-told-preserved
loop-told-preserved c =
    let part = c.args.part.now in
    let more = take_push c.items-told-items.result.now c.loop-told.told-index c.told-item.result c.loop-told-test.true c.told-item.is in
    rw (← c.items-told-items.ensures, more) (Adds-more _ _ _ c.args.found.now c.loop-told.found _ (λ p. one_held_more (take c.loop-told.told-index c.items-told-items.result.now) c.told-item.result p)
    (rw (← c.items-told-items.ensures) at c.loop-told.invariant) (Adds-pushed c.loop-told.found c.told-item.result _ c.in_ok-push.ensures.ok))

pub returns : goal.returns
returns c =
    subst (λ (ps : List Pierced). AddsPierced (Contains ps) c.args.found.now c.loop-told.found) (take_all _ c.args.part.now (rw c.items-told-items.ensures at c.loop-told-test.false)) c.loop-told.invariant
