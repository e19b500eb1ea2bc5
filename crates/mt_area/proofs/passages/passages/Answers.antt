use Rattle.std.proofs.Common.{List, ◌+◌, [], subst, sym, take}
use Rattle.std.proofs.lemmas.List.{take_all}
use Rattle.mt_base.specs.declared.area.Area.{Area}
use Rattle.mt_track.specs.Named.{named}
use Rattle.mt_area.specs.Private.Telling.{AddsPierced, IsPiercedByOne}
use Rattle.mt_base.specs.Area.{IsBoundedArea}
use Rattle.mt_area.proofs.Passing.{none_pierced}
use Rattle.mt_area.proofs.Tellings.{Adds-more, Adds-none, from_nothing, none_told, one_area_more}
use Rattle.mt_base.proofs.Members.{take_push}
use Rattle.std.proofs.lemmas.Result.{IfOk-from_err}
use Rattle.mt_area.proofs.passages.passages.Goals as goal

pub loop-area-preserved-then-lie_apart : goal.loop-area-preserved-then-lie_apart
loop-area-preserved-then-lie_apart c =
    let areas = c.args.areas.now in
    let kept = subst IsBoundedArea (sym c.area-item.is) (c.requires.kept c.loop-area.area-index c.area-item.result c.loop-area-test.true) in
    let none = none_pierced (named c.args.item.now).path c.area-item.result c.volume_over-volume.result c.args.now (c.args.now + 1200) kept
    (c.lie_apart.ensures.0 c.if-lie_apart.true) (rw c.deref.ensures at c.volume_over-volume.ensures) in
    rw (take_push areas c.loop-area.area-index c.area-item.result c.loop-area-test.true c.area-item.is)
    (Adds-more _ _ _ [] c.loop-area.found _ (one_area_more c.args.now (take c.loop-area.area-index areas) c.area-item.result (named c.args.item.now))
    c.loop-area.invariant (Adds-none _ c.loop-area.found (none_told c.args.now c.area-item.result (named c.args.item.now) none)))

pub loop-area-preserved : goal.loop-area-preserved
loop-area-preserved c =
    let areas = c.args.areas.now in
    rw (take_push areas c.loop-area.area-index c.area-item.result c.loop-area-test.true c.area-item.is)
    (Adds-more _ _ _ [] c.loop-area.found _ (one_area_more c.args.now (take c.loop-area.area-index areas) c.area-item.result (named c.args.item.now))
    c.loop-area.invariant c.in_ok-add_passage.ensures)

pub returns : goal.returns
returns c =
    from_nothing (IsPiercedByOne c.args.now c.args.areas.now (named c.args.item.now)) c.loop-area.found
    (subst (λ (areas : List Area). AddsPierced (IsPiercedByOne c.args.now areas (named c.args.item.now)) [] c.loop-area.found)
    (take_all _ c.args.areas.now c.loop-area-test.false) c.loop-area.invariant)

pub lie_apart-requires : goal.lie_apart-requires
lie_apart-requires c = subst IsBoundedArea (sym c.area-item.is) (c.requires.kept c.loop-area.area-index c.area-item.result c.loop-area-test.true)

pub add_passage-requires-clause-kept : goal.add_passage-requires-clause-kept
add_passage-requires-clause-kept c = subst IsBoundedArea (sym c.area-item.is) (c.requires.kept c.loop-area.area-index c.area-item.result c.loop-area-test.true)

pub returns-in_err-add_passage : goal.returns-in_err-add_passage
returns-in_err-add_passage c = IfOk-from_err c.from_residual-in_err-add_passage.result _ c.from_residual-in_err-add_passage.ensures.0
