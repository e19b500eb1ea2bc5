use Rattle.std.proofs.Common.{All, pos, subst}
use Rattle.std.proofs.lemmas.List.{take_all}
use Rattle.std.proofs.lemmas.List.Elements.{All-more}
use Rattle.mt_base.specs.declared.place.Point.{Point}
use Rattle.mt_base.specs.Bounds.{IsInPlane}
use Rattle.mt_checks.proofs.segments.are_in_plane.Goals as goal

pub loop-fix-preserved : goal.loop-fix-preserved
loop-fix-preserved c =
    All-more (λ (p : Point). IsInPlane p.x p.y) c.args.fixes.now c.loop-fix.fix-index (record { x = pos 0; y = pos 0 }) c.loop-fix-test.true
    c.loop-fix.invariant (c.is_in_plane.ensures c.if-not-is_in_plane.false)

pub returns : goal.returns
returns c = λ _. subst (All (λ (p : Point). IsInPlane p.x p.y)) (take_all _ _ c.loop-fix-test.false) c.loop-fix.invariant
