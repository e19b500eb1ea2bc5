use Rattle.std.proofs.Common.{All, take}
use Rattle.mt_base.specs.declared.place.Point.{Point}
use Rattle.mt_base.specs.Bounds.{IsInPlane}
use Rattle.mt_checks.proofs.segments.are_in_plane.Given as goal

abbrev pub invariant-loop-fix : goal.invariant-loop-fix
invariant-loop-fix l = All (λ (p : Point). IsInPlane p.x p.y) (take l.fix-index l.fixes)
