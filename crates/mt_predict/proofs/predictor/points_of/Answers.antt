use Rattle.std.proofs.Common.{Option, Some, None, pos, refl, rules, tests}
use Rattle.std.proofs.lemmas.Result.{IfOk-from_err}
use Rattle.std.specs.Prelude.{IfSome, unwrap_or}
use Rattle.std.proofs.lemmas.List.{map-append, take_more}
use Rattle.std.proofs.lemmas.List.Elements.{All-push}
use Rattle.mt_base.specs.Bounds.{IsInPlane}
use Rattle.mt_base.specs.declared.place.Point.{Point}
use Rattle.mt_predict.proofs.predictor.points_of.Goals as goal

-- a fix that is not there stands in the middle of the plane
placed : (p : Option Point) → IfSome p (λ (q : Point). IsInPlane q.x q.y)
    → IsInPlane (unwrap_or p (record { x = pos 0; y = pos 0 })).x (unwrap_or p (record { x = pos 0; y = pos 0 })).y
placed (Some p) is = is
placed None is = search (rules, tests)

pub loop-name-preserved : goal.loop-name-preserved
loop-name-preserved c = record {
  points = rw (
    c.in_ok-push.ensures.items,
    c.loop-name.invariant.points,
    c.unwrap_or-point.ensures,
    c.fix.ensures.fix,
    ← c.items-name-items.ensures,
    take_more c.items-name-items.result.now c.loop-name.name-index c.name-item.result c.loop-name-test.true,
    ← c.name-item.is,
    map-append,
  ) refl;
  plane = rw c.in_ok-push.ensures.items (All-push (λ (q : Point). IsInPlane q.x q.y) c.loop-name.points.items c.unwrap_or-point.result
      c.loop-name.invariant.plane (rw c.unwrap_or-point.ensures (placed c.fix.result c.fix.ensures.plane)));
}

pub returns-in_err-push-clause-points : goal.returns-in_err-push-clause-points
returns-in_err-push-clause-points c = IfOk-from_err _ _ c.from_residual.ensures.0

pub returns-in_err-push-clause-plane : goal.returns-in_err-push-clause-plane
returns-in_err-push-clause-plane c = IfOk-from_err _ _ c.from_residual.ensures.0
