use Rattle.std.proofs.Common.{◌≡◌, take, All}
use Rattle.mt_base.specs.Bounds.{IsInPlane}
use Rattle.mt_base.specs.Predictor.{points_of}
use Rattle.mt_predict.proofs.predictor.points_of.Given as goal

abbrev pub invariant-loop-name : goal.invariant-loop-name
invariant-loop-name l = record {
  points : l.points.items ≡ points_of l.tables (take l.name-index l.route);
  plane : All (λ p. IsInPlane p.x p.y) l.points.items;
}
