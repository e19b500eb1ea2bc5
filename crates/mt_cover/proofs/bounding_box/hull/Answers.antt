use Rattle.mt_cover.proofs.Numbers.{IsExtentInPlane-32, IsWithin-max, IsWithin-min, hull_ordered, plane_is}
use Rattle.mt_cover.proofs.bounding_box.hull.Goals as goal

pub returns-clause-kept : goal.returns-clause-kept
returns-clause-kept c =
    let low = rw (plane_is c.args.a.low c.requires.a_kept.low, plane_is c.args.b.low c.requires.b_kept.low) at c.min.ensures.value in
    let high = rw (plane_is c.args.a.high c.requires.a_kept.high, plane_is c.args.b.high c.requires.b_kept.high) at c.max.ensures.value in
    IsExtentInPlane-32 c.min.result c.max.result
    (rw low (IsWithin-min _ _ c.args.a.low c.args.b.low c.requires.a_kept.low c.requires.b_kept.low))
    (rw high (IsWithin-max _ _ c.args.a.high c.args.b.high c.requires.a_kept.high c.requires.b_kept.high))
    (rw (low, high) (hull_ordered c.args.a.low c.args.a.high c.args.b.low c.args.b.high c.requires.a_kept.ordered))
