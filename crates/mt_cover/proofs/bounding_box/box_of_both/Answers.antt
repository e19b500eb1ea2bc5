use Rattle.mt_cover.proofs.Numbers.{margin_max}
use Rattle.mt_cover.proofs.bounding_box.box_of_both.Goals as goal

pub returns-clause-is : goal.returns-clause-is
returns-clause-is c =
    let x = c.hull.ensures.is in
    let y = c.hull-2.ensures.is in
    let margin = margin_max c.args.a.margin c.args.b.margin c.max.result c.requires.a_kept.margin c.requires.b_kept.margin c.max.ensures.value in
    let m = margin.0 in
    let layer = c.both.ensures.is in
    λ i. record { x = x i; y = y i; margin = m i; layer = layer i }

pub returns-clause-kept : goal.returns-clause-kept
returns-clause-kept c =
    let margin = margin_max c.args.a.margin c.args.b.margin c.max.result c.requires.a_kept.margin c.requires.b_kept.margin c.max.ensures.value in
    record { x = c.hull.ensures.kept; y = c.hull-2.ensures.kept; margin = margin.1; layer = c.both.ensures.kept }
