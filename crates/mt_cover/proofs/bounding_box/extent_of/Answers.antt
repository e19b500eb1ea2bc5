use Rattle.std.proofs.Common.{◌∙◌, ◌+ℤ◌}
use Rattle.mt_track.proofs.Bits.{narrow_is, narrow_near}
use Rattle.mt_cover.proofs.Numbers.{greater_is, lesser_is, min_below_max, plane_near}
use Rattle.mt_cover.proofs.bounding_box.extent_of.Goals as goal

pub narrow-requires : goal.narrow-requires
narrow-requires c =
    let least = lesser_is c.args.z c.args.gain c.min.result c.requires.z_kept c.requires.end_kept c.min.ensures.value in
    narrow_near c.min.result (plane_near c.min.result least.1)

pub narrow-requires-2 : goal.narrow-requires-2
narrow-requires-2 c =
    let most = greater_is c.args.z c.args.gain c.max.result c.requires.z_kept c.requires.end_kept c.max.ensures.value in
    narrow_near c.max.result (plane_near c.max.result most.1)

pub returns-clause-is : goal.returns-clause-is
returns-clause-is c =
    let least = lesser_is c.args.z c.args.gain c.min.result c.requires.z_kept c.requires.end_kept c.min.ensures.value in
    let most = greater_is c.args.z c.args.gain c.max.result c.requires.z_kept c.requires.end_kept c.max.ensures.value in
    let low = narrow_is c.min.result c.narrow.result (plane_near c.min.result least.1) c.narrow.ensures ∙ least.0 in
    let high = narrow_is c.max.result c.narrow-2.result (plane_near c.max.result most.1) c.narrow-2.ensures ∙ most.0 in
    λ i. record { low = low i; high = high i }

pub returns-clause-kept : goal.returns-clause-kept
returns-clause-kept c =
    let least = lesser_is c.args.z c.args.gain c.min.result c.requires.z_kept c.requires.end_kept c.min.ensures.value in
    let most = greater_is c.args.z c.args.gain c.max.result c.requires.z_kept c.requires.end_kept c.max.ensures.value in
    let low = narrow_is c.min.result c.narrow.result (plane_near c.min.result least.1) c.narrow.ensures in
    let high = narrow_is c.max.result c.narrow-2.result (plane_near c.max.result most.1) c.narrow-2.ensures in
    rw (low, high) (record { low = least.1; high = most.1; ordered = rw (least.0, most.0) (min_below_max c.args.z (c.args.z +ℤ c.args.gain)) })
