use Rattle.std.proofs.Common.{◌∙◌}
use Rattle.mt_cover.proofs.Levels.{as_coded}
use Rattle.mt_track.proofs.Bits.{narrow_is, narrow_near}
use Rattle.mt_cover.proofs.Numbers.{IsHigh, IsWithin-max, IsWithin-min, count_is, high_near}
use Rattle.mt_cover.proofs.heights.straight_layer.Goals as goal

pub overflow_mul-first : goal.overflow_mul-first
overflow_mul-first c =
    let row = c.args.first.now in
    let n = as_coded row.z row.w row.vz row.gw c.args.seconds c.requires.z c.requires.w in
    let count = count_is c.args.seconds c.from-seconds.result c.ranges.seconds.fits c.from-seconds.ensures in
    rw (n.v_is, n.g_is, n.less_gain, count) n.less_fits

pub overflow_mul-first-2 : goal.overflow_mul-first-2
overflow_mul-first-2 c =
    let row = c.args.first.now in
    let n = as_coded row.z row.w row.vz row.gw c.args.seconds c.requires.z c.requires.w in
    let count = count_is c.args.seconds c.from-seconds.result c.ranges.seconds.fits c.from-seconds.ensures in
    rw (n.v_is, n.g_is, n.more_gain, count) n.more_fits

pub overflow_add-low : goal.overflow_add-low
overflow_add-low c =
    let row = c.args.first.now in
    let n = as_coded row.z row.w row.vz row.gw c.args.seconds c.requires.z c.requires.w in
    let count = count_is c.args.seconds c.from-seconds.result c.ranges.seconds.fits c.from-seconds.ensures in
    rw (n.z_is, n.w_is, n.v_is, n.g_is, n.less_is, n.less_gain, count, n.less_far) n.less_end_fits

pub overflow_add-high-2 : goal.overflow_add-high-2
overflow_add-high-2 c =
    let row = c.args.first.now in
    let n = as_coded row.z row.w row.vz row.gw c.args.seconds c.requires.z c.requires.w in
    let count = count_is c.args.seconds c.from-seconds.result c.ranges.seconds.fits c.from-seconds.ensures in
    rw (n.z_is, n.w_is, n.v_is, n.g_is, n.more_is, n.more_gain, count, n.more_far) n.more_end_fits

pub narrow-requires : goal.narrow-requires
narrow-requires c =
    let row = c.args.first.now in
    let n = as_coded row.z row.w row.vz row.gw c.args.seconds c.requires.z c.requires.w in
    let count = count_is c.args.seconds c.from-seconds.result c.ranges.seconds.fits c.from-seconds.ensures in
    let low = rw (n.z_is, n.w_is, n.v_is, n.g_is, n.less_is, n.less_gain, count, n.less_far, n.less_end) at c.min.ensures.value in
    let low_kept : IsHigh c.min.result = rw low (IsWithin-min _ _ _ _ n.less n.least) in
    narrow_near c.min.result (high_near c.min.result low_kept)

pub narrow-requires-2 : goal.narrow-requires-2
narrow-requires-2 c =
    let row = c.args.first.now in
    let n = as_coded row.z row.w row.vz row.gw c.args.seconds c.requires.z c.requires.w in
    let count = count_is c.args.seconds c.from-seconds.result c.ranges.seconds.fits c.from-seconds.ensures in
    let high = rw (n.z_is, n.w_is, n.v_is, n.g_is, n.more_is, n.more_gain, count, n.more_far, n.more_end) at c.max.ensures.value in
    let high_kept : IsHigh c.max.result = rw high (IsWithin-max _ _ _ _ n.more n.most) in
    narrow_near c.max.result (high_near c.max.result high_kept)

pub returns-clause-is : goal.returns-clause-is
returns-clause-is c =
    let row = c.args.first.now in
    let n = as_coded row.z row.w row.vz row.gw c.args.seconds c.requires.z c.requires.w in
    let count = count_is c.args.seconds c.from-seconds.result c.ranges.seconds.fits c.from-seconds.ensures in
    let low = rw (n.z_is, n.w_is, n.v_is, n.g_is, n.less_is, n.less_gain, count, n.less_far, n.less_end) at c.min.ensures.value in
    let high = rw (n.z_is, n.w_is, n.v_is, n.g_is, n.more_is, n.more_gain, count, n.more_far, n.more_end) at c.max.ensures.value in
    let low_kept : IsHigh c.min.result = rw low (IsWithin-min _ _ _ _ n.less n.least) in
    let high_kept : IsHigh c.max.result = rw high (IsWithin-max _ _ _ _ n.more n.most) in
    let l = narrow_is c.min.result c.narrow.result (high_near c.min.result low_kept) c.narrow.ensures ∙ low in
    let h = narrow_is c.max.result c.narrow-2.result (high_near c.max.result high_kept) c.narrow-2.ensures ∙ high in
    λ i. record { low = l i; high = h i }

pub returns-clause-kept : goal.returns-clause-kept
returns-clause-kept c =
    let row = c.args.first.now in
    let n = as_coded row.z row.w row.vz row.gw c.args.seconds c.requires.z c.requires.w in
    let count = count_is c.args.seconds c.from-seconds.result c.ranges.seconds.fits c.from-seconds.ensures in
    let low = rw (n.z_is, n.w_is, n.v_is, n.g_is, n.less_is, n.less_gain, count, n.less_far, n.less_end) at c.min.ensures.value in
    let high = rw (n.z_is, n.w_is, n.v_is, n.g_is, n.more_is, n.more_gain, count, n.more_far, n.more_end) at c.max.ensures.value in
    let low_kept : IsHigh c.min.result = rw low (IsWithin-min _ _ _ _ n.less n.least) in
    let high_kept : IsHigh c.max.result = rw high (IsWithin-max _ _ _ _ n.more n.most) in
    let l = narrow_is c.min.result c.narrow.result (high_near c.min.result low_kept) c.narrow.ensures in
    let h = narrow_is c.max.result c.narrow-2.result (high_near c.max.result high_kept) c.narrow-2.ensures in
    rw (l, h) (record { low = low_kept; high = high_kept })
