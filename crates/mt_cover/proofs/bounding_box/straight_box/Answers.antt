use Rattle.std.proofs.Common.{pos, ◌+ℤ◌, ◌*ℤ◌}
use Rattle.mt_cover.proofs.Ends.{is_box_over}
use Rattle.mt_cover.proofs.Numbers.{count_is, gained_in_plane, gained_margin}
use Rattle.mt_cover.proofs.bounding_box.straight_box.Goals as goal

pub overflow_mul-first : goal.overflow_mul-first
overflow_mul-first c =
    let row = c.args.first.now in
    let count = count_is c.args.seconds c.from-lasting.result c.ranges.seconds.fits c.from-lasting.ensures in
    let n = gained_in_plane row.x row.vx c.args.seconds c.requires.bounded.x in
    rw (n.v_is, count) n.far_fits

pub extent_of-requires-clause-end_kept : goal.extent_of-requires-clause-end_kept
extent_of-requires-clause-end_kept c =
    let row = c.args.first.now in
    let count = count_is c.args.seconds c.from-lasting.result c.ranges.seconds.fits c.from-lasting.ensures in
    let n = gained_in_plane row.x row.vx c.args.seconds c.requires.bounded.x in
    rw (n.z_is, n.v_is, count, n.far_is) c.requires.bounded.x.end

pub overflow_mul-first-2 : goal.overflow_mul-first-2
overflow_mul-first-2 c =
    let row = c.args.first.now in
    let count = count_is c.args.seconds c.from-lasting.result c.ranges.seconds.fits c.from-lasting.ensures in
    let n = gained_in_plane row.y row.vy c.args.seconds c.requires.bounded.y in
    rw (n.v_is, count) n.far_fits

pub extent_of-requires-2-clause-end_kept : goal.extent_of-requires-2-clause-end_kept
extent_of-requires-2-clause-end_kept c =
    let row = c.args.first.now in
    let count = count_is c.args.seconds c.from-lasting.result c.ranges.seconds.fits c.from-lasting.ensures in
    let n = gained_in_plane row.y row.vy c.args.seconds c.requires.bounded.y in
    rw (n.z_is, n.v_is, count, n.far_is) c.requires.bounded.y.end

pub overflow_add-result : goal.overflow_add-result
overflow_add-result c =
    let row = c.args.first.now in
    let count = count_is c.args.seconds c.from-lasting.result c.ranges.seconds.fits c.from-lasting.ensures in
    let n = gained_margin row.r row.gr c.args.seconds c.requires.bounded.r in
    rw (n.z_is, n.v_is, count, n.far_is) n.end_fits

pub returns-clause-is : goal.returns-clause-is
returns-clause-is c =
    let row = c.args.first.now in
    let count = count_is c.args.seconds c.from-lasting.result c.ranges.seconds.fits c.from-lasting.ensures in
    let n = gained_in_plane row.x row.vx c.args.seconds c.requires.bounded.x in
    let m = gained_in_plane row.y row.vy c.args.seconds c.requires.bounded.y in
    let k = gained_margin row.r row.gr c.args.seconds c.requires.bounded.r in
    let x = rw (n.z_is, n.v_is, count, n.far_is) at c.extent_of.ensures.is in
    let y = rw (m.z_is, m.v_is, count, m.far_is) at c.extent_of-2.ensures.is in
    let layer = c.straight_layer.ensures.is in
    is_box_over row c.args.seconds _ c.requires.some c.requires.bounded.r.growth.least
    (rw (k.z_is, k.v_is, count, k.far_is, k.end_is)
    (λ i. record { x = x i; y = y i; margin = row.r +ℤ row.gr *ℤ pos c.args.seconds; layer = layer i }))

pub returns-clause-kept : goal.returns-clause-kept
returns-clause-kept c =
    let row = c.args.first.now in
    let count = count_is c.args.seconds c.from-lasting.result c.ranges.seconds.fits c.from-lasting.ensures in
    let k = gained_margin row.r row.gr c.args.seconds c.requires.bounded.r in
    record {
      x = c.extent_of.ensures.kept;
      y = c.extent_of-2.ensures.kept;
      margin = rw (k.z_is, k.v_is, count, k.far_is, k.end_is) c.requires.bounded.r.end;
      layer = c.straight_layer.ensures.kept;
    }
