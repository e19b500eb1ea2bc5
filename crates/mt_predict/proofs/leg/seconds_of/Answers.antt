use Rattle.std.proofs.Common.{w64}
use Rattle.std.proofs.lemmas.Int.{to_z-of_z}
use Rattle.mt_predict.proofs.Durations.{root_small, seconds_fit, seconds_is, size_across, speed_some, square_fits, squares_fit, squares_small}
use Rattle.mt_predict.proofs.leg.seconds_of.Goals as goal

pub overflow_mul-east : goal.overflow_mul-east
overflow_mul-east c =
    let east = rw (to_z-of_z w64 c.args.dx c.ranges.dx) at c.unsigned_abs-east.ensures.value in
    square_fits _ (size_across c.args.dx _ c.requires.east east)

pub overflow_mul-north : goal.overflow_mul-north
overflow_mul-north c =
    let north = rw (to_z-of_z w64 c.args.dy c.ranges.dy) at c.unsigned_abs-north.ensures.value in
    square_fits _ (size_across c.args.dy _ c.requires.north north)

pub overflow_add-east : goal.overflow_add-east
overflow_add-east c =
    let east = rw (to_z-of_z w64 c.args.dx c.ranges.dx) at c.unsigned_abs-east.ensures.value in
    let north = rw (to_z-of_z w64 c.args.dy c.ranges.dy) at c.unsigned_abs-north.ensures.value in
    squares_fit _ _ (size_across c.args.dx _ c.requires.east east) (size_across c.args.dy _ c.requires.north north)

pub root_above-root-requires : goal.root_above-root-requires
root_above-root-requires c =
    let east = rw (to_z-of_z w64 c.args.dx c.ranges.dx) at c.unsigned_abs-east.ensures.value in
    let north = rw (to_z-of_z w64 c.args.dy c.ranges.dy) at c.unsigned_abs-north.ensures.value in
    squares_small _ _ (size_across c.args.dx _ c.requires.east east) (size_across c.args.dy _ c.requires.north north)

pub overflow_cast-result : goal.overflow_cast-result
overflow_cast-result c =
    let east = rw (to_z-of_z w64 c.args.dx c.ranges.dx) at c.unsigned_abs-east.ensures.value in
    let north = rw (to_z-of_z w64 c.args.dy c.ranges.dy) at c.unsigned_abs-north.ensures.value in
    let small = root_small _ _ _ (size_across c.args.dx _ c.requires.east east) (size_across c.args.dy _ c.requires.north north) c.root_above-root.ensures.least in
    seconds_fit c.root_above-root.result c.unsigned_abs.result c.div_ceil.result c.div_ceil.ensures small

pub returns : goal.returns
returns c =
    let east = rw (to_z-of_z w64 c.args.dx c.ranges.dx) at c.unsigned_abs-east.ensures.value in
    let north = rw (to_z-of_z w64 c.args.dy c.ranges.dy) at c.unsigned_abs-north.ensures.value in
    let speed = rw (to_z-of_z w64 c.args.speed c.ranges.speed) at c.unsigned_abs.ensures.value in
    rw (c.div_ceil.ensures, ← speed) (seconds_is c.args.dx c.args.dy _ _ c.unsigned_abs.result c.root_above-root.result east north
    (speed_some c.args.speed c.unsigned_abs.result c.requires.fast speed) c.root_above-root.ensures.enough c.root_above-root.ensures.least)
