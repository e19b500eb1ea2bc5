use Rattle.std.proofs.Common.{◌≡◌, ◌*◌, ◌*ℤ◌, pos, to_z, w64, arith, ap, ◌∙◌, sym}
use Rattle.std.proofs.lemmas.Int.{ints, to_z-of_z}
use Rattle.mt_predict.proofs.Reading.{read}
use Rattle.mt_predict.proofs.Steadiness.{room_for, some_seconds}
use Rattle.mt_predict.proofs.Climbs.{climb_ahead, climb_kept, climb_stays, descent_ahead, level_stays, rate_ahead, rate_some}
use Rattle.mt_predict.proofs.steady.climbing.Goals as goal

pub reach-ahead-requires-clause-rate : goal.reach-ahead-requires-clause-rate
reach-ahead-requires-clause-rate c =
    rw (to_z-of_z w64 c.args.climb c.ranges.climb) (climb_kept c.requires.climbs.0 c.args.bands.now c.args.level c.args.z c.args.climb c.requires.bands_kept c.requires.climbs.1)

pub reach-ahead-requires-clause-up : goal.reach-ahead-requires-clause-up
reach-ahead-requires-clause-up c =
    let to : read (pos 6000 *ℤ read c.from.result) ≡ pos (6000 * c.args.level) = rw c.from.ensures (omega (arith, ints, c.requires.level_kept)) in
    rw (to_z-of_z w64 c.args.climb c.ranges.climb, to_z-of_z w64 c.args.z c.ranges.z, to)
    (climb_ahead c.requires.climbs.0 c.args.bands.now c.args.level c.args.z c.args.climb c.requires.bands_kept c.requires.climbs.1)

pub reach-ahead-requires-clause-down : goal.reach-ahead-requires-clause-down
reach-ahead-requires-clause-down c =
    let to : read (pos 6000 *ℤ read c.from.result) ≡ pos (6000 * c.args.level) = rw c.from.ensures (omega (arith, ints, c.requires.level_kept)) in
    rw (to_z-of_z w64 c.args.climb c.ranges.climb, to_z-of_z w64 c.args.z c.ranges.z, to)
    (descent_ahead c.requires.climbs.0 c.args.bands.now c.args.level c.args.z c.args.climb c.requires.bands_kept c.requires.climbs.1)

pub overflow_cast-unsigned_abs : goal.overflow_cast-unsigned_abs
overflow_cast-unsigned_abs c =
    let kept = climb_kept c.requires.climbs.0 c.args.bands.now c.args.level c.args.z c.args.climb c.requires.bands_kept c.requires.climbs.1 in
    omega (arith, ints, kept, c.unsigned_abs.ensures.value)

pub returns-then-climb-eq0-clause-same : goal.returns-then-climb-eq0-clause-same
returns-then-climb-eq0-clause-same c = λ rules k below.
    let flat : c.args.climb ≡ pos 0 = sym (to_z-of_z w64 c.args.climb c.ranges.climb) ∙ ap (to_z w64) c.if-climb-eq0.true in
    level_stays c.requires.climbs.0 rules c.args.bands.now c.args.level c.args.z c.args.climb k c.requires.climbs.1 flat

pub returns-clause-some : goal.returns-clause-some
returns-clause-some c =
    let climb = to_z-of_z w64 c.args.climb c.ranges.climb in
    let z = to_z-of_z w64 c.args.z c.ranges.z in
    let to : read (pos 6000 *ℤ read c.from.result) ≡ pos (6000 * c.args.level) = rw c.from.ensures (omega (arith, ints, c.requires.level_kept)) in
    let rate = rw climb at c.unsigned_abs.ensures.value in
    let some = rate_some c.args.climb c.unsigned_abs.result c.if-climb-eq0.false rate in
    let above = climb_ahead c.requires.climbs.0 c.args.bands.now c.args.level c.args.z c.args.climb c.requires.bands_kept c.requires.climbs.1 in
    let below = descent_ahead c.requires.climbs.0 c.args.bands.now c.args.level c.args.z c.args.climb c.requires.bands_kept c.requires.climbs.1 in
    let up = rw (climb, z, to) at c.reach-ahead.ensures.up in
    let down = rw (climb, z, to) at c.reach-ahead.ensures.down in
    let lowest = rw z at c.layer_around.ensures.lowest in
    let highest = rw z at c.layer_around.ensures.highest in
    rw c.min.ensures (some_seconds c.args.most c.reach-ahead.result c.unsigned_abs.result c.requires.some some
    (rate_ahead _ c.args.z c.args.climb _ _ c.reach-ahead.result c.unsigned_abs.result lowest highest above below up down rate some))

pub returns-clause-same : goal.returns-clause-same
returns-clause-same c = λ rules k below.
    let climb = to_z-of_z w64 c.args.climb c.ranges.climb in
    let z = to_z-of_z w64 c.args.z c.ranges.z in
    let to : read (pos 6000 *ℤ read c.from.result) ≡ pos (6000 * c.args.level) = rw c.from.ensures (omega (arith, ints, c.requires.level_kept)) in
    let rate = rw climb at c.unsigned_abs.ensures.value in
    let some = rate_some c.args.climb c.unsigned_abs.result c.if-climb-eq0.false rate in
    let up = rw (climb, z, to) at c.reach-ahead.ensures.up in
    let down = rw (climb, z, to) at c.reach-ahead.ensures.down in
    let lowest = rw z at c.layer_around.ensures.lowest in
    let highest = rw z at c.layer_around.ensures.highest in
    let same = rw z at c.layer_around.ensures.same in
    climb_stays c.requires.climbs.0 rules c.args.bands.now c.args.level c.args.z c.args.climb _ _ c.reach-ahead.result c.unsigned_abs.result k
    c.requires.bands_kept c.requires.climbs.1 lowest highest same up down rate some
    (room_for c.reach-ahead.result c.unsigned_abs.result c.args.most k (rw c.min.ensures at below))
