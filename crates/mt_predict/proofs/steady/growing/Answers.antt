use Rattle.std.proofs.Common.{refl, arith}
use Rattle.std.proofs.lemmas.Int.{ints}
use Rattle.mt_predict.proofs.Steadiness.{growth_stays, room_for, some_seconds}
use Rattle.mt_predict.proofs.steady.growing.Goals as goal

pub returns-then-first-eq0-clause-same : goal.returns-then-first-eq0-clause-same
returns-then-first-eq0-clause-same c = λ k below.
    growth_stays c.args.gain c.args.greatest c.args.margin _ c.min-first.result k c.requires.gain_kept c.requires.greatest_kept c.requires.margin_kept refl
    c.min-first.ensures (rw c.if-first-eq0.true (omega arith))

pub returns-else-first-eq0-clause-some : goal.returns-else-first-eq0-clause-some
returns-else-first-eq0-clause-some c =
    rw c.min.ensures (some_seconds c.args.most _ c.min-first.result c.requires.some (omega (arith, c.if-first-eq0.false)) (omega (arith, c.min-first.ensures)))

pub returns-else-first-eq0-clause-within : goal.returns-else-first-eq0-clause-within
returns-else-first-eq0-clause-within c = omega (arith, c.min.ensures)

pub returns-else-first-eq0-clause-same : goal.returns-else-first-eq0-clause-same
returns-else-first-eq0-clause-same c = λ k below.
    growth_stays c.args.gain c.args.greatest c.args.margin _ c.min-first.result k c.requires.gain_kept c.requires.greatest_kept c.requires.margin_kept refl
    c.min-first.ensures (room_for _ c.min-first.result c.args.most k (rw (c.min.ensures) at below))

pub overflow_sub-room : goal.overflow_sub-room
overflow_sub-room c = omega (arith, ints, c.requires.greatest_kept, c.requires.margin_kept)

pub overflow_cast-room : goal.overflow_cast-room
overflow_cast-room c = omega (arith, ints, c.requires.greatest_kept, c.requires.margin_kept)

pub overflow_cast-gain : goal.overflow_cast-gain
overflow_cast-gain c = omega (arith, ints, c.requires.gain_kept)
