use Rattle.std.proofs.Common.{◌≡◌, arith, pos, to_z, of_z, w64}
use Rattle.std.proofs.lemmas.Int.{ints}
use Rattle.mt_frac.proofs.Seconds.{meet_over}
use Rattle.mt_area.proofs.seconds.meet_over.Goals as goal

pub returns : goal.returns
returns c =
    let same = meet_over c.args.lines.now c.args.low c.args.high in
    let low : to_z w64 (of_z w64 c.from.result) ≡ pos c.args.low = omega (arith, ints) in
    let high : to_z w64 (of_z w64 c.from-2.result) ≡ pos c.args.high = omega (arith, ints) in
    let is = rw (low, high) at c.meet.ensures in (
      (λ t. let over = same.0 (is.0 t) in record { k = over.k; begun = over.begun; ahead = over.ahead; holds = over.holds }),
      (λ some. is.1 (same.1 (record { k = some.k; begun = some.begun; ahead = some.ahead; holds = some.holds }))),
    )
