use Rattle.std.proofs.Common.{arith}
use Rattle.std.proofs.lemmas.Int.{ints}
use Rattle.mt_frac.proofs.Cuts.{cut_falling, cut_nothing, cut_rising}
use Rattle.mt_frac.proofs.Parts.{both_above, falls, rises}
use Rattle.mt_frac.proofs.linear.Linear.cut.Goals as goal

pub returns-then-at_high-ge0 : goal.returns-then-at_high-ge0
returns-then-at_high-ge0 c =
    let line = c.args.self in
    let low = c.args.low in
    let high = c.args.high in
    λ n d d+ lies. both_above line.b line.c n d low.num low.den high.num high.den d+ (omega (arith, ints)) (omega (arith, ints)) lies.after lies.until (omega (arith, ints)) (omega (arith, ints))

pub zero-requires-clause-inclined : goal.zero-requires-clause-inclined
zero-requires-clause-inclined c =
    let line = c.args.self in
    let low = c.args.low in
    let high = c.args.high in
    let b- = falls line.b line.c low.num low.den high.num high.den (omega (arith, ints)) (omega (arith, ints)) c.requires.ordered (omega (arith, ints)) (omega (arith, ints)) in
    λ zero. omega (arith, ints, b-, zero)

pub returns-then-at_low-ge0 : goal.returns-then-at_low-ge0
returns-then-at_low-ge0 c =
    let line = c.args.self in
    let low = c.args.low in
    let high = c.args.high in
    cut_falling line.b line.c low.num low.den high.num high.den c.zero.result.num c.zero.result.den (omega (arith, ints)) (omega (arith, ints)) (omega (arith, ints))
    c.requires.ordered (omega (arith, ints)) (omega (arith, ints)) c.zero.ensures

pub returns-then-at_high-le0 : goal.returns-then-at_high-le0
returns-then-at_high-le0 c =
    let line = c.args.self in
    let low = c.args.low in
    let high = c.args.high in
    cut_nothing line.b line.c low.num low.den high.num high.den (omega (arith, ints)) (omega (arith, ints)) c.requires.ordered (omega (arith, ints)) (omega (arith, ints))

pub zero-requires-2-clause-inclined : goal.zero-requires-2-clause-inclined
zero-requires-2-clause-inclined c =
    let line = c.args.self in
    let low = c.args.low in
    let high = c.args.high in
    let b+ = rises line.b line.c low.num low.den high.num high.den (omega (arith, ints)) (omega (arith, ints)) c.requires.ordered (omega (arith, ints)) (omega (arith, ints)) in
    λ zero. omega (arith, ints, b+, zero)

pub returns : goal.returns
returns c =
    let line = c.args.self in
    let low = c.args.low in
    let high = c.args.high in
    cut_rising line.b line.c low.num low.den high.num high.den c.zero-2.result.num c.zero-2.result.den (omega (arith, ints)) (omega (arith, ints)) (omega (arith, ints))
    c.requires.ordered (omega (arith, ints)) (omega (arith, ints)) c.zero-2.ensures
