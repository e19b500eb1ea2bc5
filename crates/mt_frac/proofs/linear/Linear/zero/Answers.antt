use Rattle.std.proofs.Common.{arith, pos, ◌-ℤ◌}
use Rattle.std.proofs.lemmas.Int.{ints, to_z-of_z}
use mir.Syntax.{w128}
use Rattle.mt_frac.proofs.Overflow.{minus_bounded, negation_fits, root_above, root_below}
use Rattle.mt_frac.proofs.linear.Linear.zero.Goals as goal

pub overflow_sub-result : goal.overflow_sub-result
overflow_sub-result c = let fits = negation_fits c.args.self.c (omega (arith, c.requires.bounded.c_bounded)) in grind (arith, to_z-of_z)

pub invariant_of-result-clause-num_bounded : goal.invariant_of-result-clause-num_bounded
invariant_of-result-clause-num_bounded c =
    let line = c.args.self in
    let n = negation_fits line.c (omega (arith, c.requires.bounded.c_bounded)) in
    rw (to_z-of_z w128 line.c n.fits_z, to_z-of_z w128 (pos 0 -ℤ line.c) n.fits_minus) (minus_bounded _ line.c c.requires.bounded.c_bounded)

pub invariant_of-result-clause-den_positive : goal.invariant_of-result-clause-den_positive
invariant_of-result-clause-den_positive c =
    let line = c.args.self in
    let b = negation_fits line.b (omega (arith, c.requires.bounded.b_bounded)) in
    let above = rw (to_z-of_z w128 line.b b.fits_z) at c.if-self-gt0.true in
    rw (to_z-of_z w128 line.b b.fits_z) (omega (arith, ints, above))

pub invariant_of-result-clause-den_bounded : goal.invariant_of-result-clause-den_bounded
invariant_of-result-clause-den_bounded c =
    let line = c.args.self in
    let b = negation_fits line.b (omega (arith, c.requires.bounded.b_bounded)) in
    rw (to_z-of_z w128 line.b b.fits_z) (omega (arith, ints))

pub returns-then-self-gt0 : goal.returns-then-self-gt0
returns-then-self-gt0 c =
    let line = c.args.self in
    let b = negation_fits line.b (omega (arith, c.requires.bounded.b_bounded)) in
    let n = negation_fits line.c (omega (arith, c.requires.bounded.c_bounded)) in
    rw (to_z-of_z w128 line.c n.fits_z, to_z-of_z w128 (pos 0 -ℤ line.c) n.fits_minus, to_z-of_z w128 line.b b.fits_z) (root_above line.b line.c)

pub overflow_sub-result-2 : goal.overflow_sub-result-2
overflow_sub-result-2 c = let fits = negation_fits c.args.self.b (omega (arith, c.requires.bounded.b_bounded)) in grind (arith, to_z-of_z)

pub invariant_of-result-2-clause-num_bounded : goal.invariant_of-result-2-clause-num_bounded
invariant_of-result-2-clause-num_bounded c =
    let line = c.args.self in
    let n = negation_fits line.c (omega (arith, c.requires.bounded.c_bounded)) in
    rw (to_z-of_z w128 line.c n.fits_z) c.requires.bounded.c_bounded

pub invariant_of-result-2-clause-den_positive : goal.invariant_of-result-2-clause-den_positive
invariant_of-result-2-clause-den_positive c =
    let line = c.args.self in
    let b = negation_fits line.b (omega (arith, c.requires.bounded.b_bounded)) in
    let below = rw (to_z-of_z w128 line.b b.fits_z) at c.if-self-gt0.false in
    rw (to_z-of_z w128 line.b b.fits_z, to_z-of_z w128 (pos 0 -ℤ line.b) b.fits_minus) (omega (arith, ints, below, c.requires.inclined))

pub invariant_of-result-2-clause-den_bounded : goal.invariant_of-result-2-clause-den_bounded
invariant_of-result-2-clause-den_bounded c =
    let line = c.args.self in
    let b = negation_fits line.b (omega (arith, c.requires.bounded.b_bounded)) in
    rw (to_z-of_z w128 line.b b.fits_z, to_z-of_z w128 (pos 0 -ℤ line.b) b.fits_minus) (omega (arith, ints))

pub returns : goal.returns
returns c =
    let line = c.args.self in
    let b = negation_fits line.b (omega (arith, c.requires.bounded.b_bounded)) in
    let n = negation_fits line.c (omega (arith, c.requires.bounded.c_bounded)) in
    rw (to_z-of_z w128 line.c n.fits_z, to_z-of_z w128 line.b b.fits_z, to_z-of_z w128 (pos 0 -ℤ line.b) b.fits_minus) (root_below line.b line.c)
