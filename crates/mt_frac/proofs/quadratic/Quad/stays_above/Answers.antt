use Rattle.std.proofs.Common.{arith, pos, ◌<ℤ◌, ◌≤ℤ◌}
use Rattle.std.proofs.lemmas.Int.{to_z-of_z}
use Rattle.mt_frac.specs.Polynomials.{discriminant_of}
use Rattle.mt_frac.proofs.Convexity.{no_roots_above}
use Rattle.mt_frac.proofs.Overflow.{discriminant_fits}
use Rattle.mt_frac.proofs.quadratic.Quad.stays_above.Goals as goal

pub returns-then-self-gt0 : goal.returns-then-self-gt0
returns-then-self-gt0 c = λ low n d.
    let q = c.args.self in
    let fits = discriminant_fits q c.requires.coefficients in
    let up : pos 0 <ℤ q.a = grind (arith, to_z-of_z) in
    let none : discriminant_of q.a q.b q.c ≤ℤ pos 0 = grind (arith, to_z-of_z) in
    no_roots_above q.a q.b q.c n d up none
