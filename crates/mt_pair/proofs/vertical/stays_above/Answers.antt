use Rattle.std.proofs.Common.{◌∙◌}
use Rattle.std.proofs.lemmas.Int.{to_z-of_z}
use mir.Syntax.{w128}
use Rattle.mt_pair.proofs.Tests.{not_stays, stays_by}
use Rattle.mt_pair.proofs.Wholes.{after_fits}
use Rattle.mt_pair.proofs.vertical.stays_above.Goals as goal

pub returns-then-line-ge0 : goal.returns-then-line-ge0
returns-then-line-ge0 c =
    let s = after_fits c.args.line c.args.seconds c.requires.bounded c.ranges.seconds.fits in
    let value = to_z-of_z w128 c.value_after.result (record { sfits = c.value_after.type_inv }) ∙ c.value_after.ensures in
    rw value (stays_by c.args.line c.args.seconds (rw (to_z-of_z w128 c.args.line.c s.fits_c) at c.if-line-ge0.true))

pub returns-else-line-ge0 : goal.returns-else-line-ge0
returns-else-line-ge0 c =
    let s = after_fits c.args.line c.args.seconds c.requires.bounded c.ranges.seconds.fits in
    rw (to_z-of_z w128 c.args.line.c s.fits_c)
    (not_stays c.args.line c.args.seconds (rw (to_z-of_z w128 c.args.line.c s.fits_c) at c.if-line-ge0.false))
