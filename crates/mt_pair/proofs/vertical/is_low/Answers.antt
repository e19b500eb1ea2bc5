use Rattle.std.proofs.Common.{◌∙◌, w64}
use Rattle.std.proofs.lemmas.Int.{to_z-of_z}
use Rattle.mt_pair.proofs.Sizes.{height_fits}
use Rattle.mt_pair.proofs.Tests.{low_by, not_low}
use Rattle.mt_pair.proofs.vertical.is_low.Goals as goal

pub returns-then-a-level_of : goal.returns-then-a-level_of
returns-then-a-level_of c =
    let s = height_fits c.args.a.now c.args.seconds c.requires.a_kept c.ranges.seconds.fits in
    let level = to_z-of_z w64 c.level_of.result (record { sfits = c.level_of.type_inv }) ∙ c.level_of.ensures in
    let height = to_z-of_z w64 c.height_after.result (record { sfits = c.height_after.type_inv }) ∙ c.height_after.ensures in
    let again = to_z-of_z w64 c.level_of-then-a-level_of.result (record { sfits = c.level_of-then-a-level_of.type_inv }) ∙ c.level_of-then-a-level_of.ensures in
    rw (height, again) (low_by _ c.args.a.now c.args.seconds (rw (to_z-of_z w64 c.args.a.now.z s.fits_z, level) at c.if-a-level_of.true))

pub returns-else-a-level_of : goal.returns-else-a-level_of
returns-else-a-level_of c =
    let s = height_fits c.args.a.now c.args.seconds c.requires.a_kept c.ranges.seconds.fits in
    let level = to_z-of_z w64 c.level_of.result (record { sfits = c.level_of.type_inv }) ∙ c.level_of.ensures in
    rw (to_z-of_z w64 c.args.a.now.z s.fits_z, level)
    (not_low _ c.args.a.now c.args.seconds (rw (to_z-of_z w64 c.args.a.now.z s.fits_z, level) at c.if-a-level_of.false))
