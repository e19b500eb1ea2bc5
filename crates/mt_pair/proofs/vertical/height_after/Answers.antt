use Rattle.std.proofs.Common.{pos, ◌*ℤ◌, w64, refl}
use Rattle.std.proofs.lemmas.Int.{to_z-of_z}
use Rattle.mt_pair.proofs.Sizes.{height_fits}
use Rattle.mt_pair.proofs.vertical.height_after.Goals as goal

pub overflow_mul-result : goal.overflow_mul-result
overflow_mul-result c =
    let s = height_fits c.args.a.now c.args.seconds c.requires.a_kept c.ranges.seconds.fits in
    rw (c.from.ensures, to_z-of_z w64 c.args.a.now.vz s.fits_vz, to_z-of_z w64 (pos c.args.seconds) s.fits_seconds) s.fits_climb

pub overflow_add-result : goal.overflow_add-result
overflow_add-result c =
    let s = height_fits c.args.a.now c.args.seconds c.requires.a_kept c.ranges.seconds.fits in
    rw (
      c.from.ensures,
      to_z-of_z w64 c.args.a.now.vz s.fits_vz,
      to_z-of_z w64 (pos c.args.seconds) s.fits_seconds,
      to_z-of_z w64 c.args.a.now.z s.fits_z,
      to_z-of_z w64 (c.args.a.now.vz *ℤ pos c.args.seconds) s.fits_climb,
    ) s.fits_all

pub returns : goal.returns
returns c =
    let s = height_fits c.args.a.now c.args.seconds c.requires.a_kept c.ranges.seconds.fits in
    rw (
      c.from.ensures,
      to_z-of_z w64 c.args.a.now.vz s.fits_vz,
      to_z-of_z w64 (pos c.args.seconds) s.fits_seconds,
      to_z-of_z w64 c.args.a.now.z s.fits_z,
      to_z-of_z w64 (c.args.a.now.vz *ℤ pos c.args.seconds) s.fits_climb,
      to_z-of_z w64 _ s.fits_all,
    ) refl
