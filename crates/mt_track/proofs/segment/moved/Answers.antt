use Rattle.std.proofs.Common.{◌*◌, pos, ◌+ℤ◌, ◌*ℤ◌, FitsSigned, w64, arith}
use Rattle.std.proofs.lemmas.Int.{to_z-of_z}
use Rattle.mt_ring.proofs.Sizes.{Abs, abs_add, abs_lit, abs_mul, fits_64}
use Rattle.mt_track.proofs.segment.moved.Goals as goal

pub returns : goal.returns
returns c =
    let gained : Abs (10000 * c.args.seconds) (c.args.gain *ℤ pos c.args.seconds) =
    abs_mul (record { low = c.requires.gain_kept.least; high = c.requires.gain_kept.most }) (abs_lit c.args.seconds) in
    let value : Abs 3686400 c.args.value = record { low = c.requires.value_kept.least; high = c.requires.value_kept.most } in
    let gain_fits : FitsSigned w64 (c.args.gain *ℤ pos c.args.seconds) = fits_64 gained (omega arith) in
    let sum_fits : FitsSigned w64 (c.args.value +ℤ c.args.gain *ℤ pos c.args.seconds) = fits_64 (abs_add value gained) (omega arith) in
    rw c.from.ensures (grind (arith, to_z-of_z))
