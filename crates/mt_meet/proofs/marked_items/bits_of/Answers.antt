use Rattle.std.proofs.Common.{◌≡◌, ◌+◌, ◌-◌, ◌*◌, ℕ, length, subst, arith}
use Rattle.std.specs.Int.{bit_at}
use Rattle.mt_meet.proofs.Marking.{all_bits, byte_fits_below, fits_in_64, items_with}
use Rattle.mt_meet.proofs.marked_items.bits_of.Goals as goal

pub overflow_mul-items : goal.overflow_mul-items
overflow_mul-items c =
    let whole = fits_in_64 c.loop-group.items c.loop-group.group 0 (omega arith) c.loop-group-test.true c.loop-group.invariant.fits in
    omega (arith, whole)

pub overflow_add-items : goal.overflow_add-items
overflow_add-items c =
    let whole = fits_in_64 c.loop-group.items c.loop-group.group c.from.result (omega (arith, c.from.ensures, c.bits_of_eight.type_inv)) c.loop-group-test.true
    c.loop-group.invariant.fits in
    omega (arith, whole)

pub loop-group-preserved : goal.loop-group-preserved
loop-group-preserved c = record {
  fits = byte_fits_below c.loop-group.items c.loop-group.group c.from.result (omega (arith, c.from.ensures, c.bits_of_eight.type_inv)) c.loop-group.invariant.fits;
  marked = items_with c.args.marks.now c.bits_of_bytes-bytes.result c.loop-group.items c.loop-group.group c.from.result c.loop-group-test.true
      (omega (arith, c.from.ensures, c.bits_of_eight.type_inv)) c.bits_of_bytes-bytes.ensures (rw c.from.ensures c.bits_of_eight.ensures) c.loop-group.invariant.marked;
}

pub returns : goal.returns
returns c =
    let long : length c.args.marks.now.parts ≡ 64 = search in
    all_bits c.args.marks.now c.loop-group.items long (λ place within some.
    let same : place + 8 * c.loop-group.group - 64 ≡ place = omega (arith, c.loop-group-test.false, c.loop-group.auto.group-end) in
    subst (λ (n : ℕ). bit_at c.loop-group.items n ≡ 1) same
    (c.loop-group.invariant.marked place (omega (arith, c.loop-group-test.false)) within some))
