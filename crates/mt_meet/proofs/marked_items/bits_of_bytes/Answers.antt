use Rattle.std.proofs.Common.{◌∙◌, arith}
use Rattle.std.proofs.lemmas.List.{length-set}
use Rattle.mt_meet.proofs.Marking.{byte_bit, bytes_with}
use Rattle.mt_meet.proofs.marked_items.bits_of_bytes.Goals as goal
use Rattle.mt_meet.proofs.marked_items.bits_of_bytes.Goals.{then-marks-place-ne0, else-marks-place-ne0}

pub loop-place-preserved : goal.loop-place-preserved
loop-place-preserved c = record {
  long = length-set c.loop-place.bits c.loop-place.place c.if-marks-place-ne0.bits ∙ c.loop-place.invariant.long;
  marked = bytes_with c.args.marks.now c.loop-place.bits c.loop-place.place c.if-marks-place-ne0.bits (omega (arith, c.loop-place.invariant.long, c.loop-place-test.true))
      (λ some. elim c.if-marks-place-ne0.branch [
        | then-marks-place-ne0 w ↦ rw w.bits-is (byte_bit _ (omega arith))
        | else-marks-place-ne0 w ↦ absurd (some (omega (arith, w.if-marks-place-ne0.false)))
      ])
      c.loop-place.invariant.marked;
}
