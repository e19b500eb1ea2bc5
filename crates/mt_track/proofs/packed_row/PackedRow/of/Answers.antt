use Rattle.std.proofs.Common.{arith}
use Rattle.std.proofs.lemmas.Int.{ints}
use Rattle.mt_track.proofs.Bits.{narrow_near, within_near}
use Rattle.mt_track.proofs.packed_row.PackedRow.of.Goals as goal

pub narrow-requires : goal.narrow-requires
narrow-requires c = narrow_near _ (within_near _ _ _ (omega (arith, ints), omega (arith, ints)) c.requires.1.x.value)

pub narrow-requires-2 : goal.narrow-requires-2
narrow-requires-2 c = narrow_near _ (within_near _ _ _ (omega (arith, ints), omega (arith, ints)) c.requires.1.y.value)

pub narrow-requires-3 : goal.narrow-requires-3
narrow-requires-3 c = narrow_near _ (within_near _ _ _ (omega (arith, ints), omega (arith, ints)) c.requires.1.z.value)

pub narrow-requires-4 : goal.narrow-requires-4
narrow-requires-4 c = narrow_near _ (within_near _ _ _ (omega (arith, ints), omega (arith, ints)) c.requires.1.r.value)

pub narrow-requires-5 : goal.narrow-requires-5
narrow-requires-5 c = narrow_near _ (within_near _ _ _ (omega (arith, ints), omega (arith, ints)) c.requires.1.w.value)

pub narrow-requires-6 : goal.narrow-requires-6
narrow-requires-6 c = narrow_near _ (within_near _ _ _ (omega (arith, ints), omega (arith, ints)) c.requires.1.x.growth)

pub narrow-requires-7 : goal.narrow-requires-7
narrow-requires-7 c = narrow_near _ (within_near _ _ _ (omega (arith, ints), omega (arith, ints)) c.requires.1.y.growth)

pub narrow-requires-8 : goal.narrow-requires-8
narrow-requires-8 c = narrow_near _ (within_near _ _ _ (omega (arith, ints), omega (arith, ints)) c.requires.1.z.growth)

pub narrow-requires-9 : goal.narrow-requires-9
narrow-requires-9 c = narrow_near _ (within_near _ _ _ (omega (arith, ints), omega (arith, ints)) c.requires.1.r.growth)

pub narrow-requires-10 : goal.narrow-requires-10
narrow-requires-10 c = narrow_near _ (within_near _ _ _ (omega (arith, ints), omega (arith, ints)) c.requires.1.w.growth)
