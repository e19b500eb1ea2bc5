use Rattle.std.proofs.Common.{◌≡◌, ℤ, Bool, SFits, to_z, of_z, w64, sym, ◌∙◌}
use Rattle.std.specs.Int.{w128}
use Rattle.std.specs.Prelude.{int_le, ◌&&◌}
use Rattle.std.proofs.Math.Facts.{to_z-of_z}
use Rattle.mt_read.proofs.ReadingLemmas.{bound_fails, bound_passes}
use Rattle.mt_read.proofs.reading.FieldReading.ends.Goals as goal

tested : (low high z n : ℤ) (test : Bool) → SFits w64 low → SFits w64 high → SFits w128 n → n ≡ z
    → test ≡ (int_le (to_z w64 (of_z w64 low)) (to_z w128 (of_z w128 n)) && int_le (to_z w128 (of_z w128 n)) (to_z w64 (of_z w64 high)))
    → (int_le low z && int_le z high) ≡ test
tested low high z n test f g h p e =
    let m = to_z-of_z h ∙ p in sym (e ∙ (λ i. int_le (to_z-of_z f i) (m i) && int_le (m i) (to_z-of_z g i)))

pub returns-then-not-is_bounded : goal.returns-then-not-is_bounded
returns-then-not-is_bounded c =
    bound_fails _ _ _ _ (tested _ _ _ _ _ c.ranges.low c.ranges.high (record { sfits = c.value_after.type_inv }) c.value_after.ensures
    c.is_bounded.ensures ∙ c.if-not-is_bounded.true) c.refuse.ensures

pub returns-else-not-is_bounded : goal.returns-else-not-is_bounded
returns-else-not-is_bounded c =
    bound_passes _ _ _ (tested _ _ _ _ _ c.ranges.low c.ranges.high (record { sfits = c.value_after.type_inv }) c.value_after.ensures
    c.is_bounded.ensures ∙ c.if-not-is_bounded.false)
