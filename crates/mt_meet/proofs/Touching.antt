-- Tests without a branch.
use Rattle.std.proofs.Common.{Bool, true, false, true≢false, refl, sym, ◌↔◌, IsTrue}
use Rattle.std.specs.Prelude.{◌&&◌}
use Rattle.std.specs.Int.Signed.{le_z}
use Rattle.mt_cover.specs.declared.bounding_box.Extent.{Extent}
use Rattle.mt_cover.specs.Sliced.{Touch}
use Rattle.mt_pair.proofs.Tests.{is_le, le_is}

pub both : (p q : Bool) → IsTrue p → IsTrue q → IsTrue (p && q)
both true q one other = other
both false q one other = one

pub each : (p q : Bool) → IsTrue (p && q) → IsTrue p × IsTrue q
each true q them = (refl, them)
each false q them = absurd (true≢false (sym them))

pub touching : (a b : Extent) → IsTrue (le_z a.low b.high && le_z b.low a.high) ↔ Touch a b
touching a b = (
  (λ them. let two = each (le_z a.low b.high) (le_z b.low a.high) them in
      record { left = is_le a.low b.high two.0; right = is_le b.low a.high two.1 }),
  (λ touch. both (le_z a.low b.high) (le_z b.low a.high) (le_is a.low b.high touch.left) (le_is b.low a.high touch.right)),
)
