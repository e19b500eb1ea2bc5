-- Rows in layers that lie apart by the vertical minimum of these never lose separation.
use Rattle.std.proofs.Common.{◌≡◌, ◌∙◌, Bool, true, false, true≢false, ◌⊎◌, inl, inr, ⊎_elim, refl, sym, ℤ, pos, ◌+ℤ◌, ◌-ℤ◌, ◌*ℤ◌, ◌≤ℤ◌, ◌<ℤ◌, ◌↔◌, FitsSigned, IsTrue, arith, w32}
use Rattle.std.specs.Prelude.{◌&&◌}
use Rattle.std.proofs.lemmas.Int.{ints}
use Rattle.std.specs.Int.Signed.{le_z}
use Rattle.mt_ring.proofs.Ring.{lin, spread}
use Rattle.mt_ring.proofs.Signs.{mul_nonneg}
use Rattle.mt_base.specs.declared.row.Row.{Row}
use Rattle.mt_base.specs.declared.rules.Rules.{Rules}
use Rattle.mt_base.specs.Instant.{value_at}
use Rattle.mt_base.specs.Bounds.{IsWithin}
use Rattle.mt_base.specs.Loss.{IsNearAt, LosesIn, height}
use Rattle.mt_cover.specs.declared.layer.Layer.{Layer}
use Rattle.mt_cover.specs.Layer.{IsInLayer, IsLayerKept}
use Rattle.mt_cover.proofs.Apart.{not_above, not_below}
use Rattle.mt_track.proofs.Bits.{IsNear, fits_32, in_32, in_64, narrow_is, near_32, reach_is}
use Rattle.mt_cover.proofs.Numbers.{high_is}
use Rattle.mt_meet.specs.Heights.{EndBelow, LieApart}
use Rattle.mt_meet.specs.Private.Heights.{IsMinimumIn}
use Rattle.mt_pair.specs.High.{LosesAbove, level_of}
use Rattle.mt_pair.proofs.Instants.{loses_above}
use Rattle.mt_pair.proofs.Tests.{is_le, le_is, no_le}

-- what lies above by at least a minimum is not nearer than it, at one instant
not_nearer : (low high s za wa va ga zb wb vb gb n d : ℤ) → (za +ℤ wa) ≤ℤ high → ((za +ℤ va) +ℤ (wa +ℤ ga)) ≤ℤ high
    → low ≤ℤ (zb -ℤ wb) → low ≤ℤ ((zb +ℤ vb) -ℤ (wb +ℤ gb)) → s ≤ℤ (low -ℤ high) → pos 0 ≤ℤ n → n <ℤ d
    → (s *ℤ d +ℤ (wa *ℤ d +ℤ ga *ℤ n) +ℤ (wb *ℤ d +ℤ gb *ℤ n)) ≤ℤ ((zb *ℤ d +ℤ vb *ℤ n) -ℤ (za *ℤ d +ℤ va *ℤ n))
not_nearer low high s za wa va ga zb wb vb gb n d a a_end b b_end apart begun within =
    let p = not_above high (za +ℤ wa) (va +ℤ ga) n d a (omega (arith, lin, a_end)) begun within in
    let q = not_below low (zb -ℤ wb) (vb -ℤ gb) n d b (omega (arith, lin, b_end)) begun within in
    let r = mul_nonneg (low -ℤ high -ℤ s) d (omega (arith, lin, apart)) (omega (arith, lin)) in
    omega (arith, lin, simp spread at p, simp spread at q, simp spread at r)

-- what is nearer than the lesser minimum is nearer than the greater one
higher : (s t d p q : ℤ) → s ≤ℤ t → pos 0 ≤ℤ d → (s *ℤ d +ℤ p +ℤ q) ≤ℤ (t *ℤ d +ℤ p +ℤ q)
higher s t d p q more d+ = let r = mul_nonneg (t -ℤ s) d (omega (arith, lin)) d+ in omega (arith, lin, simp spread at r)

below_more : (x y z : ℤ) → x <ℤ y → y ≤ℤ z → x <ℤ z
below_more x y z less more = omega (arith, lin)

nearer : (rules : Rules) (a b : Row) (n d : ℤ) → rules.sv ≤ℤ rules.sv2 → pos 0 ≤ℤ d → IsNearAt rules.sv a b n d → IsNearAt rules.sv2 a b n d
nearer rules a b n d greater d+ near =
    let more : height rules.sv a b n d ≤ℤ height rules.sv2 a b n d =
    higher rules.sv rules.sv2 d (value_at a.w a.gw n d) (value_at b.w b.gw n d) greater d+ in
    record { above = below_more _ _ _ near.above more; below = below_more _ _ _ near.below more }

-- a row in a layer that ends below a level isn't above that level
not_over : (level : ℤ) (layer : Layer) (a : Row) (n d : ℤ) → layer.high ≤ℤ level → IsInLayer layer a → pos 0 ≤ℤ n → n <ℤ d
    → ¬ ((level *ℤ d) <ℤ value_at a.z a.vz n d)
not_over level layer a n d ends in_it begun within over =
    let first : a.z ≤ℤ level = omega (arith, lin, ends, in_it.start.margin, in_it.start.high) in
    let last : (a.z +ℤ a.vz) ≤ℤ level = omega (arith, lin, ends, in_it.end.margin, in_it.end.high) in
    let most = not_above level a.z a.vz n d first last begun within in
    absurd (omega (arith, lin, most, over))

-- two rows that lose separation are nearer vertically than the minimum of their layers
near_least : (rules : Rules) (level : ℤ) (low high : Layer) (least : ℤ) (a b : Row) (n d : ℤ) → rules.sv ≤ℤ rules.sv2
    → IsMinimumIn rules level low high least → IsInLayer low a → IsInLayer high b → pos 0 ≤ℤ n → n <ℤ d → LosesAbove rules level a b n d → IsNearAt least a b n d
near_least rules level low high least a b n d greater minimum in_low in_high begun within loss = ⊎_elim
    (λ most. let d+ : pos 0 ≤ℤ d = omega (arith, lin) in
    rw most (⊎_elim (nearer rules a b n d greater d+) (λ some. some.0) loss.vertical))
    (λ lesser. rw lesser.0 (⊎_elim (λ near. near)
    (λ some. absurd (⊎_elim (not_over level low a n d lesser.1.first in_low begun within) (not_over level high b n d lesser.1.second in_high begun within) some.1))
    loss.vertical))
    minimum

-- What keeps two rows of one second apart: their layers, in either order, by the minimum of these.
pub record AreApart (rules : Rules) (pa pb : Bool) (one other : Layer) (least : ℤ) : Type 0 where
  pub greater : rules.sv ≤ℤ rules.sv2
  pub minimum : IsMinimumIn rules (level_of (pa && pb)) one other least
  pub apart : (least ≤ℤ (other.low -ℤ one.high)) ⊎ (least ≤ℤ (one.low -ℤ other.high))

rows_apart : (rules : Rules) (pa pb : Bool) (one other : Layer) (least : ℤ) (a b : Row) → AreApart rules pa pb one other least → IsInLayer one a
    → IsInLayer other b → ¬ LosesIn rules pa pb a b
rows_apart rules pa pb one other least a b w in_one in_other loss =
    let d+ : pos 0 <ℤ loss.d = let s = loss.begun in let e = loss.within in omega (arith, lin) in
    let near = near_least rules (level_of (pa && pb)) one other least a b loss.n loss.d w.greater w.minimum in_one in_other loss.begun loss.within
    ((loses_above rules pa pb a b loss.n loss.d d+).0 loss.loss) in
    ⊎_elim
    (λ below. let h = not_nearer other.low one.high least a.z a.w a.vz a.gw b.z b.w b.vz b.gw loss.n loss.d in_one.start.high in_one.end.high
    in_other.start.low in_other.end.low below loss.begun loss.within in
    let less = near.below in absurd (omega (arith, lin, h, less)))
    (λ above. let h = not_nearer one.low other.high least b.z b.w b.vz b.gw a.z a.w a.vz a.gw loss.n loss.d in_other.start.high in_other.end.high
    in_one.start.low in_one.end.low above loss.begun loss.within in
    let less = near.above in absurd (omega (arith, lin, h, less)))
    w.apart

-- rows in layers that lie apart don't lose separation
pub lying_apart : (rules : Rules) (pa pb : Bool) (one other : Layer) (a b : Row) → rules.sv ≤ℤ rules.sv2 → LieApart rules (level_of (pa && pb)) one other
    → IsInLayer one a → IsInLayer other b → ¬ LosesIn rules pa pb a b
lying_apart rules pa pb one other a b greater apart in_one in_other = ⊎_elim
    (λ most. rows_apart rules pa pb one other rules.sv2 a b (record { greater = greater; minimum = inl refl; apart = most }) in_one in_other)
    (λ lesser. rows_apart rules pa pb one other rules.sv a b (record { greater = greater; minimum = inr (refl, lesser.0); apart = lesser.1 }) in_one in_other)
    apart

-- the comparison of two layers, as the code has it
pub at_least : (least : ℤ) (low high : Layer) (gap : ℤ) → IsWithin (pos 1) (pos 600000) least → IsLayerKept low → IsLayerKept high
    → gap ≡ in_32 (in_32 high.low -ℤ in_32 low.high) → IsTrue (le_z (in_64 least) (in_64 gap)) ↔ (least ≤ℤ (high.low -ℤ low.high))
at_least least low high gap kept low_kept high_kept is =
    let between : IsNear (high.low -ℤ low.high) = record {
      least = omega (arith, ints, high_kept.low.least, low_kept.high.most);
      most = omega (arith, ints, high_kept.low.most, low_kept.high.least);
    } in
    let plain : gap ≡ high.low -ℤ low.high = rw (high_is high.low high_kept.low, high_is low.high low_kept.high, near_32 (high.low -ℤ low.high) between) at is in
    let small = reach_is least (record { least = omega (arith, ints, kept.least); most = omega (arith, ints, kept.most) }) in
    rw (small, plain, reach_is (high.low -ℤ low.high) between) (grind (arith, ints))

-- heights that reach farther, as the code has them
pub record AreWidened (low high by : ℤ) : Type 0 where
  pub low_is : in_32 (in_32 low -ℤ in_32 (in_64 by)) ≡ low -ℤ by
  pub high_is : in_32 (in_32 high +ℤ in_32 (in_64 by)) ≡ high +ℤ by
  pub by_fits : FitsSigned w32 (in_64 by)
  pub low_fits : FitsSigned w32 (in_32 low -ℤ in_32 (in_64 by))
  pub high_fits : FitsSigned w32 (in_32 high +ℤ in_32 (in_64 by))

pub widened : (layer : Layer) (by : ℤ) → IsLayerKept layer → IsWithin (pos 0) (pos 600000) by → AreWidened layer.low layer.high by
widened layer by kept by_kept =
    let near : IsNear by = record { least = omega (arith, ints, by_kept.least); most = omega (arith, ints, by_kept.most) } in
    let b = narrow_is by (in_64 by) near refl in
    let l = high_is layer.low kept.low in
    let h = high_is layer.high kept.high in
    let low : IsNear (layer.low -ℤ by) = record {
      least = omega (arith, ints, kept.low.least, by_kept.most);
      most = omega (arith, ints, kept.low.most, by_kept.least);
    } in
    let high : IsNear (layer.high +ℤ by) = record {
      least = omega (arith, ints, kept.high.least, by_kept.least);
      most = omega (arith, ints, kept.high.most, by_kept.most);
    } in
    record {
      low_is = rw (l, b) (near_32 (layer.low -ℤ by) low);
      high_is = rw (h, b) (near_32 (layer.high +ℤ by) high);
      by_fits = rw (reach_is by near) (fits_32 by near);
      low_fits = rw (l, b) (fits_32 (layer.low -ℤ by) low);
      high_fits = rw (h, b) (fits_32 (layer.high +ℤ by) high);
    }

-- neither layer ends above a level
pub end_below_by : (level : ℤ) (a b : Layer) → le_z a.high level ≡ true → IsTrue (le_z b.high level) ↔ EndBelow level a b
end_below_by level a b first = (
  (λ t. record { first = is_le a.high level first; second = is_le b.high level t }),
  (λ both. le_is b.high level both.second),
)

pub not_end_below : (level : ℤ) (a b : Layer) → le_z a.high level ≡ false → IsTrue (le_z a.high level) ↔ EndBelow level a b
not_end_below level a b fails = ((λ t. absurd (true≢false (sym t ∙ fails))), (λ both. absurd (true≢false (no_le fails both.first))))
