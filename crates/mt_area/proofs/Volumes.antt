-- What a volume holds, and that none of it is inside an area that lies apart from it.
use Rattle.std.proofs.Common.{◌≡◌, ℕ, ◌*◌, ◌<◌, ℤ, pos, neg_ℤ, ◌+ℤ◌, ◌-ℤ◌, ◌*ℤ◌, ◌<ℤ◌, ◌≤ℤ◌, ⊎_elim, arith, lit<}
use Rattle.std.proofs.lemmas.Int.{ints}
use Rattle.mt_ring.proofs.Ring.{lin, spread}
use Rattle.mt_ring.proofs.Signs.{cases_ℤ, mul_nonneg, mul_pos, weaken}
use Rattle.mt_base.specs.declared.area.Area.{Area}
use Rattle.mt_base.specs.declared.row.Row.{Row}
use Rattle.mt_base.specs.Area.{IsBoundedArea, IsInsideAt, corner}
use Rattle.mt_base.specs.Bounds.{IsBoundedOver, IsHeight, IsWithin}
use Rattle.mt_base.specs.Instant.{value_at}
use Rattle.mt_track.specs.Rows.{row_after}
use Rattle.mt_area.specs.declared.volume.Interval.{Interval}
use Rattle.mt_area.specs.declared.volume.Volume.{Volume}
use Rattle.mt_area.specs.Private.Lines.{IsDuringOrAtEnd}
use Rattle.mt_area.specs.Private.Volume.{AreHeightsApart, AreSouthOrNorth, AreWestOrEast, IsWithinInterval, HoldsAt, HoldsRow, HoldsRowAt, IsPlaced, IsWiderInterval, IsWiderVolume, AreBoxesApart}
use Rattle.mt_track.proofs.Ranges.{moved}
use Rattle.mt_area.proofs.Instants.{during}
use Rattle.mt_area.proofs.Rounds.{along, none_beyond}
use Rattle.mt_area.proofs.Sides.{in_64, plane_size, read_64}

-- a value that is at least so much at the start of some seconds and at their end is so at each instant between, and what is at most
not_below : (l z v e n d : ℤ) → pos 0 ≤ℤ d → pos 0 ≤ℤ n → n ≤ℤ (e *ℤ d) → l ≤ℤ z → l ≤ℤ (z +ℤ v *ℤ e) → (l *ℤ d) ≤ℤ value_at z v n d
not_below l z v e n d d+ begun within first last = ⊎_elim
    (λ falls.
    let p = mul_nonneg ((z +ℤ v *ℤ e) -ℤ l) d (omega (arith, lin)) d+ in
    let q = mul_nonneg (neg_ℤ v) (e *ℤ d -ℤ n) (omega (arith, lin)) (omega (arith, lin)) in
    omega (arith, lin, simp spread at p, simp spread at q))
    (λ rises.
    let p = mul_nonneg (z -ℤ l) d (omega (arith, lin)) d+ in
    let q = mul_nonneg v n rises begun in
    omega (arith, lin, simp spread at p, q))
    (cases_ℤ v)

not_above : (h z v e n d : ℤ) → pos 0 ≤ℤ d → pos 0 ≤ℤ n → n ≤ℤ (e *ℤ d) → z ≤ℤ h → (z +ℤ v *ℤ e) ≤ℤ h → value_at z v n d ≤ℤ (h *ℤ d)
not_above h z v e n d d+ begun within first last = ⊎_elim
    (λ falls.
    let p = mul_nonneg (h -ℤ z) d (omega (arith, lin)) d+ in
    let q = mul_nonneg (neg_ℤ v) n (omega (arith, lin)) begun in
    omega (arith, lin, simp spread at p, simp spread at q))
    (λ rises.
    let p = mul_nonneg (h -ℤ (z +ℤ v *ℤ e)) d (omega (arith, lin)) d+ in
    let q = mul_nonneg v (e *ℤ d -ℤ n) rises (omega (arith, lin)) in
    omega (arith, lin, simp spread at p, simp spread at q))
    (cases_ℤ v)

HoldsAt-between : (r : Interval) (z v k : ℤ) (seconds : ℕ) (n d : ℤ) → IsDuringOrAtEnd seconds (n +ℤ k *ℤ d) d → IsWithinInterval r z → IsWithinInterval r (z +ℤ v *ℤ pos seconds) → HoldsAt r (z +ℤ v *ℤ k) v n d
HoldsAt-between r z v k seconds n d at first last = record {
  low = rw (moved z v k n d) (not_below r.low z v (pos seconds) (n +ℤ k *ℤ d) d (weaken at.positive) at.begun at.within first.low last.low);
  high = rw (moved z v k n d) (not_above r.high z v (pos seconds) (n +ℤ k *ℤ d) d (weaken at.positive) at.begun at.within first.high last.high);
}

-- what holds the first row of some seconds with the same gains and the row after their last one holds every instant of them
pub HoldsRowAt-between : (volume : Volume) (row : Row) (seconds k : ℕ) → HoldsRow volume row → HoldsRow volume (row_after row seconds) → k < seconds
    → (n d : ℤ) → pos 0 ≤ℤ n → n <ℤ d → HoldsRowAt volume (row_after row k) n d
HoldsRowAt-between volume row seconds k first last ahead n d n+ within =
    let at = during seconds k n d ahead n+ within in
    record {
      x = HoldsAt-between volume.x row.x row.vx (pos k) seconds n d at first.x last.x;
      y = HoldsAt-between volume.y row.y row.vy (pos k) seconds n d at first.y last.y;
      z = HoldsAt-between volume.z row.z row.vz (pos k) seconds n d at first.z last.z;
    }

-- a number that an interval holds by its bits, and a row that keeps its bounds for some seconds
pub Holds-by_bits : (e : Interval) (z : ℤ) → IsWithin (neg_ℤ (pos 3686400)) (pos 3686400) z → IsWithinInterval e (in_64 z) → IsWithinInterval e z
Holds-by_bits e z kept h = rw (read_64 z (plane_size z kept) (lit< tt)) at h

pub height_in_plane : (z : ℤ) → IsHeight z → IsWithin (neg_ℤ (pos 3686400)) (pos 3686400) z
height_in_plane z kept = record { least = omega (arith, ints, kept.least); most = omega (arith, ints, kept.most) }

pub placed_after : (row : Row) (seconds : ℕ) → IsBoundedOver row seconds → IsPlaced (row_after row seconds)
placed_after row seconds kept = ((kept.x.end, kept.y.end), kept.z.end)

-- what an interval, or a volume, holds a wider one does
Holds-wider : (r s : Interval) (z : ℤ) → IsWiderInterval r s → IsWithinInterval r z → IsWithinInterval s z
Holds-wider r s z more h = record { low = omega (arith, lin, more.low, h.low); high = omega (arith, lin, more.high, h.high) }

pub HoldsRow-wider : (volume wider : Volume) (row : Row) → IsWiderVolume volume wider → HoldsRow volume row → HoldsRow wider row
HoldsRow-wider volume wider row more h = record {
  x = Holds-wider volume.x wider.x row.x more.x h.x;
  y = Holds-wider volume.y wider.y row.y more.y h.y;
  z = Holds-wider volume.z wider.z row.z more.z h.z;
}

lower : (l m v d : ℤ) → pos 0 ≤ℤ d → m ≤ℤ l → (l *ℤ d) ≤ℤ v → (m *ℤ d) ≤ℤ v
lower l m v d d+ more h = let p = mul_nonneg (l -ℤ m) d (omega (arith, lin)) d+ in omega (arith, lin, simp spread at p, h)

higher : (h k v d : ℤ) → pos 0 ≤ℤ d → h ≤ℤ k → v ≤ℤ (h *ℤ d) → v ≤ℤ (k *ℤ d)
higher h k v d d+ more at = let p = mul_nonneg (k -ℤ h) d (omega (arith, lin)) d+ in omega (arith, lin, simp spread at p, at)

HoldsAt-wider : (r s : Interval) (z v n d : ℤ) → pos 0 ≤ℤ d → IsWiderInterval r s → HoldsAt r z v n d → HoldsAt s z v n d
HoldsAt-wider r s z v n d d+ more h = record { low = lower r.low s.low _ d d+ more.low h.low; high = higher r.high s.high _ d d+ more.high h.high }

pub HoldsRowAt-wider : (volume wider : Volume) (row : Row) (n d : ℤ) → pos 0 ≤ℤ d → IsWiderVolume volume wider → HoldsRowAt volume row n d → HoldsRowAt wider row n d
HoldsRowAt-wider volume wider row n d d+ more h = record {
  x = HoldsAt-wider volume.x wider.x row.x row.vx n d d+ more.x h.x;
  y = HoldsAt-wider volume.y wider.y row.y row.vy n d d+ more.y h.y;
  z = HoldsAt-wider volume.z wider.z row.z row.vz n d d+ more.z h.z;
}

IsWider-twice : (a b c : Interval) → IsWiderInterval a b → IsWiderInterval b c → IsWiderInterval a c
IsWider-twice a b c f g = record { low = omega (arith, lin, f.low, g.low); high = omega (arith, lin, f.high, g.high) }

pub IsWiderVolume-twice : (a b c : Volume) → IsWiderVolume a b → IsWiderVolume b c → IsWiderVolume a c
IsWiderVolume-twice a b c f g = record {
  x = IsWider-twice a.x b.x c.x f.x g.x;
  y = IsWider-twice a.y b.y c.y f.y g.y;
  z = IsWider-twice a.z b.z c.z f.z g.z;
}

-- a position beyond all corners, in each of the four directions
beyond_more : (c r x d : ℤ) → pos 0 <ℤ d → c <ℤ r → (r *ℤ d) ≤ℤ x → (d *ℤ c -ℤ x) <ℤ pos 0
beyond_more c r x d d+ less at = let p = mul_pos (r -ℤ c) d (omega (arith, lin)) d+ in simp spread (omega (arith, lin, simp spread at p, at))

beyond_less : (c r x d : ℤ) → pos 0 <ℤ d → r <ℤ c → x ≤ℤ (r *ℤ d) → pos 0 <ℤ (d *ℤ c -ℤ x)
beyond_less c r x d d+ more at = let p = mul_pos (c -ℤ r) d (omega (arith, lin)) d+ in simp spread (omega (arith, lin, simp spread at p, at))

along_x : (u v : ℤ) → (along (pos 1) (pos 0) u v ≡ u) × (along (neg_ℤ (pos 1)) (pos 0) u v ≡ neg_ℤ u)
along_x u v = (omega (arith, ints), omega (arith, ints))

along_y : (u v : ℤ) → (along (pos 0) (pos 1) u v ≡ v) × (along (pos 0) (neg_ℤ (pos 1)) u v ≡ neg_ℤ v)
along_y u v = (omega (arith, ints), omega (arith, ints))

below_0 : (u w : ℤ) → w ≡ u → u <ℤ pos 0 → w <ℤ pos 0
below_0 u w e h = rw e h

above_0 : (u w : ℤ) → w ≡ neg_ℤ u → pos 0 <ℤ u → w <ℤ pos 0
above_0 u w e h = rw e (omega (arith, lin))

module _ (area : Area) (volume : Volume) (row : Row) (n d : ℤ) (kept : IsBoundedArea area) (d+ : pos 0 <ℤ d) (held : HoldsRowAt volume row n d) where
  abbrev x : ℤ
  x = value_at row.x row.vx n d

  abbrev y : ℤ
  y = value_at row.y row.vy n d

  -- how far it is from the position to a corner
  abbrev u : ℕ → ℤ
  u i = d *ℤ (corner area.corners i).0 -ℤ x

  abbrev v : ℕ → ℤ
  v i = d *ℤ (corner area.corners i).1 -ℤ y

  none_beside_in_x : AreWestOrEast area.corners volume.x → ¬ IsInsideAt area row n d
  none_beside_in_x beside inside = ⊎_elim
      (λ west. none_beyond area.corners (pos 1) (pos 0) x y d (record {
        some = omega (arith, kept.some);
        positive = d+;
        left = inside.left;
        behind = λ i below. below_0 (u i) _ (along_x (u i) (v i)).0 (beyond_more (corner area.corners i).0 volume.x.low x d d+ (west i (pos 0, pos 0) below) held.x.low);
      }))
      (λ east. none_beyond area.corners (neg_ℤ (pos 1)) (pos 0) x y d (record {
        some = omega (arith, kept.some);
        positive = d+;
        left = inside.left;
        behind = λ i below. above_0 (u i) _ (along_x (u i) (v i)).1 (beyond_less (corner area.corners i).0 volume.x.high x d d+ (east i (pos 0, pos 0) below) held.x.high);
      }))
      beside

  none_beside_in_y : AreSouthOrNorth area.corners volume.y → ¬ IsInsideAt area row n d
  none_beside_in_y beside inside = ⊎_elim
      (λ south. none_beyond area.corners (pos 0) (pos 1) x y d (record {
        some = omega (arith, kept.some);
        positive = d+;
        left = inside.left;
        behind = λ i below. below_0 (v i) _ (along_y (u i) (v i)).0 (beyond_more (corner area.corners i).1 volume.y.low y d d+ (south i (pos 0, pos 0) below) held.y.low);
      }))
      (λ north. none_beyond area.corners (pos 0) (neg_ℤ (pos 1)) x y d (record {
        some = omega (arith, kept.some);
        positive = d+;
        left = inside.left;
        behind = λ i below. above_0 (v i) _ (along_y (u i) (v i)).1 (beyond_less (corner area.corners i).1 volume.y.high y d d+ (north i (pos 0, pos 0) below) held.y.high);
      }))
      beside

  none_over : AreHeightsApart area volume.z → ¬ IsInsideAt area row n d
  none_over apart inside = ⊎_elim
      (λ under. let p = higher volume.z.high (pos (6000 * area.bottom)) _ d (omega (arith, lin)) under held.z.high in absurd (omega (arith, lin, p, inside.above)))
      (λ over. let p = lower volume.z.low (pos (6000 * area.top)) _ d (omega (arith, lin)) over held.z.low in absurd (omega (arith, lin, p, inside.below)))
      apart

  pub none_inside : AreBoxesApart area volume → ¬ IsInsideAt area row n d
  none_inside apart inside = ⊎_elim
      (λ heights. none_over heights inside)
      (λ either. ⊎_elim (λ beside. none_beside_in_x beside inside) (λ beside. none_beside_in_y beside inside) either)
      apart
