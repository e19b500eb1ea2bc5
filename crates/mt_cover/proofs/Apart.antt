-- Where two rows lose separation, the extents of each value, made wider, meet.
use Rattle.std.proofs.Common.{◌≡◌, Bool, ⊎_elim, ℤ, pos, negsuc, ◌+ℤ◌, ◌-ℤ◌, ◌*ℤ◌, ◌≤ℤ◌, ◌<ℤ◌, arith, int_div}
use Rattle.std.proofs.lemmas.Int.{ints}
use Rattle.mt_ring.proofs.Ring.{lin, spread}
use Rattle.mt_ring.proofs.Signs.{below_cancel, cases_lt, mul_nonneg, square_nonneg}
use Rattle.mt_base.specs.declared.row.Row.{Row}
use Rattle.mt_base.specs.declared.rules.Rules.{Rules}
use Rattle.mt_base.specs.Bounds.{AreWithinBounds, IsBoundedRow}
use Rattle.mt_base.specs.Loss.{LosesIn, apart_x, apart_y, width}
use Rattle.mt_cover.specs.declared.layer.Layer.{Layer}
use Rattle.mt_cover.specs.declared.bounding_box.BoundingBox.{BoundingBox}
use Rattle.mt_cover.specs.declared.bounding_box.Extent.{Extent}
use Rattle.mt_cover.specs.Box.{half, wider}

-- an extent holds a value at the start and at the end of a second
pub record Spans (e : Extent) (z gain : ℤ) : Type 0 where
  pub low : e.low ≤ℤ z
  pub low_end : e.low ≤ℤ (z +ℤ gain)
  pub high : z ≤ℤ e.high
  pub high_end : (z +ℤ gain) ≤ℤ e.high

-- heights hold those of a row at the start and at the end of its second, with the vertical margin
pub record Rises (layer : Layer) (row : Row) : Type 0 where
  pub low : layer.low ≤ℤ (row.z -ℤ row.w)
  pub low_end : layer.low ≤ℤ ((row.z -ℤ row.w) +ℤ (row.vz -ℤ row.gw))
  pub high : (row.z +ℤ row.w) ≤ℤ layer.high
  pub high_end : ((row.z +ℤ row.w) +ℤ (row.vz +ℤ row.gw)) ≤ℤ layer.high

-- a box holds a row
pub record Holds (a : BoundingBox) (row : Row) : Type 0 where
  pub x : Spans a.x row.x row.vx
  pub y : Spans a.y row.y row.vy
  pub margin : (row.r +ℤ row.gr) ≤ℤ a.margin
  pub heights : Rises a.layer row

-- two extents are none of them turned round, and meet
pub record Meet (a b : Extent) : Type 0 where
  pub first : a.low ≤ℤ a.high
  pub second : b.low ≤ℤ b.high
  pub left : a.low ≤ℤ b.high
  pub right : b.low ≤ℤ a.high

-- a value at an instant is at least what it is at both ends of the second, and at most
pub not_below : (l z v n d : ℤ) → l ≤ℤ z → l ≤ℤ (z +ℤ v) → pos 0 ≤ℤ n → n <ℤ d → (l *ℤ d) ≤ℤ (z *ℤ d +ℤ v *ℤ n)
not_below l z v n d first last begun within =
    let p = mul_nonneg (z -ℤ l) (d -ℤ n) (omega (arith, lin)) (omega (arith, lin)) in
    let q = mul_nonneg (z +ℤ v -ℤ l) n (omega (arith, lin)) begun in
    omega (arith, lin, simp spread at p, simp spread at q)

pub not_above : (l z v n d : ℤ) → z ≤ℤ l → (z +ℤ v) ≤ℤ l → pos 0 ≤ℤ n → n <ℤ d → (z *ℤ d +ℤ v *ℤ n) ≤ℤ (l *ℤ d)
not_above l z v n d first last begun within =
    let p = mul_nonneg (l -ℤ z) (d -ℤ n) (omega (arith, lin)) (omega (arith, lin)) in
    let q = mul_nonneg (l -ℤ z -ℤ v) n (omega (arith, lin)) begun in
    omega (arith, lin, simp spread at p, simp spread at q)

-- of a sum of squares below the square of w, each part is below w in size
part_below : (u v w : ℤ) → pos 0 ≤ℤ w → (u *ℤ u +ℤ v *ℤ v) <ℤ (w *ℤ w) → u <ℤ w
part_below u v w w_nonneg less = ⊎_elim
    (λ h. h)
    (λ h. let p = mul_nonneg (u -ℤ w) (u +ℤ w) (omega (arith, lin)) (omega (arith, lin)) in
    let q = square_nonneg v in
    absurd (omega (arith, lin, simp spread at p, q, less)))
    (cases_lt u w)

-- what is apart by less than both margins meets
meets : (l h m n p q w d : ℤ) → pos 0 <ℤ d → (l *ℤ d) ≤ℤ p → q ≤ℤ (h *ℤ d) → (p -ℤ q) <ℤ w → w ≤ℤ ((m +ℤ n) *ℤ d) → (l -ℤ m) ≤ℤ (h +ℤ n)
meets l h m n p q w d some low high less enough =
    let below : (d *ℤ (l -ℤ m -ℤ h -ℤ n)) <ℤ pos 0 =
    simp spread (omega (arith, lin, low, high, simp spread at enough)) in
    let g = below_cancel d (l -ℤ m -ℤ h -ℤ n) some below in
    omega (arith, lin)

-- the first extent's upper end against the second one's lower end
sides : (e f : Extent) (z v y u m n w dd nn : ℤ) → Spans e z v → Spans f y u → pos 0 ≤ℤ nn → nn <ℤ dd → w ≤ℤ ((m +ℤ n) *ℤ dd)
    → ((y *ℤ dd +ℤ u *ℤ nn) -ℤ (z *ℤ dd +ℤ v *ℤ nn)) <ℤ w → (wider f n).low ≤ℤ (wider e m).high
sides e f z v y u m n w dd nn a b begun within enough less =
    meets f.low e.high n m (y *ℤ dd +ℤ u *ℤ nn) (z *ℤ dd +ℤ v *ℤ nn) w dd (omega (arith, lin)) (not_below f.low y u nn dd b.low b.low_end begun within)
    (not_above e.high z v nn dd a.high a.high_end begun within) less (simp spread (omega (arith, lin, simp spread at enough)))

-- a square is that of the other difference too; a sum is that of the other order
turned : (q p : ℤ) → (q -ℤ p) *ℤ (q -ℤ p) ≡ (p -ℤ q) *ℤ (p -ℤ q)
turned q p = simp spread (omega (arith, lin))

other_way : (a b c : ℤ) → (a +ℤ b) <ℤ c → (b +ℤ a) <ℤ c
other_way a b c h = omega (arith, lin)

-- both extents of one value
both_sides : (e f : Extent) (z v y u m n w dd nn o : ℤ) → Spans e z v → Spans f y u → pos 0 ≤ℤ nn → nn <ℤ dd → pos 0 ≤ℤ w → w ≤ℤ ((m +ℤ n) *ℤ dd) → pos 0 ≤ℤ m → pos 0 ≤ℤ n
    → (((y *ℤ dd +ℤ u *ℤ nn) -ℤ (z *ℤ dd +ℤ v *ℤ nn)) *ℤ ((y *ℤ dd +ℤ u *ℤ nn) -ℤ (z *ℤ dd +ℤ v *ℤ nn)) +ℤ o *ℤ o) <ℤ (w *ℤ w) → Meet (wider e m) (wider f n)
both_sides e f z v y u m n w dd nn o a b begun within w_nonneg enough m_nonneg n_nonneg less =
    let p = (y *ℤ dd +ℤ u *ℤ nn) in
    let q = (z *ℤ dd +ℤ v *ℤ nn) in
    record {
      first = omega (arith, lin, a.low, a.high);
      second = omega (arith, lin, b.low, b.high);
      left = sides f e y u z v n m w dd nn b a begun within (simp spread (omega (arith, lin, simp spread at enough)))
          (part_below (q -ℤ p) o w w_nonneg (rw (turned q p) less));
      right = sides e f z v y u m n w dd nn a b begun within enough (part_below (p -ℤ q) o w w_nonneg less);
    }

-- the minimum with both margins, over a second
half_of : (z : ℤ) → pos 1 ≤ℤ z → z ≤ℤ (int_div (z +ℤ pos 1) (pos 2) +ℤ int_div (z +ℤ pos 1) (pos 2))
half_of (pos n) least = omega (arith, ints)
half_of (negsuc n) least = absurd (omega (arith, ints))

half_is : (rules : Rules) → pos 1 ≤ℤ rules.sh → rules.sh ≤ℤ (half rules +ℤ half rules)
half_is rules least = half_of rules.sh least

width_below : (s r g t h m n k nn dd : ℤ) → (r +ℤ g) ≤ℤ m → (t +ℤ h) ≤ℤ n → s ≤ℤ (k +ℤ k) → pos 0 ≤ℤ g → pos 0 ≤ℤ h → pos 0 ≤ℤ nn → nn <ℤ dd
    → (s *ℤ dd +ℤ (r *ℤ dd +ℤ g *ℤ nn) +ℤ (t *ℤ dd +ℤ h *ℤ nn)) ≤ℤ (((m +ℤ k) +ℤ (n +ℤ k)) *ℤ dd)
width_below s r g t h m n k nn dd a b c g_nonneg h_nonneg begun within =
    let p = mul_nonneg (m -ℤ r -ℤ g) dd (omega (arith, lin)) (omega (arith, lin)) in
    let q = mul_nonneg (n -ℤ t -ℤ h) dd (omega (arith, lin)) (omega (arith, lin)) in
    let o = mul_nonneg (k +ℤ k -ℤ s) dd (omega (arith, lin)) (omega (arith, lin)) in
    let u = mul_nonneg g (dd -ℤ nn) g_nonneg (omega (arith, lin)) in
    let v = mul_nonneg h (dd -ℤ nn) h_nonneg (omega (arith, lin)) in
    simp spread (omega (arith, lin, simp spread at p, simp spread at q, simp spread at o, simp spread at u, simp spread at v))

width_nonneg : (s r g t h nn dd : ℤ) → pos 0 ≤ℤ s → pos 0 ≤ℤ r → pos 0 ≤ℤ t → pos 0 ≤ℤ g → pos 0 ≤ℤ h → pos 0 ≤ℤ nn → nn <ℤ dd
    → pos 0 ≤ℤ (s *ℤ dd +ℤ (r *ℤ dd +ℤ g *ℤ nn) +ℤ (t *ℤ dd +ℤ h *ℤ nn))
width_nonneg s r g t h nn dd s_nonneg r_nonneg t_nonneg g_nonneg h_nonneg begun within =
    let a = mul_nonneg s dd s_nonneg (omega (arith, lin)) in
    let b = mul_nonneg r dd r_nonneg (omega (arith, lin)) in
    let c = mul_nonneg t dd t_nonneg (omega (arith, lin)) in
    let d = mul_nonneg g nn g_nonneg begun in
    let e = mul_nonneg h nn h_nonneg begun in
    omega (arith, lin)

-- Two boxes, one with each row: made wider, they meet in x and in y.
pub record BoxesMeet (rules : Rules) (a b : BoundingBox) : Type 0 where
  pub x : Meet (wider a.x (a.margin +ℤ half rules)) (wider b.x (b.margin +ℤ half rules))
  pub y : Meet (wider a.y (a.margin +ℤ half rules)) (wider b.y (b.margin +ℤ half rules))

pub boxes_meet : (rules : Rules) (pa pb : Bool) (a b : BoundingBox) (left right : Row) → AreWithinBounds rules → IsBoundedRow left → IsBoundedRow right → Holds a left → Holds b right
    → LosesIn rules pa pb left right → BoxesMeet rules a b
boxes_meet rules pa pb a b left right rules_kept left_kept right_kept in_a in_b some =
    let s = rules_kept.sh.least in
    let r = left_kept.r.value.least in
    let t = right_kept.r.value.least in
    let g = left_kept.r.growth.least in
    let h = right_kept.r.growth.least in
    let enough = width_below rules.sh left.r left.gr right.r right.gr a.margin b.margin (half rules) some.n some.d in_a.margin in_b.margin (half_is rules s)
    g h some.begun some.within in
    let k = half_is rules s in
    let m : pos 0 ≤ℤ (a.margin +ℤ half rules) = omega (arith, lin, in_a.margin) in
    let n : pos 0 ≤ℤ (b.margin +ℤ half rules) = omega (arith, lin, in_b.margin) in
    let nonneg = width_nonneg rules.sh left.r left.gr right.r right.gr some.n some.d (omega (arith, lin)) r t g h some.begun some.within in
    record {
      x = both_sides a.x b.x left.x left.vx right.x right.vx _ _ (width rules left right some.n some.d) some.d some.n (apart_y left right some.n some.d) in_a.x in_b.x
          some.begun some.within nonneg enough m n some.loss.horizontal;
      y = both_sides a.y b.y left.y left.vy right.y right.vy _ _ (width rules left right some.n some.d) some.d some.n (apart_x left right some.n some.d) in_a.y in_b.y
          some.begun some.within nonneg enough m n (other_way (apart_x left right some.n some.d *ℤ apart_x left right some.n some.d) (apart_y left right some.n some.d *ℤ apart_y left right some.n some.d) _
          some.loss.horizontal);
    }
