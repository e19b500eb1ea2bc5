-- What the code asks of two rows at an instant holds exactly where the rows lose separation there.
use Rattle.std.proofs.Common.{◌≡◌, ◌&&◌, Bool, true, false, ℕ, ◌<◌, ℤ, pos, neg_ℤ, ◌+ℤ◌, ◌-ℤ◌, ◌*ℤ◌, ◌≤ℤ◌, ◌<ℤ◌, ◌↔◌, ◌⊎◌, Option, Some, None, ap₂, arith, refl, true≢false, inl, inr, ⊎_elim}
use Rattle.std.proofs.lemmas.Int.{ints}
use Rattle.std.specs.Option.{option_copied}
use Rattle.std.proofs.Math.Logic.{⊎_map}
use Rattle.mt_ring.proofs.Ring.{lin, spread}
use Rattle.mt_ring.proofs.Signs.{contrary, mul_nonneg, nonneg_cancel, weaken}
use Rattle.mt_base.specs.declared.row.Row.{Row}
use Rattle.mt_base.specs.declared.rules.Rules.{Rules}
use Rattle.mt_base.specs.Instant.{value_at}
use Rattle.mt_base.specs.Loss.{IsNearAt, IsOneAboveAt, LosesAt, LosesIn, apart_x, apart_y, apart_z, fl290, fl410, height, width}
use Rattle.mt_track.specs.Rows.{row_after}
use Rattle.mt_track.proofs.Ranges.{moved}
use Rattle.mt_frac.specs.declared.linear.Linear.{Linear}
use Rattle.mt_frac.specs.declared.quadratic.Quad.{Quad}
use Rattle.mt_frac.specs.Polynomials.{value, line_value}
use Rattle.mt_frac.proofs.Openness.{IsOpen, value_is_open, line_is_open, both_open, either_open, same_open}
use Rattle.mt_pair.specs.declared.approach.Approach.{Approach}
use Rattle.mt_pair.specs.declared.approach.High.{High}
use Rattle.mt_frac.specs.Instants.{HoldsIn}
use Rattle.mt_pair.specs.Private.Below.{AreBelowAt, AreBelowWithAt}
use Rattle.mt_pair.specs.Private.Cases.{IsHighLoss, IsHighOf, IsLoss}
use Rattle.mt_pair.specs.Gap.{above_of, gap_of, excess_of}
use Rattle.mt_pair.specs.High.{LosesAbove, level_of}
use Rattle.mt_pair.specs.Private.High.{AreFar, AreLow, IsLow, IsDuring, StaysAbove}

pub are_open : (gap : Quad) (over under : Linear) → IsOpen (AreBelowAt gap over under)
are_open gap over under =
    let g = λ (n d : ℤ). value gap.a gap.b gap.c n d <ℤ pos 0 in
    let l = λ (n d : ℤ). line_value over.b over.c n d <ℤ pos 0 in
    let m = λ (n d : ℤ). line_value under.b under.c n d <ℤ pos 0 in
    same_open (λ n d. g n d × (l n d × m n d)) (AreBelowAt gap over under)
    (λ n d. ((λ h. record { gap_is = h.0; over_is = h.1.0; under_is = h.1.1 }), (λ h. (h.gap_is, (h.over_is, h.under_is)))))
    (both_open g (λ n d. l n d × m n d) (value_is_open gap.a gap.b gap.c) (both_open l m (line_is_open over.b over.c) (line_is_open under.b under.c)))

-- the square of the distance less that of the minimum, from the values at the start and the gains
square_gap : (x y s u v g n d : ℤ) → value (u *ℤ u +ℤ v *ℤ v -ℤ g *ℤ g) (pos 2 *ℤ (x *ℤ u +ℤ y *ℤ v -ℤ s *ℤ g)) (x *ℤ x +ℤ y *ℤ y -ℤ s *ℤ s) n d
    ≡ (x *ℤ d +ℤ u *ℤ n) *ℤ (x *ℤ d +ℤ u *ℤ n) +ℤ (y *ℤ d +ℤ v *ℤ n) *ℤ (y *ℤ d +ℤ v *ℤ n) -ℤ (s *ℤ d +ℤ g *ℤ n) *ℤ (s *ℤ d +ℤ g *ℤ n)
square_gap x y s u v g n d = simp spread (omega (arith, lin))

apart_is : (x u y v n d : ℤ) → (y *ℤ d +ℤ v *ℤ n) -ℤ (x *ℤ d +ℤ u *ℤ n) ≡ (y -ℤ x) *ℤ d +ℤ (v -ℤ u) *ℤ n
apart_is x u y v n d = simp spread (omega (arith, lin))

width_is : (s r g t h n d : ℤ) → s *ℤ d +ℤ (r *ℤ d +ℤ g *ℤ n) +ℤ (t *ℤ d +ℤ h *ℤ n) ≡ (s +ℤ r +ℤ t) *ℤ d +ℤ (g +ℤ h) *ℤ n
width_is s r g t h n d = simp spread (omega (arith, lin))

over_line : (z u y v s w g t h n d : ℤ) → line_value (v -ℤ u -ℤ g -ℤ h) (y -ℤ z -ℤ s -ℤ w -ℤ t) n d
    ≡ ((y *ℤ d +ℤ v *ℤ n) -ℤ (z *ℤ d +ℤ u *ℤ n)) -ℤ (s *ℤ d +ℤ (w *ℤ d +ℤ g *ℤ n) +ℤ (t *ℤ d +ℤ h *ℤ n))
over_line z u y v s w g t h n d = simp spread (omega (arith, lin))

under_line : (z u y v s w g t h n d : ℤ) → line_value (u -ℤ v -ℤ h -ℤ g) (z -ℤ y -ℤ s -ℤ t -ℤ w) n d
    ≡ neg_ℤ ((y *ℤ d +ℤ v *ℤ n) -ℤ (z *ℤ d +ℤ u *ℤ n)) -ℤ (s *ℤ d +ℤ (w *ℤ d +ℤ g *ℤ n) +ℤ (t *ℤ d +ℤ h *ℤ n))
under_line z u y v s w g t h n d = simp spread (omega (arith, lin))

-- what is below 0 as a difference is an order
below_is : (l p q : ℤ) → l ≡ p -ℤ q → (l <ℤ pos 0) ↔ (p <ℤ q)
below_is l p q e = ((λ h. omega (arith, lin)), (λ h. omega (arith, lin)))

gap_is : (rules : Rules) (a b : Row) (n d : ℤ) → value (gap_of rules a b).a (gap_of rules a b).b (gap_of rules a b).c n d
    ≡ (apart_x a b n d *ℤ apart_x a b n d +ℤ apart_y a b n d *ℤ apart_y a b n d) -ℤ width rules a b n d *ℤ width rules a b n d
gap_is rules a b n d = rw (apart_is a.x a.vx b.x b.vx n d, apart_is a.y a.vy b.y b.vy n d, width_is rules.sh a.r a.gr b.r b.gr n d)
    (square_gap (b.x -ℤ a.x) (b.y -ℤ a.y) (rules.sh +ℤ a.r +ℤ b.r) (b.vx -ℤ a.vx) (b.vy -ℤ a.vy) (a.gr +ℤ b.gr) n d)

-- ---- one minimum

-- the horizontal distance is below its minimum, and the vertical one below that
pub by_minimum : (rules : Rules) (least : ℤ) (a b : Row) (n d : ℤ) → (apart_x a b n d *ℤ apart_x a b n d +ℤ apart_y a b n d *ℤ apart_y a b n d)
    <ℤ (width rules a b n d *ℤ width rules a b n d) → IsNearAt least a b n d → AreBelowAt (gap_of rules a b) (excess_of least a b) (excess_of least b a) n d
by_minimum rules least a b n d horizontal near = record {
  gap_is = (below_is _ _ _ (gap_is rules a b n d)).1 horizontal;
  over_is = (below_is _ _ _ (over_line a.z a.vz b.z b.vz least a.w a.gw b.w b.gw n d)).1 near.below;
  under_is = (below_is _ _ _ (under_line a.z a.vz b.z b.vz least a.w a.gw b.w b.gw n d)).1 near.above;
}

pub apart_from : (rules : Rules) (least : ℤ) (a b : Row) (n d : ℤ) → AreBelowAt (gap_of rules a b) (excess_of least a b) (excess_of least b a) n d
    → (apart_x a b n d *ℤ apart_x a b n d +ℤ apart_y a b n d *ℤ apart_y a b n d) <ℤ (width rules a b n d *ℤ width rules a b n d)
apart_from rules least a b n d are = (below_is _ _ _ (gap_is rules a b n d)).0 are.gap_is

pub near_from : (rules : Rules) (least : ℤ) (a b : Row) (n d : ℤ) → AreBelowAt (gap_of rules a b) (excess_of least a b) (excess_of least b a) n d
    → IsNearAt least a b n d
near_from rules least a b n d are = record {
  above = (below_is _ _ _ (under_line a.z a.vz b.z b.vz least a.w a.gw b.w b.gw n d)).0 are.under_is;
  below = (below_is _ _ _ (over_line a.z a.vz b.z b.vz least a.w a.gw b.w b.gw n d)).0 are.over_is;
}

-- ---- a level

above_line : (level z v n d : ℤ) → line_value (neg_ℤ v) (level -ℤ z) n d ≡ level *ℤ d -ℤ (z *ℤ d +ℤ v *ℤ n)
above_line level z v n d = simp spread (omega (arith, lin))

pub is_above : (level : ℤ) (a : Row) (n d : ℤ) → (line_value (above_of level a).b (above_of level a).c n d <ℤ pos 0) ↔ ((level *ℤ d) <ℤ value_at a.z a.vz n d)
is_above level a n d = below_is _ _ _ (above_line level a.z a.vz n d)

-- a line that is at least 0 at both ends of some seconds is so between
between : (b c s n d : ℤ) → pos 0 ≤ℤ c → pos 0 ≤ℤ (b *ℤ s +ℤ c) → pos 0 <ℤ s → pos 0 ≤ℤ n → n <ℤ (s *ℤ d) → pos 0 ≤ℤ line_value b c n d
between b c s n d at_start at_end s+ begun ahead =
    let p = mul_nonneg c (s *ℤ d -ℤ n) at_start (omega (arith, lin)) in
    let q = mul_nonneg (b *ℤ s +ℤ c) n at_end begun in
    nonneg_cancel s (line_value b c n d) s+ (simp spread (omega (arith, lin, simp spread at p, simp spread at q)))

pub stays : (line : Linear) (seconds : ℕ) (n d : ℤ) → 0 < seconds → StaysAbove line seconds → IsDuring seconds n d → line_value line.b line.c n d <ℤ pos 0 → ⊥
stays line seconds n d some above during = contrary _
    (between line.b line.c (pos seconds) n d above.start above.end (omega (arith, ints)) during.begun during.ahead)

-- so a row that is not above a level at both ends is not so between
stays_low : (level : ℤ) (a : Row) (seconds : ℕ) (n d : ℤ) → 0 < seconds → IsLow level a seconds → IsDuring seconds n d
    → ((level *ℤ d) <ℤ value_at a.z a.vz n d) → ⊥
stays_low level a seconds n d some low during above =
    let start : pos 0 ≤ℤ (level -ℤ a.z) = omega (arith, lin, low.start) in
    let end : pos 0 ≤ℤ (neg_ℤ a.vz *ℤ pos seconds +ℤ (level -ℤ a.z)) = let e = low.end in simp spread (omega (arith, lin, e)) in
    stays (above_of level a) seconds n d some (record { start = start; end = end }) during ((is_above level a n d).1 above)

-- ---- the conditions of the greater minimum joined

-- flight level 410 is above 290
lower : (z d : ℤ) → pos 0 <ℤ d → (fl410 *ℤ d) <ℤ z → (fl290 *ℤ d) <ℤ z
lower z d d+ above = omega (arith, lin)

joined : (both : Bool) (rules : Rules) (a b : Row) (n d : ℤ) → pos 0 <ℤ d
    → (IsNearAt rules.sv a b n d ⊎ (IsNearAt rules.sv2 a b n d × IsOneAboveAt fl410 a b n d)
    ⊎ (IsNearAt rules.sv2 a b n d × (both ≡ false) × IsOneAboveAt fl290 a b n d))
    ↔ (IsNearAt rules.sv a b n d ⊎ (IsNearAt rules.sv2 a b n d × IsOneAboveAt (level_of both) a b n d))
joined true rules a b n d d+ = (
  (λ some. ⊎_elim inl (λ high. ⊎_elim inr (λ none. absurd (true≢false none.1)) high) some),
  (λ some. ⊎_elim inl (λ high. inr (inl high)) some),
)
joined false rules a b n d d+ = (
  (λ some. ⊎_elim inl (λ high. ⊎_elim (λ more. inr (more.0, ⊎_map (lower _ d d+) (lower _ d d+) more.1)) (λ most. inr (most.0, most.2)) high) some),
  (λ some. ⊎_elim inl (λ high. inr (inr (high.0, refl, high.1))) some),
)

pub loses_above : (rules : Rules) (pa pb : Bool) (a b : Row) (n d : ℤ) → pos 0 <ℤ d
    → LosesAt rules pa pb a b n d ↔ LosesAbove rules (level_of (pa && pb)) a b n d
loses_above rules pa pb a b n d d+ =
    let same = joined (pa && pb) rules a b n d d+ in (
      (λ loss. record { horizontal = loss.horizontal; vertical = same.0 loss.vertical }),
      (λ loss. record { horizontal = loss.horizontal; vertical = same.1 loss.vertical }),
    )

-- ---- later seconds

apart_x_moved : (a b : Row) (k : ℕ) (n d : ℤ) → apart_x (row_after a k) (row_after b k) n d ≡ apart_x a b (n +ℤ pos k *ℤ d) d
apart_x_moved a b k n d = ap₂ (λ (p q : ℤ). p -ℤ q) (moved b.x b.vx (pos k) n d) (moved a.x a.vx (pos k) n d)

apart_y_moved : (a b : Row) (k : ℕ) (n d : ℤ) → apart_y (row_after a k) (row_after b k) n d ≡ apart_y a b (n +ℤ pos k *ℤ d) d
apart_y_moved a b k n d = ap₂ (λ (p q : ℤ). p -ℤ q) (moved b.y b.vy (pos k) n d) (moved a.y a.vy (pos k) n d)

apart_z_moved : (a b : Row) (k : ℕ) (n d : ℤ) → apart_z (row_after a k) (row_after b k) n d ≡ apart_z a b (n +ℤ pos k *ℤ d) d
apart_z_moved a b k n d = ap₂ (λ (p q : ℤ). p -ℤ q) (moved b.z b.vz (pos k) n d) (moved a.z a.vz (pos k) n d)

width_moved : (rules : Rules) (a b : Row) (k : ℕ) (n d : ℤ) → width rules (row_after a k) (row_after b k) n d ≡ width rules a b (n +ℤ pos k *ℤ d) d
width_moved rules a b k n d = ap₂ (λ (p q : ℤ). rules.sh *ℤ d +ℤ p +ℤ q) (moved a.r a.gr (pos k) n d) (moved b.r b.gr (pos k) n d)

height_moved : (least : ℤ) (a b : Row) (k : ℕ) (n d : ℤ) → height least (row_after a k) (row_after b k) n d ≡ height least a b (n +ℤ pos k *ℤ d) d
height_moved least a b k n d = ap₂ (λ (p q : ℤ). least *ℤ d +ℤ p +ℤ q) (moved a.w a.gw (pos k) n d) (moved b.w b.gw (pos k) n d)

near_moved : (least : ℤ) (a b : Row) (k : ℕ) (n d : ℤ) → IsNearAt least (row_after a k) (row_after b k) n d ↔ IsNearAt least a b (n +ℤ pos k *ℤ d) d
near_moved least a b k n d =
    let z = apart_z_moved a b k n d in
    let h = height_moved least a b k n d in (
      (λ near. record { above = rw (z, h) at near.above; below = rw (z, h) at near.below }),
      (λ near. record { above = rw (z, h) near.above; below = rw (z, h) near.below }),
    )

one_above_moved : (level : ℤ) (a b : Row) (k : ℕ) (n d : ℤ) → IsOneAboveAt level (row_after a k) (row_after b k) n d ↔ IsOneAboveAt level a b (n +ℤ pos k *ℤ d) d
one_above_moved level a b k n d =
    let left = moved a.z a.vz (pos k) n d in
    let right = moved b.z b.vz (pos k) n d in (
      (λ some. ⊎_map (λ h. rw left at h) (λ h. rw right at h) some),
      (λ some. ⊎_map (λ h. rw left h) (λ h. rw right h) some),
    )

pub loses_moved : (rules : Rules) (level : ℤ) (a b : Row) (k : ℕ) (n d : ℤ) → LosesAbove rules level (row_after a k) (row_after b k) n d
    ↔ LosesAbove rules level a b (n +ℤ pos k *ℤ d) d
loses_moved rules level a b k n d =
    let x = apart_x_moved a b k n d in
    let y = apart_y_moved a b k n d in
    let w = width_moved rules a b k n d in
    let near = near_moved rules.sv a b k n d in
    let far = near_moved rules.sv2 a b k n d in
    let above = one_above_moved level a b k n d in (
      (λ loss. record { horizontal = rw (x, y, w) at loss.horizontal; vertical = ⊎_map near.0 (λ high. (far.0 high.0, above.0 high.1)) loss.vertical }),
      (λ loss. record { horizontal = rw (x, y, w) loss.horizontal; vertical = ⊎_map near.1 (λ high. (far.1 high.0, above.1 high.1)) loss.vertical }),
    )

-- ---- the cases of the code

pub loses_by : (rules : Rules) (level : ℤ) (a b : Row) (seconds : ℕ) (gap : Quad) (over under : Linear) (high : Option High) (n d : ℤ) → 0 < seconds
    → gap ≡ gap_of rules a b → over ≡ excess_of rules.sv a b → under ≡ excess_of rules.sv b a → IsHighOf rules level a b seconds high
    → IsDuring seconds n d → LosesAbove rules level a b n d ↔ (AreBelowAt gap over under n d ⊎ IsHighLoss gap high n d)
loses_by rules level a b seconds gap over under None n d some g o u low during = rw (g, o, u) (
  (λ loss. ⊎_elim
      (λ near. inl (by_minimum rules rules.sv a b n d loss.horizontal near))
      (λ high. absurd (⊎_elim (stays_low level a seconds n d some low.0 during) (stays_low level b seconds n d some low.1 during) high.1))
      loss.vertical),
  (λ are. ⊎_elim (λ near. record { horizontal = apart_from rules rules.sv a b n d near; vertical = inl (near_from rules rules.sv a b n d near) }) absurd are),
)
loses_by rules level a b seconds gap over under (Some high) n d some g o u is during = rw (g, o, u, is.over, is.under, is.left, is.right) (
  (λ loss. ⊎_map
      (λ near. by_minimum rules rules.sv a b n d loss.horizontal near)
      (λ far.
      let are = by_minimum rules rules.sv2 a b n d loss.horizontal far.0 in
      ⊎_map (λ above. (are, (is_above level a n d).1 above)) (λ above. (are, (is_above level b n d).1 above)) far.1)
      loss.vertical),
  (λ some. ⊎_elim
      (λ near. record { horizontal = apart_from rules rules.sv a b n d near; vertical = inl (near_from rules rules.sv a b n d near) })
      (λ far. ⊎_elim
      (λ left. record {
        horizontal = apart_from rules rules.sv2 a b n d left.0;
        vertical = inr (near_from rules rules.sv2 a b n d left.0, inl ((is_above level a n d).0 left.1));
      })
      (λ right. record {
        horizontal = apart_from rules rules.sv2 a b n d right.0;
        vertical = inr (near_from rules rules.sv2 a b n d right.0, inr ((is_above level b n d).0 right.1));
      })
      far)
      some),
)

-- that there is a loss is open
are_open_with : (gap : Quad) (over under held : Linear) → IsOpen (AreBelowWithAt gap over under held)
are_open_with gap over under held = both_open (AreBelowAt gap over under) (λ n d. line_value held.b held.c n d <ℤ pos 0) (are_open gap over under) (line_is_open held.b held.c)

high_is_open : (gap : Quad) (high : Option High) → IsOpen (IsHighLoss gap high)
high_is_open gap None = record { near = λ m e x y none. absurd none }
high_is_open gap (Some high) = either_open (AreBelowWithAt gap high.over high.under high.left) (AreBelowWithAt gap high.over high.under high.right)
    (are_open_with gap high.over high.under high.left) (are_open_with gap high.over high.under high.right)

pub loss_is_open : (x : Approach) → IsOpen (IsLoss x)
loss_is_open x = either_open (AreBelowAt x.gap x.over x.under) (IsHighLoss x.gap (option_copied x.high)) (are_open x.gap x.over x.under) (high_is_open x.gap (option_copied x.high))

-- an instant of a second before the `seconds`-th is one of the first `seconds`
during_of : (seconds k : ℕ) (n d : ℤ) → k < seconds → pos 0 ≤ℤ n → n <ℤ d → IsDuring seconds (n +ℤ pos k *ℤ d) d
during_of seconds k n d below begun within =
    let d+ : pos 0 <ℤ d = omega (arith, lin) in
    let p = mul_nonneg (pos k) d (omega (arith, ints)) (weaken d+) in
    let q = mul_nonneg (pos seconds -ℤ pos k -ℤ pos 1) d (omega (arith, ints)) (weaken d+) in
    record { positive = d+; begun = omega (arith, lin, p); ahead = omega (arith, lin, simp spread at q) }

-- In a second after two rows with the same gains: they lose separation there exactly where the cases say so at an instant of it.
loses_in_cases : (rules : Rules) (pa pb : Bool) (a b : Row) (seconds : ℕ) (gap : Quad) (over under : Linear) (high : Option High) → 0 < seconds → gap ≡ gap_of rules a b
    → over ≡ excess_of rules.sv a b → under ≡ excess_of rules.sv b a → IsHighOf rules (level_of (pa && pb)) a b seconds high
    → (k : ℕ) → k < seconds → HoldsIn (λ n d. AreBelowAt gap over under n d ⊎ IsHighLoss gap high n d) k ↔ LosesIn rules pa pb (row_after a k) (row_after b k)
loses_in_cases rules pa pb a b seconds gap over under of_high some g o u high k below = (
  (λ at.
      let at_k = at.n +ℤ pos k *ℤ at.d in
      let during = during_of seconds k at.n at.d below at.begun at.within in
      let by = loses_by rules (level_of (pa && pb)) a b seconds gap over under of_high at_k at.d some g o u high during in
      record {
        n = at.n;
        d = at.d;
        begun = at.begun;
        within = at.within;
        loss = (loses_above rules pa pb (row_after a k) (row_after b k) at.n at.d during.positive).1
            ((loses_moved rules (level_of (pa && pb)) a b k at.n at.d).1 (by.1 at.holds));
      }),
  (λ at.
      let at_k = at.n +ℤ pos k *ℤ at.d in
      let during = during_of seconds k at.n at.d below at.begun at.within in
      let by = loses_by rules (level_of (pa && pb)) a b seconds gap over under of_high at_k at.d some g o u high during in
      record {
        n = at.n;
        d = at.d;
        begun = at.begun;
        within = at.within;
        holds = by.0 ((loses_moved rules (level_of (pa && pb)) a b k at.n at.d).0
            ((loses_above rules pa pb (row_after a k) (row_after b k) at.n at.d during.positive).0 at.loss));
      }),
)

pub loses_in : (rules : Rules) (pa pb : Bool) (a b : Row) (seconds : ℕ) (x : Approach) → 0 < seconds → x.gap ≡ gap_of rules a b
    → x.over ≡ excess_of rules.sv a b → x.under ≡ excess_of rules.sv b a → IsHighOf rules (level_of (pa && pb)) a b seconds (option_copied x.high)
    → (k : ℕ) → k < seconds → HoldsIn (IsLoss x) k ↔ LosesIn rules pa pb (row_after a k) (row_after b k)
loses_in rules pa pb a b seconds x some g o u high k below = loses_in_cases rules pa pb a b seconds x.gap x.over x.under (option_copied x.high) some g o u high k below

-- the same by the lesser minimum alone, where neither is high
pub loses_low : (rules : Rules) (pa pb : Bool) (a b : Row) (seconds : ℕ) → 0 < seconds → AreLow (level_of (pa && pb)) a b seconds → (k : ℕ) → k < seconds
    → HoldsIn (AreBelowAt (gap_of rules a b) (excess_of rules.sv a b) (excess_of rules.sv b a)) k ↔ LosesIn rules pa pb (row_after a k) (row_after b k)
loses_low rules pa pb a b seconds some low k below =
    let same = loses_in_cases rules pa pb a b seconds (gap_of rules a b) (excess_of rules.sv a b) (excess_of rules.sv b a) None some refl refl refl low k below in (
      (λ at. same.0 (record { n = at.n; d = at.d; begun = at.begun; within = at.within; holds = inl at.holds })),
      (λ loss.
          let at = same.1 loss in
          record { n = at.n; d = at.d; begun = at.begun; within = at.within; holds = ⊎_elim (λ near. near) absurd at.holds }),
    )

-- ---- rows that are too far apart vertically

not_near : (rules : Rules) (a b : Row) (seconds : ℕ) (n d : ℤ) → 0 < seconds → AreFar rules a b seconds → IsDuring seconds n d → ¬ IsNearAt rules.sv a b n d
not_near rules a b seconds n d some far during near = ⊎_elim
    (λ over. stays (excess_of rules.sv a b) seconds n d some over during ((below_is _ _ _ (over_line a.z a.vz b.z b.vz rules.sv a.w a.gw b.w b.gw n d)).1 near.below))
    (λ under. stays (excess_of rules.sv b a) seconds n d some under during ((below_is _ _ _ (under_line a.z a.vz b.z b.vz rules.sv a.w a.gw b.w b.gw n d)).1 near.above))
    far

pub none_lose : (rules : Rules) (pa pb : Bool) (a b : Row) (seconds : ℕ) → 0 < seconds → AreFar rules a b seconds → AreLow (level_of (pa && pb)) a b seconds
    → (k : ℕ) → k < seconds → ¬ LosesIn rules pa pb (row_after a k) (row_after b k)
none_lose rules pa pb a b seconds some far low k below at =
    let level = level_of (pa && pb) in
    let during = during_of seconds k at.n at.d below at.begun at.within in
    let loss = (loses_moved rules level a b k at.n at.d).0 ((loses_above rules pa pb (row_after a k) (row_after b k) at.n at.d during.positive).0 at.loss) in
    ⊎_elim (not_near rules a b seconds _ _ some far during)
    (λ high. ⊎_elim (stays_low level a seconds _ _ some low.0 during) (stays_low level b seconds _ _ some low.1 during) high.1)
    loss.vertical
