-- The bounds of the rows of a leg.
use Rattle.std.proofs.Common.{◌≡◌, ℕ, zero, suc, ◌*◌, ◌≤◌, ℤ, pos, negsuc, neg_ℤ, ◌+ℤ◌, ◌-ℤ◌, ◌*ℤ◌, ◌≤ℤ◌, unsigned_abs, All, sym, ap, ◌∙◌, subst, arith, mul-le-mul, le_refl}
use Rattle.std.proofs.lemmas.Int.{clamps, ints}
use Rattle.std.proofs.lemmas.List.Elements.{All-cons}
use Rattle.std.specs.Int.{int_min, int_max}
use Rattle.mt_base.specs.declared.place.Leg.{Leg}
use Rattle.mt_base.specs.declared.place.Place.{Place}
use Rattle.mt_base.specs.declared.place.Point.{Point}
use Rattle.mt_base.specs.declared.rules.Rules.{Rules}
use Rattle.mt_base.specs.Bounds.{AreWithinBounds, IsBoundedBand, IsBoundedRow, IsHeight, IsInPlane, IsKeptOver, IsWithin}
use Rattle.mt_base.specs.Predictor.{Manner, band_at, climb_from, end_after, end_of, gain_with, leg_to, margin_at, margin_gain, row_on, rows_on, rows_to}
use Rattle.mt_predict.specs.Manners.{IsBoundedManner, IsFlownPlace}
use Rattle.mt_predict.specs.Private.Manners.{IsAcross, IsBoundedLeg}
use Rattle.mt_predict.proofs.Bounds.{band_kept}
use Rattle.mt_predict.proofs.Remains.{between, east_size, gain_remain, gain_size, north_size, remain, remain_none, remain_whole}

abbrev plane : ℤ → Type 0
plane x = IsWithin (neg_ℤ (pos 3686400)) (pos 3686400) x

-- a leg to a fix, from a place of the plane, at 1,000 knots at most
record IsLegTo (leg : Leg) (fix : Point) : Type 0 where
  pub end : IsInPlane fix.x fix.y
  pub begin : IsInPlane (fix.x -ℤ leg.dx) (fix.y -ℤ leg.dy)
  pub east : unsigned_abs leg.dx ≤ leg.seconds * 1000
  pub north : unsigned_abs leg.dy ≤ leg.seconds * 1000

-- a place of the leg with n seconds left
record IsAboard (m : Manner) (leg : Leg) (fix : Point) (n : ℕ) (a : Place) : Type 0 where
  pub east : a.x +ℤ remain leg.dx leg.seconds n ≡ fix.x
  pub north : a.y +ℤ remain leg.dy leg.seconds n ≡ fix.y
  pub height : IsHeight a.z
  pub r : IsWithin (pos 0) m.rules.rmax a.r
  pub w : IsWithin (pos 0) m.rules.wmax a.w

-- one direction
once : (x v : ℤ) → x +ℤ v ≡ x +ℤ v *ℤ pos 1
once x v = omega (arith, ints)

sum_assoc : (x y z : ℤ) → (x +ℤ y) +ℤ z ≡ x +ℤ (y +ℤ z)
sum_assoc x y z = omega (arith, ints)

next_on_leg : (x to total : ℤ) (seconds n : ℕ) → x +ℤ remain total seconds (suc n) ≡ to → (x +ℤ gain_with total seconds n) +ℤ remain total seconds n ≡ to
next_on_leg x to total seconds n is =
    sum_assoc x (gain_with total seconds n) (remain total seconds n) ∙ ap (λ (z : ℤ). x +ℤ z) (gain_remain total seconds n) ∙ is

on_leg : (x to total : ℤ) (seconds n : ℕ) → suc n ≤ seconds → plane to → plane (to -ℤ total) → unsigned_abs total ≤ seconds * 1000
    → x +ℤ remain total seconds (suc n) ≡ to
    → IsKeptOver (neg_ℤ (pos 3686400)) (pos 3686400) (neg_ℤ (pos 1000)) (pos 1000) x (gain_with total seconds n) 1
on_leg x to total seconds n within end begin size is = record {
  value = between _ _ x to total seconds (suc n) within (omega arith) end begin is;
  growth = gain_size total seconds n 1000 (omega arith) size;
  end = subst plane (once x (gain_with total seconds n)) (between _ _ (x +ℤ gain_with total seconds n) to total seconds n (omega arith) (omega arith) end begin
      (next_on_leg x to total seconds n is));
}

-- the height
climb_between : (top : ℕ) (z climb descent : ℤ) → top ≤ 3600000 → IsHeight z → IsWithin (pos 1) (pos 10000) climb → IsWithin (pos 1) (pos 10000) descent
    → IsWithin (neg_ℤ (pos 10000)) (pos 10000) (int_max (int_min (pos top -ℤ z) climb) (neg_ℤ descent))
    × IsHeight (z +ℤ int_max (int_min (pos top -ℤ z) climb) (neg_ℤ descent))
climb_between top z climb descent low height up down = (
  record { least = omega (arith, ints, clamps, height, up, down); most = omega (arith, ints, clamps, height, up, down) },
  record { least = omega (arith, ints, clamps, height, up, down); most = omega (arith, ints, clamps, height, up, down) },
)

climb_kept : (m : Manner) (z : ℤ) → IsBoundedManner m → IsHeight z → IsWithin (neg_ℤ (pos 10000)) (pos 10000) (climb_from m z) × IsHeight (z +ℤ climb_from m z)
unfolding climb_from
climb_kept m z kept height = climb_between (6000 * m.level) z (band_at m.bands z).climb (band_at m.bands z).descent (omega (arith, kept.level)) height band.climb band.descent
  where
    band : IsBoundedBand (band_at m.bands z)
    band = band_kept m.bands z kept.bands

-- the margins
growth_kept : (most growth fast v : ℤ) → pos 0 ≤ℤ growth → growth ≤ℤ fast → IsWithin (pos 0) most v
    → IsWithin (pos 0) fast (int_min growth (most -ℤ v)) × IsWithin (pos 0) most (v +ℤ int_min growth (most -ℤ v))
growth_kept most growth fast v least slow kept = (
  record { least = omega (arith, ints, clamps, kept); most = omega (arith, ints, clamps, kept) },
  record { least = omega (arith, ints, clamps, kept); most = omega (arith, ints, clamps, kept) },
)

climbing : (rules : Rules) (w : ℤ) → AreWithinBounds rules → IsWithin (pos 0) rules.wmax w
    → IsKeptOver (pos 0) (pos 600000) (pos 0) (pos 10000) w (int_min rules.gv (rules.wmax -ℤ w)) 1
    × IsWithin (pos 0) rules.wmax (w +ℤ int_min rules.gv (rules.wmax -ℤ w))
climbing rules w kept within =
    let g = growth_kept rules.wmax rules.gv (pos 10000) w kept.gv.least kept.gv.most within in (
      record {
        value = omega (arith, ints, kept.wmax, within);
        growth = g.0;
        end = subst (IsWithin (pos 0) (pos 600000)) (once w (int_min rules.gv (rules.wmax -ℤ w))) (omega (arith, ints, g.1, kept.wmax));
      },
      g.1,
    )

pub margin_kept : (rules : Rules) (climb w : ℤ) → AreWithinBounds rules → IsWithin (pos 0) rules.wmax w
    → IsKeptOver (pos 0) (pos 600000) (pos 0) (pos 10000) (margin_at rules climb w) (margin_gain rules climb w) 1
    × IsWithin (pos 0) rules.wmax (margin_at rules climb w +ℤ margin_gain rules climb w)
margin_kept rules (pos zero) w kept within = (
  record {
    value = omega (arith, ints, kept.w0, kept.wmax);
    growth = omega (arith, ints);
    end = omega (arith, ints, kept.w0, kept.wmax);
  },
  omega (arith, ints, kept.w0),
)
margin_kept rules (pos (suc n)) w kept within = climbing rules w kept within
margin_kept rules (negsuc n) w kept within = climbing rules w kept within

pub across_kept : (rules : Rules) (r : ℤ) → AreWithinBounds rules → IsWithin (pos 0) rules.rmax r
    → IsKeptOver (pos 0) (pos 72000) (pos 0) (pos 1000) r (int_min rules.gh (rules.rmax -ℤ r)) 1
    × IsWithin (pos 0) rules.rmax (r +ℤ int_min rules.gh (rules.rmax -ℤ r))
across_kept rules r kept within =
    let g = growth_kept rules.rmax rules.gh (pos 1000) r kept.gh.least kept.gh.most within in (
      record {
        value = omega (arith, ints, kept.rmax, within);
        growth = g.0;
        end = subst (IsWithin (pos 0) (pos 72000)) (once r (int_min rules.gh (rules.rmax -ℤ r))) (omega (arith, ints, g.1, kept.rmax));
      },
      g.1,
    )

-- a second of the leg
aboard_row : (m : Manner) (leg : Leg) (fix : Point) (n : ℕ) (a : Place) → IsBoundedManner m → IsLegTo leg fix → suc n ≤ leg.seconds → IsAboard m leg fix (suc n) a
    → IsBoundedRow (row_on m leg n a)
unfolding row_on
aboard_row m leg fix n a kept to within aboard = record {
  x = on_leg a.x fix.x leg.dx leg.seconds n within to.end.0 to.begin.0 to.east aboard.east;
  y = on_leg a.y fix.y leg.dy leg.seconds n within to.end.1 to.begin.1 to.north aboard.north;
  z = record { value = aboard.height; growth = climb.0; end = subst IsHeight (once a.z (climb_from m a.z)) climb.1 };
  r = (across_kept m.rules a.r kept.rules aboard.r).0;
  w = (margin_kept m.rules (climb_from m a.z) a.w kept.rules aboard.w).0;
}
  where
    climb : IsWithin (neg_ℤ (pos 10000)) (pos 10000) (climb_from m a.z) × IsHeight (a.z +ℤ climb_from m a.z)
    climb = climb_kept m a.z kept aboard.height

aboard_next : (m : Manner) (leg : Leg) (fix : Point) (n : ℕ) (a : Place) → IsBoundedManner m → IsAboard m leg fix (suc n) a
    → IsAboard m leg fix n (end_of (row_on m leg n a))
unfolding row_on
aboard_next m leg fix n a kept aboard = record {
  east = next_on_leg a.x fix.x leg.dx leg.seconds n aboard.east;
  north = next_on_leg a.y fix.y leg.dy leg.seconds n aboard.north;
  height = (climb_kept m a.z kept aboard.height).1;
  r = (across_kept m.rules a.r kept.rules aboard.r).1;
  w = (margin_kept m.rules (climb_from m a.z) a.w kept.rules aboard.w).1;
}

aboard_rows : (m : Manner) (leg : Leg) (fix : Point) (n : ℕ) (a : Place) → IsBoundedManner m → IsLegTo leg fix → n ≤ leg.seconds → IsAboard m leg fix n a
    → All IsBoundedRow (rows_on m leg n a)
aboard_rows m leg fix zero a kept to within aboard = λ k d below. absurd (omega arith)
aboard_rows m leg fix (suc n) a kept to within aboard =
    All-cons IsBoundedRow (row_on m leg n a) (rows_on m leg n (end_of (row_on m leg n a))) (aboard_row m leg fix n a kept to within aboard)
    (aboard_rows m leg fix n (end_of (row_on m leg n a)) kept to (omega arith) (aboard_next m leg fix n a kept aboard))

aboard_end : (m : Manner) (leg : Leg) (fix : Point) (n : ℕ) (a : Place) → IsBoundedManner m → IsAboard m leg fix n a
    → IsAboard m leg fix 0 (end_after a (rows_on m leg n a))
aboard_end m leg fix zero a kept aboard = aboard
aboard_end m leg fix (suc n) a kept aboard = aboard_end m leg fix n (end_of (row_on m leg n a)) kept (aboard_next m leg fix n a kept aboard)

arrived : (x to total : ℤ) (seconds : ℕ) → x +ℤ remain total seconds 0 ≡ to → x ≡ to
arrived x to total seconds is = let e = rw (remain_none total seconds) at is in omega (arith, ints, e)

-- at the end of the leg the flight is over its fix
over_fix : (m : Manner) (leg : Leg) (fix : Point) (a : Place) → IsInPlane fix.x fix.y → IsAboard m leg fix 0 a → IsFlownPlace m.rules a
over_fix m leg fix a end aboard = record {
  plane = (subst plane (sym (arrived a.x fix.x leg.dx leg.seconds aboard.east)) end.0, subst plane (sym (arrived a.y fix.y leg.dy leg.seconds aboard.north)) end.1);
  height = aboard.height;
  r = aboard.r;
  w = aboard.w;
}

-- the leg to a fix, from a place that is held
back : (x y : ℤ) → y -ℤ (y -ℤ x) ≡ x
back x y = omega (arith, ints)

forth : (x y : ℤ) → x +ℤ (y -ℤ x) ≡ y
forth x y = omega (arith, ints)

far_apart : (y x : ℤ) → plane y → plane x → IsAcross (y -ℤ x)
far_apart y x end begin = record { least = omega (arith, ints, end, begin); most = omega (arith, ints, end, begin) }

speed_some : (z : ℤ) → IsWithin (pos 1) (pos 1000) z → 1 ≤ unsigned_abs z
speed_some (pos n) kept = omega (arith, ints, kept)
speed_some (negsuc n) kept = absurd (omega (arith, ints, kept))

speed_few : (z : ℤ) → IsWithin (pos 1) (pos 1000) z → unsigned_abs z ≤ 1000
speed_few (pos n) kept = omega (arith, ints, kept)
speed_few (negsuc n) kept = absurd (omega (arith, ints, kept))

at_most : (d t g : ℕ) → d ≤ t * g → g ≤ 1000 → d ≤ t * 1000
at_most d t g size few = let p = mul-le-mul (le_refl t) few in omega (arith, p, size)

pub leg_bounded : (m : Manner) (number : ℕ) (fix : Point) (a : Place) → IsInPlane fix.x fix.y → IsInPlane a.x a.y → IsBoundedLeg (leg_to m.bands number fix a)
unfolding leg_to
leg_bounded m number fix a end begin = record { east = far_apart fix.x a.x end.0 begin.0; north = far_apart fix.y a.y end.1 begin.1 }

is_leg_to : (m : Manner) (number : ℕ) (fix : Point) (a : Place) → IsBoundedManner m → IsInPlane fix.x fix.y → IsInPlane a.x a.y → IsLegTo (leg_to m.bands number fix a) fix
unfolding leg_to
is_leg_to m number fix a kept end begin = record {
  end = end;
  begin = (subst plane (sym (back a.x fix.x)) begin.0, subst plane (sym (back a.y fix.y)) begin.1);
  east = at_most _ _ _ (east_size (fix.x -ℤ a.x) (fix.y -ℤ a.y) (unsigned_abs (band_at m.bands a.z).speed) (speed_some _ speed)) (speed_few _ speed);
  north = at_most _ _ _ (north_size (fix.x -ℤ a.x) (fix.y -ℤ a.y) (unsigned_abs (band_at m.bands a.z).speed) (speed_some _ speed)) (speed_few _ speed);
}
  where
    speed : IsWithin (pos 1) (pos 1000) (band_at m.bands a.z).speed
    speed = (band_kept m.bands a.z kept.bands).speed

aboard_first : (m : Manner) (number : ℕ) (fix : Point) (a : Place) → IsBoundedManner m → IsInPlane fix.x fix.y → IsFlownPlace m.rules a
    → IsAboard m (leg_to m.bands number fix a) fix (leg_to m.bands number fix a).seconds a
unfolding leg_to
aboard_first m number fix a kept end held = record {
  east = ap (λ (z : ℤ). a.x +ℤ z) (remain_whole (fix.x -ℤ a.x) _ 1000 to.east) ∙ forth a.x fix.x;
  north = ap (λ (z : ℤ). a.y +ℤ z) (remain_whole (fix.y -ℤ a.y) _ 1000 to.north) ∙ forth a.y fix.y;
  height = held.height;
  r = held.r;
  w = held.w;
}
  where
    to : IsLegTo (leg_to m.bands number fix a) fix
    to = is_leg_to m number fix a kept end held.plane

rows_kept : (m : Manner) (number : ℕ) (fix : Point) (a : Place) → IsBoundedManner m → IsInPlane fix.x fix.y → IsFlownPlace m.rules a → All IsBoundedRow (rows_to m number fix a)
rows_kept m number fix a kept end held =
    aboard_rows m (leg_to m.bands number fix a) fix (leg_to m.bands number fix a).seconds a kept (is_leg_to m number fix a kept end held.plane) (omega arith)
    (aboard_first m number fix a kept end held)

pub end_kept : (m : Manner) (number : ℕ) (fix : Point) (a : Place) → IsBoundedManner m → IsInPlane fix.x fix.y → IsFlownPlace m.rules a
    → IsFlownPlace m.rules (end_after a (rows_to m number fix a))
end_kept m number fix a kept end held =
    over_fix m (leg_to m.bands number fix a) fix (end_after a (rows_to m number fix a)) end
    (aboard_end m (leg_to m.bands number fix a) fix (leg_to m.bands number fix a).seconds a kept (aboard_first m number fix a kept end held))

pub leg_rows_kept : (m : Manner) (number : ℕ) (fix : Point) (a : Place) (leg : Leg) → leg ≡ leg_to m.bands number fix a → IsBoundedManner m → IsInPlane fix.x fix.y
    → IsFlownPlace m.rules a → All IsBoundedRow (rows_on m leg leg.seconds a)
leg_rows_kept m number fix a leg is kept end held = subst (λ (leg : Leg). All IsBoundedRow (rows_on m leg leg.seconds a)) (sym is) (rows_kept m number fix a kept end held)
