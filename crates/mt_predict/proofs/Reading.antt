-- Legs and rows of the code, whose numbers are read from their bits.
use Rattle.std.proofs.Common.{◌≡◌, ℕ, ℤ, pos, neg_ℤ, ◌-ℤ◌, List, unsigned_abs, arith, to_z, of_z, w64, ◌∙◌}
use Rattle.std.specs.Int.{int_min}
use Rattle.std.proofs.lemmas.Int.{ints}
use Rattle.mt_base.specs.declared.band.Band.{Band}
use Rattle.mt_base.specs.declared.place.Leg.{Leg}
use Rattle.mt_base.specs.declared.place.Place.{Place}
use Rattle.mt_base.specs.declared.place.Point.{Point}
use Rattle.mt_base.specs.declared.row.Row.{Row}
use Rattle.mt_base.specs.declared.rules.Rules.{Rules}
use Rattle.mt_base.specs.Bounds.{IsBoundedBand, IsInPlane, IsWithin}
use Rattle.mt_base.specs.Predictor.{band_at, climb_from, gain_with, leg_to, margin_at, margin_gain, row_on, seconds_of}
use Rattle.mt_predict.specs.Manners.{manner}
use Rattle.mt_predict.proofs.Casts.{as_is}

-- a number, read from its bits
abbrev pub read : ℤ → ℤ
read z = to_z w64 (of_z w64 z)

-- how far a fix is in one direction
across : (to from : ℤ) → IsWithin (neg_ℤ (pos 3686400)) (pos 3686400) to → IsWithin (neg_ℤ (pos 3686400)) (pos 3686400) from
    → read (read to -ℤ read from) ≡ to -ℤ from
across to from t f = omega (arith, ints, t, f)

pub leg_is : (bands : List Band) (number : ℕ) (fix : Point) (a : Place) (b : Band) (t : ℕ) → IsInPlane fix.x fix.y → IsInPlane a.x a.y → read a.z ≡ a.z
    → IsBoundedBand b → b ≡ band_at bands (read a.z) → t ≡ seconds_of (read (read fix.x -ℤ read a.x)) (read (read fix.y -ℤ read a.y)) (unsigned_abs (read b.speed))
    → (let leg : Leg = record { number = number; dx = read (read fix.x -ℤ read a.x); dy = read (read fix.y -ℤ read a.y); seconds = t } in leg ≡ leg_to bands number fix a)
unfolding leg_to
leg_is bands number fix a b t fix_kept a_kept height kept b_is t_is =
    let east = across fix.x a.x fix_kept.0 a_kept.0 in
    let north = across fix.y a.y fix_kept.1 a_kept.1 in
    let fast : read b.speed ≡ b.speed = as_is b.speed (omega (arith, ints, kept.speed)) (omega (arith, ints, kept.speed)) in
    let band : b ≡ band_at bands a.z = rw height at b_is in
    let seconds : t ≡ seconds_of (fix.x -ℤ a.x) (fix.y -ℤ a.y) (unsigned_abs (band_at bands a.z).speed) = rw (← band, ← east, ← north, ← fast) t_is in
    λ i. record { number = number; dx = east i; dy = north i; seconds = seconds i }

pub row_is : (rules : Rules) (bands : List Band) (level : ℕ) (leg : Leg) (n : ℕ) (a : Place) (climb w vx vy gr gw : ℤ) → read a.x ≡ a.x → read a.y ≡ a.y
    → read a.z ≡ a.z → read a.r ≡ a.r → read a.w ≡ a.w → read leg.dx ≡ leg.dx → read leg.dy ≡ leg.dy → read climb ≡ climb → read w ≡ w → read vx ≡ vx
    → read vy ≡ vy → read gw ≡ gw → climb ≡ climb_from (manner rules bands level) (read a.z) → w ≡ margin_at rules (read climb) (read a.w)
    → vx ≡ gain_with (read leg.dx) leg.seconds n → vy ≡ gain_with (read leg.dy) leg.seconds n → read gr ≡ int_min rules.gh (rules.rmax -ℤ a.r)
    → gw ≡ margin_gain rules (read climb) (read a.w)
    → (let row : Row = record { x = read a.x; y = read a.y; z = read a.z; r = read a.r; w = read w; vx = read vx; vy = read vy; vz = read climb; gr = read gr; gw = read gw; leg = leg.number } in
    row ≡ row_on (manner rules bands level) leg n a)
unfolding row_on
row_is rules bands level leg n a climb w vx vy gr gw x_r y_r z_r r_r w_r dx_r dy_r climb_r margin_r vx_r vy_r gw_r climb_is margin_is vx_is vy_is gr_is gw_is =
    let climbs : read climb ≡ climb_from (manner rules bands level) a.z = climb_r ∙ (rw z_r at climb_is) in
    let margin : read w ≡ margin_at rules (climb_from (manner rules bands level) a.z) a.w = margin_r ∙ (rw (climbs, w_r) at margin_is) in
    let growth : read gw ≡ margin_gain rules (climb_from (manner rules bands level) a.z) a.w = gw_r ∙ (rw (climbs, w_r) at gw_is) in
    let east : read vx ≡ gain_with leg.dx leg.seconds n = vx_r ∙ (rw dx_r at vx_is) in
    let north : read vy ≡ gain_with leg.dy leg.seconds n = vy_r ∙ (rw dy_r at vy_is) in
    λ i. record { x = x_r i; y = y_r i; z = z_r i; r = r_r i; w = margin i; vx = east i; vy = north i; vz = climbs i; gr = gr_is i; gw = growth i; leg = leg.number }
