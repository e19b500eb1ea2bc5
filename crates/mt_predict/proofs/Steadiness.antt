-- For how long gains stay.
use Rattle.std.proofs.Common.{◌≡◌, ℕ, suc, ◌+◌, ◌-◌, ◌*◌, ◌/◌, ◌<◌, ◌≤◌, ℤ, pos, negsuc, ◌+ℤ◌, ◌-ℤ◌, ◌*ℤ◌, unsigned_abs, min, sym, ◌∙◌, arith, mul-le-mul, le_refl, subst}
use Rattle.std.specs.Int.{int_min, int_rem_euclid}
use Rattle.std.proofs.Math.Nat.{div-mul-le_self}
use Rattle.std.proofs.lemmas.Int.{clamps, ints}
use Rattle.std.proofs.lemmas.Nat.{le-div}
use Rattle.mt_base.specs.declared.place.Leg.{Leg}
use Rattle.mt_base.specs.declared.place.Place.{Place}
use Rattle.mt_base.specs.declared.row.Row.{Row}
use Rattle.mt_base.specs.Bounds.{IsWithin}
use Rattle.mt_base.specs.Predictor.{Manner, climb_from, gain_with, margin_at, margin_gain, row_on}
use Rattle.mt_track.specs.Rows.{row_after}
use Rattle.mt_predict.specs.Private.Flying.{place_at}
use Rattle.mt_predict.proofs.Reading.{read}
use Rattle.mt_predict.proofs.Gains.{gain_less, gain_more}
use Rattle.mt_predict.proofs.Margins.{gain_at_margin, margin_stays}

-- the last seconds of a leg gain the same, and so do those before them
pub same_in_last : (total : ℤ) (seconds left k : ℕ) → 0 < left → left ≤ unsigned_abs (int_rem_euclid total (pos seconds)) → k < left
    → gain_with total seconds (left - suc k) ≡ gain_with total seconds (left - 1)
same_in_last total seconds left k some late below =
    gain_more total seconds (left - suc k) (omega arith) ∙ sym (gain_more total seconds (left - 1) (omega arith))

pub same_before_last : (total : ℤ) (seconds left k : ℕ) → k < left - unsigned_abs (int_rem_euclid total (pos seconds))
    → gain_with total seconds (left - suc k) ≡ gain_with total seconds (left - 1)
same_before_last total seconds left k below =
    gain_less total seconds (left - suc k) (omega arith) ∙ sym (gain_less total seconds (left - 1) (omega arith))

-- a margin's gain stays while there is room for it
least_natural : (g m r : ℕ) → r ≤ m → int_min (pos g) (pos m -ℤ pos r) ≡ pos (min g (m - r))
least_natural g m r within = omega (arith, ints, clamps)

growth_natural : (g m r k gain : ℕ) → r ≤ m → gain ≡ min g (m - r) → gain * k + gain ≤ m - r
    → int_min (pos g) (pos m -ℤ (pos r +ℤ pos gain *ℤ pos k)) ≡ pos gain
growth_natural g m r k gain within is fits = omega (arith, ints, clamps)

pub growth_stays : (gain greatest margin : ℤ) (room first k : ℕ) → IsWithin (pos 0) (pos 10000) gain → IsWithin (pos 0) (pos 600000) greatest
    → IsWithin (pos 0) greatest margin → room ≡ unsigned_abs (read (read greatest -ℤ read margin)) → first ≡ min (unsigned_abs (read gain)) room
    → first * k + first ≤ room → int_min gain (greatest -ℤ (margin +ℤ int_min gain (greatest -ℤ margin) *ℤ pos k)) ≡ int_min gain (greatest -ℤ margin)
growth_stays (negsuc g) greatest margin room first k gain_kept greatest_kept margin_kept room_is first_is fits = absurd (omega (arith, ints, gain_kept))
growth_stays (pos g) (negsuc m) margin room first k gain_kept greatest_kept margin_kept room_is first_is fits = absurd (omega (arith, ints, greatest_kept))
growth_stays (pos g) (pos m) (negsuc r) room first k gain_kept greatest_kept margin_kept room_is first_is fits = absurd (omega (arith, ints, margin_kept))
growth_stays (pos g) (pos m) (pos r) room first k gain_kept greatest_kept margin_kept room_is first_is fits =
    let within : r ≤ m = omega (arith, ints, margin_kept) in
    let small : m ≤ 600000 = omega (arith, ints, greatest_kept) in
    let few : g ≤ 10000 = omega (arith, ints, gain_kept) in
    let readable : read (read (pos m) -ℤ read (pos r)) ≡ pos (m - r) = omega (arith, ints) in
    let growth : read (pos g) ≡ pos g = omega (arith, ints) in
    let room_natural : room ≡ m - r = rw readable at room_is in
    let first_natural : first ≡ min g (m - r) = rw (growth, room_natural) at first_is in
    rw (least_natural g m r within, ← first_natural) (growth_natural g m r k first within first_natural (rw room_natural at fits))

pub room_for : (room gain most k : ℕ) → k < min most (room / gain) → gain * k + gain ≤ room
room_for room gain most k below =
    let h : suc k ≤ room / gain = omega arith in
    let p = mul-le-mul h (le_refl gain) in
    omega (arith, p, div-mul-le_self room gain)

-- a rate that is ahead lasts a second at least
pub some_seconds : (most ahead rate : ℕ) → 0 < most → 0 < rate → rate ≤ ahead → 0 < min most (ahead / rate)
some_seconds most ahead rate room some far = omega (arith, room, le-div 1 ahead rate some (omega (arith, far)))

-- The rows go on from the first while its gains stay.
pub steady_is : (m : Manner) (leg : Leg) (left k : ℕ) (a : Place) (row : Row) → row ≡ row_on m leg (left - 1) a
    → gain_with leg.dx leg.seconds (left - suc k) ≡ gain_with leg.dx leg.seconds (left - 1)
    → gain_with leg.dy leg.seconds (left - suc k) ≡ gain_with leg.dy leg.seconds (left - 1)
    → climb_from m (row.z +ℤ row.vz *ℤ pos k) ≡ row.vz
    → int_min m.rules.gh (m.rules.rmax -ℤ (row.r +ℤ int_min m.rules.gh (m.rules.rmax -ℤ row.r) *ℤ pos k)) ≡ int_min m.rules.gh (m.rules.rmax -ℤ row.r)
    → margin_gain m.rules row.vz (row.w +ℤ margin_gain m.rules row.vz row.w *ℤ pos k) ≡ margin_gain m.rules row.vz row.w
    → row_on m leg (left - suc k) (place_at row k) ≡ row_after row k
unfolding row_on
steady_is m leg left k a row is east north climb growth margin =
    subst (λ (row : Row). row_on m leg (left - suc k) (place_at row k) ≡ row_after row k) (sym is) (λ i. record {
      x = a.x +ℤ gain_with leg.dx leg.seconds (left - 1) *ℤ pos k;
      y = a.y +ℤ gain_with leg.dy leg.seconds (left - 1) *ℤ pos k;
      z = a.z +ℤ climb_from m a.z *ℤ pos k;
      r = a.r +ℤ int_min m.rules.gh (m.rules.rmax -ℤ a.r) *ℤ pos k;
      w = begins i;
      vx = east i;
      vy = north i;
      vz = climbs i;
      gr = grows i;
      gw = gains i;
      leg = leg.number;
    })
  where
    climbs : climb_from m (a.z +ℤ climb_from m a.z *ℤ pos k) ≡ climb_from m a.z
    climbs = rw is at climb

    grows : int_min m.rules.gh (m.rules.rmax -ℤ (a.r +ℤ int_min m.rules.gh (m.rules.rmax -ℤ a.r) *ℤ pos k)) ≡ int_min m.rules.gh (m.rules.rmax -ℤ a.r)
    grows = rw is at growth

    begins : margin_at m.rules (climb_from m (a.z +ℤ climb_from m a.z *ℤ pos k))
        (margin_at m.rules (climb_from m a.z) a.w +ℤ margin_gain m.rules (climb_from m a.z) a.w *ℤ pos k)
        ≡ margin_at m.rules (climb_from m a.z) a.w +ℤ margin_gain m.rules (climb_from m a.z) a.w *ℤ pos k
    begins = rw climbs (margin_stays m.rules (climb_from m a.z) a.w k)

    gains : margin_gain m.rules (climb_from m (a.z +ℤ climb_from m a.z *ℤ pos k))
        (margin_at m.rules (climb_from m a.z) a.w +ℤ margin_gain m.rules (climb_from m a.z) a.w *ℤ pos k)
        ≡ margin_gain m.rules (climb_from m a.z) a.w
    gains = rw climbs (rw (is, gain_at_margin m.rules (climb_from m a.z) a.w) at margin)
