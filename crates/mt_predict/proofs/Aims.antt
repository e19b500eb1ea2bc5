-- What a clearance leaves of a sound course is right.
use Rattle.std.proofs.Common.{◌≡◌, ℕ, zero, suc, ◌+◌, ◌-◌, ◌<◌, ◌≤◌, true, false, ℤ, pos, negsuc, List, [], ◌∷◌, length, drop, position, All, Option, Some, None, Result, Ok, Err, IfOk, nat_lt, unwrap_or, sym, ap, ◌∙◌, subst, arith, refl, length-drop, if◌then◌else◌}
use Rattle.std.specs.Prelude.{option_map, slice_get}
use Rattle.std.specs.Str.{bytes_eq}
use Rattle.std.proofs.lemmas.List.{length-map}
use Rattle.std.proofs.lemmas.List.Elements.{All-append, All-cons, All-nil, All-take}
use Rattle.std.proofs.lemmas.List.Quantifiers.{position-Some}
use Rattle.std.proofs.lemmas.Option.{get_or_from_slice_get, slice_get_within}
use Rattle.mt_base.specs.declared.clearance.Aim.{Aim}
use Rattle.mt_base.specs.declared.clearance.Clearance.{Clearance}
use Rattle.mt_base.specs.declared.clearance.Clearance.TheVariants.{Level, Direct}
use Rattle.mt_base.specs.declared.command.Refusal.{Refusal}
use Rattle.mt_base.specs.declared.flight.Base.{Base}
use Rattle.mt_base.specs.declared.flight.Course.{Course}
use Rattle.mt_base.specs.declared.flight.Path.TheVariants.{Planned}
use Rattle.mt_base.specs.declared.place.Leg.{Leg}
use Rattle.mt_base.specs.declared.place.Place.{Place}
use Rattle.mt_base.specs.declared.place.Point.{Point}
use Rattle.mt_base.specs.declared.row.Row.{Row}
use Rattle.mt_base.specs.declared.rules.Rules.{Rules}
use Rattle.mt_base.specs.Bounds.{AreWithinBounds, IsBoundedClearance, IsRightAim, IsRightBase, IsSoundCourse, IsWithin}
use Rattle.mt_base.specs.Cleared.{aim_of, base_by, base_from, clearance_checks, cleared, direct_to}
use Rattle.mt_base.specs.Picture.{trajectory_of}
use Rattle.mt_base.specs.Predictor.{Manner, climb_from, end_after, end_of, leg_to, manner_of, margin_at, base_place, points_of, row_on, rows_along, rows_on, rows_to}
use Rattle.mt_base.specs.Tables.{Setup}
use Rattle.mt_base.specs.Trajectory.{Trajectory}
use Rattle.mt_base.proofs.CheckLemmas.{answer_is}
use Rattle.mt_predict.specs.Clearing.{IsInAir}
use Rattle.mt_predict.proofs.Aboard.{across_kept, margin_kept}

-- a place with margins up to the greatest
record HasMargins (rules : Rules) (a : Place) : Type 0 where
  pub r : IsWithin (pos 0) rules.rmax a.r
  pub w : IsWithin (pos 0) rules.wmax a.w

-- a row with margins up to the greatest, on the leg to a place of the route
pub record IsOnRoute (rules : Rules) (names : ℕ) (row : Row) : Type 0 where
  pub r : IsWithin (pos 0) rules.rmax row.r
  pub w : IsWithin (pos 0) rules.wmax row.w
  pub leg : row.leg < names

margin_begins : (rules : Rules) (climb w : ℤ) → AreWithinBounds rules → IsWithin (pos 0) rules.wmax w → IsWithin (pos 0) rules.wmax (margin_at rules climb w)
margin_begins rules (pos zero) w kept within = kept.w0
margin_begins rules (pos (suc n)) w kept within = within
margin_begins rules (negsuc n) w kept within = within

-- a second of a leg, the leg, and the legs of a route
row_on_route : (m : Manner) (names : ℕ) (leg : Leg) (n : ℕ) (a : Place) → AreWithinBounds m.rules → leg.number < names → HasMargins m.rules a
    → IsOnRoute m.rules names (row_on m leg n a)
unfolding row_on
row_on_route m names leg n a kept below margins = record { r = margins.r; w = margin_begins m.rules (climb_from m a.z) a.w kept margins.w; leg = below }

margins_next : (m : Manner) (leg : Leg) (n : ℕ) (a : Place) → AreWithinBounds m.rules → HasMargins m.rules a → HasMargins m.rules (end_of (row_on m leg n a))
unfolding row_on
margins_next m leg n a kept margins = record { r = (across_kept m.rules a.r kept margins.r).1; w = (margin_kept m.rules (climb_from m a.z) a.w kept margins.w).1 }

leg_on_route : (m : Manner) (names : ℕ) (leg : Leg) (n : ℕ) (a : Place) → AreWithinBounds m.rules → leg.number < names → HasMargins m.rules a
    → All (IsOnRoute m.rules names) (rows_on m leg n a)
leg_on_route m names leg zero a kept below margins = All-nil (IsOnRoute m.rules names)
leg_on_route m names leg (suc n) a kept below margins =
    All-cons (IsOnRoute m.rules names) (row_on m leg n a) (rows_on m leg n (end_of (row_on m leg n a))) (row_on_route m names leg n a kept below margins)
    (leg_on_route m names leg n (end_of (row_on m leg n a)) kept below (margins_next m leg n a kept margins))

margins_after : (m : Manner) (leg : Leg) (n : ℕ) (a : Place) → AreWithinBounds m.rules → HasMargins m.rules a → HasMargins m.rules (end_after a (rows_on m leg n a))
margins_after m leg zero a kept margins = margins
margins_after m leg (suc n) a kept margins = margins_after m leg n (end_of (row_on m leg n a)) kept (margins_next m leg n a kept margins)

number_of_leg : (m : Manner) (number : ℕ) (fix : Point) (a : Place) → (leg_to m.bands number fix a).number ≡ number
unfolding leg_to
number_of_leg m number fix a = refl

route_on_route : (m : Manner) (names number : ℕ) (fixes : List Point) (a : Place) → AreWithinBounds m.rules → number + length fixes ≤ names → HasMargins m.rules a
    → All (IsOnRoute m.rules names) (rows_along m number fixes a)
route_on_route m names number [] a kept within margins = All-nil (IsOnRoute m.rules names)
route_on_route m names number (fix ∷ fixes) a kept within margins =
    let leg = leg_to m.bands number fix a in
    let b = end_after a (rows_to m number fix a) in
    All-append (IsOnRoute m.rules names) (rows_to m number fix a) (rows_along m (suc number) fixes b)
    (leg_on_route m names leg leg.seconds a kept (omega (arith, number_of_leg m number fix a)) margins)
    (route_on_route m names (suc number) fixes b kept (omega arith) (margins_after m leg leg.seconds a kept margins))

-- each row of the trajectory of a sound course
pub rows_on_route : (setup : Setup) (course : Course) → AreWithinBounds setup.rules → IsSoundCourse setup course
    → All (IsOnRoute setup.rules (length course.route)) (trajectory_of setup (Planned course)).rows
rows_on_route setup course kept sound =
    let m = manner_of setup course.kind course.level in
    let fixes = drop course.base.next (points_of setup.tables course.route) in
    let count : length (points_of setup.tables course.route) ≡ length course.route = length-map _ _ in
    let few : length fixes ≡ length course.route - course.base.next =
    length-drop course.base.next (points_of setup.tables course.route) ∙ ap (λ (n : ℕ). n - course.base.next) count in
    All-take (IsOnRoute setup.rules (length course.route)) 14400 (rows_along m course.base.next fixes (base_place course.base))
    (route_on_route m (length course.route) course.base.next fixes (base_place course.base) kept (omega (arith, few, sound.base.next))
    (record { r = sound.base.r; w = sound.base.w }))

pub row_of : {rules : Rules} {names : ℕ} (rows : List Row) (i : ℕ) (row : Row) → All (IsOnRoute rules names) rows → slice_get rows i ≡ Some row → IsOnRoute rules names row
row_of {rules} {names} rows i row all is = subst (IsOnRoute rules names) (get_or_from_slice_get rows i row row is) (all i row (slice_get_within rows i row is))

-- The base from which a clearance holds, or the flight's own.
right_by : (rules : Rules) (names eff : ℕ) (own : Base) (rows : List Row) (i : ℕ) (row : Option Row) → row ≡ slice_get rows i → All (IsOnRoute rules names) rows
    → IsRightBase rules names own → eff ≤ 10000000 → IsInAir (unwrap_or (option_map (base_by eff) row) own)
    → IsRightBase rules names (unwrap_or (option_map (base_by eff) row) own)
right_by rules names eff own rows i None is all right early air = right
right_by rules names eff own rows i (Some row) is all right early air =
    let on = row_of rows i row all (sym is) in
    record { early = early; plane = air.plane; height = air.height; r = on.r; w = on.w; next = on.leg }

right_from : (rules : Rules) (names eff : ℕ) (own : Base) (t : Trajectory) → All (IsOnRoute rules names) t.rows → IsRightBase rules names own → eff ≤ 10000000
    → (t.start ≤ eff → IsInAir (unwrap_or (base_from own t eff) own)) → IsRightBase rules names (unwrap_or (base_from own t eff) own)
right_from rules names eff own t all right early =
    elim (nat_lt eff t.start) as (λ b. nat_lt eff t.start ≡ b
    → (t.start ≤ eff → IsInAir (unwrap_or (if b then Some own else option_map (base_by eff) (if b then None else slice_get t.rows (eff - t.start))) own))
    → IsRightBase rules names (unwrap_or (if b then Some own else option_map (base_by eff) (if b then None else slice_get t.rows (eff - t.start))) own)) [
      | true ↦ λ e air. right
      | false ↦ λ e air. right_by rules names eff own t.rows (eff - t.start) (slice_get t.rows (eff - t.start)) refl all right early (air (grind (arith, e)))
    ] refl

-- a place ahead on the route
next_right : (route : List (List ℕ)) (fix : List ℕ) (place : ℕ) (further : Option ℕ) → further ≡ position (bytes_eq fix) (drop (suc place) route) → place < length route
    → unwrap_or (option_map (λ i. suc place + i) further) place < length route
next_right route fix place None is below = below
next_right route fix place (Some i) is below =
    let p = position-Some (bytes_eq fix) (drop (suc place) route) i [] (sym is) in
    omega (arith, p.0, length-drop (suc place) route)

direct_right : (rules : Rules) (route : List (List ℕ)) (fix : List ℕ) (base : Base) → IsRightBase rules (length route) base
    → IsRightBase rules (length route) (direct_to route fix base)
direct_right rules route fix base right = record {
  early = right.early;
  plane = right.plane;
  height = right.height;
  r = right.r;
  w = right.w;
  next = next_right route fix base.next (position (bytes_eq fix) (drop (suc base.next) route)) refl right.next;
}

aim_right : (setup : Setup) (course : Course) (t : Trajectory) (clearance : Clearance) (eff : ℕ) → AreWithinBounds setup.rules → IsSoundCourse setup course
    → All (IsOnRoute setup.rules (length course.route)) t.rows → IsBoundedClearance clearance → eff ≤ 10000000
    → (t.start ≤ eff → IsInAir (aim_of course t clearance eff).base) → IsRightAim setup.rules (length course.route) (aim_of course t clearance eff)
aim_right setup course t (Level level) eff kept sound all bounded early air =
    record { base = right_from setup.rules (length course.route) eff course.base t all sound.base early air; level = bounded }
aim_right setup course t (Direct fix) eff kept sound all bounded early air =
    let base = right_from setup.rules (length course.route) eff course.base t all sound.base early
    (λ within. record { plane = (air within).plane; height = (air within).height }) in
    record { base = direct_right setup.rules course.route fix (unwrap_or (base_from course.base t eff) course.base) base; level = sound.level }

pub cleared_right : (setup : Setup) (course : Course) (t : Trajectory) (clearance : Clearance) (eff now : ℕ) (result : Result Aim Refusal)
    → AreWithinBounds setup.rules → IsSoundCourse setup course → t ≡ trajectory_of setup (Planned course) → IsBoundedClearance clearance → eff ≤ 10000000
    → result ≡ cleared setup.tables course t clearance eff now → (t.start ≤ eff → IfOk result (λ aim. IsInAir aim.base))
    → IfOk result (λ aim. IsRightAim setup.rules (length course.route) aim)
cleared_right setup course t clearance eff now (Err e) kept sound flies bounded early is air = tt
cleared_right setup course t clearance eff now (Ok aim) kept sound flies bounded early is air =
    let same = answer_is (clearance_checks setup.tables course t clearance eff now) (aim_of course t clearance eff) aim (sym is) in
    let all = subst (λ (t : Trajectory). All (IsOnRoute setup.rules (length course.route)) t.rows) (sym flies) (rows_on_route setup course kept sound) in
    subst (IsRightAim setup.rules (length course.route)) same
    (aim_right setup course t clearance eff kept sound all bounded early (λ within. subst (λ (aim : Aim). IsInAir aim.base) (sym same) (air within)))
