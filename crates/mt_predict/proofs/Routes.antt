-- A route while it is flown: what stands after each leg, and at the end.
use Rattle.std.proofs.Common.{Bool, ◌≡◌, ℕ, suc, ◌+◌, ◌<◌, ◌≤◌, List, [], ◌∷◌, ◌++◌, length, get_or, take, drop, sym, ap, ◌∙◌, subst, arith, refl, append_assoc}
use Rattle.std.proofs.Math.Seq.{drop-cons}
use Rattle.std.proofs.lemmas.List.{append-nil, drop_all, length-take, take-append-le, take_all}
use Rattle.mt_base.specs.declared.place.Leg.{Leg}
use Rattle.mt_base.specs.declared.place.Place.{Place}
use Rattle.mt_base.specs.declared.place.Point.{Point}
use Rattle.mt_base.specs.declared.row.Row.{Row}
use Rattle.mt_base.specs.Bounds.{IsInPlane}
use Rattle.mt_base.specs.Predictor.{Manner, end_after, leg_to, predicted, rows_along, rows_on, rows_to}
use Rattle.mt_base.specs.Trajectory.{Trajectory}
use Rattle.mt_predict.specs.Private.Flying.{EndAt}
use Rattle.mt_predict.specs.Manners.{IsBoundedManner, IsFlownPlace}
use Rattle.mt_predict.proofs.Aboard.{end_kept}

-- a front of some rows, where there are fewer than the greatest number, is all of them; where there are as many, it is a front of more
front_is_all : (most : ℕ) (rows : List Row) → length (take most rows) < most → take most rows ≡ rows
front_is_all most rows more = take_all most rows (omega (arith, length-take most rows))

front_of_more : (most : ℕ) (rows rest : List Row) → length (take most rows) ≡ most → take most rows ≡ take most (rows ++ rest)
front_of_more most rows rest full = sym (take-append-le most rows rest (omega (arith, full, length-take most rows)))

-- Before the leg to a fix some rows stand, and with those that are ahead they are all of the route.
pub record IsOnCourse (m : Manner) (fixes : List Point) (next at : ℕ) (rvsm : Bool) (from : Place) (number : ℕ) (t : Trajectory) (a : Place) : Type 0 where
  pub start : t.start ≡ at
  pub approved : t.rvsm ≡ rvsm
  pub room : length t.rows < 14400
  pub end : EndAt t.rows a
  pub held : IsFlownPlace m.rules a
  pub within : number ≤ length fixes
  pub rows : t.rows ++ rows_along m number (drop number fixes) a ≡ rows_along m next (drop next fixes) from

-- a leg that was flown, as far as there was room
pub record IsLegFlown (m : Manner) (leg : Leg) (t new : Trajectory) (a b : Place) : Type 0 where
  pub start : new.start ≡ t.start
  pub rvsm : new.rvsm ≡ t.rvsm
  pub rows : new.rows ≡ take 14400 (t.rows ++ rows_on m leg leg.seconds a)
  pub at : EndAt new.rows b
  pub place : length new.rows < 14400 → b ≡ end_after a (rows_on m leg leg.seconds a)

-- the rows ahead, parted after the next leg
ahead : {m : Manner} {fixes : List Point} {next at : ℕ} {rvsm : Bool} {from : Place} {number : ℕ} {t : Trajectory} {a : Place} (d : Point)
    → IsOnCourse m fixes next at rvsm from number t a → number < length fixes → (fix : Point) → fix ≡ get_or fixes number d
    → (t.rows ++ rows_to m number fix a) ++ rows_along m (suc number) (drop (suc number) fixes) (end_after a (rows_to m number fix a))
    ≡ rows_along m next (drop next fixes) from
ahead {m} {fixes} {next} {at} {rvsm} {from} {number} {t} {a} d course below fix is =
    let first : drop number fixes ≡ fix ∷ drop (suc number) fixes = rw is (drop-cons fixes number d below) in
    append_assoc t.rows (rows_to m number fix a) (rows_along m (suc number) (drop (suc number) fixes) (end_after a (rows_to m number fix a)))
    ∙ ap (λ (fs : List Point). t.rows ++ rows_along m number fs a) (sym first)
    ∙ course.rows

pub next_leg : {m : Manner} {fixes : List Point} {next at : ℕ} {rvsm : Bool} {from : Place} {number : ℕ} {t new : Trajectory} {a b : Place} (d : Point) (leg : Leg)
    → IsOnCourse m fixes next at rvsm from number t a → number < length fixes → leg ≡ leg_to m.bands number (get_or fixes number d) a
    → IsBoundedManner m → IsInPlane (get_or fixes number d).x (get_or fixes number d).y
    → IsLegFlown m leg t new a b → length new.rows < 14400 → IsOnCourse m fixes next at rvsm from (number + 1) new b
next_leg {m} {fixes} {next} {at} {rvsm} {from} {number} {t} {new} {a} {b} d leg course below leg_is kept fix_kept flown room =
    let fix = get_or fixes number d in
    let rows : new.rows ≡ take 14400 (t.rows ++ rows_to m number fix a) = rw leg_is at flown.rows in
    let all : new.rows ≡ t.rows ++ rows_to m number fix a =
    rows ∙ front_is_all 14400 (t.rows ++ rows_to m number fix a) (subst (λ (rs : List Row). length rs < 14400) rows room) in
    let place : b ≡ end_after a (rows_to m number fix a) = rw leg_is at (flown.place room) in
    let e : number + 1 ≡ suc number = omega arith in
    record {
      start = flown.start ∙ course.start;
      approved = flown.rvsm ∙ course.approved;
      room = room;
      end = flown.at;
      held = rw place (end_kept m number fix a kept fix_kept course.held);
      within = omega arith;
      rows = rw (all, place, e) (ahead d course below fix refl);
    }

pub full : {m : Manner} {fixes : List Point} {next at : ℕ} {rvsm : Bool} {from : Place} {number : ℕ} {t new : Trajectory} {a b : Place} (d : Point) (leg : Leg)
    → IsOnCourse m fixes next at rvsm from number t a → number < length fixes → leg ≡ leg_to m.bands number (get_or fixes number d) a
    → IsLegFlown m leg t new a b → length new.rows ≡ 14400 → new.rows ≡ predicted m next (drop next fixes) from
full {m} {fixes} {next} {at} {rvsm} {from} {number} {t} {new} {a} {b} d leg course below leg_is flown whole =
    let fix = get_or fixes number d in
    let rows : new.rows ≡ take 14400 (t.rows ++ rows_to m number fix a) = rw leg_is at flown.rows in
    rows
    ∙ front_of_more 14400 (t.rows ++ rows_to m number fix a) (rows_along m (suc number) (drop (suc number) fixes) (end_after a (rows_to m number fix a)))
    (sym (ap length rows) ∙ whole)
    ∙ ap (take 14400) (ahead d course below fix refl)

pub over_last : {m : Manner} {fixes : List Point} {next at : ℕ} {rvsm : Bool} {from : Place} {number : ℕ} {t : Trajectory} {a : Place}
    → IsOnCourse m fixes next at rvsm from number t a → length fixes ≤ number → t.rows ≡ predicted m next (drop next fixes) from
over_last {m} {fixes} {next} {at} {rvsm} {from} {number} {t} {a} course past =
    let none : drop number fixes ≡ [] = drop_all number fixes past in
    let rows : t.rows ≡ rows_along m next (drop next fixes) from = sym (append-nil t.rows) ∙ (rw none at course.rows) in
    sym (take_all 14400 t.rows (omega (arith, course.room))) ∙ ap (take 14400) rows
