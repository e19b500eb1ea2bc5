-- A leg while it is flown: what stands after each stretch, and at the end.
use Rattle.std.proofs.Common.{◌≡◌, ℕ, zero, suc, ◌+◌, ◌-◌, ◌<◌, ◌≤◌, pos, List, ◌++◌, length, take, All, min, sym, ap, ◌∙◌, subst, arith, refl, append_assoc, length-append}
use Rattle.std.proofs.lemmas.Int.{clamps, ints}
use Rattle.std.proofs.lemmas.List.Elements.{All-head}
use Rattle.mt_base.specs.declared.place.Leg.{Leg}
use Rattle.mt_base.specs.declared.place.Place.{Place}
use Rattle.mt_base.specs.declared.row.Row.{Row}
use Rattle.mt_base.specs.Bounds.{AreWithinBounds, IsBoundedOver, IsBoundedRow, IsWithin}
use Rattle.mt_base.specs.Predictor.{Manner, climb_from, end_after, end_of, row_on, rows_on}
use Rattle.mt_base.specs.Trajectory.{Trajectory, straight_rows}
use Rattle.mt_track.specs.Laid.{Follows, extended}
use Rattle.mt_track.proofs.Straight.{length-straight_rows}
use Rattle.mt_predict.specs.Private.Flying.{EndAt, IsFlownRow, IsSteady, place_at}
use Rattle.mt_predict.proofs.Margins.{vertical_within}
use Rattle.mt_predict.proofs.Rows.{All-back, All-front, EndAt-stretch, IsBoundedOver-stretch, continues_at, end_after-append, end_after-straight, first_of_all, length-rows_on, stretch}

-- the row that is next is bounded, and with it its margins
pub first_bounded : (m : Manner) (leg : Leg) (left : ℕ) (a : Place) → 0 < left → All IsBoundedRow (rows_on m leg left a) → IsBoundedRow (row_on m leg (left - 1) a)
first_bounded m leg zero a some all = absurd (omega arith)
first_bounded m leg (suc n) a some all =
    let e : n ≡ suc n - 1 = omega arith in
    subst (λ (k : ℕ). IsBoundedRow (row_on m leg k a)) e (All-head IsBoundedRow (row_on m leg n a) (rows_on m leg n (end_of (row_on m leg n a))) all)

margin_within : (m : Manner) (leg : Leg) (n : ℕ) (a : Place) → IsBoundedRow (row_on m leg n a) → IsWithin (pos 0) m.rules.rmax (row_on m leg n a).r
unfolding row_on
margin_within m leg n a bounded =
    let value = bounded.r.value in
    let growth = bounded.r.growth in
    record { least = value.least; most = omega (arith, ints, clamps, growth.least) }

height_margin_within : (m : Manner) (leg : Leg) (n : ℕ) (a : Place) → AreWithinBounds m.rules → IsBoundedRow (row_on m leg n a)
    → IsWithin (pos 0) m.rules.wmax (row_on m leg n a).w
unfolding row_on
height_margin_within m leg n a kept bounded = vertical_within m.rules (climb_from m a.z) a.w kept bounded.w.value bounded.w.growth

pub row_flown : (m : Manner) (leg : Leg) (n : ℕ) (a : Place) (row : Row) → AreWithinBounds m.rules → row ≡ row_on m leg n a → IsBoundedRow (row_on m leg n a)
    → IsFlownRow m row
unfolding row_on
row_flown m leg n a row kept is bounded = subst (IsFlownRow m) (sym is) (record {
  height = bounded.z.value;
  climb = refl;
  r = margin_within m leg n a bounded;
  w = height_margin_within m leg n a kept bounded;
})

-- With so many seconds of a leg left, some rows stand after the old ones, and with those that are left they are all of the leg.
pub record IsUnderWay (m : Manner) (leg : Leg) (old : Trajectory) (from : Place) (cut : ℕ) (t : Trajectory) (left : ℕ) (a : Place) : Type 0 where
  pub start : t.start ≡ old.start
  pub rvsm : t.rvsm ≡ old.rvsm
  pub at : EndAt t.rows a
  pub ahead : cut ≤ left
  pub within : left ≤ leg.seconds
  pub count : length t.rows + left ≡ length old.rows + leg.seconds
  pub bounded : All IsBoundedRow (rows_on m leg left a)
  pub rows : t.rows ++ rows_on m leg left a ≡ old.rows ++ rows_on m leg leg.seconds from
  pub end : end_after a (rows_on m leg left a) ≡ end_after from (rows_on m leg leg.seconds from)

-- the next stretch: its row, and how many seconds it lasts
pub record IsNext (m : Manner) (leg : Leg) (cut left : ℕ) (a : Place) (row : Row) (n : ℕ) : Type 0 where
  pub is : row ≡ row_on m leg (left - 1) a
  pub steady : IsSteady m leg left row n
  pub some : 0 < n
  pub few : n ≤ left - cut

-- the rows that are left, parted after the stretch
parted : {m : Manner} {leg : Leg} {cut left : ℕ} {a : Place} {row : Row} {n : ℕ} → IsNext m leg cut left a row n
    → rows_on m leg left a ≡ straight_rows row n ++ rows_on m leg (left - n) (place_at row n)
parted {m} {leg} {cut} {left} {a} {row} {n} next = stretch m leg left n a row next.steady next.is next.some (omega (arith, next.few))

parted_bounded : {m : Manner} {leg : Leg} {cut left : ℕ} {a : Place} {row : Row} {n : ℕ} → IsNext m leg cut left a row n
    → All IsBoundedRow (rows_on m leg left a) → All IsBoundedRow (straight_rows row n ++ rows_on m leg (left - n) (place_at row n))
parted_bounded next all = subst (All IsBoundedRow) (parted next) all

pub stretch_bounded : {m : Manner} {leg : Leg} {cut left : ℕ} {a : Place} {row : Row} {n : ℕ} → IsNext m leg cut left a row n
    → All IsBoundedRow (rows_on m leg left a) → IsBoundedOver row n
stretch_bounded {m} {leg} {cut} {left} {a} {row} {n} next all =
    IsBoundedOver-stretch row n next.some (All-front IsBoundedRow (straight_rows row n) (rows_on m leg (left - n) (place_at row n)) (parted_bounded next all))

-- its rows can follow
pub stretch_follows : {m : Manner} {leg : Leg} {old : Trajectory} {from : Place} {cut left : ℕ} {t : Trajectory} {a : Place} {row : Row} {n : ℕ} (begin room : ℕ)
    → IsUnderWay m leg old from cut t left a → IsNext m leg cut left a row n → begin ≡ t.start + length t.rows → old.start ≤ 10000000
    → room + length old.rows ≡ 14400 → cut ≡ leg.seconds - min leg.seconds room
    → Follows t (record { from = begin; to = begin + n; first = row })
stretch_follows {m} {leg} {old} {from} {cut} {left} {t} {a} {row} {n} begin room way next begins early room_is cut_is =
    let e : n ≡ (begin + n) - begin = omega arith in
    record {
      adjoins = begins;
      some = omega (arith, next.some);
      continues = continues_at t.rows m leg (left - 1) a row next.is way.at;
      bounded = subst (IsBoundedOver row) e (stretch_bounded next way.bounded);
      short = omega (arith, way.count, way.ahead, way.within, next.few);
      early = omega (arith, way.count, way.ahead, way.within, way.start, next.few);
    }

-- and then the leg is under way with that many seconds less
pub stretch_flown : {m : Manner} {leg : Leg} {old : Trajectory} {from : Place} {cut left : ℕ} {t new : Trajectory} {a b : Place} {row : Row} {n : ℕ} (begin : ℕ)
    → IsUnderWay m leg old from cut t left a → IsNext m leg cut left a row n → new ≡ extended t (record { from = begin; to = begin + n; first = row })
    → b ≡ place_at row n → IsUnderWay m leg old from cut new (left - n) b
stretch_flown {m} {leg} {old} {from} {cut} {left} {t} {new} {a} {b} {row} {n} begin way next is place = rw place (record {
  start = ap (λ (t : Trajectory). t.start) is ∙ way.start;
  rvsm = ap (λ (t : Trajectory). t.rvsm) is ∙ way.rvsm;
  at = subst (λ (rows : List Row). EndAt rows (place_at row n)) (sym rows_are) (EndAt-stretch t.rows row n next.some);
  ahead = omega (arith, next.few, way.ahead);
  within = omega (arith, way.within);
  count = omega (arith, ap length rows_are, length-append t.rows (straight_rows row n), length-straight_rows row n, way.count, way.ahead, next.few);
  bounded = All-back IsBoundedRow (straight_rows row n) (rows_on m leg (left - n) (place_at row n)) (parted_bounded next way.bounded);
  rows = ap (λ (rows : List Row). rows ++ rows_on m leg (left - n) (place_at row n)) rows_are
      ∙ append_assoc t.rows (straight_rows row n) (rows_on m leg (left - n) (place_at row n))
      ∙ ap (λ (rows : List Row). t.rows ++ rows) (sym (parted next))
      ∙ way.rows;
  end = sym (ap (λ (b : Place). end_after b (rows_on m leg (left - n) (place_at row n))) (end_after-straight a row n next.some))
      ∙ sym (end_after-append a (straight_rows row n) (rows_on m leg (left - n) (place_at row n)))
      ∙ ap (end_after a) (sym (parted next))
      ∙ way.end;
})
  where
    rows_are : new.rows ≡ t.rows ++ straight_rows row n
    rows_are = let e : (begin + n) - begin ≡ n = omega arith in ap (λ (t : Trajectory). t.rows) is ∙ ap (λ (k : ℕ). t.rows ++ straight_rows row k) e

-- At the end nothing is left but what is cut off.
pub rows_flown : {m : Manner} {leg : Leg} {old : Trajectory} {from : Place} {cut left : ℕ} {t : Trajectory} {a : Place} (room : ℕ)
    → IsUnderWay m leg old from cut t left a → left ≤ cut → room + length old.rows ≡ 14400 → cut ≡ leg.seconds - min leg.seconds room
    → t.rows ≡ take 14400 (old.rows ++ rows_on m leg leg.seconds from)
rows_flown {m} {leg} {old} {from} {cut} {left} {t} {a} room way done room_is cut_is =
    first_of_all 14400 t.rows (rows_on m leg left a) (omega (arith, way.count, way.ahead, way.within))
    (λ some. omega (arith, way.count, way.ahead, way.within, some, length-rows_on m leg left a)) ∙ ap (take 14400) way.rows

pub place_flown : {m : Manner} {leg : Leg} {old : Trajectory} {from : Place} {cut left : ℕ} {t : Trajectory} {a : Place} (room : ℕ)
    → IsUnderWay m leg old from cut t left a → left ≤ cut → room + length old.rows ≡ 14400 → cut ≡ leg.seconds - min leg.seconds room
    → length t.rows < 14400 → a ≡ end_after from (rows_on m leg leg.seconds from)
place_flown {m} {leg} {old} {from} {cut} {left} {t} {a} room way done room_is cut_is more =
    let none : left ≡ 0 = omega (arith, way.count, way.ahead, way.within) in
    rw none at way.end
