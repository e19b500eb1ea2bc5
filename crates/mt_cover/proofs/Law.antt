-- In a loss second two covers share a cell.
use Rattle.std.proofs.Common.{◌≡◌, ℕ, suc, ◌+◌, ◌-◌, ◌*◌, ◌/◌, ◌%◌, ◌<◌, ◌≤◌, max, ⊎_elim, ℤ, pos, negsuc, ◌+ℤ◌, ◌≤ℤ◌, List, [], ◌∷◌, Contains, Some, None, length, take, drop, flat_map, get_or, int_div, refl, ◌∙◌, arith}
use Rattle.std.proofs.lemmas.Bool.{cases_lt, le-ltb, lt-ltb}
use Rattle.std.proofs.lemmas.Int.{ints}
use Rattle.std.proofs.lemmas.List.FromFn.{get_or-map-range_with_len}
use Rattle.std.proofs.lemmas.Option.{slice_get-get_or, slice_get_within}
use Rattle.std.specs.Int.{div_ceil}
use Rattle.std.specs.List.{range_with_len}
use Rattle.std.specs.Prelude.{slice_get}
use Rattle.mt_base.specs.declared.row.Row.{Row}
use Rattle.mt_base.specs.declared.rules.Rules.{Rules}
use Rattle.mt_base.specs.Bounds.{AreWithinBounds, IsBoundedRow}
use Rattle.mt_base.specs.Conflict.{IsLossSecond}
use Rattle.mt_base.specs.Trajectory.{Trajectory, row_at}
use Rattle.mt_cover.specs.declared.layer.Layer.{Layer}
use Rattle.mt_track.specs.Laid.{IsStrand}
use Rattle.mt_cover.specs.Layer.{IsInLayer}
use Rattle.mt_track.proofs.Strands.{IsBoundedRow-row_at}
use Rattle.mt_cover.specs.declared.bounding_box.BoundingBox.{BoundingBox}
use Rattle.mt_cover.specs.declared.bounding_box.Extent.{Extent}
use Rattle.mt_cover.specs.declared.sliced.Slice.{Slice}
use Rattle.mt_cover.specs.declared.stays.Stay.{Stay}
use Rattle.mt_cover.specs.Box.{box_of, box_over, half, wider}
use Rattle.mt_cover.specs.Cells.{IsAt, MissesNone, ShareAt, cells, cells_in, cells_of, cover_of, place, place_from, cells_between, slice_rows, stays_in, stays_of, stays_over}
use Rattle.mt_cover.specs.Sliced.{Have, Reaches, Touch, TouchBoth, TouchingIsNear, no_slice, slice_at, slice_by, slice_in, slice_over, slices_of}
use Rattle.mt_cover.proofs.Apart.{BoxesMeet, Holds, Meet, Rises, Spans, boxes_meet}
use Rattle.mt_cover.proofs.Holding.{Holds-slice_get, IsPart, IsPart-grown_by, IsPart-own}
use Rattle.mt_base.proofs.Members.{Contains-flat_map, Contains-map}
use Rattle.mt_cover.proofs.Members.{Contains-range, in_part, part_in_part}

-- a greater value is in no lesser place
place_from_rises : (y z : ℤ) → y ≤ℤ z → place_from y ≤ place_from z
place_from_rises (pos m) (pos n) h = let less : m ≤ n = omega (arith, ints) in omega (arith, less)
place_from_rises (pos m) (negsuc n) h = absurd (omega (arith, ints))
place_from_rises (negsuc m) z h = omega arith

pub place_rises : (y z : ℤ) → y ≤ℤ z → place y ≤ place z
place_rises y z h = place_from_rises (y +ℤ pos 3686400) (z +ℤ pos 3686400) (omega (arith, ints))

-- extents that meet have a place in common
record CommonPlace (e f : Extent) : Type 0 where
  place : ℕ
  left : Contains (cells_between e) place
  right : Contains (cells_between f) place

common_place : (e f : Extent) → Meet e f → CommonPlace e f
common_place e f meet =
    let a = place_rises e.low e.high meet.first in
    let b = place_rises f.low f.high meet.second in
    let c = place_rises e.low f.high meet.left in
    let d = place_rises f.low e.high meet.right in
    let p = max (place e.low) (place f.low) in
    record {
      place = p;
      left = Contains-range (place e.low) (suc (place e.high) - place e.low) p (omega arith) (omega (arith, a, d));
      right = Contains-range (place f.low) (suc (place f.high) - place f.low) p (omega arith) (omega (arith, b, c));
    }

Contains-cells : (x y : Extent) (column line : ℕ) → Contains (cells_between x) column → Contains (cells_between y) line → Contains (cells x y) (64 * line + column)
Contains-cells x y column line in_x in_y =
    Contains-flat_map (cells_in x) (cells_between y) line (64 * line + column) in_y (Contains-map (λ (c : ℕ). 64 * line + c) (cells_between x) column in_x)

-- stays cover a row in a second, and a slice has it: the box of the slice holds the row. It is part of a box, that of a slice of the cover, that
-- holds the row too, in each cell of which, made wider, one of the stays is.
record Covers (rules : Rules) (stays : List Stay) (slice : Slice) (row : Row) (k : ℕ) : Type 0 where
  bounds : BoundingBox
  around : BoundingBox
  is : slice ≡ slice_by rules bounds
  holds : Holds bounds row
  holds_around : Holds around row
  part : IsPart bounds around
  each : (cell : ℕ) → Contains (cells_of rules around) cell → IsAt stays cell k

IsAt-flat_map : {X : Type 0} (f : X → List Stay) (xs : List X) (x : X) (cell k : ℕ) → Contains xs x → IsAt (f x) cell k → IsAt (flat_map f xs) cell k
IsAt-flat_map f xs x cell k in_x at = record {
  stay = at.stay;
  of = Contains-flat_map f xs x at.stay in_x at.of;
  there = at.there;
  begun = at.begun;
  within = at.within;
}

IsAt-stays_of : (from to : ℕ) (list : List ℕ) (cell k : ℕ) → Contains list cell → from ≤ k → k < to → IsAt (stays_of from to list) cell k
IsAt-stays_of from to list cell k in_list begun within = record {
  stay = record { cell = cell; from = from; to = to };
  of = Contains-map (λ (cell : ℕ). record { cell = cell; from = from; to = to }) list cell in_list;
  there = refl;
  begun = begun;
  within = within;
}

-- stays of some rows: there is a box that holds them, in each cell of which, made wider, one of the stays is
record AreAround (rules : Rules) (stays : List Stay) (rows : List Row) (k : ℕ) : Type 0 where
  bounds : BoundingBox
  holds : (i : ℕ) (row : Row) → slice_get rows i ≡ Some row → Holds bounds row
  each : (cell : ℕ) → Contains (cells_of rules bounds) cell → IsAt stays cell k

are_around : (rules : Rules) (from : ℕ) (rows : List Row) (i : ℕ) (row : Row) → slice_get rows i ≡ Some row → AreAround rules (stays_over rules from rows) rows (from + i)
are_around rules from [] i row at = cc
are_around rules from (first ∷ rows) i row at = record {
  bounds = box_over (first ∷ rows) first;
  holds = Holds-slice_get (box_of first) (first ∷ rows);
  each = λ cell in_cells. IsAt-stays_of from (from + length (first ∷ rows)) (cells_of rules (box_over (first ∷ rows) first)) cell (from + i) in_cells (omega arith)
      (omega (arith, slice_get_within (first ∷ rows) i row at));
}

-- the box of some rows, which is part of each box that holds all of them
record IsBoxOf (rules : Rules) (rows : List Row) : Type 0 where
  bounds : BoundingBox
  is : slice_over rules rows ≡ slice_by rules bounds
  holds : (i : ℕ) (row : Row) → slice_get rows i ≡ Some row → Holds bounds row
  least : (b : BoundingBox) → ((i : ℕ) (row : Row) → slice_get rows i ≡ Some row → Holds b row) → IsPart bounds b

is_box_of : (rules : Rules) (rows : List Row) (i : ℕ) (row : Row) → slice_get rows i ≡ Some row → IsBoxOf rules rows
is_box_of rules [] i row at = cc
is_box_of rules (first ∷ rows) i row at = record {
  bounds = box_over (first ∷ rows) first;
  is = refl;
  holds = Holds-slice_get (box_of first) (first ∷ rows);
  least = λ b each. IsPart-grown_by (box_of first) b (first ∷ rows) (IsPart-own b first (each 0 first refl)) each;
}

covers : (rules : Rules) (t : Trajectory) (k : ℕ) (row : Row) → row_at t k ≡ Some row → Covers rules (cover_of rules t) (slice_at (slices_of rules t) k) row k
covers rules t k row at = ⊎_elim
    (λ early. let none : row_at t k ≡ None = rw (lt-ltb k t.start early) refl in cc)
    (λ begun. let found : slice_get t.rows (k - t.start) ≡ Some row = rw (le-ltb k t.start begun) at at in in_slice begun found)
    (cases_lt k t.start) where
      in_slice : t.start ≤ k → slice_get t.rows (k - t.start) ≡ Some row → Covers rules (cover_of rules t) (slice_at (slices_of rules t) k) row k
      in_slice begun found =
          let i = (k - t.start) / 128 in
          let j = (k - t.start) % 128 in
          let m = (k - t.start) / 256 in
          let n = (k - t.start) % 256 in
          let number : k - t.start < length t.rows = slice_get_within t.rows (k - t.start) row found in
          let own = is_box_of rules (take 128 (drop (128 * i) t.rows)) j row (in_part t.rows 128 (128 * i) j (k - t.start) row (omega arith) (omega arith) found) in
          let here = in_part t.rows 256 (256 * m) n (k - t.start) row (omega arith) (omega arith) found in
          let c = are_around rules (t.start + 256 * m) (slice_rows t.rows m) n row here in
          let second : t.start + 256 * m + n ≡ k = omega (arith, begun) in
          record {
            bounds = own.bounds;
            around = c.bounds;
            is = get_or-map-range_with_len (slice_in rules t) 0 (div_ceil (length t.rows) 128) i i no_slice (omega (arith, number)) (omega arith) ∙ own.is;
            holds = own.holds j row (in_part t.rows 128 (128 * i) j (k - t.start) row (omega arith) (omega arith) found);
            holds_around = c.holds n row here;
            part = own.least c.bounds (λ p other at. c.holds ((128 * i - 256 * m) + p) other
                (part_in_part t.rows 128 256 (128 * i) (256 * m) p other (omega arith) (omega arith) at));
            each = λ cell in_cells. IsAt-flat_map (stays_in rules t) (range_with_len 0 (div_ceil (length t.rows) 256)) m cell k
                (Contains-range 0 (div_ceil (length t.rows) 256) m (omega arith) (omega (arith, number)))
                (rw second at (c.each cell in_cells));
          }

-- covers of rows share a cell where boxes of their slices, made wider, meet
share_by : (rules : Rules) (k : ℕ) (stays others : List Stay) (slice other : Slice) (row next : Row) (left : Covers rules stays slice row k)
    (right : Covers rules others other next k) → BoxesMeet rules left.around right.around → ShareAt stays others k
share_by rules k stays others slice other row next left right meet =
    let by_left = left.around.margin +ℤ half rules in
    let by_right = right.around.margin +ℤ half rules in
    let x = common_place (wider left.around.x by_left) (wider right.around.x by_right) meet.x in
    let y = common_place (wider left.around.y by_left) (wider right.around.y by_right) meet.y in
    record {
      cell = 64 * y.place + x.place;
      left = left.each (64 * y.place + x.place) (Contains-cells (wider left.around.x by_left) (wider left.around.y by_left) x.place y.place x.left y.left);
      right = right.each (64 * y.place + x.place) (Contains-cells (wider right.around.x by_right) (wider right.around.y by_right) x.place y.place x.right y.right);
    }

-- what holds in a loss second: the slices of both have it, have a position in common, and hold the heights of the rows
pub record AreCut (rules : Rules) (a b : Trajectory) (k : ℕ) (loss : IsLossSecond rules a b k) : Type 0 where
  pub left : Have (slices_of rules a) k
  pub right : Have (slices_of rules b) k
  pub touch : TouchBoth (slice_at (slices_of rules a) k) (slice_at (slices_of rules b) k)
  pub left_in : IsInLayer (slice_at (slices_of rules a) k).layer loss.left
  pub right_in : IsInLayer (slice_at (slices_of rules b) k).layer loss.right

have_row : (rules : Rules) (t : Trajectory) (k : ℕ) (row : Row) → row_at t k ≡ Some row → Have (slices_of rules t) k
have_row rules t k row at = ⊎_elim
    (λ early. let none : row_at t k ≡ None = rw (lt-ltb k t.start early) refl in cc)
    (λ begun. let found : slice_get t.rows (k - t.start) ≡ Some row = rw (le-ltb k t.start begun) at at in
    record { begun = begun; within = omega (arith, slice_get_within t.rows (k - t.start) row found) })
    (cases_lt k t.start)

in_heights : (layer : Layer) (row : Row) → IsBoundedRow row → Rises layer row → IsInLayer layer row
in_heights layer row kept rises = record {
  start = record { margin = kept.w.value.least; low = rises.low; high = rises.high };
  end = record {
    margin = omega (arith, ints, kept.w.value.least, kept.w.growth.least);
    low = omega (arith, ints, rises.low_end);
    high = omega (arith, ints, rises.high_end);
  };
}

touch : (e f : Extent) → Meet e f → Touch e f
touch e f meet = record { left = meet.left; right = meet.right }

pub cut_by_loss : (rules : Rules) (a b : Trajectory) (k : ℕ) (loss : IsLossSecond rules a b k) → AreWithinBounds rules → IsStrand a → IsStrand b → AreCut rules a b k loss
cut_by_loss rules a b k loss rules_kept a_kept b_kept =
    let left = covers rules a k loss.left loss.left_is in
    let right = covers rules b k loss.right loss.right_is in
    let left_kept = IsBoundedRow-row_at a k loss.left a_kept loss.left_is in
    let right_kept = IsBoundedRow-row_at b k loss.right b_kept loss.right_is in
    let meet = boxes_meet rules _ _ left.bounds right.bounds loss.left loss.right rules_kept left_kept right_kept left.holds right.holds loss.loss in
    record {
      left = have_row rules a k loss.left loss.left_is;
      right = have_row rules b k loss.right loss.right_is;
      touch = rw (left.is, right.is) (record { x = touch _ _ meet.x; y = touch _ _ meet.y });
      left_in = rw left.is (in_heights left.bounds.layer loss.left left_kept left.holds.heights);
      right_in = rw right.is (in_heights right.bounds.layer loss.right right_kept right.holds.heights);
    }

-- in each second that a trajectory covers it has a row
record HasRow (t : Trajectory) (k : ℕ) : Type 0 where
  row : Row
  is : row_at t k ≡ Some row

no_row : Row
no_row = record { x = pos 0; y = pos 0; z = pos 0; r = pos 0; w = pos 0; vx = pos 0; vy = pos 0; vz = pos 0; gr = pos 0; gw = pos 0; leg = 0 }

has_row : (rules : Rules) (t : Trajectory) (k : ℕ) → Have (slices_of rules t) k → HasRow t k
has_row rules t k have = record {
  row = get_or t.rows (k - t.start) no_row;
  is = rw (le-ltb k t.start have.begun) (slice_get-get_or t.rows (k - t.start) no_row (omega (arith, have.begun, have.within)));
}

-- an extent that spans a value is in order
in_order : (e : Extent) (z v m : ℤ) → Spans e z v → pos 0 ≤ℤ m → (wider e m).low ≤ℤ (wider e m).high
in_order e z v m spans some = omega (arith, ints, spans.low, spans.high)

-- where parts of two extents, made wider, touch, these meet
meet_by : (e f o p : Extent) (m n g h : ℤ) → Reaches e o → Reaches f p → g ≤ℤ m → h ≤ℤ n → (wider e m).low ≤ℤ (wider e m).high → (wider f n).low ≤ℤ (wider f n).high
    → Touch (wider o g) (wider p h) → Meet (wider e m) (wider f n)
meet_by e f o p m n g h left right less fewer first second touch = record {
  first = first;
  second = second;
  left = omega (arith, ints, left.low, right.high, less, fewer, touch.left);
  right = omega (arith, ints, left.high, right.low, less, fewer, touch.right);
}

half_nonneg : (z : ℤ) → pos 1 ≤ℤ z → pos 0 ≤ℤ int_div (z +ℤ pos 1) (pos 2)
half_nonneg (pos n) least = omega (arith, ints)
half_nonneg (negsuc n) least = absurd (omega (arith, ints))

reach_nonneg : (rules : Rules) (a : BoundingBox) (row : Row) → AreWithinBounds rules → IsBoundedRow row → Holds a row → pos 0 ≤ℤ (a.margin +ℤ half rules)
reach_nonneg rules a row rules_kept kept holds =
    let h = half_nonneg rules.sh rules_kept.sh.least in
    omega (arith, ints, holds.margin, kept.r.value.least, kept.r.growth.least, h)

more_margin : (m n h : ℤ) → m ≤ℤ n → (m +ℤ h) ≤ℤ (n +ℤ h)
more_margin m n h less = omega (arith, ints, less)

pub touching_is_near : TouchingIsNear
touching_is_near rules a b k rules_kept a_kept b_kept have_a have_b touch =
    let one = has_row rules a k have_a in
    let other = has_row rules b k have_b in
    let left = covers rules a k one.row one.is in
    let right = covers rules b k other.row other.is in
    let m = reach_nonneg rules left.around one.row rules_kept (IsBoundedRow-row_at a k one.row a_kept one.is) left.holds_around in
    let n = reach_nonneg rules right.around other.row rules_kept (IsBoundedRow-row_at b k other.row b_kept other.is) right.holds_around in
    let both = rw (left.is, right.is) at touch in
    let by_left = left.around.margin +ℤ half rules in
    let by_right = right.around.margin +ℤ half rules in
    let less = more_margin left.bounds.margin left.around.margin (half rules) left.part.margin in
    let fewer = more_margin right.bounds.margin right.around.margin (half rules) right.part.margin in
    share_by rules k (cover_of rules a) (cover_of rules b) (slice_at (slices_of rules a) k) (slice_at (slices_of rules b) k) one.row other.row left right (record {
      x = meet_by left.around.x right.around.x left.bounds.x right.bounds.x by_left by_right _ _ left.part.x right.part.x less fewer
          (in_order left.around.x one.row.x one.row.vx by_left left.holds_around.x m)
          (in_order right.around.x other.row.x other.row.vx by_right right.holds_around.x n) both.x;
      y = meet_by left.around.y right.around.y left.bounds.y right.bounds.y by_left by_right _ _ left.part.y right.part.y less fewer
          (in_order left.around.y one.row.y one.row.vy by_left left.holds_around.y m)
          (in_order right.around.y other.row.y other.row.vy by_right right.holds_around.y n) both.y;
    })

pub misses_none : MissesNone
misses_none rules a b k rules_kept a_kept b_kept loss =
    let cut = cut_by_loss rules a b k loss rules_kept a_kept b_kept in
    touching_is_near rules a b k rules_kept a_kept b_kept cut.left cut.right cut.touch
