-- The box of some rows holds each of them.
use Rattle.std.proofs.Common.{◌≡◌, ℕ, zero, suc, ℤ, ◌+ℤ◌, ◌≤ℤ◌, List, [], ◌∷◌, Some, refl, arith}
use Rattle.std.proofs.lemmas.Int.{ints, clamps}
use Rattle.std.specs.Int.{int_max}
use Rattle.std.specs.Prelude.{slice_get}
use Rattle.mt_base.specs.declared.row.Row.{Row}
use Rattle.mt_cover.specs.declared.layer.Layer.{Layer}
use Rattle.mt_cover.specs.declared.bounding_box.BoundingBox.{BoundingBox}
use Rattle.mt_cover.specs.declared.bounding_box.Extent.{Extent}
use Rattle.mt_cover.specs.Box.{both, box_of, extent_of, grown, grown_by, hull, layer_of}
use Rattle.mt_cover.specs.Sliced.{Reaches}
use Rattle.mt_cover.proofs.Apart.{Holds, Rises, Spans}

Spans-own : (z v : ℤ) → Spans (extent_of z v) z v
Spans-own z v = record {
  low = omega (arith, ints, clamps);
  low_end = omega (arith, ints, clamps);
  high = omega (arith, ints, clamps);
  high_end = omega (arith, ints, clamps);
}

Spans-left : (e f : Extent) (z v : ℤ) → Spans e z v → Spans (hull e f) z v
Spans-left e f z v h = record {
  low = omega (arith, ints, clamps, h.low);
  low_end = omega (arith, ints, clamps, h.low_end);
  high = omega (arith, ints, clamps, h.high);
  high_end = omega (arith, ints, clamps, h.high_end);
}

Spans-right : (e f : Extent) (z v : ℤ) → Spans f z v → Spans (hull e f) z v
Spans-right e f z v h = record {
  low = omega (arith, ints, clamps, h.low);
  low_end = omega (arith, ints, clamps, h.low_end);
  high = omega (arith, ints, clamps, h.high);
  high_end = omega (arith, ints, clamps, h.high_end);
}

not_less : (m z : ℤ) → z ≤ℤ int_max m z
not_less m z = omega (arith, ints, clamps)

still : (m z y : ℤ) → y ≤ℤ m → y ≤ℤ int_max m z
still m z y h = omega (arith, ints, clamps)

Rises-right : (layer : Layer) (row : Row) → Rises (both layer (layer_of row)) row
Rises-right layer row = record {
  low = omega (arith, ints, clamps);
  low_end = omega (arith, ints, clamps);
  high = omega (arith, ints, clamps);
  high_end = omega (arith, ints, clamps);
}

pub Rises-left : (layer other : Layer) (row : Row) → Rises layer row → Rises (both layer other) row
Rises-left layer other row h = record {
  low = omega (arith, ints, clamps, h.low);
  low_end = omega (arith, ints, clamps, h.low_end);
  high = omega (arith, ints, clamps, h.high);
  high_end = omega (arith, ints, clamps, h.high_end);
}

Holds-new : (a : BoundingBox) (row : Row) → Holds (grown a row) row
Holds-new a row = record {
  x = Spans-right a.x (extent_of row.x row.vx) row.x row.vx (Spans-own row.x row.vx);
  y = Spans-right a.y (extent_of row.y row.vy) row.y row.vy (Spans-own row.y row.vy);
  margin = not_less a.margin (row.r +ℤ row.gr);
  heights = Rises-right a.layer row;
}

Holds-grown : (a : BoundingBox) (next row : Row) → Holds a row → Holds (grown a next) row
Holds-grown a next row h = record {
  x = Spans-left a.x (extent_of next.x next.vx) row.x row.vx h.x;
  y = Spans-left a.y (extent_of next.y next.vy) row.y row.vy h.y;
  margin = still a.margin (next.r +ℤ next.gr) (row.r +ℤ row.gr) h.margin;
  heights = Rises-left a.layer (layer_of next) row h.heights;
}

pub Holds-grown_by : (a : BoundingBox) (rows : List Row) (row : Row) → Holds a row → Holds (grown_by a rows) row
Holds-grown_by a [] row h = h
Holds-grown_by a (next ∷ rows) row h = Holds-grown_by (grown a next) rows row (Holds-grown a next row h)

pub Holds-slice_get : (a : BoundingBox) (rows : List Row) (i : ℕ) (row : Row) → slice_get rows i ≡ Some row → Holds (grown_by a rows) row
Holds-slice_get a [] i row at = cc
Holds-slice_get a (next ∷ rows) zero row at =
    let same : next ≡ row = cc in
    rw same (Holds-grown_by (grown a row) rows row (Holds-new a row))
Holds-slice_get a (next ∷ rows) (suc i) row at = Holds-slice_get (grown a next) rows i row at

-- a box reaches as far as another, and its margin is no less
pub record IsPart (a b : BoundingBox) : Type 0 where
  pub x : Reaches b.x a.x
  pub y : Reaches b.y a.y
  pub margin : a.margin ≤ℤ b.margin

reaches-own : (e : Extent) (z v : ℤ) → Spans e z v → Reaches e (extent_of z v)
reaches-own e z v h = record { low = omega (arith, ints, clamps, h.low, h.low_end); high = omega (arith, ints, clamps, h.high, h.high_end) }

reaches-hull : (e f g : Extent) → Reaches e f → Reaches e g → Reaches e (hull f g)
reaches-hull e f g a b = record { low = omega (arith, ints, clamps, a.low, b.low); high = omega (arith, ints, clamps, a.high, b.high) }

neither_more : (y z m : ℤ) → y ≤ℤ m → z ≤ℤ m → int_max y z ≤ℤ m
neither_more y z m a b = omega (arith, ints, clamps, a, b)

-- the box of a row is part of each that holds the row
pub IsPart-own : (b : BoundingBox) (row : Row) → Holds b row → IsPart (box_of row) b
IsPart-own b row h = record { x = reaches-own b.x row.x row.vx h.x; y = reaches-own b.y row.y row.vy h.y; margin = h.margin }

IsPart-grown : (a b : BoundingBox) (row : Row) → IsPart a b → Holds b row → IsPart (grown a row) b
IsPart-grown a b row part h =
    let own = IsPart-own b row h in
    record {
      x = reaches-hull b.x a.x (extent_of row.x row.vx) part.x own.x;
      y = reaches-hull b.y a.y (extent_of row.y row.vy) part.y own.y;
      margin = neither_more a.margin (row.r +ℤ row.gr) b.margin part.margin h.margin;
    }

-- so is a box with rows that it holds
pub IsPart-grown_by : (a b : BoundingBox) (rows : List Row) → IsPart a b → ((i : ℕ) (row : Row) → slice_get rows i ≡ Some row → Holds b row) → IsPart (grown_by a rows) b
IsPart-grown_by a b [] part each = part
IsPart-grown_by a b (row ∷ rows) part each = IsPart-grown_by (grown a row) b rows (IsPart-grown a b row part (each 0 row refl)) (λ i next at. each (suc i) next at)
