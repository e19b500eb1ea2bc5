-- Straight rows: how many there are, which the k-th is, that each keeps its bounds, and that each is continued by the next.
use Rattle.std.proofs.Common.{◌≡◌, ℕ, zero, suc, ◌+◌, ◌<◌, ◌≤◌, ℤ, pos, negsuc, ◌+ℤ◌, ◌*ℤ◌, length, Some, All, sym, ap, ◌∙◌, subst, arith, refl, mul-le-mul, le_refl}
use Rattle.std.proofs.lemmas.Int.{ints}
use Rattle.std.proofs.lemmas.Option.{get_or_from_slice_get}
use Rattle.std.specs.Prelude.{slice_get, slice_index_or}
use Rattle.std.specs.List.{AllAdjacentBelow}
use Rattle.mt_ring.proofs.Ring.{lin}
use Rattle.mt_base.specs.declared.row.Row.{Row}
use Rattle.mt_base.specs.Bounds.{IsBoundedOver, IsBoundedRow, IsKeptOver, IsWithin}
use Rattle.mt_base.specs.Trajectory.{next_row, straight_rows}
use Rattle.mt_track.specs.Rows.{Continues, row_after}

-- a gain over no second, and over one second more
times_none : (z v : ℤ) → z +ℤ v *ℤ pos 0 ≡ z
times_none z v = omega (arith, ints)

times_more : (v : ℤ) (k : ℕ) → v *ℤ pos (suc k) ≡ v *ℤ pos k +ℤ v
times_more v k = omega (arith, ints)

pub once_more : (z v : ℤ) (k : ℕ) → (z +ℤ v) +ℤ v *ℤ pos k ≡ z +ℤ v *ℤ pos (suc k)
once_more z v k = omega (arith, lin, times_more v k)

pub row_after-none : (a : Row) → row_after a 0 ≡ a
row_after-none a = λ i. record a {
  x = times_none a.x a.vx i;
  y = times_none a.y a.vy i;
  z = times_none a.z a.vz i;
  r = times_none a.r a.gr i;
  w = times_none a.w a.gw i;
}

-- so many seconds later, and so many more
times_sum : (z v : ℤ) (j n : ℕ) → (z +ℤ v *ℤ pos j) +ℤ v *ℤ pos n ≡ z +ℤ v *ℤ pos (j + n)
times_sum z v j n = omega (arith, ints)

pub row_after-add : (a : Row) (j n : ℕ) → row_after (row_after a j) n ≡ row_after a (j + n)
row_after-add a j n = λ i. record a {
  x = times_sum a.x a.vx j n i;
  y = times_sum a.y a.vy j n i;
  z = times_sum a.z a.vz j n i;
  r = times_sum a.r a.gr j n i;
  w = times_sum a.w a.gw j n i;
}

pub row_after-next : (a : Row) (k : ℕ) → row_after (next_row a) k ≡ row_after a (suc k)
row_after-next a k = λ i. record a {
  x = once_more a.x a.vx k i;
  y = once_more a.y a.vy k i;
  z = once_more a.z a.vz k i;
  r = once_more a.r a.gr k i;
  w = once_more a.w a.gw k i;
}

-- how many
pub length-straight_rows : (a : Row) (n : ℕ) → length (straight_rows a n) ≡ n
length-straight_rows a zero = refl
length-straight_rows a (suc n) = ap suc (length-straight_rows (next_row a) n)

-- which
pub slice_get-straight_rows : (a : Row) (n k : ℕ) → k < n → slice_get (straight_rows a n) k ≡ Some (row_after a k)
slice_get-straight_rows a zero k below = absurd (omega arith)
slice_get-straight_rows a (suc n) zero below = ap Some (sym (row_after-none a))
slice_get-straight_rows a (suc n) (suc k) below = slice_get-straight_rows (next_row a) n k (omega arith) ∙ ap Some (row_after-next a k)

pub get_or-straight_rows : (a : Row) (n k : ℕ) (d : Row) → k < n → slice_index_or (straight_rows a n) k d ≡ row_after a k
get_or-straight_rows a n k d below = get_or_from_slice_get (straight_rows a n) k (row_after a k) d (slice_get-straight_rows a n k below)

-- a value that is within bounds at both ends of some seconds is so at each between
between : (low high z v : ℤ) (k n : ℕ) → k ≤ n → IsWithin low high z → IsWithin low high (z +ℤ v *ℤ pos n) → IsWithin low high (z +ℤ v *ℤ pos k)
between low high z (pos m) k n below at_first at_last = let p = mul-le-mul (le_refl m) below in record { least = omega (arith, ints, p); most = omega (arith, ints, p) }
between low high z (negsuc m) k n below at_first at_last = let p = mul-le-mul (le_refl (suc m)) below in record { least = omega (arith, ints, p); most = omega (arith, ints, p) }

IsKeptOver-second : (low high least most z v : ℤ) (k n : ℕ) → k < n → IsKeptOver low high least most z v n → IsKeptOver low high least most (z +ℤ v *ℤ pos k) v 1
IsKeptOver-second low high least most z v k n below kept = record {
  value = between low high z v k n (omega arith) kept.value kept.end;
  growth = kept.growth;
  end = subst (IsWithin low high) e (between low high z v (suc k) n (omega arith) kept.value kept.end);
} where
  e : z +ℤ v *ℤ pos (suc k) ≡ (z +ℤ v *ℤ pos k) +ℤ v *ℤ pos 1
  e = omega (arith, ints, times_more v k)

pub IsBoundedRow-row_after : (a : Row) (n k : ℕ) → k < n → IsBoundedOver a n → IsBoundedRow (row_after a k)
IsBoundedRow-row_after a n k below kept = record {
  x = IsKeptOver-second _ _ _ _ a.x a.vx k n below kept.x;
  y = IsKeptOver-second _ _ _ _ a.y a.vy k n below kept.y;
  z = IsKeptOver-second _ _ _ _ a.z a.vz k n below kept.z;
  r = IsKeptOver-second _ _ _ _ a.r a.gr k n below kept.r;
  w = IsKeptOver-second _ _ _ _ a.w a.gw k n below kept.w;
}

-- each is bounded
pub All-straight_rows : (a : Row) (n : ℕ) → IsBoundedOver a n → All IsBoundedRow (straight_rows a n)
All-straight_rows a n kept k d below =
    let within : k < n = omega (arith, length-straight_rows a n) in
    rw (get_or-straight_rows a n k d within) (IsBoundedRow-row_after a n k within kept)

-- each is continued by the next
goes_on : (z v : ℤ) (k : ℕ) → z +ℤ v *ℤ pos (k + 1) ≡ (z +ℤ v *ℤ pos k) +ℤ v
goes_on z v k = omega (arith, ints)

Continues-row_after : (a : Row) (k : ℕ) → Continues (row_after a k) (row_after a (k + 1))
Continues-row_after a k = record {
  x = goes_on a.x a.vx k;
  y = goes_on a.y a.vy k;
  z = goes_on a.z a.vz k;
  r = goes_on a.r a.gr k;
}

pub AllAdjacent-straight_rows : (a : Row) (n : ℕ) → AllAdjacentBelow Continues (straight_rows a n) (length (straight_rows a n))
AllAdjacent-straight_rows a n k d below =
    let within : k + 1 < n = omega (arith, length-straight_rows a n) in
    let now : k < n = omega arith in
    rw (get_or-straight_rows a n k d now, get_or-straight_rows a n (k + 1) d within) (Continues-row_after a k)
