-- The rows of a leg, stretch by stretch.
use Rattle.std.proofs.Common.{◌≡◌, ℕ, zero, suc, ◌+◌, ◌-◌, ◌<◌, ◌≤◌, ℤ, pos, ◌+ℤ◌, ◌*ℤ◌, List, [], ◌∷◌, ◌++◌, length, get_or, take, All, Some, None, IfSome, sym, ap, ◌∙◌, subst, arith, refl, append_assoc, length-append}
use Rattle.std.specs.Prelude.{slice_get, Option}
use Rattle.std.proofs.lemmas.Int.{ints}
use Rattle.std.proofs.lemmas.List.{append-nil, take-append-le, take_all}
use Rattle.std.proofs.Math.ListN.{get_or-append}
use Rattle.std.proofs.Math.Seq.{get_or-append_right}
use Rattle.mt_base.specs.declared.place.Leg.{Leg}
use Rattle.mt_base.specs.declared.place.Place.{Place}
use Rattle.mt_base.specs.declared.row.Row.{Row}
use Rattle.mt_base.specs.Bounds.{IsBoundedOver, IsBoundedRow}
use Rattle.mt_base.specs.Predictor.{Manner, end_after, end_of, row_on, rows_on}
use Rattle.mt_base.specs.Trajectory.{next_row, straight_rows}
use Rattle.mt_track.specs.Rows.{Continues, row_after}
use Rattle.mt_track.proofs.Joined.{IsBoundedOver-last, straight_rows-add}
use Rattle.mt_track.proofs.Segments.{slice_get-append_right}
use Rattle.mt_track.proofs.Straight.{get_or-straight_rows, length-straight_rows, row_after-none, slice_get-straight_rows, once_more}
use Rattle.mt_predict.specs.Private.Flying.{EndAt, IsSteady, place_at}

-- where rows end
more : (z v : ℤ) (k : ℕ) → (z +ℤ v *ℤ pos k) +ℤ v ≡ z +ℤ v *ℤ pos (suc k)
more z v k = omega (arith, ints)

end_later : (a : Row) (k : ℕ) → end_of (row_after a k) ≡ place_at a (suc k)
end_later a k = λ i. record { x = more a.x a.vx k i; y = more a.y a.vy k i; z = more a.z a.vz k i; r = more a.r a.gr k i; w = more a.w a.gw k i }

once : (z v : ℤ) → z +ℤ v ≡ z +ℤ v *ℤ pos 1
once z v = omega (arith, ints)

pub end_first : (a : Row) → end_of a ≡ place_at a 1
end_first a = λ i. record { x = once a.x a.vx i; y = once a.y a.vy i; z = once a.z a.vz i; r = once a.r a.gr i; w = once a.w a.gw i }

place_next : (a : Row) (k : ℕ) → place_at (next_row a) k ≡ place_at a (suc k)
place_next a k = λ i. record { x = once_more a.x a.vx k i; y = once_more a.y a.vy k i; z = once_more a.z a.vz k i; r = once_more a.r a.gr k i; w = once_more a.w a.gw k i }

-- rows of a leg, one second and a steady stretch at a time
rows_next : (m : Manner) (leg : Leg) (left n : ℕ) (a b : Place) (row : Row) → left ≡ suc n → row_on m leg n a ≡ row → end_of row ≡ b
    → rows_on m leg left a ≡ row ∷ rows_on m leg n b
rows_next m leg left n a b row e is ends = rw (e, is) (ap (λ (c : Place). row ∷ rows_on m leg n c) ends)

straight_rows-back : (a : Row) (k : ℕ) → straight_rows a (suc k) ≡ straight_rows a k ++ row_after a k ∷ []
straight_rows-back a k =
    let e : k + 1 ≡ suc k = omega arith in
    subst (λ (n : ℕ). straight_rows a n ≡ straight_rows a k ++ row_after a k ∷ []) e (straight_rows-add a k 1)

pub stretches : (m : Manner) (leg : Leg) (left n j : ℕ) (a : Place) (row : Row) → IsSteady m leg left row n → row ≡ row_on m leg (left - 1) a
    → j < n → n ≤ left → rows_on m leg left a ≡ straight_rows row (suc j) ++ rows_on m leg (left - suc j) (place_at row (suc j))
stretches m leg left n zero a row steady is below within = rows_next m leg left (left - 1) a (place_at row 1) row (omega arith) (sym is) (end_first row)
stretches m leg left n (suc j) a row steady is below within =
    let next = rows_next m leg (left - suc j) (left - suc (suc j)) (place_at row (suc j)) (place_at row (suc (suc j))) (row_after row (suc j)) (omega arith)
    (steady (suc j) (omega arith) below) (end_later row (suc j)) in
    stretches m leg left n j a row steady is (omega arith) within
    ∙ ap (λ (rows : List Row). straight_rows row (suc j) ++ rows) next
    ∙ sym (append_assoc (straight_rows row (suc j)) (row_after row (suc j) ∷ []) (rows_on m leg (left - suc (suc j)) (place_at row (suc (suc j)))))
    ∙ ap (λ (rows : List Row). rows ++ rows_on m leg (left - suc (suc j)) (place_at row (suc (suc j)))) (sym (straight_rows-back row (suc j)))

pub stretch : (m : Manner) (leg : Leg) (left n : ℕ) (a : Place) (row : Row) → IsSteady m leg left row n → row ≡ row_on m leg (left - 1) a
    → 0 < n → n ≤ left → rows_on m leg left a ≡ straight_rows row n ++ rows_on m leg (left - n) (place_at row n)
stretch m leg left n a row steady is some within =
    let e : n ≡ suc (n - 1) = omega arith in
    subst (λ (k : ℕ). rows_on m leg left a ≡ straight_rows row k ++ rows_on m leg (left - k) (place_at row k)) (sym e)
    (stretches m leg left n (n - 1) a row steady is (omega arith) within)

pub length-rows_on : (m : Manner) (leg : Leg) (n : ℕ) (a : Place) → length (rows_on m leg n a) ≡ n
length-rows_on m leg zero a = refl
length-rows_on m leg (suc n) a = ap suc (length-rows_on m leg n (end_of (row_on m leg n a)))

-- where the rows of two parts end
pub end_after-append : (a : Place) (xs ys : List Row) → end_after a (xs ++ ys) ≡ end_after (end_after a xs) ys
end_after-append a [] ys = refl
end_after-append a (x ∷ xs) ys = end_after-append (end_of x) xs ys

end_after-next : (a : Row) (k : ℕ) → end_after (end_of a) (straight_rows (next_row a) k) ≡ place_at a (suc k)
end_after-next a zero = end_first a
end_after-next a (suc k) = end_after-next (next_row a) k ∙ place_next a (suc k)

pub end_after-straight : (a : Place) (row : Row) (n : ℕ) → 0 < n → end_after a (straight_rows row n) ≡ place_at row n
end_after-straight a row zero some = absurd (omega arith)
end_after-straight a row (suc k) some = end_after-next row k

-- bounds of both parts
pub All-front : {X : Type 0} (P : X → Type 0) (xs ys : List X) → All P (xs ++ ys) → All P xs
All-front P xs ys all k d below = subst P (get_or-append xs ys d k below) (all k d (omega (arith, length-append xs ys)))

pub All-back : {X : Type 0} (P : X → Type 0) (xs ys : List X) → All P (xs ++ ys) → All P ys
All-back P xs ys all k d below =
    let e : (length xs + k) - length xs ≡ k = omega arith in
    subst P (get_or-append_right xs ys (length xs + k) d (omega arith) ∙ ap (λ (i : ℕ). get_or ys i d) e) (all (length xs + k) d (omega (arith, length-append xs ys)))

pub IsBoundedOver-stretch : (row : Row) (n : ℕ) → 0 < n → All IsBoundedRow (straight_rows row n) → IsBoundedOver row n
IsBoundedOver-stretch row n some all =
    let first = subst IsBoundedRow (get_or-straight_rows row n 0 row some ∙ row_after-none row) (all 0 row (omega (arith, length-straight_rows row n))) in
    let below : n - 1 < n = omega arith in
    let last = subst IsBoundedRow (get_or-straight_rows row n (n - 1) row below) (all (n - 1) row (omega (arith, length-straight_rows row n))) in
    IsBoundedOver-last row (n - 1) n (omega arith) first last

-- a row continues the rows that end where it begins
continued : (last : Option Row) (a : Place) (row : Row) → row.x ≡ a.x → row.y ≡ a.y → row.z ≡ a.z → row.r ≡ a.r → IfSome last (λ l. end_of l ≡ a)
    → IfSome last (λ l. Continues l row)
continued None a row x y z r ends = ends
continued (Some l) a row x y z r ends = record {
  x = x ∙ sym (ap (λ (p : Place). p.x) ends);
  y = y ∙ sym (ap (λ (p : Place). p.y) ends);
  z = z ∙ sym (ap (λ (p : Place). p.z) ends);
  r = r ∙ sym (ap (λ (p : Place). p.r) ends);
}

pub continues_at : (rows : List Row) (m : Manner) (leg : Leg) (n : ℕ) (a : Place) (row : Row) → row ≡ row_on m leg n a → EndAt rows a
    → IfSome (slice_get rows (length rows - 1)) (λ last. Continues last row)
unfolding row_on
continues_at rows m leg n a row is ends = continued (slice_get rows (length rows - 1)) a row
    (ap (λ (row : Row). row.x) is) (ap (λ (row : Row). row.y) is) (ap (λ (row : Row). row.z) is) (ap (λ (row : Row). row.r) is) ends

-- with a stretch after them rows end where it does
pub EndAt-stretch : (rows : List Row) (row : Row) (n : ℕ) → 0 < n → EndAt (rows ++ straight_rows row n) (place_at row n)
EndAt-stretch rows row n some = rw (at_last) (end_later row (n - 1) ∙ ap (place_at row) (omega arith))
  where
    number : length (rows ++ straight_rows row n) ≡ length rows + n
    number = length-append rows (straight_rows row n) ∙ ap (λ (k : ℕ). length rows + k) (length-straight_rows row n)

    at_last : slice_get (rows ++ straight_rows row n) (length (rows ++ straight_rows row n) - 1) ≡ Some (row_after row (n - 1))
    at_last = slice_get-append_right rows (straight_rows row n) (length (rows ++ straight_rows row n) - 1) (n - 1) (omega (arith, number))
        ∙ slice_get-straight_rows row n (n - 1) (omega arith)

-- rows that reach the greatest number, or are all there are, are the first of all
pub first_of_all : (most : ℕ) (xs ys : List Row) → length xs ≤ most → (0 < length ys → most ≤ length xs) → xs ≡ take most (xs ++ ys)
first_of_all most xs [] within full = sym (ap (take most) (append-nil xs) ∙ take_all most xs within)
first_of_all most xs (y ∷ ys) within full = let h : most ≤ length xs = full (omega arith) in sym (take-append-le most xs (y ∷ ys) h ∙ take_all most xs within)
