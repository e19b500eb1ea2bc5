-- Rows that go on from the last segment, put into it.
use Rattle.std.proofs.Common.{◌≡◌, Bool, ℕ, zero, suc, ◌+◌, ◌-◌, ◌<◌, ℤ, pos, ◌+ℤ◌, ◌*ℤ◌, List, [], ◌∷◌, ◌++◌, length, get_or, set, sym, ap, ◌∙◌, subst, arith, refl, append_assoc}
use Rattle.std.proofs.lemmas.Int.{ints}
use Rattle.std.proofs.lemmas.List.{append-nil}
use Rattle.mt_base.specs.declared.row.Row.{Row}
use Rattle.mt_base.specs.Bounds.{IsBoundedOver, IsBoundedRow, IsKeptOver}
use Rattle.mt_base.specs.Trajectory.{next_row, straight_rows}
use Rattle.mt_track.specs.declared.segment.Segment.{Segment}
use Rattle.mt_track.specs.Laid.{Adjoin, Follows, IsLaid, all_rows, rows_of}
use Rattle.mt_track.specs.Rows.{row_after}
use Rattle.mt_track.proofs.Apart.{AreApart-lengthened}
use Rattle.mt_track.proofs.Segments.{edge_from, lies_at, length-all_rows, row_in}
use Rattle.mt_track.proofs.Straight.{row_after-next, row_after-none}
use Rattle.mt_track.proofs.Strands.{IsBoundedRow-slice_get, IsStrand-extended}

-- straight rows, and those that go on from them
pub straight_rows-add : (a : Row) (j n : ℕ) → straight_rows a (j + n) ≡ straight_rows a j ++ straight_rows (row_after a j) n
straight_rows-add a zero n = rw (row_after-none a) (ap (straight_rows a) (omega arith))
straight_rows-add a (suc j) n =
    let e : suc j + n ≡ suc (j + n) = omega arith in
    rw (e, ← row_after-next a j) (ap (λ (rows : List Row). a ∷ rows) (straight_rows-add (next_row a) j n))

-- bounds in the last of some seconds and in the first are bounds over all of them
IsKeptOver-last : (low high least most z v : ℤ) (n : ℕ) → IsKeptOver low high least most z v 1 → IsKeptOver low high least most (z +ℤ v *ℤ pos n) v 1
    → IsKeptOver low high least most z v (suc n)
IsKeptOver-last low high least most z v n first last = record {
  value = first.value;
  growth = first.growth;
  end = subst (λ (x : ℤ). Rattle.mt_base.specs.Bounds.IsWithin low high x) e last.end;
} where
  e : (z +ℤ v *ℤ pos n) +ℤ v *ℤ pos 1 ≡ z +ℤ v *ℤ pos (suc n)
  e = omega (arith, ints)

pub IsBoundedOver-last : (a : Row) (n m : ℕ) → m ≡ suc n → IsBoundedRow a → IsBoundedRow (row_after a n) → IsBoundedOver a m
IsBoundedOver-last a n m e first last = rw e (record {
  x = IsKeptOver-last _ _ _ _ a.x a.vx n first.x last.x;
  y = IsKeptOver-last _ _ _ _ a.y a.vy n first.y last.y;
  z = IsKeptOver-last _ _ _ _ a.z a.vz n first.z last.z;
  r = IsKeptOver-last _ _ _ _ a.r a.gr n first.r last.r;
  w = IsKeptOver-last _ _ _ _ a.w a.gw n first.w last.w;
})

-- a segment of a strand has at least one second, and keeps its bounds over all of them
pub some_seconds : (start end : ℕ) (ss : List Segment) (i : ℕ) (s : Segment) → IsLaid start end ss → i < length ss → s ≡ get_or ss i s → s.from < s.to
some_seconds start end ss i s laid below is = (lies_at start end ss i s laid.adjoin below is).some

pub IsBoundedOver-segment : (start end : ℕ) (ss : List Segment) (i : ℕ) (s : Segment) → IsLaid start end ss → i < length ss → s ≡ get_or ss i s
    → IsBoundedOver s.first (s.to - s.from)
IsBoundedOver-segment start end ss i s laid below is =
    let lies = lies_at start end ss i s laid.adjoin below is in
    let begun = edge_from start end ss i laid.adjoin in
    let at_first = row_in start end ss i s s.from laid.adjoin is (omega (arith, lies.from)) (omega (arith, lies.to, lies.some)) in
    let at_last = row_in start end ss i s (s.to - 1) laid.adjoin is (omega (arith, lies.from, lies.some)) (omega (arith, lies.to, lies.some)) in
    let none : s.from - s.from ≡ 0 = omega arith in
    let first : IsBoundedRow s.first =
    rw (none, row_after-none s.first) at (IsBoundedRow-slice_get (all_rows ss) (s.from - start) _ laid.kept.bounded at_first) in
    let last = IsBoundedRow-slice_get (all_rows ss) ((s.to - 1) - start) _ laid.kept.bounded at_last in
    IsBoundedOver-last s.first ((s.to - 1) - s.from) (s.to - s.from) (omega (arith, lies.some)) first last

-- the last segment is lengthened by one that goes on from it
pub Adjoin-lengthened : (start end : ℕ) (ss : List Segment) (i : ℕ) (t s : Segment) → Adjoin start ss end → i + 1 ≡ length ss → t ≡ get_or ss i t
    → s.from ≡ end → s.from < s.to → Adjoin start (set ss i (record t { to = s.to })) s.to
Adjoin-lengthened start end [] i t s lie last is begins some = absurd (omega arith)
Adjoin-lengthened start end (u ∷ []) zero t s lie last is begins some =
    rw is (lie.0, omega (arith, lie.1, lie.2), refl)
Adjoin-lengthened start end (u ∷ []) (suc i) t s lie last is begins some = absurd (omega arith)
Adjoin-lengthened start end (u ∷ v ∷ vs) zero t s lie last is begins some = absurd (omega arith)
Adjoin-lengthened start end (u ∷ v ∷ vs) (suc i) t s lie last is begins some =
    (lie.0, lie.1, Adjoin-lengthened u.to end (v ∷ vs) i t s lie.2 (omega arith) is begins some)

-- its rows and those that go on
joined_rows : (t s : Segment) → t.from < t.to → t.to ≡ s.from → s.from < s.to → s.first ≡ row_after t.first (t.to - t.from)
    → straight_rows t.first (s.to - t.from) ≡ rows_of t ++ rows_of s
joined_rows t s longer begins some same =
    let e : s.to - t.from ≡ (t.to - t.from) + (s.to - s.from) = omega arith in
    rw (e, same) (straight_rows-add t.first (t.to - t.from) (s.to - s.from))

pub all_rows-lengthened : (start end : ℕ) (ss : List Segment) (i : ℕ) (t s : Segment) → Adjoin start ss end → i + 1 ≡ length ss → t ≡ get_or ss i t
    → s.from ≡ end → s.from < s.to → s.first ≡ row_after t.first (t.to - t.from)
    → all_rows (set ss i (record t { to = s.to })) ≡ all_rows ss ++ rows_of s
all_rows-lengthened start end [] i t s lie last is begins some same = absurd (omega arith)
all_rows-lengthened start end (u ∷ []) zero t s lie last is begins some same =
    rw (is, append-nil, append-nil) (joined_rows u s lie.1 (lie.2 ∙ sym begins) some (rw is at same))
all_rows-lengthened start end (u ∷ []) (suc i) t s lie last is begins some same = absurd (omega arith)
all_rows-lengthened start end (u ∷ v ∷ vs) zero t s lie last is begins some same = absurd (omega arith)
all_rows-lengthened start end (u ∷ v ∷ vs) (suc i) t s lie last is begins some same =
    rw (all_rows-lengthened u.to end (v ∷ vs) i t s lie.2 (omega arith) is begins some same) (sym (append_assoc (rows_of u) (all_rows (v ∷ vs)) (rows_of s)))

-- a segment that follows begins at the end
pub end_of_strand : (start end : ℕ) (rvsm : Bool) (ss : List Segment) (s : Segment) → IsLaid start end ss
    → Follows (record { start = start; rows = all_rows ss; rvsm = rvsm }) s → s.from ≡ end
end_of_strand start end rvsm ss s laid follows = follows.adjoins ∙ length-all_rows start end ss laid.adjoin

pub IsLaid-lengthened : (start end : ℕ) (rvsm : Bool) (ss : List Segment) (i : ℕ) (t s : Segment) → IsLaid start end ss → i + 1 ≡ length ss → t ≡ get_or ss i t
    → Follows (record { start = start; rows = all_rows ss; rvsm = rvsm }) s → s.first ≡ row_after t.first (t.to - t.from)
    → IsLaid start s.to (set ss i (record t { to = s.to }))
IsLaid-lengthened start end rvsm ss i t s laid last is follows same =
    let begins = end_of_strand start end rvsm ss s laid follows in
    let rows = all_rows-lengthened start end ss i t s laid.adjoin last is begins follows.some same in
    record {
      apart = AreApart-lengthened ss i t s.to laid.apart last is;
      adjoin = Adjoin-lengthened start end ss i t s laid.adjoin last is begins follows.some;
      kept = rw rows (IsStrand-extended (record { start = start; rows = all_rows ss; rvsm = rvsm }) s laid.kept follows);
    }

-- a place of a list holds one element
pub one_element : {X : Type 0} (xs : List X) (i : ℕ) (x y : X) → i < length xs → x ≡ get_or xs i x → y ≡ get_or xs i y → x ≡ y
one_element [] i x y below is also = absurd (omega arith)
one_element (z ∷ zs) zero x y below is also = is ∙ sym also
one_element (z ∷ zs) (suc i) x y below is also = one_element zs i x y (omega arith) is also
