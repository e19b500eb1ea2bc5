-- Segments of which no two neighbours are in one: what is pushed keeps them so, and the rows have one such list.
use Rattle.std.proofs.Common.{◌≡◌, ℕ, zero, suc, ◌+◌, ◌-◌, ◌<◌, ◌≤◌, List, [], ◌∷◌, ◌++◌, length, get_or, set, Some, sym, ap, ◌∙◌, subst, arith, refl, ⊎_elim}
use Rattle.std.proofs.lemmas.Bool.{cases_lt}
use Rattle.std.proofs.lemmas.List.{append_cancel_left}
use Rattle.std.specs.Prelude.{slice_get}
use Rattle.mt_base.specs.declared.row.Row.{Row}
use Rattle.mt_base.specs.Trajectory.{Trajectory}
use Rattle.mt_track.specs.declared.segment.Segment.{Segment}
use Rattle.mt_track.specs.Laid.{Adjoin, AreSeparateSegments, AreSegmentsOf, all_rows, rows_of}
use Rattle.mt_track.specs.Rows.{row_after}
use Rattle.mt_track.proofs.Segments.{row_in}
use Rattle.mt_track.proofs.Straight.{row_after-none}

pub AreApart-first : (ss : List Segment) (s : Segment) → length ss ≡ 0 → AreSeparateSegments (ss ++ s ∷ [])
AreApart-first [] s none = tt
AreApart-first (t ∷ ts) s none = absurd (omega arith)

pub AreApart-push : (ss : List Segment) (i : ℕ) (t s : Segment) → AreSeparateSegments ss → i + 1 ≡ length ss → t ≡ get_or ss i t
    → ¬ (s.first ≡ row_after t.first (t.to - t.from)) → AreSeparateSegments (ss ++ s ∷ [])
AreApart-push [] i t s apart last is other = absurd (omega arith)
AreApart-push (u ∷ []) zero t s apart last is other = (rw is at other, tt)
AreApart-push (u ∷ []) (suc i) t s apart last is other = absurd (omega arith)
AreApart-push (u ∷ v ∷ vs) zero t s apart last is other = absurd (omega arith)
AreApart-push (u ∷ v ∷ vs) (suc i) t s apart last is other = (apart.0, AreApart-push (v ∷ vs) i t s apart.1 (omega arith) is other)

pub AreApart-lengthened : (ss : List Segment) (i : ℕ) (t : Segment) (to : ℕ) → AreSeparateSegments ss → i + 1 ≡ length ss → t ≡ get_or ss i t
    → AreSeparateSegments (set ss i (record t { to = to }))
AreApart-lengthened [] i t to apart last is = absurd (omega arith)
AreApart-lengthened (u ∷ []) zero t to apart last is = tt
AreApart-lengthened (u ∷ []) (suc i) t to apart last is = absurd (omega arith)
AreApart-lengthened (u ∷ v ∷ vs) zero t to apart last is = absurd (omega arith)
AreApart-lengthened (u ∷ v ∷ []) (suc zero) t to apart last is = rw is (apart.0, tt)
AreApart-lengthened (u ∷ v ∷ []) (suc (suc i)) t to apart last is = absurd (omega arith)
AreApart-lengthened (u ∷ v ∷ w ∷ ws) (suc zero) t to apart last is = absurd (omega arith)
AreApart-lengthened (u ∷ v ∷ w ∷ ws) (suc (suc i)) t to apart last is =
    (apart.0, AreApart-lengthened (v ∷ w ∷ ws) (suc i) t to apart.1 (omega arith) is)

-- there are no more segments than seconds
pub few_segments : (from to : ℕ) (ss : List Segment) → Adjoin from ss to → from + length ss ≤ to
few_segments from to [] lie = omega (arith, lie)
few_segments from to (s ∷ ss) lie = let h = few_segments s.to to ss lie.2 in omega (arith, h, lie.0, lie.1)

-- the rows of a trajectory have one such list of segments
some_is : {x y : Row} → Some x ≡ Some y → x ≡ y
some_is e = cc

first_row : (from to : ℕ) (s : Segment) (ss : List Segment) → Adjoin from (s ∷ ss) to → slice_get (all_rows (s ∷ ss)) 0 ≡ Some s.first
first_row from to s ss lie =
    let at = row_in from to (s ∷ ss) zero s from lie refl (omega arith) (omega (arith, lie.0, lie.1)) in
    let none : from - from ≡ 0 = omega arith in
    let begun : from - s.from ≡ 0 = omega (arith, lie.0) in
    rw (none, begun, row_after-none s.first) at at

shorter : (from to : ℕ) (s t : Segment) (ss ts : List Segment) → Adjoin from (s ∷ ss) to → Adjoin from (t ∷ ts) to → all_rows (s ∷ ss) ≡ all_rows (t ∷ ts)
    → s.first ≡ t.first → AreSeparateSegments (s ∷ ss) → s.to < t.to → ⊥
shorter from to s t [] ts lie also same first apart less =
    let few = few_segments t.to to ts also.2 in
    absurd (omega (arith, few, lie.2))
shorter from to s t (u ∷ us) ts lie also same first apart less =
    let at_u = row_in from to (s ∷ u ∷ us) (suc zero) u s.to lie refl (omega arith) (omega (arith, lie.2.0, lie.2.1)) in
    let at_t = row_in from to (t ∷ ts) zero t s.to also refl (omega (arith, lie.0, lie.1)) less in
    let both : row_after u.first (s.to - u.from) ≡ row_after t.first (s.to - t.from) = some_is (sym at_u ∙ ap (λ (rows : List Row). slice_get rows (s.to - from)) same ∙ at_t) in
    let none : s.to - u.from ≡ 0 = omega (arith, lie.2.0) in
    let begun : s.to - t.from ≡ s.to - s.from = omega (arith, lie.0, also.0) in
    apart.0 (rw (none, row_after-none u.first, begun, ← first) at both)

rest_apart : (s : Segment) (ss : List Segment) → AreSeparateSegments (s ∷ ss) → AreSeparateSegments ss
rest_apart s [] apart = tt
rest_apart s (t ∷ ts) apart = apart.1

pub one_list : (from to : ℕ) (ss ts : List Segment) → Adjoin from ss to → Adjoin from ts to → AreSeparateSegments ss → AreSeparateSegments ts → all_rows ss ≡ all_rows ts → ss ≡ ts
one_list from to [] [] lie also apart other same = refl
one_list from to [] (t ∷ ts) lie also apart other same = let few = few_segments from to (t ∷ ts) also in absurd (omega (arith, few, lie))
one_list from to (s ∷ ss) [] lie also apart other same = let few = few_segments from to (s ∷ ss) lie in absurd (omega (arith, few, also))
one_list from to (s ∷ ss) (t ∷ ts) lie also apart other same =
    let first : s.first ≡ t.first = some_is (sym (first_row from to s ss lie) ∙ ap (λ (rows : List Row). slice_get rows 0) same ∙ first_row from to t ts also) in
    ⊎_elim (λ less. absurd (shorter from to s t ss ts lie also same first apart less))
    (λ more. ⊎_elim (λ less. absurd (shorter from to t s ts ss also lie (sym same) (sym first) other less))
    (λ most.
    let ends : s.to ≡ t.to = omega arith in
    let is : s ≡ t = λ i. record { from = (lie.0 ∙ sym also.0) i; to = ends i; first = first i } in
    let rest : all_rows ss ≡ all_rows ts =
    append_cancel_left (rows_of s) (all_rows ss) (all_rows ts) (same ∙ ap (λ (u : Segment). rows_of u ++ all_rows ts) (sym is)) in
    let more_is = one_list s.to to ss ts lie.2 (subst (λ (n : ℕ). Adjoin n ts to) (sym ends) also.2) (rest_apart s ss apart) (rest_apart t ts other) rest in
    ap (λ (us : List Segment). s ∷ us) more_is ∙ ap (λ (u : Segment). u ∷ ts) is)
    (cases_lt t.to s.to))
    (cases_lt s.to t.to)

pub same_segments : (t : Trajectory) (ss ts : List Segment) → AreSegmentsOf t ss → AreSegmentsOf t ts → ss ≡ ts
same_segments t ss ts are also = one_list t.start (t.start + length t.rows) ss ts are.adjoin also.adjoin are.apart also.apart (are.rows ∙ sym also.rows)
