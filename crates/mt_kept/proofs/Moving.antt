-- The tests made for a move.
use Rattle.std.proofs.Common.{◌≡◌, ◌≢◌, ℕ, cond, get_or, ◌+◌, ◌<◌, ⊎_elim, true, false, Bool, not, ◌&&◌, refl, List, [], ◌++◌, map, length, length-append, take, Contains, Option, sym, ◌∙◌, ap, arith}
use Rattle.std.specs.List.{AllPairs, count_by, filter}
use Rattle.std.proofs.lemmas.Bool.{and_parts, cases_eq, cases_lt}
use Rattle.std.proofs.lemmas.List.{get_or_default, get_or-map, length-map, length-take-le}
use Rattle.std.proofs.lemmas.List.Elements.{Contains-append_cases}
use Rattle.std.proofs.lemmas.List.Kept.{AllPairs-filter}
use Rattle.std.proofs.lemmas.List.Sums.{length-filter}
use Rattle.std.proofs.lemmas.List.Filters.{length-filter_more}
use Rattle.mt_base.specs.Tally.{raised_by}
use Rattle.mt_base.specs.declared.rules.Rules.{Rules}
use Rattle.mt_base.specs.Picture.{NamedTrajectory}
use Rattle.mt_edges.specs.declared.edge.Edge.{Edge}
use Rattle.mt_edges.specs.Pairs.{AreDistinctPairs, HaveSameEnds}
use Rattle.mt_base.proofs.Tallies.{raised_by-add}
use Rattle.mt_kept.specs.Losing.{IsPair}
use Rattle.mt_kept.specs.Private.Losing.{AreKept}
use Rattle.mt_kept.specs.declared.open_pair.OpenPair.{OpenPair}
use Rattle.mt_kept.specs.Window.{WasTestedOnce, edge_of, straddles}
use Rattle.mt_base.specs.StrikeOut.{one_if}
use Rattle.mt_kept.specs.Private.Made.{WereTested, WereTestedOf, goes_on, is_tested, straddles_on}
use Rattle.mt_base.proofs.Members.{All-from_held, Contains-filter, Contains-take, distinct_append, distinct_held, distinct_take}

-- pairs with different ends are different
pub apart_distinct : (edges : List Edge) → AreDistinctPairs edges → AllPairs (λ e f. e ≢ f) edges
apart_distinct edges apart = λ i j d before below. λ same. apart i j d before below (ap (λ (e : Edge). e.a) same, ap (λ (e : Edge). e.b) same)

-- two of these with the same ends are one
pub one_kept : (edges : List Edge) (e f : Edge) → AreDistinctPairs edges → Contains edges e → Contains edges f → HaveSameEnds e f → e ≡ f
one_kept edges e f once e_in f_in same =
    let there : (d : Edge) → get_or edges e_in.0 d ≡ e = λ d. sym (get_or_default edges e_in.0 e d e_in.1) ∙ e_in.2 in
    let here : (d : Edge) → get_or edges f_in.0 d ≡ f = λ d. sym (get_or_default edges f_in.0 f d f_in.1) ∙ f_in.2 in
    let ends : (x y : Edge) → x ≡ e → y ≡ f → HaveSameEnds x y = λ x y p q. (
      ap (λ (g : Edge). g.a) p ∙ same.0 ∙ sym (ap (λ (g : Edge). g.a) q),
      ap (λ (g : Edge). g.b) p ∙ same.1 ∙ sym (ap (λ (g : Edge). g.b) q),
    ) in
    ⊎_elim
    (λ one. sym (there e) ∙ ap (λ (k : ℕ). get_or edges k e) one ∙ here e)
    (λ away. absurd (⊎_elim
    (λ before. once e_in.0 f_in.0 e before f_in.1 (ends _ _ (there e) (here e)))
    (λ behind. once f_in.0 e_in.0 e (let differ = away in omega arith) e_in.1 (let back = ends _ _ (there e) (here e) in (sym back.0, sym back.1)))
    (cases_lt e_in.0 f_in.0)))
    (cases_eq e_in.0 f_in.0)

-- of the first of some pairs, one more
count_by_more : (p : Edge → Bool) (edges : List Edge) (i : ℕ) (d : Edge) → i < length edges
    → count_by p (take (i + 1) edges) ≡ count_by p (take i edges) + cond (p (get_or edges i d)) 1 0
count_by_more p edges i d below =
    let a = length-filter p (take (i + 1) edges) in
    let b = length-filter p (take i edges) in
    sym a ∙ length-filter_more p edges i d below ∙ ap (λ (n : ℕ). n + cond (p (get_or edges i d)) 1 0) b

-- the tests so far, and that of one more edge
pub tested_more : (p : Edge → Bool) (edges : List Edge) (i : ℕ) (old mid new : ℕ) → (d : Edge) → i < length edges
    → mid ≡ raised_by (count_by p (take i edges)) old → new ≡ raised_by (cond (p (get_or edges i d)) 1 0) mid
    → new ≡ raised_by (count_by p (take (i + 1) edges)) old
tested_more p edges i old mid new d below so_far one =
    let more = count_by_more p edges i d below in
    rw more (rw (one, so_far) (raised_by-add (count_by p (take i edges)) (cond (p (get_or edges i d)) 1 0) old))

-- so they are tests of these, each once
pub tested_each : (p : Edge → Bool) (edges : List Edge) (i : ℕ) (old new : ℕ) → new ≡ raised_by (count_by p (take i edges)) old → WereTested p edges old new
tested_each p edges i old new is = record { first = i; rose = record { more = count_by p (take i edges); within = omega arith; is = is } }

-- tests that were to spare needn't be
pub tested_sparing : (p : Edge → Bool) (edges : List Edge) (i spare old new : ℕ) → WereTestedOf (count_by p (take i edges)) spare old new
    → WereTested p edges old new
tested_sparing p edges i spare old new of =
    let within = of.within in
    record { first = i; rose = record { more = of.more; within = omega arith; is = of.is } }

-- tests of so many, and of some more with what was to spare
tests_added : (some more spare spare' old mid new : ℕ) → WereTestedOf some spare old mid → WereTestedOf (more + spare) spare' mid new
    → WereTestedOf (some + more) spare' old new
tests_added some more spare spare' old mid new one two =
    let a = one.within in
    let b = two.within in
    record {
      more = one.more + two.more;
      within = omega arith;
      is = two.is ∙ ap (raised_by two.more) one.is ∙ raised_by-add one.more two.more old;
    }

-- of pairs with what they show, one more that goes on, or that doesn't
pub tested_on : (now : ℕ) (pairs : List OpenPair) (i : ℕ) (o : OpenPair) (spare spare' : Bool) (old mid new : ℕ) → i < length pairs → o ≡ get_or pairs i o
    → goes_on now o.edge ≡ true → WereTestedOf (count_by (straddles_on now) (take i (map edge_of pairs))) (one_if spare) old mid
    → WereTestedOf (one_if (straddles now o.edge) + one_if spare) (one_if spare') mid new
    → WereTestedOf (count_by (straddles_on now) (take (i + 1) (map edge_of pairs))) (one_if spare') old new
tested_on now pairs i o spare spare' old mid new below is on so_far one =
    let all = length-map pairs edge_of in
    let here : get_or (map edge_of pairs) i o.edge ≡ o.edge = get_or-map edge_of pairs i o o.edge below ∙ ap edge_of (sym is) in
    let both : straddles_on now o.edge ≡ straddles now o.edge = ap (λ (b : Bool). b && straddles now o.edge) on in
    let more : count_by (straddles_on now) (take (i + 1) (map edge_of pairs))
    ≡ count_by (straddles_on now) (take i (map edge_of pairs)) + one_if (straddles now o.edge) =
    count_by_more (straddles_on now) (map edge_of pairs) i o.edge (omega arith)
    ∙ ap (λ (e : Edge). count_by (straddles_on now) (take i (map edge_of pairs)) + one_if (straddles_on now e)) here
    ∙ ap (λ (b : Bool). count_by (straddles_on now) (take i (map edge_of pairs)) + one_if b) both in
    rw more (tests_added (count_by (straddles_on now) (take i (map edge_of pairs))) (one_if (straddles now o.edge)) (one_if spare) (one_if spare') old mid new
    so_far one)

pub tested_past : (now : ℕ) (pairs : List OpenPair) (i : ℕ) (o : OpenPair) (spare old new : ℕ) → i < length pairs → o ≡ get_or pairs i o
    → goes_on now o.edge ≡ false → WereTestedOf (count_by (straddles_on now) (take i (map edge_of pairs))) spare old new
    → WereTestedOf (count_by (straddles_on now) (take (i + 1) (map edge_of pairs))) spare old new
tested_past now pairs i o spare old new below is past so_far =
    let all = length-map pairs edge_of in
    let here : get_or (map edge_of pairs) i o.edge ≡ o.edge = get_or-map edge_of pairs i o o.edge below ∙ ap edge_of (sym is) in
    let none : straddles_on now o.edge ≡ false = ap (λ (b : Bool). b && straddles now o.edge) past in
    let same : count_by (straddles_on now) (take (i + 1) (map edge_of pairs)) ≡ count_by (straddles_on now) (take i (map edge_of pairs)) + 0 =
    count_by_more (straddles_on now) (map edge_of pairs) i o.edge (omega arith)
    ∙ ap (λ (e : Edge). count_by (straddles_on now) (take i (map edge_of pairs)) + one_if (straddles_on now e)) here
    ∙ ap (λ (b : Bool). count_by (straddles_on now) (take i (map edge_of pairs)) + one_if b) none in
    let within = so_far.within in
    record { more = so_far.more; within = omega arith; is = so_far.is }

-- where nothing was gone over
pub none_gone : (p : Edge → Bool) (count : ℕ) → WereTested p [] count count
none_gone p count = record { first = 0; rose = record { more = 0; within = omega arith; is = refl } }

-- at most one test for each pair that straddles an edge of the look-ahead, where two lists of kept pairs were gone over
pub tested_once : (rules : Rules) (places : List (Option NamedTrajectory)) (now : ℕ) (edges first second : List Edge) (before mid after : ℕ)
    → AreKept rules places edges → ((e : Edge) → Contains first e → Contains edges e) → ((e : Edge) → Contains second e → Contains edges e)
    → AllPairs (λ e f. e ≢ f) first → AllPairs (λ e f. e ≢ f) second → ((e f : Edge) → Contains first e → Contains second f → e ≢ f)
    → WereTested (straddles_on now) first before mid → WereTested (is_tested now) second mid after → WasTestedOnce rules places now before after
tested_once rules places now edges first second before mid after kept from_first from_second first_apart second_apart across one two = record {
  edges = fresh ++ late;
  distinct = distinct_held (λ e f. e ≢ f) (λ e f. ¬ HaveSameEnds e f) (fresh ++ late)
      (λ e f e_in f_in differ. λ ends. differ (one_kept edges e f kept.once (listed e e_in).0 (listed f f_in).0 ends))
      (distinct_append (λ e f. e ≢ f) fresh late
      (chosen_apart (straddles_on now) one.first one.rose.more first first_apart)
      (chosen_apart (is_tested now) two.first two.rose.more second second_apart)
      (λ e f e_in f_in. across e f (of_first e e_in).0 (of_second f f_in).0));
  each = All-from_held (λ e. IsPair rules places e × (straddles now e ≡ true)) (fresh ++ late) (λ e held. let h = listed e held in (kept.sound e h.0, h.1));
  is = two.rose.is ∙ ap (raised_by two.rose.more) one.rose.is ∙ raised_by-add one.rose.more two.rose.more before
      ∙ ap (λ (n : ℕ). raised_by n before) (let a = chosen_all (straddles_on now) first before mid one in
      let b = chosen_all (is_tested now) second mid after two in let both = length-append fresh late in omega arith);
} where
  -- so many of the first ones of this kind
  chosen : (Edge → Bool) → ℕ → ℕ → List Edge → List Edge
  chosen p n more es = take more (filter p (take n es))

  chosen_apart : (p : Edge → Bool) (n more : ℕ) (es : List Edge) → AllPairs (λ e f. e ≢ f) es → AllPairs (λ e f. e ≢ f) (chosen p n more es)
  chosen_apart p n more es apart = distinct_take (λ e f. e ≢ f) more (filter p (take n es))
      (AllPairs-filter (λ e f. e ≢ f) p (take n es) (distinct_take (λ e f. e ≢ f) n es apart))

  chosen_all : (p : Edge → Bool) (es : List Edge) (old new : ℕ) (were : WereTested p es old new) → length (chosen p were.first were.rose.more es) ≡ were.rose.more
  chosen_all p es old new were =
      let within = were.rose.within in
      let all = length-filter p (take were.first es) in
      length-take-le were.rose.more (filter p (take were.first es)) (omega arith)

  chosen_is : (p : Edge → Bool) (n more : ℕ) (es : List Edge) (e : Edge) → Contains (chosen p n more es) e → Contains es e × (p e ≡ true)
  chosen_is p n more es e held =
      let h = (Contains-filter p (take n es) e).0 (Contains-take more (filter p (take n es)) e held) in
      (Contains-take n es e h.0, h.1)

  fresh : List Edge
  fresh = chosen (straddles_on now) one.first one.rose.more first

  late : List Edge
  late = chosen (is_tested now) two.first two.rose.more second

  of_first : (e : Edge) → Contains fresh e → Contains first e × (straddles now e ≡ true)
  of_first e held =
      let h = chosen_is (straddles_on now) one.first one.rose.more first e held in
      (h.0, (and_parts (goes_on now e) (straddles now e) h.1).1)

  of_second : (e : Edge) → Contains late e → Contains second e × (straddles now e ≡ true)
  of_second e held =
      let h = chosen_is (is_tested now) two.first two.rose.more second e held in
      (h.0, (and_parts (straddles now e) (not e.solid) h.1).0)

  listed : (e : Edge) → Contains (fresh ++ late) e → Contains edges e × (straddles now e ≡ true)
  listed e held = ⊎_elim
      (λ one_in. let h = of_first e one_in in (from_first e h.0, h.1))
      (λ two_in. let h = of_second e two_in in (from_second e h.0, h.1)) (Contains-append_cases fresh late e held)
