-- The open pairs and what is published when the look-ahead has moved: what is settled stays, and the rest is made anew.
use Rattle.std.proofs.Common.{◌≡◌, ◌≢◌, ℕ, ◌<◌, ◌≤◌, ◌⊎◌, inl, inr, ⊎_elim, ◌↔◌, Bool, true, false, not, ◌&&◌, true≢false, List, [], ◌∷◌, ◌++◌, map, Contains, Option, Some, None, refl, sym, ◌∙◌, ap, subst, arith}
use Rattle.std.specs.List.{All, AllPairs, filter}
use Rattle.std.proofs.lemmas.Bool.{and_parts, cases_Bool, cases_lt}
use Rattle.std.proofs.lemmas.Bool.Decides.{nat_tests}
use Rattle.std.proofs.lemmas.List.{append-nil, map-append}
use Rattle.std.proofs.lemmas.List.Elements.{Contains-append_cases, Contains-append_left, Contains-append_right, filter-append}
use Rattle.std.proofs.lemmas.List.Kept.{AllPairs-filter}
use Rattle.mt_base.specs.declared.conflict.Conflict.{Conflict}
use Rattle.mt_base.specs.declared.rules.Rules.{Rules}
use Rattle.mt_base.specs.Conflict.{IsSpanOfLoss}
use Rattle.mt_base.specs.Picture.{NamedTrajectory, window_end}
use Rattle.mt_base.specs.Trajectory.{Trajectory, horizon}
use Rattle.mt_base.proofs.Members.{All-from_held, Contains-filter, Contains-head, Contains-later, Contains-map, Contains-map_cases, Contains-none, distinct_append, distinct_map}
use Rattle.mt_edges.specs.declared.edge.Edge.{Edge}
use Rattle.mt_kept.specs.declared.open_pair.OpenPair.{OpenPair}
use Rattle.mt_kept.specs.declared.stale.Stale.{Stale}
use Rattle.mt_kept.specs.Losing.{IsPair}
use Rattle.mt_kept.specs.Private.Losing.{AreKept}
use Rattle.mt_kept.specs.Private.Made.{WereTested, borders, goes_on, is_at_border, is_tested, opens, straddles_on, window_last}
use Rattle.mt_kept.specs.Private.Stale.{AreDue, AreStale, comes_due, is_settled, is_stale, stays}
use Rattle.mt_kept.specs.Private.Window.{AreOpen, Shows}
use Rattle.mt_kept.specs.Window.{IsOpen, ShowsInWindow, WasTestedOnce, edge_of}
use Rattle.mt_kept.proofs.Keeping.{is_open_is}
use Rattle.mt_kept.proofs.Marks.{IsSettled, fresh_within, not_true, settled_is, settled_of}
use Rattle.mt_kept.proofs.Moving.{apart_distinct, none_gone, tested_once}
use Rattle.mt_kept.proofs.Publishing.{one_there, span_of}
use Rattle.mt_kept.proofs.Windows.{IsSpanOfLoss-sym, borders_begun, borders_end, borders_not, borders_open, within_border}

-- what of a pair's span lies in one look-ahead lies in another too
abbrev Reaches : ℕ → ℕ → Edge → Type 0
Reaches from to e = (k : ℕ) → e.first ≤ k → k ≤ e.last → to ≤ k → k < window_end to → (from ≤ k) × (k < window_end from)

-- a conflict in one look-ahead is the one in another, where it lies in that, and what of the span does lies in the first
span_moved : (rules : Rules) (a b : Trajectory) (from to first last : ℕ) (e : Edge) → to ≤ 10000000 → IsSpanOfLoss rules a b 0 horizon e.first e.last
    → IsSpanOfLoss rules a b from (window_end from) first last → to ≤ first → last < window_end to → Reaches from to e
    → IsSpanOfLoss rules a b to (window_end to) first last
span_moved rules a b from to first last e early whole is low high reaches = record {
  inside = (low, is.inside.1, high);
  first_is = is.first_is;
  last_is = is.last_is;
  none_outside = λ k after before loss.
      let h = whole.none_outside k (omega arith) (omega arith) loss in
      let m = reaches k h.0 h.1 after before in
      is.none_outside k m.0 m.1 loss;
}

-- the span of a pair, at the trajectories that it shows
span_shown : (rules : Rules) (places : List (Option NamedTrajectory)) (w : ℕ) (e : Edge) (x : Option Conflict) (shown : ShowsInWindow rules places w e x)
    → IsPair rules places e → IsSpanOfLoss rules shown.left.path shown.right.path 0 horizon e.first e.last
span_shown rules places w e x shown pair =
    span_of rules places e pair shown.left shown.right (one_there places e.a pair.left shown.left pair.left_is shown.left_is)
    (one_there places e.b pair.right shown.right pair.right_is shown.right_is)

-- so the pair shows it in both
shows_moved : (rules : Rules) (places : List (Option NamedTrajectory)) (from to : ℕ) (e : Edge) (c : Conflict) → to ≤ 10000000 → IsPair rules places e
    → ShowsInWindow rules places from e (Some c) → to ≤ c.first → c.last < window_end to → Reaches from to e → ShowsInWindow rules places to e (Some c)
shows_moved rules places from to e c early pair shown low high reaches =
    let whole = span_shown rules places from e (Some c) shown pair in
    record {
      left = shown.left;
      right = shown.right;
      left_is = shown.left_is;
      right_is = shown.right_is;
      found = ⊎_elim
          (λ is. inl (record {
            calls = is.calls;
            kinds = is.kinds;
            apart = is.apart;
            span = span_moved rules shown.left.path shown.right.path from to c.first c.last e early whole is.span low high reaches;
          }))
          (λ is. inr (record {
            calls = is.calls;
            kinds = is.kinds;
            apart = is.apart;
            span = span_moved rules shown.right.path shown.left.path from to c.first c.last e early
                (IsSpanOfLoss-sym rules shown.left.path shown.right.path 0 horizon e.first e.last whole) is.span low high reaches;
          })) shown.found;
    }

-- where a conflict lies that a pair shows
record LiesIn (w : ℕ) (e : Edge) (c : Conflict) : Type 0 where
  first : w ≤ c.first
  last : c.last < window_end w
  order : c.first ≤ c.last
  after : e.first ≤ c.first
  before : c.last ≤ e.last
  begin : w ≤ e.first → c.first ≡ e.first

span_lies : (rules : Rules) (a b : Trajectory) (w : ℕ) (e : Edge) (c : Conflict) → w ≤ 10000000 → IsSpanOfLoss rules a b 0 horizon e.first e.last
    → IsSpanOfLoss rules a b w (window_end w) c.first c.last → LiesIn w e c
span_lies rules a b w e c early whole is =
    let inside = is.inside in
    let low = whole.none_outside c.first (omega arith) (omega arith) is.first_is in
    let high = whole.none_outside c.last (omega arith) (omega arith) is.last_is in
    record {
      first = inside.0;
      last = inside.2;
      order = inside.1;
      after = low.0;
      before = high.1;
      begin = λ late. let h = is.none_outside e.first late (omega arith) whole.first_is in omega arith;
    }

lies : (rules : Rules) (places : List (Option NamedTrajectory)) (w : ℕ) (e : Edge) (c : Conflict) → w ≤ 10000000 → IsPair rules places e
    → ShowsInWindow rules places w e (Some c) → LiesIn w e c
lies rules places w e c early pair shown =
    let whole = span_shown rules places w e (Some c) shown pair in
    ⊎_elim
    (λ is. span_lies rules shown.left.path shown.right.path w e c early whole is.span)
    (λ is. span_lies rules shown.right.path shown.left.path w e c early
    (IsSpanOfLoss-sym rules shown.left.path shown.right.path 0 horizon e.first e.last whole) is.span) shown.found

-- a pair that begins in a look-ahead shows a conflict in it, that begins with it
record Begins (e : Edge) (x : Option Conflict) : Type 0 where
  conflict : Conflict
  is : x ≡ Some conflict
  first : conflict.first ≡ e.first

begins : (rules : Rules) (places : List (Option NamedTrajectory)) (w : ℕ) (e : Edge) (x : Option Conflict) → w ≤ 10000000 → IsPair rules places e
    → ShowsInWindow rules places w e x → w ≤ e.first → e.first < window_end w → Begins e x
begins rules places w e None early pair shown low high = absurd (shown.found e.first low high (span_shown rules places w e None shown pair).first_is)
begins rules places w e (Some c) early pair shown low high =
    record { conflict = c; is = refl; first = (lies rules places w e c early pair shown).begin low }

-- an open pair that is settled shows the same in the later look-ahead
settled_shows : (rules : Rules) (places : List (Option NamedTrajectory)) (old now : ℕ) (e : Edge) (x : Option Conflict) → old ≤ now → now ≤ 10000000
    → IsPair rules places e → ShowsInWindow rules places old e x → now ≤ e.first → e.last < window_last old → ShowsInWindow rules places now e x
settled_shows rules places old now e None later early pair shown low high =
    let order = pair.span.inside.1 in
    let b = begins rules places old e None (omega arith) pair shown (omega arith) (omega arith) in
    let none = b.is in absurd (cc)
settled_shows rules places old now e (Some c) later early pair shown low high =
    let there = lies rules places old e c (omega arith) pair shown in
    let after = there.after in
    let before = there.before in
    shows_moved rules places old now e c early pair shown (omega arith) (omega arith) (λ k begun ends from to. (omega arith, omega arith))

filter_nothing : (p : OpenPair → Bool) (xs : List OpenPair) → ((x : OpenPair) → Contains xs x → p x ≡ false) → filter p xs ≡ []
filter_nothing p [] none = refl
filter_nothing p (x ∷ xs) none = rw (none x (Contains-head x xs)) (filter_nothing p xs (λ y held. none y (Contains-later x xs y held)))

-- `settled`, `open_after`: a pair's span is settled; the open pairs after a move: those that were looked at, and the settled ones
abbrev pub settled : Stale → OpenPair → Bool
settled stale o = is_settled stale o.edge.first o.edge.last

abbrev pub open_after : Stale → List OpenPair → List OpenPair → List OpenPair
open_after stale renewed pairs = renewed ++ filter (settled stale) pairs

-- `reaching`: the pairs that are looked at: those at the border of the earlier look-ahead that go on, and those due
abbrev pub reaching : ℕ → List OpenPair → List Edge → List Edge
reaching now bordering due = filter (goes_on now) (map edge_of bordering) ++ due

goes : (now : ℕ) (e : Edge) → (goes_on now e ≡ true) ↔ (now ≤ e.last)
goes now e = ((λ t. grind (arith, nat_tests)), (λ h. grind (arith, nat_tests)))

due_all : (old now : ℕ) (stale : Stale) (e : Edge) → goes_on now e ≡ true → is_stale stale e.first ≡ true → borders old e ≡ false → comes_due old now stale e ≡ true
due_all old now stale e on some none = rw (on, some, none) refl

-- a pair that is due
pub record IsDue (old now : ℕ) (stale : Stale) (e : Edge) : Type 0 where
  pub on : now ≤ e.last
  pub some : is_stale stale e.first ≡ true
  pub none : borders old e ≡ false

pub due_is : (old now : ℕ) (stale : Stale) (e : Edge) → comes_due old now stale e ≡ true → IsDue old now stale e
due_is old now stale e sure =
    let outer = and_parts (goes_on now e && is_stale stale e.first) (not (borders old e)) sure in
    let inner = and_parts (goes_on now e) (is_stale stale e.first) outer.0 in
    record { on = (goes now e).0 inner.0; some = inner.1; none = not_true (borders old e) outer.1 }

-- before and after a move
module _ (rules : Rules) (places : List (Option NamedTrajectory)) (old now : ℕ) (edges : List Edge) (pairs bordering : List OpenPair)
    (later : old ≤ now) (kept : AreKept rules places edges) (opened : AreOpen rules places old edges pairs)
    (are : bordering ≡ filter (is_at_border old) pairs) where
  border_is : (e : Edge) → Contains (map edge_of bordering) e → Contains edges e × (borders old e ≡ true)
  border_is e held =
      let x = Contains-map_cases edge_of bordering e held in
      let h = (Contains-filter (is_at_border old) pairs x.of).0 (subst (λ (os : List OpenPair). Contains os x.of) are x.held) in
      let o = opened.sound x.of h.0 in
      (subst (Contains edges) x.is o.0, subst (λ (f : Edge). borders old f ≡ true) x.is h.1)

  border_of : (e : Edge) → Contains edges e → borders old e ≡ true → Contains (map edge_of bordering) e
  border_of e held some =
      let x = Contains-map_cases edge_of pairs e (opened.complete e held (borders_open old e some)) in
      let h = (Contains-filter (is_at_border old) pairs x.of).1 (x.held, ap (borders old) x.is ∙ some) in
      subst (Contains (map edge_of bordering)) x.is (Contains-map edge_of bordering x.of (subst (λ (os : List OpenPair). Contains os x.of) (sym are) h))

  border_distinct : AllPairs (λ e f. e ≢ f) (map edge_of bordering)
  border_distinct = distinct_map (λ e f. e ≢ f) edge_of bordering (subst (AllPairs (λ o p. o.edge ≢ p.edge)) (sym are)
      (AllPairs-filter (λ o p. o.edge ≢ p.edge) (is_at_border old) pairs opened.distinct))

  -- what looking at these needs
  pub border_pairs : All (λ o. IsPair rules places o.edge × IsOpen old o.edge × ShowsInWindow rules places old o.edge o.conflict) bordering
  border_pairs = All-from_held (λ o. IsPair rules places o.edge × IsOpen old o.edge × ShowsInWindow rules places old o.edge o.conflict) bordering (λ o held.
      let h = (Contains-filter (is_at_border old) pairs o).0 (subst (λ (os : List OpenPair). Contains os o) are held) in
      let s = opened.sound o h.0 in
      (kept.sound o.edge s.0, s.1, s.2))

  border_held : (e : Edge) → Contains (map edge_of bordering) e → Contains edges e
  border_held e held = (border_is e held).0

  pub first_tested : (before after : ℕ) → WereTested (straddles_on now) (map edge_of bordering) before after → WasTestedOnce rules places now before after
  first_tested before after one =
      tested_once rules places now edges (map edge_of bordering) [] before after after kept border_held (λ e held. absurd (Contains-none e held)) border_distinct
      (λ i j d low below. absurd (omega (arith, low, below))) (λ e f first second. absurd (Contains-none f second)) one (none_gone (is_tested now) after)

  module _ (stale : Stale) (due : List Edge) (early : now ≤ 10000000) (are_stale : AreStale old now stale) (are_due : AreDue old now stale edges due) where
    settled_pair : (first last : ℕ) → is_settled stale first last ≡ true → IsSettled old now stale first last
    settled_pair first last sure = settled_is old now stale first last are_stale sure

    -- what is looked at is open and isn't settled
    reached : (e : Edge) → Contains (reaching now bordering due) e → Contains edges e × IsOpen now e × (is_settled stale e.first e.last ≡ false)
    reached e held = ⊎_elim
        (λ first.
        let h = (Contains-filter (goes_on now) (map edge_of bordering) e).0 first in
        let b = border_is e h.0 in
        let meets = borders_open old e b.1 in
        let ahead = meets.0 in (
          b.0,
          (omega arith, (goes now e).0 h.1),
          ⊎_elim
              (λ sure.
              let s = settled_pair e.first e.last sure in
              let late = s.late in
              absurd (true≢false (sym b.1 ∙ borders_not old e (omega arith) s.early)))
              (λ unsettled. unsettled) (cases_Bool (is_settled stale e.first e.last)),
        ))
        (λ second.
        let h = (are_due.exact e).0 second in
        let d = due_is old now stale e h.1.2 in (
          h.0,
          (h.1.1, d.on),
          ⊎_elim
              (λ sure. absurd (true≢false (sym d.some ∙ (settled_pair e.first e.last sure).fresh)))
              (λ unsettled. unsettled) (cases_Bool (is_settled stale e.first e.last)),
        ))
        (Contains-append_cases (filter (goes_on now) (map edge_of bordering)) due e held)

    -- and what is open and isn't settled is looked at
    reaches : (e : Edge) → Contains edges e → IsOpen now e → is_settled stale e.first e.last ≡ false → Contains (reaching now bordering due) e
    reaches e held meets unsettled =
        let ahead = meets.0 in
        let on = meets.1 in
        let first = filter (goes_on now) (map edge_of bordering) in
        ⊎_elim
        (λ some. Contains-append_left first due e ((Contains-filter (goes_on now) (map edge_of bordering) e).1 (border_of e held some, (goes now e).1 on)))
        (λ none.
        let late : old ≤ e.first = ⊎_elim (λ before. absurd (true≢false (sym (borders_begun old e before (omega arith)) ∙ none))) (λ after. after)
        (cases_lt e.first old) in
        ⊎_elim
        (λ marked. Contains-append_right first due e ((are_due.exact e).1 (held, (late, ahead, due_all old now stale e ((goes now e).1 on) marked none))))
        (λ fresh.
        let inside = fresh_within old now e.first stale are_stale fresh in
        absurd (⊎_elim
        (λ ends. true≢false (sym (settled_of old now stale e.first e.last are_stale fresh ends) ∙ unsettled))
        (λ lasts. true≢false (sym (borders_end old e inside.1 lasts) ∙ none))
        (cases_lt e.last (window_last old))))
        (cases_Bool (is_stale stale e.first)))
        (cases_Bool (borders old e))

    reaching_distinct : AllPairs (λ e f. e ≢ f) (reaching now bordering due)
    reaching_distinct =
        distinct_append (λ e f. e ≢ f) (filter (goes_on now) (map edge_of bordering)) due
        (AllPairs-filter (λ e f. e ≢ f) (goes_on now) (map edge_of bordering) border_distinct)
        (apart_distinct due are_due.apart)
        (λ e f first second same.
        let b = (border_is e ((Contains-filter (goes_on now) (map edge_of bordering) e).0 first).0).1 in
        let d = due_is old now stale f ((are_due.exact f).0 second).1.2 in
        true≢false (sym b ∙ ap (borders old) same ∙ d.none))

    pub due_pairs : All (λ e. IsPair rules places e × IsOpen now e) due
    due_pairs = All-from_held (λ e. IsPair rules places e × IsOpen now e) due (λ e held.
        let h = reached e (Contains-append_right (filter (goes_on now) (map edge_of bordering)) due e held) in
        (kept.sound e h.0, h.1))

    due_held : (e : Edge) → Contains due e → Contains edges e
    due_held e held = ((are_due.exact e).0 held).0

    border_apart : (e f : Edge) → Contains (map edge_of bordering) e → Contains due f → e ≢ f
    border_apart e f first second same =
        let d = due_is old now stale f ((are_due.exact f).0 second).1.2 in
        true≢false (sym (border_is e first).1 ∙ ap (borders old) same ∙ d.none)

    -- the tests of both
    pub both_tested : (before mid after : ℕ) → WereTested (straddles_on now) (map edge_of bordering) before mid → WereTested (is_tested now) due mid after
        → WasTestedOnce rules places now before after
    both_tested before mid after one two =
        tested_once rules places now edges (map edge_of bordering) due before mid after kept border_held due_held border_distinct (apart_distinct due are_due.apart)
        border_apart one two

    -- what is looked at, in a list of pairs of which some were open
    module _ (renewed : List OpenPair) (exact : (e : Edge) → Contains (map edge_of renewed) e ↔ Contains (reaching now bordering due) e)
        (apart : AllPairs (λ e f. e ≢ f) (reaching now bordering due) → AllPairs (λ o p. o.edge ≢ p.edge) renewed)
        (shown : (o : OpenPair) → Contains renewed o → ShowsInWindow rules places now o.edge o.conflict)
        (stay : (o : OpenPair) (c : Conflict) → Contains bordering o → goes_on now o.edge ≡ true → o.conflict ≡ Some c → stays stale c ≡ true
        → Contains renewed (record { edge = o.edge; conflict = Some c })) where
      abbrev rest : List OpenPair
      rest = filter (settled stale) pairs

      record IsRest (o : OpenPair) : Type 0 where
        was : Contains pairs o
        held : Contains edges o.edge
        pair : IsPair rules places o.edge
        is : IsSettled old now stale o.edge.first o.edge.last

      rest_is : (o : OpenPair) → Contains rest o → IsRest o
      rest_is o held =
          let h = (Contains-filter (settled stale) pairs o).0 held in
          let s = opened.sound o h.0 in
          record { was = h.0; held = s.0; pair = kept.sound o.edge s.0; is = settled_pair o.edge.first o.edge.last h.1 }

      renewed_is : (o : OpenPair) → Contains renewed o → Contains edges o.edge × IsOpen now o.edge × (settled stale o ≡ false)
      renewed_is o held = reached o.edge ((exact o.edge).0 (Contains-map edge_of renewed o held))

      -- the open pairs at the later moment
      pub open_moved : AreOpen rules places now edges (open_after stale renewed pairs)
      open_moved = record {
        sound = λ o held. ⊎_elim
            (λ first.
            let h = renewed_is o first in
            (h.0, h.1, shown o first))
            (λ second.
            let r = rest_is o second in
            let s = opened.sound o r.was in
            let low = r.is.late in
            let ahead = r.is.ahead in
            let order = r.pair.span.inside.1 in
            (r.held, (omega arith, omega arith), settled_shows rules places old now o.edge o.conflict later early r.pair s.2 low r.is.early))
            (Contains-append_cases renewed rest o held);
        complete = λ e held meets. subst (λ (es : List Edge). Contains es e) (sym (map-append edge_of renewed rest)) (⊎_elim
            (λ sure.
            let s = settled_pair e.first e.last sure in
            let ahead = s.ahead in
            let on = meets.1 in
            let x = Contains-map_cases edge_of pairs e (opened.complete e held (omega arith, omega arith)) in
            let in_rest : Contains rest x.of = (Contains-filter (settled stale) pairs x.of).1
            (x.held, subst (λ (f : Edge). is_settled stale f.first f.last ≡ true) (sym x.is) sure) in
            Contains-append_right (map edge_of renewed) (map edge_of rest) e (subst (Contains (map edge_of rest)) x.is (Contains-map edge_of rest x.of in_rest)))
            (λ unsettled. Contains-append_left (map edge_of renewed) (map edge_of rest) e ((exact e).1 (reaches e held meets unsettled)))
            (cases_Bool (is_settled stale e.first e.last)));
        distinct = distinct_append (λ o p. o.edge ≢ p.edge) renewed rest
            (apart reaching_distinct)
            (AllPairs-filter (λ o p. o.edge ≢ p.edge) (settled stale) pairs opened.distinct)
            (λ o p first second. λ one.
            true≢false (sym ((Contains-filter (settled stale) pairs p).0 second).1
            ∙ ap (λ (e : Edge). is_settled stale e.first e.last) (sym one) ∙ (renewed_is o first).2));
      }

      -- of these only such that were looked at are at the border of the later look-ahead
      pub border_moved : filter (is_at_border now) renewed ≡ filter (is_at_border now) (open_after stale renewed pairs)
      border_moved =
          sym (append-nil (filter (is_at_border now) renewed))
          ∙ ap (λ (os : List OpenPair). filter (is_at_border now) renewed ++ os) (sym (filter_nothing (is_at_border now) rest (λ o held.
          let r = rest_is o held in
          let ends = r.is.early in
          borders_not now o.edge r.is.late (omega arith))))
          ∙ sym (filter-append (is_at_border now) renewed rest)

      -- a conflict that stays is shown still
      stays_shown : (c : Conflict) → Shows pairs c → stays stale c ≡ true → Shows (open_after stale renewed pairs) c
      stays_shown c s sure =
          let e = s.pair.edge in
          let o = opened.sound s.pair s.held in
          let pair = kept.sound e o.0 in
          let shows : ShowsInWindow rules places old e (Some c) = subst (λ (x : Option Conflict). ShowsInWindow rules places old e x) s.shown o.2 in
          let there = lies rules places old e c (omega arith) pair shows in
          let is = settled_pair c.first c.last sure in
          let late = is.late in
          let order = there.order in
          let before = there.before in
          ⊎_elim
          (λ some.
          let held : Contains bordering s.pair = subst (λ (os : List OpenPair). Contains os s.pair) (sym are)
          ((Contains-filter (is_at_border old) pairs s.pair).1 (s.held, some)) in
          let on : goes_on now e ≡ true = (goes now e).1 (omega arith) in
          record { pair = record { edge = e; conflict = Some c }; held = Contains-append_left renewed rest (record { edge = e; conflict = Some c }) (stay s.pair c held on s.shown sure); shown = refl })
          (λ none.
          let inside = within_border old e o.1 none in
          let begin = there.begin inside.0 in
          record {
            pair = s.pair;
            held = Contains-append_right renewed rest s.pair ((Contains-filter (settled stale) pairs s.pair).1 (
              s.held,
              settled_of old now stale e.first e.last are_stale (ap (is_stale stale) (sym begin) ∙ is.fresh) inside.1,
            ));
            shown = s.shown;
          })
          (cases_Bool (borders old e))

      -- and a settled pair shows a conflict that stays
      shown_stays : (o : OpenPair) (c : Conflict) → Contains rest o → o.conflict ≡ Some c → stays stale c ≡ true
      shown_stays o c held shows =
          let r = rest_is o held in
          let s = opened.sound o r.was in
          let there = lies rules places old o.edge c (omega arith) r.pair (subst (λ (x : Option Conflict). ShowsInWindow rules places old o.edge x) shows s.2) in
          let late = r.is.late in
          let ends = r.is.early in
          let before = there.before in
          settled_of old now stale c.first c.last are_stale (ap (is_stale stale) (there.begin (omega arith)) ∙ r.is.fresh) (omega arith)

      -- so what is published after the move is what the open pairs show
      pub published_moved : (list come new : List Conflict) → ((c : Conflict) → Contains list c ↔ Shows pairs c)
          → ((c : Conflict) → Contains come c ↔ Shows (filter (opens now) renewed) c)
          → ((c : Conflict) → Contains new c ↔ ((Contains list c × (stays stale c ≡ true)) ⊎ Contains come c))
          → (c : Conflict) → Contains new c ↔ Shows (open_after stale renewed pairs) c
      published_moved list come new exact came is c = (
        (λ held. ⊎_elim
            (λ left. stays_shown c ((exact c).0 left.0) left.1)
            (λ some.
            let s = (came c).0 some in
            record { pair = s.pair; held = Contains-append_left renewed rest s.pair ((Contains-filter (opens now) renewed s.pair).0 s.held).0; shown = s.shown }) ((is c).0 held)),
        (λ s. (is c).1 (⊎_elim
            (λ first. inr ((came c).1 (record {
              pair = s.pair;
              held = (Contains-filter (opens now) renewed s.pair).1 (first, (is_open_is now s.pair.edge).1 (renewed_is s.pair first).1);
              shown = s.shown;
            })))
            (λ second. inl ((exact c).1 (record { pair = s.pair; held = (rest_is s.pair second).was; shown = s.shown }), shown_stays s.pair c second s.shown))
            (Contains-append_cases renewed rest s.pair s.held))),
      )
