-- The pairs of a place, as finds.
use Rattle.std.proofs.Common.{refl, ◌≡◌, ℕ, ◌≤◌, inl, inr, ⊎_elim, true, List, map, Contains, Option, sym, ◌∙◌, ap, subst, cond, [], ◌↔◌}
use Rattle.std.specs.List.{AllPairs, filter, list_any}
use Rattle.std.proofs.lemmas.Bool.{cases_Bool}
use Rattle.std.proofs.lemmas.List.Elements.{All-contains}
use Rattle.std.proofs.lemmas.List.Folds.{list_any_at}
use Rattle.mt_base.specs.declared.conflict.Conflict.{Conflict}
use Rattle.mt_base.specs.declared.rules.Rules.{Rules}
use Rattle.mt_base.specs.Conflict.{IsSpanOfLoss}
use Rattle.mt_base.specs.Picture.{NamedTrajectory}
use Rattle.mt_edges.specs.declared.edge.Edge.{Edge}
use Rattle.mt_edges.specs.Pairs.{HaveSameEnds, IsEach, touches}
use Rattle.mt_base.proofs.OneConflict.{one_span}
use Rattle.mt_kept.specs.declared.open_pair.OpenPair.{OpenPair}
use Rattle.mt_kept.specs.Places.{at}
use Rattle.mt_base.specs.Trajectory.{horizon}
use Rattle.mt_kept.specs.Losing.{IsPair, Touches}
use Rattle.mt_kept.specs.Private.Losing.{AreKept}
use Rattle.mt_kept.specs.Window.{IsFoundOf, IsOpen, ShowsInWindow, edge_of}
use Rattle.mt_kept.specs.Private.Window.{AreShownUntested, AreOpen, IsShownUntested}
use Rattle.mt_kept.specs.Private.Made.{borders, is_at_border, is_tested, touches_place}
use Rattle.mt_kept.specs.Finds.{AreFindsAt}
use Rattle.mt_kept.proofs.Keeping.{touches_is}
use Rattle.mt_base.proofs.Members.{Contains-filter, Contains-map, Contains-map_cases, distinct_of}
use Rattle.mt_kept.proofs.Publishing.{within_shown}
use Rattle.mt_kept.proofs.Windows.{tested_borders}

-- two pairs of the same places have one span
pub same_span : (rules : Rules) (places : List (Option NamedTrajectory)) (e f : Edge) → IsPair rules places e → IsPair rules places f → HaveSameEnds e f
    → (e.first ≡ f.first) × (e.last ≡ f.last)
same_span rules places e f p q ends =
    let l : q.left ≡ p.left = let x = p.left_is in let y = ap (at places) ends.0 ∙ q.left_is in cc in
    let r : q.right ≡ p.right = let x = p.right_is in let y = ap (at places) ends.1 ∙ q.right_is in cc in
    let span : IsSpanOfLoss rules p.left.path p.right.path 0 horizon f.first f.last =
    subst (λ (y : NamedTrajectory). IsSpanOfLoss rules p.left.path y.path 0 horizon f.first f.last) r
    (subst (λ (x : NamedTrajectory). IsSpanOfLoss rules x.path q.right.path 0 horizon f.first f.last) l q.span) in
    one_span rules p.left.path p.right.path 0 horizon e.first e.last f.first f.last p.span span

-- what an open pair of a place is told to show without a test is what it shows
untested_shown : (rules : Rules) (places : List (Option NamedTrajectory)) (now place : ℕ) (edges own : List Edge) (pairs bordering tested : List OpenPair)
    (e : Edge) (shown : Option Conflict) → now ≤ 10000000 → AreOpen rules places now edges pairs → bordering ≡ filter (is_at_border now) pairs
    → tested ≡ cond (list_any (is_tested now) own) (filter (touches_place place) bordering) [] → Contains own e → Contains edges e → touches place e ≡ true
    → IsPair rules places e → IsOpen now e → IsShownUntested places now tested e shown → ShowsInWindow rules places now e shown
untested_shown rules places now place edges own pairs bordering tested e shown early opened borderers are in_own held here pair meets told = ⊎_elim
    (λ some.
    let any : list_any (is_tested now) own ≡ true = list_any_at (is_tested now) own in_own.0 e in_own.1 (ap (is_tested now) in_own.2 ∙ some) in
    let is : tested ≡ filter (touches_place place) (filter (is_at_border now) pairs) = are ∙ rw (any, borderers) refl in
    let listed : (o : OpenPair) → Contains tested o ↔ ((Contains pairs o × (borders now o.edge ≡ true)) × (touches place o.edge ≡ true)) = λ o. (
      (λ there. let h = (Contains-filter (touches_place place) (filter (is_at_border now) pairs) o).0 (subst (λ (os : List OpenPair). Contains os o) is there) in
          ((Contains-filter (is_at_border now) pairs o).0 h.0, h.1)),
      (λ h. subst (λ (os : List OpenPair). Contains os o) (sym is)
          ((Contains-filter (touches_place place) (filter (is_at_border now) pairs) o).1 ((Contains-filter (is_at_border now) pairs o).1 h.0, h.1))),
    ) in
    let x = Contains-map_cases edge_of pairs e (opened.complete e held meets) in
    let there : Contains tested x.of = (listed x.of).1 ((x.held, ap (borders now) x.is ∙ tested_borders now e meets some), ap (touches place) x.is ∙ here) in
    let k = told.among some (subst (Contains (map edge_of tested)) x.is (Contains-map edge_of tested x.of there)) in
    let s = (opened.sound k.pair ((listed k.pair).0 k.held).0.0).2 in
    record {
      left = s.left;
      right = s.right;
      left_is = ap (at places) (sym k.ends.0) ∙ s.left_is;
      right_is = ap (at places) (sym k.ends.1) ∙ s.right_is;
      found = subst (IsFoundOf rules now s.left s.right) (sym k.is) s.found;
    })
    (λ none. within_shown rules places now e shown early pair meets none (told.within none)) (cases_Bool (is_tested now e))

-- so are the pairs of a place
pub finds_untested : (rules : Rules) (places : List (Option NamedTrajectory)) (now place : ℕ) (edges own : List Edge)
    (pairs bordering tested finds : List OpenPair) → now ≤ 10000000 → AreKept rules places edges → AreOpen rules places now edges pairs
    → bordering ≡ filter (is_at_border now) pairs → tested ≡ cond (list_any (is_tested now) own) (filter (touches_place place) bordering) []
    → IsEach (λ e. touches place e ≡ true) edges own → AreShownUntested places now tested own finds → AreFindsAt rules places now place finds
finds_untested rules places now place edges own pairs bordering tested finds early kept opened borderers are each told = record {
  sound = λ o held.
      let in_own = subst (λ (es : List Edge). Contains es o.edge) told.same (Contains-map edge_of finds o held) in
      let h = (each.exact o.edge).0 in_own in
      let pair = kept.sound o.edge h.0 in (
        (touches_is place o.edge).0 h.1,
        pair,
        λ meets. untested_shown rules places now place edges own pairs bordering tested o.edge o.conflict early opened borderers are in_own h.0 h.1 pair meets
            (All-contains (λ (p : OpenPair). IsOpen now p.edge → IsShownUntested places now tested p.edge p.conflict) finds o told.shown held meets),
      );
  complete = λ a b k before here loses.
      let j = kept.complete a b k before loses in
      let touching : Touches place j.edge = ⊎_elim (λ x. inl (j.ends.0 ∙ x)) (λ y. inr (j.ends.1 ∙ y)) here in
      record {
        edge = j.edge;
        held = subst (λ (es : List Edge). Contains es j.edge) (sym told.same) ((each.exact j.edge).1 (j.held, (touches_is place j.edge).1 touching));
        ends = j.ends;
      };
  distinct = distinct_of DifferInEnds edge_of finds (subst (AllPairs DifferInEnds) (sym told.same) each.apart);
} where
  DifferInEnds : Edge → Edge → Type 0
  DifferInEnds e f = ¬ HaveSameEnds e f
