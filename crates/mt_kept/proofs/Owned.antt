-- What the changed places' own pairs show.
use Rattle.std.proofs.Common.{◌≡◌, ℕ, ◌+◌, ◌<◌, ◌≤◌, inl, inr, ⊎_elim, ◌↔◌, true, List, [], ◌∷◌, ◌++◌, map, length, take, get_or, Contains, Option, Some, sym, ◌∙◌, ap, subst, arith}
use Rattle.std.specs.List.{filter, list_any}
use Rattle.std.proofs.lemmas.List.{map-append}
use Rattle.std.proofs.lemmas.List.Folds.{list_any_at}
use Rattle.std.proofs.lemmas.List.Elements.{Contains-append_cases, Contains-append_left, Contains-append_right, Contains-push, Contains-push_cases}
use Rattle.mt_base.specs.declared.conflict.Conflict.{Conflict}
use Rattle.mt_base.specs.declared.rules.Rules.{Rules}
use Rattle.mt_base.specs.Picture.{NamedTrajectory}
use Rattle.mt_base.proofs.Members.{Contains-filter, Contains-map_cases, Contains-none}
use Rattle.mt_edges.specs.declared.edge.Edge.{Edge}
use Rattle.mt_edges.specs.Pairs.{HaveSameEnds}
use Rattle.mt_kept.specs.declared.changes.PlaceChange.{PlaceChange}
use Rattle.mt_kept.specs.declared.open_pair.OpenPair.{OpenPair}
use Rattle.mt_kept.specs.Finds.{AreFindsAt}
use Rattle.mt_kept.specs.Losing.{IsPair, Joins, TouchesOne}
use Rattle.mt_kept.specs.Places.{at, HaveOwnPlaces, change_place}
use Rattle.mt_kept.specs.Window.{IsOpen, ShowsInWindow, edge_of}
use Rattle.mt_kept.specs.Private.Losing.{AreKept}
use Rattle.mt_kept.specs.Private.Made.{borders, is_at_border, meets, opens}
use Rattle.mt_kept.specs.Private.Window.{AreOpen, AreOwnPairs, Shows}
use Rattle.mt_kept.proofs.Again.{same_span}
use Rattle.mt_kept.proofs.Keeping.{is_open_is, touches_one_is}
use Rattle.mt_kept.proofs.Publishing.{one_shown, shown_is, shows}
use Rattle.mt_kept.proofs.Replacing.{changed_more}
use Rattle.mt_kept.proofs.Shown.{one_pair}

-- no place has no pairs
pub own_none : (rules : Rules) (places : List (Option NamedTrajectory)) (now : ℕ) → AreOwnPairs rules places now [] []
own_none rules places now = record {
  sound = λ o held. absurd (Contains-none o held);
  complete = λ a b k before here loses. absurd (⊎_elim (Contains-none a) (Contains-none b) here);
}

-- one place more
joined_first : (first second : List OpenPair) (a b : ℕ) → Joins (map edge_of first) a b → Joins (map edge_of (first ++ second)) a b
joined_first first second a b j = record {
  edge = j.edge;
  held = subst (λ (es : List Edge). Contains es j.edge) (sym (map-append edge_of first second)) (Contains-append_left (map edge_of first) (map edge_of second) j.edge j.held);
  ends = j.ends;
}

joined_second : (first second : List OpenPair) (a b : ℕ) → Joins (map edge_of second) a b → Joins (map edge_of (first ++ second)) a b
joined_second first second a b j = record {
  edge = j.edge;
  held = subst (λ (es : List Edge). Contains es j.edge) (sym (map-append edge_of first second)) (Contains-append_right (map edge_of first) (map edge_of second) j.edge j.held);
  ends = j.ends;
}

pub own_more : (rules : Rules) (places : List (Option NamedTrajectory)) (now : ℕ) (some : List ℕ) (place : ℕ) (own more : List OpenPair)
    → AreOwnPairs rules places now some own → AreFindsAt rules places now place more → AreOwnPairs rules places now (some ++ place ∷ []) (own ++ more)
own_more rules places now some place own more are found = record {
  sound = λ o held. ⊎_elim
      (λ old.
      let h = are.sound o old in
      (⊎_elim (λ a. inl (Contains-append_left some (place ∷ []) o.edge.a a)) (λ b. inr (Contains-append_left some (place ∷ []) o.edge.b b)) h.0, h.1, h.2))
      (λ fresh. let h = found.sound o fresh in (⊎_elim (λ a. inl (last o.edge.a a)) (λ b. inr (last o.edge.b b)) h.0, h.1, h.2))
      (Contains-append_cases own more o held);
  complete = λ a b k before here loses. ⊎_elim
      (λ x. ⊎_elim
      (λ old. joined_first own more a b (are.complete a b k before (inl old) loses))
      (λ same. joined_second own more a b (found.complete a b k before (inl (sym same)) loses)) (Contains-push_cases some place a x))
      (λ y. ⊎_elim
      (λ old. joined_first own more a b (are.complete a b k before (inr old) loses))
      (λ same. joined_second own more a b (found.complete a b k before (inr (sym same)) loses)) (Contains-push_cases some place b y)) here;
} where
  last : (end : ℕ) → end ≡ place → Contains (some ++ place ∷ []) end
  last end same = subst (Contains (some ++ place ∷ [])) (sym same) (Contains-push some place)

-- one change more
pub own_next : (rules : Rules) (places : List (Option NamedTrajectory)) (now : ℕ) (changes : List PlaceChange) (i : ℕ) (change : PlaceChange)
    (own more all : List OpenPair) → i < length changes → change ≡ get_or changes i change → all ≡ own ++ more
    → AreOwnPairs rules places now (map change_place (take i changes)) own → AreFindsAt rules places now change.place more
    → AreOwnPairs rules places now (map change_place (take (i + 1) changes)) all
own_next rules places now changes i change own more all below is all_is are found =
    subst (λ (os : List OpenPair). AreOwnPairs rules places now (map change_place (take (i + 1) changes)) os) (sym all_is)
    (subst (λ (some : List ℕ). AreOwnPairs rules places now some (own ++ more)) (sym (changed_more changes i change below is))
    (own_more rules places now (map change_place (take i changes)) change.place own more are found))

-- a pair of one of the places is among them
record IsThere (rules : Rules) (places : List (Option NamedTrajectory)) (own : List OpenPair) (e : Edge) : Type 0 where
  of : OpenPair
  held : Contains own of
  ends : HaveSameEnds of.edge e
  span : (of.edge.first ≡ e.first) × (of.edge.last ≡ e.last)

is_there : (rules : Rules) (places : List (Option NamedTrajectory)) (now : ℕ) (changed : List ℕ) (own : List OpenPair) (e : Edge)
    → AreOwnPairs rules places now changed own → IsPair rules places e → TouchesOne changed e → IsThere rules places own e
is_there rules places now changed own e are pair touching =
    let joined : Joins (map edge_of own) e.a e.b = are.complete e.a e.b e.first pair.before touching (record {
      left = pair.left;
      right = pair.right;
      left_is = pair.left_is;
      right_is = pair.right_is;
      apart = pair.apart;
      loss = pair.span.first_is;
      early = omega (arith, pair.span.inside.1, pair.span.inside.2);
    }) in
    let x = Contains-map_cases edge_of own joined.edge joined.held in
    let ends : HaveSameEnds x.of.edge e = (ap (λ (f : Edge). f.a) x.is ∙ joined.ends.0, ap (λ (f : Edge). f.b) x.is ∙ joined.ends.1) in
    record { of = x.of; held = x.held; ends = ends; span = same_span rules places x.of.edge e (are.sound x.of x.held).1 pair ends }

-- where it is open it shows the same
shows_there : (rules : Rules) (places : List (Option NamedTrajectory)) (now : ℕ) (changed : List ℕ) (own : List OpenPair) (e : Edge) (c : Conflict)
    → AreOwnPairs rules places now changed own → IsPair rules places e → IsOpen now e → ShowsInWindow rules places now e (Some c) → TouchesOne changed e
    → Shows (filter (opens now) own) c
shows_there rules places now changed own e c are pair meets shown touching =
    let x = is_there rules places now changed own e are pair touching in
    let meets_here : IsOpen now x.of.edge = (omega (arith, x.span.0, meets.0), omega (arith, x.span.1, meets.1)) in
    record {
      pair = x.of;
      held = (Contains-filter (opens now) own x.of).1 (x.held, (is_open_is now x.of.edge).1 meets_here);
      shown = one_shown rules places now x.of.edge x.of.conflict c ((are.sound x.of x.held).2 meets_here) (record {
        left = shown.left;
        right = shown.right;
        left_is = ap (at places) x.ends.0 ∙ shown.left_is;
        right_is = ap (at places) x.ends.1 ∙ shown.right_is;
        found = shown.found;
      });
    }

-- where a pair of a changed place is at the border of the look-ahead, one of the places' own pairs is
borders_same : (now : ℕ) (e f : Edge) → e.first ≡ f.first → e.last ≡ f.last → borders now f ≡ true → borders now e ≡ true
borders_same now e f first last some = rw (first, last) some

pub own_borders : (rules : Rules) (places : List (Option NamedTrajectory)) (now : ℕ) (changed : List ℕ) (edges : List Edge)
    (pairs bordering own : List OpenPair) → AreKept rules places edges → AreOpen rules places now edges pairs → bordering ≡ filter (is_at_border now) pairs
    → AreOwnPairs rules places now changed own → (o : OpenPair) → Contains bordering o → meets changed o ≡ true → list_any (is_at_border now) own ≡ true
own_borders rules places now changed edges pairs bordering own kept opened borderers are o held here =
    let h = (Contains-filter (is_at_border now) pairs o).0 (subst (λ (os : List OpenPair). Contains os o) borderers held) in
    let pair = kept.sound o.edge (opened.sound o h.0).0 in
    let x = is_there rules places now changed own o.edge are pair ((touches_one_is changed o.edge).0 here) in
    list_any_at (is_at_border now) own x.held.0 x.of x.held.1
    (ap (is_at_border now) x.held.2 ∙ borders_same now x.of.edge o.edge x.span.0 x.span.1 h.1)

-- what the own pairs of changed places show is exactly what the open pairs of these places do
pub shown_own : (rules : Rules) (places : List (Option NamedTrajectory)) (now : ℕ) (changed : List ℕ) (edges : List Edge) (pairs own : List OpenPair)
    (hidden : List Conflict) → now ≤ 10000000 → HaveOwnPlaces places → AreKept rules places edges → AreOpen rules places now edges pairs
    → AreOwnPairs rules places now changed own → ((c : Conflict) → Contains hidden c ↔ Shows (filter (opens now) own) c)
    → (c : Conflict) → Contains hidden c ↔ Shows (filter (meets changed) pairs) c
shown_own rules places now changed edges pairs own hidden early places_own kept opened are exact c = (
  (λ held. from_own ((exact c).0 held)),
  (λ s. (exact c).1 (to_own s)),
) where
  from_own : Shows (filter (opens now) own) c → Shows (filter (meets changed) pairs) c
  from_own h =
      let both = (Contains-filter (opens now) own h.pair).0 h.held in
      let it = are.sound h.pair both.0 in
      let shown : ShowsInWindow rules places now h.pair.edge (Some c) =
      subst (λ (x : Option Conflict). ShowsInWindow rules places now h.pair.edge x) h.shown (it.2 ((is_open_is now h.pair.edge).0 both.1)) in
      let s = shows rules places now edges pairs c early kept opened (shown_is rules places now h.pair.edge c shown) in
      let there : ShowsInWindow rules places now s.pair.edge (Some c) =
      subst (λ (x : Option Conflict). ShowsInWindow rules places now s.pair.edge x) s.shown (opened.sound s.pair s.held).2 in
      let near : TouchesOne changed s.pair.edge = one_pair rules places now changed h.pair.edge s.pair.edge c places_own shown there it.0 in
      record {
        pair = s.pair;
        held = (Contains-filter (meets changed) pairs s.pair).1 (s.held, (touches_one_is changed s.pair.edge).1 near);
        shown = s.shown;
      }

  to_own : Shows (filter (meets changed) pairs) c → Shows (filter (opens now) own) c
  to_own s =
      let both = (Contains-filter (meets changed) pairs s.pair).0 s.held in
      let h = opened.sound s.pair both.0 in
      let shown : ShowsInWindow rules places now s.pair.edge (Some c) =
      subst (λ (x : Option Conflict). ShowsInWindow rules places now s.pair.edge x) s.shown h.2 in
      shows_there rules places now changed own s.pair.edge c are (kept.sound s.pair.edge h.0) h.1 shown ((touches_one_is changed s.pair.edge).0 both.1)
