-- What stays kept when a place is filled or emptied.
use Rattle.std.proofs.Common.{◌≡◌, ◌≢◌, ℕ, zero, suc, ◌<◌, ◌≤◌, ◌⊎◌, inl, inr, ⊎_elim, ◌↔◌, Bool, true, false, true≢false, not, ◌||◌, List, [], ◌∷◌, ◌++◌, map, length, ◌^◌, set, Contains, Option, Some, None, refl, sym, ◌∙◌, ap, subst, arith, replicate, get_or-set_other}
use Rattle.std.specs.List.{filter, list_any}
use Rattle.std.proofs.Math.ListN.{get_or-eq_default}
use Rattle.std.proofs.lemmas.List.{length-replicate, length-set}
use Rattle.std.proofs.lemmas.Bool.{cases_Bool, cases_eq, cases_lt}
use Rattle.std.proofs.lemmas.Bool.Decides.{nat_tests}
use Rattle.std.proofs.lemmas.List.Elements.{Contains-append_cases, Contains-append_left, Contains-append_right, filter-append}
use Rattle.std.proofs.lemmas.List.Kept.{AllPairs-filter}
use Rattle.mt_base.specs.declared.conflict.Conflict.{Conflict}
use Rattle.mt_base.specs.declared.rules.Rules.{Rules}
use Rattle.mt_base.specs.Bounds.{AreWithinBounds}
use Rattle.mt_track.specs.declared.roster.Item.{Item}
use Rattle.mt_base.specs.Picture.{NamedTrajectory}
use Rattle.mt_edges.specs.declared.edge.Edge.{Edge}
use Rattle.mt_edges.specs.Pairs.{AreDistinctPairs, touches}
use Rattle.mt_kept.specs.declared.open_pair.OpenPair.{OpenPair}
use Rattle.mt_kept.specs.declared.changes.PlaceChange.{PlaceChange}
use Rattle.mt_kept.specs.Places.{at, change_place, seen, with_changes}
use Rattle.mt_kept.specs.Losing.{IsPair, Joins, LoseSeparation, Touches, TouchesOne}
use Rattle.mt_kept.specs.Private.Losing.{AreKept, AvoidsAll}
use Rattle.mt_kept.specs.Window.{IsOpen, ShowsInWindow, edge_of}
use Rattle.mt_kept.specs.Private.Window.{AreOpen, Shows}
use Rattle.mt_kept.specs.Made.{is_open_pair}
use Rattle.mt_kept.specs.Private.Made.{AreReplaced, avoids, is_at_border, opens, touches_one}
use Rattle.mt_kept.specs.Private.Kept.{ArePairsKept}
use Rattle.mt_kept.specs.Finds.{AreFindsOfPlaces}
use Rattle.mt_base.proofs.Members.{Contains-cases, Contains-filter, Contains-head, Contains-later, Contains-map, Contains-map_cases, Contains-none, distinct_append}
use Rattle.mt_kept.proofs.Windows.{borders_open}

-- a place that has something is one of the places
pub at_inside : (places : List (Option NamedTrajectory)) (i : ℕ) (t : NamedTrajectory) → at places i ≡ Some t → i < length places
at_inside places i t is = ⊎_elim (λ below. below) (λ past. absurd (let none : at places i ≡ None = get_or-eq_default places None past in cc)) (cases_lt i (length places))

-- the test of an end
pub touches_is : (place : ℕ) (e : Edge) → (touches place e ≡ true) ↔ Touches place e
touches_is place e = ((λ t. grind (arith, nat_tests)), (λ h. ⊎_elim (λ a. grind (arith, nat_tests)) (λ b. grind (arith, nat_tests)) h))

pub length_changes : (places : List (Option NamedTrajectory)) (changes : List PlaceChange) → length (with_changes places changes) ≡ length places
length_changes places [] = refl
length_changes places (change ∷ changes) =
    length_changes (set places change.place (seen change.item)) changes ∙ length-set places change.place (seen change.item)

-- whether a place is among some
held_or_not : (some : List ℕ) (place : ℕ) → Contains some place ⊎ (¬ Contains some place)
held_or_not [] place = inr (Contains-none place)
held_or_not (x ∷ xs) place = ⊎_elim
    (λ same. inl (subst (Contains (x ∷ xs)) same (Contains-head x xs)))
    (λ apart. ⊎_elim (λ later. inl (Contains-later x xs place later)) (λ none. inr (λ held. ⊎_elim apart none (Contains-cases x xs place held)))
    (held_or_not xs place)) (cases_eq x place)

-- one end of a pair is among some places
either : (p q : Bool) → (p || q) ≡ true → (p ≡ true) ⊎ (q ≡ true)
either true q t = inl refl
either false q t = inr t

or_true : (p : Bool) → (p || true) ≡ true
or_true true = refl
or_true false = refl

touches_first : (x : ℕ) (xs : List ℕ) (e : Edge) → Touches x e → TouchesOne (x ∷ xs) e
touches_first x xs e h = ⊎_elim
    (λ a. inl (subst (Contains (x ∷ xs)) (sym a) (Contains-head x xs))) (λ b. inr (subst (Contains (x ∷ xs)) (sym b) (Contains-head x xs))) h

touches_later : (x : ℕ) (xs : List ℕ) (e : Edge) → TouchesOne xs e → TouchesOne (x ∷ xs) e
touches_later x xs e h = ⊎_elim (λ a. inl (Contains-later x xs e.a a)) (λ b. inr (Contains-later x xs e.b b)) h

touches_cases : (x : ℕ) (xs : List ℕ) (e : Edge) → TouchesOne (x ∷ xs) e → Touches x e ⊎ TouchesOne xs e
touches_cases x xs e h = ⊎_elim
    (λ a. ⊎_elim (λ same. inl (inl (sym same))) (λ later. inr (inl later)) (Contains-cases x xs e.a a))
    (λ b. ⊎_elim (λ same. inl (inr (sym same))) (λ later. inr (inr later)) (Contains-cases x xs e.b b)) h

pub touches_one_is : (some : List ℕ) (e : Edge) → (touches_one some e ≡ true) ↔ TouchesOne some e
touches_one_is [] e = ((λ t. absurd (cc)), (λ h. absurd (⊎_elim (Contains-none e.a) (Contains-none e.b) h)))
touches_one_is (x ∷ xs) e = (
  (λ t. ⊎_elim (λ first. touches_first x xs e ((touches_is x e).0 first)) (λ later. touches_later x xs e ((touches_one_is xs e).0 later))
      (either (touches x e) (touches_one xs e) t)),
  (λ h. ⊎_elim
      (λ first. ap (λ (p : Bool). p || touches_one xs e) ((touches_is x e).1 first))
      (λ later. ap (λ (p : Bool). touches x e || p) ((touches_one_is xs e).1 later) ∙ or_true (touches x e)) (touches_cases x xs e h)),
)

-- the test of the changes
pub any_changed : (changes : List PlaceChange) (e : Edge) → list_any (λ c. touches c.place e) changes ≡ touches_one (map change_place changes) e
any_changed [] e = refl
any_changed (change ∷ changes) e = ap (λ (p : Bool). touches change.place e || p) (any_changed changes e)

-- a place that isn't changed has what it had
pub at_other : (places : List (Option NamedTrajectory)) (changes : List PlaceChange) (i : ℕ) → ¬ Contains (map change_place changes) i
    → at (with_changes places changes) i ≡ at places i
at_other places [] i away = refl
at_other places (change ∷ changes) i away =
    at_other (set places change.place (seen change.item)) changes i (λ held. away (Contains-later change.place (map change_place changes) i held))
    ∙ get_or-set_other places change.place i (seen change.item) None
    (λ e. away (subst (Contains (change.place ∷ map change_place changes)) (sym e) (Contains-head change.place (map change_place changes))))

Loses-other : (rules : Rules) (places : List (Option NamedTrajectory)) (changes : List PlaceChange) (a b k : ℕ) → ¬ Contains (map change_place changes) a
    → ¬ Contains (map change_place changes) b → LoseSeparation rules (with_changes places changes) a b k → LoseSeparation rules places a b k
Loses-other rules places changes a b k a_other b_other h = record {
  left = h.left;
  right = h.right;
  left_is = sym (at_other places changes a a_other) ∙ h.left_is;
  right_is = sym (at_other places changes b b_other) ∙ h.right_is;
  apart = h.apart;
  loss = h.loss;
  early = h.early;
}

IsPair-other : (rules : Rules) (places : List (Option NamedTrajectory)) (changes : List PlaceChange) (e : Edge) → AvoidsAll (map change_place changes) e
    → IsPair rules places e → IsPair rules (with_changes places changes) e
IsPair-other rules places changes e other h = record {
  left = h.left;
  right = h.right;
  left_is = at_other places changes e.a (λ a. other (inl a)) ∙ h.left_is;
  right_is = at_other places changes e.b (λ b. other (inr b)) ∙ h.right_is;
  before = h.before;
  apart = h.apart;
  span = h.span;
  solid = h.solid;
}

IsShown-other : (rules : Rules) (places : List (Option NamedTrajectory)) (changes : List PlaceChange) (now : ℕ) (e : Edge) (shown : Option Conflict)
    → AvoidsAll (map change_place changes) e → ShowsInWindow rules places now e shown → ShowsInWindow rules (with_changes places changes) now e shown
IsShown-other rules places changes now e shown other h = record {
  left = h.left;
  right = h.right;
  left_is = at_other places changes e.a (λ a. other (inl a)) ∙ h.left_is;
  right_is = at_other places changes e.b (λ b. other (inr b)) ∙ h.right_is;
  found = h.found;
}

-- the kept pairs, with those of the changed places replaced by the found ones
pub kept_put : (rules : Rules) (places : List (Option NamedTrajectory)) (now : ℕ) (changes : List PlaceChange) (edges after : List Edge)
    (finds : List OpenPair) → AreKept rules places edges → AreFindsOfPlaces rules (with_changes places changes) now (map change_place changes) finds
    → AreReplaced (map change_place changes) finds edges after → AreDistinctPairs after → AreKept rules (with_changes places changes) after
kept_put rules places now changes edges after finds kept found replaced once = record {
  once = once;
  sound = λ e held. ⊎_elim
      (λ old. IsPair-other rules places changes e old.1 (kept.sound e old.0))
      (λ in_finds. let h = Contains-map_cases edge_of finds e in_finds in
      subst (λ (f : Edge). IsPair rules (with_changes places changes) f) h.is (found.sound h.of h.held).1) ((replaced e).0 held);
  complete = λ a b k before loses. ⊎_elim
      (λ here. touching a b k before loses (inl here))
      (λ a_other. ⊎_elim
      (λ here. touching a b k before loses (inr here))
      (λ b_other.
      let old = kept.complete a b k before (Loses-other rules places changes a b k a_other b_other loses) in
      record {
        edge = old.edge;
        held = (replaced old.edge).1 (inl (
          old.held,
          (λ t. ⊎_elim (λ x. a_other (subst (Contains changed) old.ends.0 x)) (λ y. b_other (subst (Contains changed) old.ends.1 y)) t),
        ));
        ends = old.ends;
      }) (held_or_not changed b)) (held_or_not changed a);
} where
  changed : List ℕ
  changed = map change_place changes

  touching : (a b k : ℕ) → a < b → LoseSeparation rules (with_changes places changes) a b k → Contains changed a ⊎ Contains changed b → Joins after a b
  touching a b k before loses here =
      let j = found.complete a b k before here loses in
      record { edge = j.edge; held = (replaced j.edge).1 (inr j.held); ends = j.ends }

-- the open pairs likewise
pub not_touched : (some : List ℕ) (e : Edge) → (touches_one some e ≡ false) ↔ AvoidsAll some e
not_touched some e = (
  (λ none t. true≢false (sym ((touches_one_is some e).1 t) ∙ none)),
  (λ away. ⊎_elim (λ t. absurd (away ((touches_one_is some e).0 t))) (λ none. none) (cases_Bool (touches_one some e))),
)

not_true : (b : Bool) → not b ≡ true → b ≡ false
not_true true e = sym e
not_true false e = refl

pub without_is : (some : List ℕ) (e : Edge) → (not (touches_one some e) ≡ true) ↔ AvoidsAll some e
without_is some e = (
  (λ t. (not_touched some e).0 (not_true (touches_one some e) t)),
  (λ away. ap not ((not_touched some e).1 away)),
)

pub avoids_is : (some : List ℕ) (o : OpenPair) → (avoids some o ≡ true) ↔ AvoidsAll some o.edge
avoids_is some o = without_is some o.edge

pub is_open_is : (now : ℕ) (e : Edge) → (is_open_pair now e ≡ true) ↔ IsOpen now e
is_open_is now e = ((λ t. grind (arith, nat_tests)), (λ h. grind (arith, nat_tests)))

not_both_ends : (some : List ℕ) (e f : Edge) → AvoidsAll some e → TouchesOne some f → e ≢ f
not_both_ends some e f other here = λ same. other (subst (TouchesOne some) (sym same) here)

pub open_put : (rules : Rules) (places : List (Option NamedTrajectory)) (now : ℕ) (changes : List PlaceChange) (edges after : List Edge)
    (finds pairs : List OpenPair) → AreOpen rules places now edges pairs → AreFindsOfPlaces rules (with_changes places changes) now (map change_place changes) finds
    → AreReplaced (map change_place changes) finds edges after
    → AreOpen rules (with_changes places changes) now after (filter (avoids (map change_place changes)) pairs ++ filter (opens now) finds)
open_put rules places now changes edges after finds pairs opened found replaced =
    let changed = map change_place changes in
    let stay = filter (avoids changed) pairs in
    let come = filter (opens now) finds in
    record {
      sound = λ o held. ⊎_elim
          (λ old.
          let h = (Contains-filter (avoids changed) pairs o).0 old in
          let other = (avoids_is changed o).0 h.1 in
          let was = opened.sound o h.0 in
          ((replaced o.edge).1 (inl (was.0, other)), was.1, IsShown-other rules places changes now o.edge o.conflict other was.2))
          (λ fresh.
          let h = (Contains-filter (opens now) finds o).0 fresh in
          let meets = (is_open_is now o.edge).0 h.1 in
          ((replaced o.edge).1 (inr (Contains-map edge_of finds o h.0)), meets, (found.sound o h.0).2 meets)) (Contains-append_cases stay come o held);
      complete = λ e held meets. ⊎_elim
          (λ old.
          let h = Contains-map_cases edge_of pairs e (opened.complete e old.0 meets) in
          let other : AvoidsAll changed h.of.edge = subst (AvoidsAll changed) (sym h.is) old.1 in
          let kept = (Contains-filter (avoids changed) pairs h.of).1 (h.held, (avoids_is changed h.of).1 other) in
          subst (Contains (map edge_of (stay ++ come))) h.is (Contains-map edge_of (stay ++ come) h.of (Contains-append_left stay come h.of kept)))
          (λ fresh.
          let h = Contains-map_cases edge_of finds e fresh in
          let meets_here : IsOpen now h.of.edge = subst (IsOpen now) (sym h.is) meets in
          let kept = (Contains-filter (opens now) finds h.of).1 (h.held, (is_open_is now h.of.edge).1 meets_here) in
          subst (Contains (map edge_of (stay ++ come))) h.is (Contains-map edge_of (stay ++ come) h.of (Contains-append_right stay come h.of kept)))
          ((replaced e).0 held);
      distinct = distinct_append (λ o p. o.edge ≢ p.edge) stay come
          (AllPairs-filter (λ o p. o.edge ≢ p.edge) (avoids changed) pairs opened.distinct)
          (AllPairs-filter (λ o p. o.edge ≢ p.edge) (opens now) finds
          (λ i j d before below. λ same. found.distinct i j d before below (ap (λ (e : Edge). e.a) same, ap (λ (e : Edge). e.b) same)))
          (λ o p old fresh.
          let h = (Contains-filter (avoids changed) pairs o).0 old in
          let g = (Contains-filter (opens now) finds p).0 fresh in
          not_both_ends changed o.edge p.edge ((avoids_is changed o).0 h.1) (found.sound p g.0).0);
    }

-- and those of them at the border of the window
filter_swap : (p q : OpenPair → Bool) (xs : List OpenPair) → filter p (filter q xs) ≡ filter q (filter p xs)
filter_swap p q [] = refl
filter_swap p q (x ∷ xs) = step (filter_swap p q xs) (cases_Bool (p x)) (cases_Bool (q x)) where
  step : filter p (filter q xs) ≡ filter q (filter p xs) → (p x ≡ true) ⊎ (p x ≡ false) → (q x ≡ true) ⊎ (q x ≡ false)
      → filter p (filter q (x ∷ xs)) ≡ filter q (filter p (x ∷ xs))
  step rest (inl here) (inl there) = rw (here, there) (rw (here, rest) refl)
  step rest (inl here) (inr away) = rw (here, away) rest
  step rest (inr none) (inl there) = rw (none, there) (rw (none, rest) refl)
  step rest (inr none) (inr away) = rw (none, away) rest

filter_within : (p q : OpenPair → Bool) (xs : List OpenPair) → ((x : OpenPair) → p x ≡ true → q x ≡ true) → filter p (filter q xs) ≡ filter p xs
filter_within p q [] within = refl
filter_within p q (x ∷ xs) within = step (filter_within p q xs within) (cases_Bool (p x)) (cases_Bool (q x)) where
  step : filter p (filter q xs) ≡ filter p xs → (p x ≡ true) ⊎ (p x ≡ false) → (q x ≡ true) ⊎ (q x ≡ false)
      → filter p (filter q (x ∷ xs)) ≡ filter p (x ∷ xs)
  step rest (inl here) q_is = rw (here, within x here) (rw (here, rest) refl)
  step rest (inr none) (inl there) = rw (none, there) (rw (none, rest) refl)
  step rest (inr none) (inr away) = rw (none, away) rest

borderer_opens : (now : ℕ) (o : OpenPair) → is_at_border now o ≡ true → opens now o ≡ true
borderer_opens now o some = (is_open_is now o.edge).1 (borders_open now o.edge some)

pub borderers_put : (now : ℕ) (changed : List ℕ) (pairs finds bordering new : List OpenPair) → bordering ≡ filter (is_at_border now) pairs
    → new ≡ filter (avoids changed) bordering ++ filter (is_at_border now) finds
    → new ≡ filter (is_at_border now) (filter (avoids changed) pairs ++ filter (opens now) finds)
borderers_put now changed pairs finds bordering new are is =
    is ∙ ap (λ (os : List OpenPair). filter (avoids changed) os ++ filter (is_at_border now) finds) are
    ∙ ap (λ (os : List OpenPair). os ++ filter (is_at_border now) finds) (filter_swap (avoids changed) (is_at_border now) pairs)
    ∙ ap (λ (os : List OpenPair). filter (is_at_border now) (filter (avoids changed) pairs) ++ os)
    (sym (filter_within (is_at_border now) (opens now) finds (borderer_opens now)))
    ∙ sym (filter-append (is_at_border now) (filter (avoids changed) pairs) (filter (opens now) finds))

-- a write, seen
pub map_set : (places : List (Option Item)) (i : ℕ) (item : Option Item) → map seen (set places i item) ≡ set (map seen places) i (seen item)
map_set [] i item = refl
map_set (x ∷ xs) zero item = refl
map_set (x ∷ xs) (suc i) item = ap (λ (rest : List (Option NamedTrajectory)). seen x ∷ rest) (map_set xs i item)

at_replicate : (n i : ℕ) (t : NamedTrajectory) → ¬ (at (replicate n None) i ≡ Some t)
at_replicate zero i t e = cc
at_replicate (suc n) zero t e = cc
at_replicate (suc n) (suc i) t e = at_replicate n i t e

pub kept_none : (rules : Rules) (n : ℕ) → AreKept rules (replicate n None) []
kept_none rules n = record {
  sound = λ e held. absurd (Contains-none e held);
  complete = λ a b k before loses. absurd (at_replicate n a loses.left loses.left_is);
  once = λ i j d before below. absurd (omega arith);
}

pub open_none : (rules : Rules) (n now : ℕ) → AreOpen rules (replicate n None) now [] []
open_none rules n now = record {
  sound = λ o held. absurd (Contains-none o held);
  complete = λ e held meets. absurd (Contains-none e held);
  distinct = λ i j d before below. absurd (omega arith);
}

pub seen_none : (n : ℕ) → map seen (replicate n None) ≡ replicate n None
seen_none zero = refl
seen_none (suc n) = ap (λ (rest : List (Option NamedTrajectory)). None ∷ rest) (seen_none n)

pub ended : (i n : ℕ) → i ≤ n → n ≤ i → i ≡ n
ended i n below above = omega arith

pub Shows-nothing : (c : Conflict) → ¬ Shows [] c
Shows-nothing c h = Contains-none h.pair h.held

-- of empty places nothing is kept
pub kept_made : (rules : Rules) (places : List (Option NamedTrajectory)) (n : ℕ) (edges : List Edge) (ends : ℕ) (pairs : List OpenPair) (list : List Conflict)
    → AreWithinBounds rules → n < 2 ^ 32 → places ≡ replicate n None → edges ≡ [] → ends ≡ n → pairs ≡ [] → list ≡ []
    → ArePairsKept rules 0 places edges ends pairs list
kept_made rules places n edges ends pairs list bounds few e f all g h = rw (e, f, g, h) (record {
  bounds = bounds;
  early = omega arith;
  few = let long = length-replicate {A = Option NamedTrajectory} n None in omega arith;
  all = let long = length-replicate {A = Option NamedTrajectory} n None in omega arith;
  kept = kept_none rules n;
  open_pairs = [];
  opened = open_none rules n 0;
  borderers = refl;
  exact = λ c. ((λ held. absurd (Contains-none c held)), (λ shown. absurd (Shows-nothing c shown)));
  own = λ i j s t s_is t_is same kinds. absurd (at_replicate n i s s_is);
})
