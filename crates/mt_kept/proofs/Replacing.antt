-- The pairs of changed places are taken out, and those that were found for these put in, one by one.
use Rattle.std.proofs.Common.{◌≡◌, ℕ, suc, ◌+◌, ◌*◌, ◌<◌, ◌≤◌, ◌⊎◌, inl, inr, ⊎_elim, Bool, true, false, not, ◌||◌, ◌&&◌, List, [], cond, ◌∷◌, ◌++◌, map, length, take, get_or, set, Contains, Option, refl, sym, ◌∙◌, ap, subst, arith}
use Rattle.std.specs.List.{All, AllPairs, filter}
use Rattle.std.proofs.lemmas.Bool.{cases_Bool}
use Rattle.std.proofs.lemmas.List.{get_or-take, get_or_default, length-append, length-take, map-append}
use Rattle.std.proofs.lemmas.List.Folds.{list_any-append}
use Rattle.std.proofs.lemmas.List.Elements.{Contains-append_left, Contains-push, Contains-push_cases}
use Rattle.std.proofs.lemmas.List.Kept.{AllPairs-filter}
use Rattle.mt_base.specs.declared.rules.Rules.{Rules}
use Rattle.mt_base.specs.Picture.{NamedTrajectory}
use Rattle.mt_edges.specs.declared.edge.Edge.{Edge}
use Rattle.mt_edges.specs.Pairs.{HaveSameEnds, IsEdge, IsWith, degree, touches, without_end}
use Rattle.mt_edges.proofs.Members.{Contains-with}
use Rattle.mt_kept.specs.declared.changes.PlaceChange.{PlaceChange}
use Rattle.mt_kept.specs.declared.open_pair.OpenPair.{OpenPair}
use Rattle.mt_kept.specs.Dropped.{WereStepsOf}
use Rattle.mt_kept.specs.Finds.{AreFindsOfPlaces}
use Rattle.mt_kept.specs.Losing.{IsPair, Joins, TouchesOne}
use Rattle.mt_kept.specs.Private.Losing.{AreKept}
use Rattle.mt_kept.specs.Private.Made.{AreReplaced, WereDropped, touches_one, without_places}
use Rattle.mt_kept.specs.Places.{change_place, seen, with_changes}
use Rattle.mt_kept.specs.Window.{edge_of}
use Rattle.mt_kept.proofs.Keeping.{at_inside, length_changes, touches_one_is, without_is}
use Rattle.mt_base.proofs.Members.{All-from_held, Contains-filter, Contains-map_cases, Contains-none, take_push}

-- the pairs of places, taken out one place after another
or_none : (p : Bool) → (p || false) ≡ p
or_none true = refl
or_none false = refl

touches_more : (some : List ℕ) (place : ℕ) (e : Edge) → touches_one (some ++ place ∷ []) e ≡ (touches_one some e || touches place e)
touches_more some place e =
    list_any-append (λ (x : ℕ). touches x e) some (place ∷ []) ∙ ap (λ (p : Bool). touches_one some e || p) (or_none (touches place e))

pub without_none : (edges : List Edge) → without_places [] edges ≡ edges
without_none [] = refl
without_none (e ∷ edges) = ap (λ (es : List Edge). e ∷ es) (without_none edges)

filter_same : (p q : Edge → Bool) (edges : List Edge) → ((e : Edge) → p e ≡ q e) → filter p edges ≡ filter q edges
filter_same p q [] same = refl
filter_same p q (e ∷ edges) same = step (filter_same p q edges same) (cases_Bool (q e)) where
  step : filter p edges ≡ filter q edges → (q e ≡ true) ⊎ (q e ≡ false) → filter p (e ∷ edges) ≡ filter q (e ∷ edges)
  step rest (inl here) = rw (same e ∙ here, here) (rw rest refl)
  step rest (inr away) = rw (same e ∙ away, away) rest

filter_twice : (p q : Edge → Bool) (edges : List Edge) → filter q (filter p edges) ≡ filter (λ e. p e && q e) edges
filter_twice p q [] = refl
filter_twice p q (e ∷ edges) = step (filter_twice p q edges) (cases_Bool (p e)) where
  step : filter q (filter p edges) ≡ filter (λ e. p e && q e) edges → (p e ≡ true) ⊎ (p e ≡ false)
      → filter q (filter p (e ∷ edges)) ≡ filter (λ e. p e && q e) (e ∷ edges)
  step rest (inl here) = rw here (ap (λ (es : List Edge). cond (q e) (e ∷ es) es) rest)
  step rest (inr none) = rw none rest

not_either : (p q : Bool) → not (p || q) ≡ (not p && not q)
not_either true q = refl
not_either false q = refl

without_more : (some : List ℕ) (place : ℕ) (edges : List Edge) → without_places (some ++ place ∷ []) edges ≡ without_end place (without_places some edges)
without_more some place edges =
    filter_same (λ e. not (touches_one (some ++ place ∷ []) e)) (λ e. not (touches_one some e) && not (touches place e)) edges
    (λ e. ap not (touches_more some place e) ∙ not_either (touches_one some e) (touches place e))
    ∙ sym (filter_twice (λ e. not (touches_one some e)) (λ e. not (touches place e)) edges)

-- how many those are, and what they cost
by_turns : (p q : Edge → Bool) (edges : List Edge)
    → length (filter p edges) + length (filter q (filter (λ e. not (p e)) edges)) ≡ length (filter (λ e. p e || q e) edges)
by_turns p q [] = refl
by_turns p q (e ∷ edges) =
    let rest = by_turns p q edges in
    ⊎_elim (λ t. rw t (omega arith)) (λ f. rw f (⊎_elim (λ t. rw t (omega arith)) (λ f'. rw f' (omega arith)) (cases_Bool (q e)))) (cases_Bool (p e))

degrees : (some : List ℕ) (place : ℕ) (edges : List Edge)
    → length (filter (touches_one some) edges) + degree place (without_places some edges) ≡ length (filter (touches_one (some ++ place ∷ [])) edges)
degrees some place edges =
    by_turns (touches_one some) (touches place) edges
    ∙ ap (λ (es : List Edge). length es)
    (filter_same (λ e. touches_one some e || touches place e) (touches_one (some ++ place ∷ [])) edges (λ e. sym (touches_more some place e)))

pub nothing_dropped : (edges : List Edge) (count : ℕ) → WereDropped [] edges count count
nothing_dropped edges count = omega arith

dropped_more : (some : List ℕ) (place : ℕ) (edges mid : List Edge) (before between after : ℕ) → mid ≡ without_places some edges
    → WereDropped some edges before between → after ≤ between + 6 * degree place mid + 1 → WereDropped (some ++ place ∷ []) edges before after
dropped_more some place edges mid before between after is so_far more =
    let sum = degrees some place edges in
    let same : degree place mid ≡ degree place (without_places some edges) = ap (degree place) is in
    let long = length-append some (place ∷ []) in
    omega arith

-- the places of one change more
pub changed_more : (changes : List PlaceChange) (i : ℕ) (change : PlaceChange) → i < length changes → change ≡ get_or changes i change
    → map change_place (take (i + 1) changes) ≡ map change_place (take i changes) ++ change.place ∷ []
changed_more changes i change below is =
    ap (map change_place) (take_push changes i change below is) ∙ map-append change_place (take i changes) (change ∷ [])

pub without_next : (changes : List PlaceChange) (i : ℕ) (change : PlaceChange) (old mid new : List Edge) → i < length changes
    → change ≡ get_or changes i change → mid ≡ without_places (map change_place (take i changes)) old → new ≡ without_end change.place mid
    → new ≡ without_places (map change_place (take (i + 1) changes)) old
without_next changes i change old mid new below is so_far more =
    more ∙ ap (without_end change.place) so_far ∙ sym (without_more (map change_place (take i changes)) change.place old)
    ∙ ap (λ (some : List ℕ). without_places some old) (sym (changed_more changes i change below is))

pub dropped_next : (changes : List PlaceChange) (i : ℕ) (change : PlaceChange) (edges mid : List Edge) (before between after : ℕ) → i < length changes
    → change ≡ get_or changes i change → mid ≡ without_places (map change_place (take i changes)) edges
    → WereDropped (map change_place (take i changes)) edges before between → after ≤ between + 6 * degree change.place mid + 1
    → WereDropped (map change_place (take (i + 1) changes)) edges before after
dropped_next changes i change edges mid before between after below is mid_is so_far more =
    subst (λ (some : List ℕ). WereDropped some edges before after) (sym (changed_more changes i change below is))
    (dropped_more (map change_place (take i changes)) change.place edges mid before between after mid_is so_far more)

pub replaced_none : (some : List ℕ) (old new : List Edge) → new ≡ without_places some old → AreReplaced some [] old new
replaced_none some old new is e =
    let one = Contains-filter (λ (f : Edge). not (touches_one some f)) old e in
    rw is (
      (λ held. let h = one.0 held in inl (h.0, (without_is some e).0 h.1)),
      (λ either. ⊎_elim
          (λ kept. one.1 (kept.0, (without_is some e).1 kept.1))
          (λ none. absurd (Contains-none e none)) either),
    )

-- one found edge more
pub replaced_more : (some : List ℕ) (finds : List OpenPair) (i : ℕ) (o : OpenPair) (old mid new : List Edge) → i < length finds → o ≡ get_or finds i o
    → AreReplaced some (take i finds) old mid → IsWith mid o.edge new → AreReplaced some (take (i + 1) finds) old new
replaced_more some finds i o old mid new below is so_far with e =
    let added = Contains-with mid new o.edge e with in
    let more : map edge_of (take (i + 1) finds) ≡ map edge_of (take i finds) ++ o.edge ∷ [] =
    ap (λ (os : List OpenPair). map edge_of os) (take_push finds i o below is) ∙ map-append edge_of (take i finds) (o ∷ []) in
    rw more (
      (λ held. ⊎_elim
          (λ before. ⊎_elim (λ kept. inl kept) (λ found. inr (Contains-append_left (map edge_of (take i finds)) (o.edge ∷ []) e found)) ((so_far e).0 before))
          (λ same. inr (subst (Contains (map edge_of (take i finds) ++ o.edge ∷ [])) same (Contains-push (map edge_of (take i finds)) o.edge))) (added.0 held)),
      (λ either. ⊎_elim
          (λ kept. added.1 (inl ((so_far e).1 (inl kept))))
          (λ found. ⊎_elim
          (λ before. added.1 (inl ((so_far e).1 (inr before))))
          (λ same. added.1 (inr same)) (Contains-push_cases (map edge_of (take i finds)) o.edge e found)) either),
    )

-- and it was not there yet
free_edge : (some : List ℕ) (finds : List OpenPair) (i : ℕ) (o : OpenPair) (old mid : List Edge) → i < length finds → o ≡ get_or finds i o
    → All (λ p. TouchesOne some p.edge) finds → AllPairs (λ p q. ¬ HaveSameEnds p.edge q.edge) finds → AreReplaced some (take i finds) old mid
    → ¬ Joins mid o.edge.a o.edge.b
free_edge some finds i o old mid below is touches distinct so_far joined =
    let here : TouchesOne some o.edge = subst (λ (p : OpenPair). TouchesOne some p.edge) (sym is) (touches i o below) in
    ⊎_elim
    (λ kept. kept.1 (⊎_elim (λ a. inl (subst (Contains some) (sym joined.ends.0) a)) (λ b. inr (subst (Contains some) (sym joined.ends.1) b)) here))
    (λ found.
    let h = Contains-map_cases edge_of (take i finds) joined.edge found in
    let j = h.held.0 in
    let short = length-take i finds in
    let j_below : j < length (take i finds) = h.held.1 in
    let j_in : j < i = omega arith in
    let p_is : get_or finds j h.of ≡ h.of = sym (get_or-take i finds j h.of j_in) ∙ h.held.2 in
    let apart : ¬ HaveSameEnds (get_or finds j h.of).edge (get_or finds i h.of).edge = distinct j i h.of j_in below in
    let o_is : get_or finds i h.of ≡ o = get_or_default finds i h.of o below ∙ sym is in
    let apart_here : ¬ HaveSameEnds h.of.edge o.edge =
    subst (λ (q : OpenPair). ¬ HaveSameEnds h.of.edge q.edge) o_is (subst (λ (p : OpenPair). ¬ HaveSameEnds p.edge (get_or finds i h.of).edge) p_is apart) in
    apart_here (ap (λ (e : Edge). e.a) h.is ∙ joined.ends.0, ap (λ (e : Edge). e.b) h.is ∙ joined.ends.1))
    ((so_far joined.edge).0 joined.held)

-- in the form in which `add` asks it
pub new_edge : (some : List ℕ) (finds : List OpenPair) (i : ℕ) (o : OpenPair) (old mid : List Edge) → i < length finds → o ≡ get_or finds i o
    → All (λ p. TouchesOne some p.edge) finds → AllPairs (λ p q. ¬ HaveSameEnds p.edge q.edge) finds → AreReplaced some (take i finds) old mid
    → All (λ e. ¬ HaveSameEnds e o.edge) mid
new_edge some finds i o old mid below is touching distinct so_far =
    All-from_held (λ (e : Edge). ¬ HaveSameEnds e o.edge) mid
    (λ e held same. free_edge some finds i o old mid below is touching distinct so_far (record { edge = e; held = held; ends = same }))

-- each find may be kept
pub finds_sound : (rules : Rules) (places : List (Option NamedTrajectory)) (now ends : ℕ) (changes : List PlaceChange) (finds : List OpenPair)
    → ends ≡ length places → AreFindsOfPlaces rules (with_changes places changes) now (map change_place changes) finds → All (λ o. IsEdge ends o.edge) finds
finds_sound rules places now ends changes finds all found =
    All-from_held (λ (o : OpenPair). IsEdge ends o.edge) finds (λ o held.
    let pair = (found.sound o held).1 in
    let inside = pair.span.inside in
    record {
      order = pair.before;
      ends_in = (let below = at_inside (with_changes places changes) o.edge.b pair.right pair.right_is in
          let long = length_changes places changes in
          omega arith);
      span = inside.1;
      early = inside.2;
    })

-- the pairs of some places among those that are kept
pub were_steps : (rules : Rules) (places : List (Option NamedTrajectory)) (changed : List ℕ) (edges : List Edge) (old new : ℕ) → AreKept rules places edges
    → WereDropped changed edges old new → WereStepsOf rules places changed old new
were_steps rules places changed edges old new kept dropped = record {
  edges = filter (touches_one changed) edges;
  distinct = AllPairs-filter (λ e f. ¬ HaveSameEnds e f) (touches_one changed) edges kept.once;
  each = All-from_held (λ (e : Edge). IsPair rules places e × TouchesOne changed e) (filter (touches_one changed) edges) (λ e held.
      let h = (Contains-filter (touches_one changed) edges e).0 held in (kept.sound e h.0, (touches_one_is changed e).0 h.1));
  within = dropped;
}

-- the items of the changes that are left come into their places
pub left_next : (places next : List (Option NamedTrajectory)) (change : PlaceChange) (rest more : List PlaceChange) (all : List (Option NamedTrajectory))
    → rest ≡ change ∷ more → next ≡ set places change.place (seen change.item) → with_changes places rest ≡ all → with_changes next more ≡ all
left_next places next change rest more all is put so_far =
    ap (λ (ps : List (Option NamedTrajectory)). with_changes ps more) put ∙ sym (ap (with_changes places) is) ∙ so_far

pub inside_next : (count next : ℕ) (change : PlaceChange) (rest more : List PlaceChange) → rest ≡ change ∷ more → next ≡ count
    → All (λ c. c.place < count) rest → All (λ c. c.place < next) more
inside_next count next change rest more is same all = λ k d below.
    let here : (get_or more k d).place < count = subst (All (λ (c : PlaceChange). c.place < count)) is all (suc k) d (omega arith) in
    omega arith
