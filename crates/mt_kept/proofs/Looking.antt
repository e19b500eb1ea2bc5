-- Pairs that are looked at, pair by pair.
use Rattle.std.proofs.Common.{◌≡◌, ◌≢◌, ℕ, ◌↔◌, ⊎_elim, true, false, true≢false, List, [], ◌∷◌, ◌++◌, map, Contains, Option, Some, refl, sym, ◌∙◌, ap, subst, arith}
use Rattle.std.specs.List.{AllPairs, filter}
use Rattle.std.specs.List.Sorted.{IsPermutation}
use Rattle.std.proofs.lemmas.List.Sorted.{Contains-permutation, IsPermutation-map, IsPermutation-sym}
use Rattle.std.proofs.lemmas.List.{append-nil, append_assoc, map-append}
use Rattle.std.proofs.lemmas.List.Elements.{All-contains, All-push, Contains-append_cases, Contains-append_left, Contains-push, Contains-push_cases, filter-append}
use Rattle.mt_base.specs.declared.conflict.Conflict.{Conflict}
use Rattle.mt_base.specs.declared.rules.Rules.{Rules}
use Rattle.mt_base.specs.Picture.{NamedTrajectory}
use Rattle.mt_base.proofs.Members.{Contains-none, distinct_of}
use Rattle.mt_edges.specs.declared.edge.Edge.{Edge}
use Rattle.mt_kept.specs.declared.open_pair.OpenPair.{OpenPair}
use Rattle.mt_kept.specs.declared.stale.Stale.{Stale}
use Rattle.mt_kept.specs.Private.Made.{goes_on}
use Rattle.mt_kept.specs.Private.Stale.{IsChangeMarked, stays}
use Rattle.mt_kept.specs.Private.Window.{AreAdded, AreLookedAt}
use Rattle.mt_kept.specs.Window.{ShowsInWindow, edge_of}
use Rattle.mt_kept.proofs.Marks.{stays_earlier}
use Rattle.mt_kept.proofs.Permuted.{AllPairs-permutation}

-- of some pairs that were looked at, one more
pub added_none : (rules : Rules) (places : List (Option NamedTrajectory)) (now : ℕ) (old : List OpenPair) → AreAdded rules places now [] old old
added_none rules places now old = record { pairs = []; is = sym (append-nil old); same = refl; shown = λ k d below. absurd (omega arith) }

pub added_more : (rules : Rules) (places : List (Option NamedTrajectory)) (now : ℕ) (edges : List Edge) (o : OpenPair) (old mid new : List OpenPair)
    → AreAdded rules places now edges old mid → ShowsInWindow rules places now o.edge o.conflict → new ≡ mid ++ o ∷ []
    → AreAdded rules places now (edges ++ o.edge ∷ []) old new
added_more rules places now edges o old mid new so_far shows here = record {
  pairs = so_far.pairs ++ o ∷ [];
  is = here ∙ ap (λ (os : List OpenPair). os ++ o ∷ []) so_far.is ∙ append_assoc old so_far.pairs (o ∷ []);
  same = map-append edge_of so_far.pairs (o ∷ []) ∙ ap (λ (es : List Edge). es ++ o.edge ∷ []) so_far.same;
  shown = All-push (λ (p : OpenPair). ShowsInWindow rules places now p.edge p.conflict) so_far.pairs o so_far.shown shows;
}

-- those at the border of the look-ahead
pub renewed_none : (rules : Rules) (places : List (Option NamedTrajectory)) (now : ℕ) (stale : Stale) (old : List OpenPair)
    → AreLookedAt rules places now [] stale old old
renewed_none rules places now stale old =
    record { added = added_none rules places now old; kept = λ o c held on shown sure. absurd (Contains-none o held) }

-- the pairs that go on, with one more
on_more : (now : ℕ) (pairs : List OpenPair) (o : OpenPair) → goes_on now o.edge ≡ true
    → filter (goes_on now) (map edge_of (pairs ++ o ∷ [])) ≡ filter (goes_on now) (map edge_of pairs) ++ o.edge ∷ []
on_more now pairs o on = rw (map-append, filter-append, on) refl

on_same : (now : ℕ) (pairs : List OpenPair) (o : OpenPair) → goes_on now o.edge ≡ false
    → filter (goes_on now) (map edge_of (pairs ++ o ∷ [])) ≡ filter (goes_on now) (map edge_of pairs)
on_same now pairs o past = rw (map-append, filter-append, past) (append-nil (filter (goes_on now) (map edge_of pairs)))

-- one pair more, that goes on and was looked at
pub renewed_more : (rules : Rules) (places : List (Option NamedTrajectory)) (now : ℕ) (pairs : List OpenPair) (o : OpenPair) (shows : Option Conflict)
    (stale stale' : Stale) (old mid new : List OpenPair) → AreLookedAt rules places now pairs stale old mid → goes_on now o.edge ≡ true
    → ShowsInWindow rules places now o.edge shows → IsChangeMarked o.conflict shows stale stale'
    → new ≡ mid ++ record { edge = o.edge; conflict = shows } ∷ [] → AreLookedAt rules places now (pairs ++ o ∷ []) stale' old new
unfolding added_more
renewed_more rules places now pairs o shows stale stale' old mid new so_far on shown marked here = record {
  added = record { pairs = more.pairs; is = more.is; same = more.same ∙ sym (on_more now pairs o on); shown = more.shown };
  kept = λ p c held goes was sure. ⊎_elim
      (λ before. Contains-append_left so_far.added.pairs (one ∷ []) (record { edge = p.edge; conflict = Some c })
      (so_far.kept p c before goes was (stays_earlier stale stale' c marked.later sure)))
      (λ same.
      let is : shows ≡ Some c = marked.kept c (ap (λ (q : OpenPair). q.conflict) same ∙ was) sure in
      let equal : one ≡ record { edge = p.edge; conflict = Some c } =
      ap (λ (x : Option Conflict). record { edge = o.edge; conflict = x }) is ∙ ap (λ (q : OpenPair). record { edge = q.edge; conflict = Some c }) same in
      subst (Contains (so_far.added.pairs ++ one ∷ [])) equal (Contains-push so_far.added.pairs one))
      (Contains-push_cases pairs o p held);
} where
  one : OpenPair
  one = record { edge = o.edge; conflict = shows }

  more : AreAdded rules places now (filter (goes_on now) (map edge_of pairs) ++ o.edge ∷ []) old new
  more = added_more rules places now (filter (goes_on now) (map edge_of pairs)) one old mid new so_far.added shown here

-- or that doesn't go on
pub renewed_past : (rules : Rules) (places : List (Option NamedTrajectory)) (now : ℕ) (pairs : List OpenPair) (o : OpenPair) (stale : Stale)
    (old mid : List OpenPair) → AreLookedAt rules places now pairs stale old mid → goes_on now o.edge ≡ false
    → AreLookedAt rules places now (pairs ++ o ∷ []) stale old mid
renewed_past rules places now pairs o stale old mid so_far past = record {
  added = record {
    pairs = so_far.added.pairs;
    is = so_far.added.is;
    same = so_far.added.same ∙ sym (on_same now pairs o past);
    shown = so_far.added.shown;
  };
  kept = λ p c held goes was sure. ⊎_elim
      (λ before. so_far.kept p c before goes was sure)
      (λ same. absurd (true≢false (sym goes ∙ ap (λ (q : OpenPair). goes_on now q.edge) (sym same) ∙ past)))
      (Contains-push_cases pairs o p held);
}

-- all that were looked at, in any order: those at the border of the earlier look-ahead, and those due
pub record AreLooked (rules : Rules) (places : List (Option NamedTrajectory)) (now : ℕ) (earlier : List OpenPair) (due : List Edge) (stale : Stale)
    (pairs : List OpenPair) : Type 0 where
  pub exact : (e : Edge) → Contains (map edge_of pairs) e ↔ Contains (filter (goes_on now) (map edge_of earlier) ++ due) e
  pub apart : AllPairs (λ e f. e ≢ f) (filter (goes_on now) (map edge_of earlier) ++ due) → AllPairs (λ o p. o.edge ≢ p.edge) pairs
  pub shown : (o : OpenPair) → Contains pairs o → ShowsInWindow rules places now o.edge o.conflict
  pub stay : (o : OpenPair) (c : Conflict) → Contains earlier o → goes_on now o.edge ≡ true → o.conflict ≡ Some c → stays stale c ≡ true
      → Contains pairs (record { edge = o.edge; conflict = Some c })

pub looked : (rules : Rules) (places : List (Option NamedTrajectory)) (now : ℕ) (earlier : List OpenPair) (due : List Edge) (stale : Stale)
    (mid new pairs : List OpenPair) → AreLookedAt rules places now earlier stale [] mid → AreAdded rules places now due mid new → IsPermutation new pairs
    → AreLooked rules places now earlier due stale pairs
looked rules places now earlier due stale mid new pairs one two moved = record {
  exact = λ e. (
    (λ held. subst (λ (es : List Edge). Contains es e) same
        (Contains-permutation (map edge_of pairs) (map edge_of (first ++ second)) e (IsPermutation-sym (map edge_of (first ++ second)) (map edge_of pairs)
        (IsPermutation-map edge_of (first ++ second) pairs ordered)) held)),
    (λ held. Contains-permutation (map edge_of (first ++ second)) (map edge_of pairs) e (IsPermutation-map edge_of (first ++ second) pairs ordered)
        (subst (λ (es : List Edge). Contains es e) (sym same) held)),
  );
  apart = λ distinct. AllPairs-permutation (λ o p. o.edge ≢ p.edge) (first ++ second) pairs (λ o p differ. λ equal. differ (sym equal)) ordered
      (distinct_of (λ e f. e ≢ f) edge_of (first ++ second) (subst (AllPairs (λ e f. e ≢ f)) (sym same) distinct));
  shown = λ o held. ⊎_elim
      (λ a. All-contains (λ p. ShowsInWindow rules places now p.edge p.conflict) first o one.added.shown a)
      (λ b. All-contains (λ p. ShowsInWindow rules places now p.edge p.conflict) second o two.shown b)
      (Contains-append_cases first second o (Contains-permutation pairs (first ++ second) o (IsPermutation-sym (first ++ second) pairs ordered) held));
  stay = λ o c held on was sure. Contains-permutation (first ++ second) pairs (record { edge = o.edge; conflict = Some c }) ordered
      (Contains-append_left first second (record { edge = o.edge; conflict = Some c }) (one.kept o c held on was sure));
} where
  first : List OpenPair
  first = one.added.pairs

  second : List OpenPair
  second = two.pairs

  ordered : IsPermutation (first ++ second) pairs
  ordered = subst (λ (os : List OpenPair). IsPermutation os pairs) (two.is ∙ ap (λ (os : List OpenPair). os ++ second) one.added.is) moved

  same : map edge_of (first ++ second) ≡ filter (goes_on now) (map edge_of earlier) ++ due
  same = map-append edge_of first second ∙ ap (λ (es : List Edge). es ++ map edge_of second) one.added.same
      ∙ ap (λ (es : List Edge). filter (goes_on now) (map edge_of earlier) ++ es) two.same
