-- The pairs of a new trajectory, one candidate more at a time.
use Rattle.std.proofs.Common.{◌≡◌, ◌≢◌, ℕ, zero, suc, ◌+◌, ◌<◌, ⊎_elim, List, [], ◌∷◌, ◌++◌, map, length, take, get_or, Contains, Option, Some, sym, ◌∙◌, ap, subst, arith}
use Rattle.std.specs.List.{AllPairs}
use Rattle.std.proofs.lemmas.List.{get_or_default, get_or-take, length-take}
use Rattle.std.proofs.lemmas.List.Elements.{Contains-append_left, Contains-push, Contains-push_cases}
use Rattle.std.proofs.lemmas.List.Quantifiers.{all_pairs_push}
use Rattle.mt_base.specs.declared.rules.Rules.{Rules}
use Rattle.mt_base.specs.Conflict.{IsLossSecond}
use Rattle.mt_track.specs.declared.roster.Item.{Item}
use Rattle.mt_track.specs.Named.{named}
use Rattle.mt_base.specs.Picture.{NamedTrajectory}
use Rattle.mt_edges.specs.declared.edge.Edge.{Edge}
use Rattle.mt_edges.specs.Pairs.{HaveSameEnds}
use Rattle.mt_kept.specs.declared.finds.Candidate.{Candidate}
use Rattle.mt_kept.specs.declared.open_pair.OpenPair.{OpenPair}
use Rattle.mt_kept.specs.Places.{at, seen}
use Rattle.mt_base.specs.Trajectory.{horizon}
use Rattle.mt_kept.specs.Private.Made.{IsAddedAt, IsEdgeBetween, IsFind}
use Rattle.mt_kept.specs.Finds.{AreCandidates, IsOfOtherFlight, IsRight, candidate_place}
use Rattle.std.specs.List.Sorted.{IsStrictlyIncreasing}
use Rattle.std.proofs.lemmas.List.Kept.{AllPairs-from_increasing}
use Rattle.mt_base.proofs.Members.{distinct_of, Contains-none, take_push}

-- where a find came from
pub record IsFindAmong (rules : Rules) (places : List (Option NamedTrajectory)) (now place : ℕ) (mine : NamedTrajectory) (xs : List Candidate)
    (o : OpenPair) : Type 0 where
  pub of : Candidate
  pub held : Contains xs of
  pub other : NamedTrajectory
  pub is : IsOfOtherFlight places place mine of.place other
  pub find : IsFind rules now place of.place mine other o

-- some find is of that other place
pub record HasFind (place other_place : ℕ) (finds : List OpenPair) : Type 0 where
  pub find : OpenPair
  pub held : Contains finds find
  pub ends : IsEdgeBetween place other_place find.edge

-- what was found among some candidates
pub record AreGathered (rules : Rules) (places : List (Option NamedTrajectory)) (now place : ℕ) (mine : NamedTrajectory) (xs : List Candidate)
    (finds : List OpenPair) : Type 0 where
  pub sound : (o : OpenPair) → Contains finds o → IsFindAmong rules places now place mine xs o
  pub complete : (x : Candidate) (k : ℕ) (other : NamedTrajectory) → Contains xs x → IsOfOtherFlight places place mine x.place other → k < horizon
      → IsLossSecond rules mine.path other.path k → HasFind place x.place finds
  pub distinct : AllPairs (λ o p. ¬ HaveSameEnds o.edge p.edge) finds

pub gathered_nothing : (rules : Rules) (places : List (Option NamedTrajectory)) (now place : ℕ) (mine : NamedTrajectory) → AreGathered rules places now place mine [] []
gathered_nothing rules places now place mine = record {
  sound = λ o held. absurd (Contains-none o held);
  complete = λ x k other held is early loss. absurd (Contains-none x held);
  distinct = λ i j d before below. absurd (omega arith);
}

-- one candidate more, with which nothing was found
gathered_none : (rules : Rules) (places : List (Option NamedTrajectory)) (now place : ℕ) (mine : NamedTrajectory) (xs : List Candidate) (x : Candidate)
    (finds : List OpenPair) → ((k : ℕ) (other : NamedTrajectory) → IsOfOtherFlight places place mine x.place other → k < horizon → ¬ IsLossSecond rules mine.path other.path k)
    → AreGathered rules places now place mine xs finds → AreGathered rules places now place mine (xs ++ x ∷ []) finds
gathered_none rules places now place mine xs x finds none so_far = record {
  sound = λ o held.
      let h = so_far.sound o held in
      record { of = h.of; held = Contains-append_left xs (x ∷ []) h.of h.held; other = h.other; is = h.is; find = h.find };
  complete = λ y k t held is early loss. ⊎_elim
      (λ before. so_far.complete y k t before is early loss)
      (λ same. absurd (none k t (subst (λ (z : Candidate). IsOfOtherFlight places place mine z.place t) (sym same) is) early loss)) (Contains-push_cases xs x y held);
  distinct = so_far.distinct;
}

-- the other end
other_end : (place a b : ℕ) (e f : Edge) → a ≢ place → b ≢ place → IsEdgeBetween place a e → IsEdgeBetween place b f → HaveSameEnds e f → a ≡ b
other_end place a b e f a_else b_else h g same = ⊎_elim
    (λ p. ⊎_elim (λ q. sym p.1 ∙ same.1 ∙ q.1) (λ q. absurd (b_else (sym q.0 ∙ sym same.0 ∙ p.0))) g)
    (λ p. ⊎_elim (λ q. absurd (a_else (sym p.0 ∙ same.0 ∙ q.0))) (λ q. sym p.0 ∙ same.0 ∙ q.0) g) h

-- one candidate more, with a find
gathered_some : (rules : Rules) (places : List (Option NamedTrajectory)) (now place : ℕ) (mine other : NamedTrajectory) (xs : List Candidate) (x : Candidate)
    (finds : List OpenPair) (o : OpenPair) → IsOfOtherFlight places place mine x.place other → ((y : Candidate) → Contains xs y → y.place ≢ x.place)
    → IsFind rules now place x.place mine other o → AreGathered rules places now place mine xs finds
    → AreGathered rules places now place mine (xs ++ x ∷ []) (finds ++ o ∷ [])
gathered_some rules places now place mine other xs x finds o is apart find so_far = record {
  sound = λ p held. ⊎_elim
      (λ before.
      let h = so_far.sound p before in
      record { of = h.of; held = Contains-append_left xs (x ∷ []) h.of h.held; other = h.other; is = h.is; find = h.find })
      (λ same. record {
        of = x;
        held = Contains-push xs x;
        other = other;
        is = is;
        find = subst (λ (q : OpenPair). IsFind rules now place x.place mine other q) same find;
      }) (Contains-push_cases finds o p held);
  complete = λ y k t held t_is early loss. ⊎_elim
      (λ before.
      let h = so_far.complete y k t before t_is early loss in
      record { find = h.find; held = Contains-append_left finds (o ∷ []) h.find h.held; ends = h.ends })
      (λ same. record { find = o; held = Contains-push finds o; ends = subst (λ (z : Candidate). IsEdgeBetween place z.place o.edge) same find.ends })
      (Contains-push_cases xs x y held);
  distinct = all_pairs_push (λ p q. ¬ HaveSameEnds p.edge q.edge) finds o so_far.distinct (λ k d below. λ same.
      let p = get_or finds k d in
      let h = so_far.sound p (k, below, get_or_default finds k p d below) in
      apart h.of h.held (other_end place h.of.place x.place p.edge o.edge h.is.elsewhere is.elsewhere h.find.ends find.ends same));
}

-- what stands in a place is one trajectory
pub one_other : (places : List (Option NamedTrajectory)) (place j : ℕ) (mine s t : NamedTrajectory) → IsOfOtherFlight places place mine j s → IsOfOtherFlight places place mine j t → s ≡ t
one_other places place j mine s t a b = let p = a.is in let q = b.is in cc

-- one candidate more
pub gathered_more : (rules : Rules) (places : List (Option NamedTrajectory)) (now place : ℕ) (mine : NamedTrajectory) (xs : List Candidate) (i : ℕ)
    (x : Candidate) (old new : List OpenPair) → i < length xs → x ≡ get_or xs i x → AllPairs (λ x y. x.place ≢ y.place) xs
    → IsAddedAt rules now places place mine x old new → AreGathered rules places now place mine (take i xs) old
    → AreGathered rules places now place mine (take (i + 1) xs) new
gathered_more rules places now place mine xs i x old new below is once added so_far =
    let more = take_push xs i x below is in
    rw more (⊎_elim
    (λ none. rw none.0 (gathered_none rules places now place mine (take i xs) x old (λ k other there early loss. none.1 other there) so_far))
    (λ some. ⊎_elim
    (λ none. rw none.0 (gathered_none rules places now place mine (take i xs) x old
    (λ k other there early loss. none.1 k early (subst (λ (t : NamedTrajectory). IsLossSecond rules mine.path t.path k)
    (one_other places place x.place mine other some.0 there some.1) loss)) so_far))
    (λ found. rw found.2 (gathered_some rules places now place mine some.0 (take i xs) x old found.0 some.1
    (λ y before.
    let short = length-take i xs in
    let j = before.0 in
    let j_below : j < length (take i xs) = before.1 in
    let j_in : j < i = omega arith in
    let y_is : get_or xs j y ≡ y = sym (get_or-take i xs j y j_in) ∙ before.2 in
    let x_is : get_or xs i y ≡ x = get_or_default xs i y x below ∙ sym is in
    let apart = once j i y j_in below in
    λ same. apart (ap (λ (z : Candidate). z.place) y_is ∙ same ∙ sym (ap (λ (z : Candidate). z.place) x_is)))
    found.1 so_far)) some.2) added)

-- the candidate at a step, of which is known what is right
pub right_at : (rules : Rules) (places : List (Option NamedTrajectory)) (place : ℕ) (mine : NamedTrajectory) (xs : List Candidate) (i : ℕ) (x : Candidate)
    → AreCandidates rules places place mine xs → i < length xs → x ≡ get_or xs i x → (other : NamedTrajectory) → IsOfOtherFlight places place mine x.place other
    → IsRight rules mine other x.knowledge
right_at rules places place mine xs i x candidates below is other there = candidates.right x other (i, below, sym is) there

pub at_read : (places : List (Option Item)) (i : ℕ) (r : Option Item) → i < length places → r ≡ get_or places i r → at (map seen places) i ≡ seen r
at_read [] i r below is = absurd (omega arith)
at_read (x ∷ xs) zero r below is = ap seen (sym is)
at_read (x ∷ xs) (suc i) r below is = at_read xs i r (omega arith) is

module _ (places : List (Option Item)) (place j : ℕ) (mine : NamedTrajectory) (r : Option Item) (item : Item) (below : j < length places)
    (is : r ≡ get_or places j r) (some : r ≡ Some item) where
  there : at (map seen places) j ≡ Some (named item)
  there = at_read places j r below is ∙ ap seen some

  pub no_other : item.call ≡ mine.call → (t : NamedTrajectory) → ¬ IsOfOtherFlight (map seen places) place mine j t
  no_other same t h =
      let e : named item ≡ t = let p = there in let q = h.is in cc in
      h.apart (sym same ∙ ap (λ (u : NamedTrajectory). u.call) e)

  pub other_read : j ≢ place → item.call ≢ mine.call → IsOfOtherFlight (map seen places) place mine j (named item)
  other_read away apart = record { is = there; elsewhere = away; apart = λ same. apart (sym same) }

-- candidates whose places rise
pub rising_once : (xs : List Candidate) → IsStrictlyIncreasing (map candidate_place xs) → AllPairs (λ x y. x.place ≢ y.place) xs
rising_once xs rising = distinct_of (λ i j. i ≢ j) candidate_place xs
    (λ i j d before below. let less = AllPairs-from_increasing (map candidate_place xs) rising i j d before below in λ same. absurd (omega arith))
