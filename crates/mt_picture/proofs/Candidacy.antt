-- How what a prep found is gathered as candidates, step by step.
use Rattle.std.proofs.Common.{◌≡◌, ◌≢◌, ℕ, suc, ◌≤◌, ⊎_elim, List, [], ◌∷◌, ◌++◌, map, AllPairs, Contains, Option, sym, subst, arith}
use Rattle.std.proofs.lemmas.List.{map-append}
use Rattle.std.proofs.lemmas.List.Elements.{All-contains, Contains-append_left, Contains-push, Contains-push_cases}
use Rattle.mt_base.proofs.Members.{Contains-cases, Contains-none, distinct_append}
use Rattle.mt_kept.specs.declared.finds.Candidate.{Candidate}
use Rattle.mt_kept.specs.Finds.{candidate_place}
use Rattle.mt_probe.specs.declared.finding.Found.{Found}
use Rattle.mt_probe.specs.declared.flight.Flight.{Flight}
use Rattle.mt_probe.specs.Finds.{AreDifferentFinds}
use Rattle.mt_picture.specs.Private.Candidates.{AreStill, IsStill, StandsInPlace}
use Rattle.mt_picture.proofs.Standings.{one_there}

-- the last of different ones differs from each before
apart_last : {X : Type 0} (R : X → X → Type 0) (xs : List X) (y : X) → AllPairs R (xs ++ y ∷ []) → (x : X) → Contains xs x → R x y
apart_last R [] y all x held = absurd (Contains-none x held)
apart_last R (z ∷ xs) y all x held = ⊎_elim
    (λ same. subst (λ w. R w y) same (All-contains (R z) (xs ++ y ∷ []) y (λ k d below. all 0 (suc k) d (omega arith) (omega arith)) (Contains-push xs y)))
    (λ later. apart_last R xs y (λ i j d before below. all (suc i) (suc j) d (omega arith) (omega arith)) x later)
    (Contains-cases z xs x held)

-- with one more that differs from each, all differ
apart_more : {X : Type 0} (R : X → X → Type 0) (xs : List X) (y : X) → AllPairs R xs → ((x : X) → Contains xs x → R x y) → AllPairs R (xs ++ y ∷ [])
apart_more R xs y all last = distinct_append R xs (y ∷ []) all (λ i j d before below. absurd (omega arith))
    (λ x z held one. ⊎_elim (λ same. subst (R x) same (last x held)) (λ none. absurd (Contains-none z none)) (Contains-cases y [] z one))

-- ---- what was found and stands

module _ (slots : List (Option Flight)) (version : ℕ) where
  pub still_none : AreStill slots version [] []
  still_none = record {
    sound = λ x held. absurd (Contains-none x held);
    complete = λ found place stamp held s early. absurd (Contains-none found held);
    once = λ i j d before below. absurd (omega arith);
  }

  module _ (finds : List Found) (xs : List Candidate) (found : Found) (so_far : AreStill slots version finds xs) where
    -- one that doesn't
    pub still_same : ((place stamp : ℕ) → StandsInPlace slots place found.call found.kind stamp → stamp ≤ version → ⊥) → AreStill slots version (finds ++ found ∷ []) xs
    still_same none = record {
      sound = λ x held. let s = so_far.sound x held in record { found = s.found; held = Contains-append_left finds (found ∷ []) s.found s.held; is = s.is };
      complete = λ one place stamp held s early. ⊎_elim (λ before. so_far.complete one place stamp before s early)
          (λ same. absurd (none place stamp (subst (λ (g : Found). StandsInPlace slots place g.call g.kind stamp) (sym same) s) early)) (Contains-push_cases finds found one held);
      once = so_far.once;
    }

    -- one that does
    pub still_more : (x : Candidate) → AllPairs AreDifferentFinds (finds ++ found ∷ []) → IsStill slots version found x
        → ((place stamp : ℕ) → StandsInPlace slots place found.call found.kind stamp → stamp ≤ version → x.place ≡ place)
        → AreStill slots version (finds ++ found ∷ []) (xs ++ x ∷ [])
    still_more x named is only = record {
      sound = λ y held. ⊎_elim
          (λ before. let s = so_far.sound y before in record { found = s.found; held = Contains-append_left finds (found ∷ []) s.found s.held; is = s.is })
          (λ same. record { found = found; held = Contains-push finds found; is = subst (IsStill slots version found) same is }) (Contains-push_cases xs x y held);
      complete = λ one place stamp held s early. subst (λ (ps : List ℕ). Contains ps place) (sym (map-append candidate_place xs (x ∷ [])))
          (⊎_elim (λ before. Contains-append_left (map candidate_place xs) (x.place ∷ []) place (so_far.complete one place stamp before s early))
          (λ same. subst (Contains (map candidate_place xs ++ x.place ∷ []))
          (only place stamp (subst (λ (g : Found). StandsInPlace slots place g.call g.kind stamp) (sym same) s) early) (Contains-push (map candidate_place xs) x.place))
          (Contains-push_cases finds found one held));
      once = apart_more (λ (y z : Candidate). y.place ≢ z.place) xs x so_far.once (λ y held same.
          let before = so_far.sound y held in
          let one = one_there slots x.place before.found.call found.call before.found.kind found.kind before.is.stamp is.stamp
          (subst (λ (k : ℕ). StandsInPlace slots k before.found.call before.found.kind before.is.stamp) same before.is.stands) is.stands in
          apart_last AreDifferentFinds finds found named before.found before.held (one.0, one.1));
    }
