-- What was found for a place, and for changed places.
use Rattle.std.proofs.Common.{◌≡◌, ◌≢◌, ℕ, ◌<◌, ◌⊎◌, inl, inr, ⊎_elim, List, [], map, Contains, Option, Some, None, refl, sym, ◌∙◌, ap, subst, arith}
use Rattle.std.proofs.lemmas.Bool.{cases_eq}
use Rattle.mt_base.specs.declared.conflict.Conflict.{Conflict}
use Rattle.mt_base.specs.declared.rules.Rules.{Rules}
use Rattle.mt_base.specs.Conflict.{IsLossSecond}
use Rattle.mt_base.specs.Picture.{NamedTrajectory}
use Rattle.mt_kept.specs.declared.finds.Candidate.{Candidate}
use Rattle.mt_kept.specs.declared.open_pair.OpenPair.{OpenPair}
use Rattle.mt_kept.specs.Places.{at}
use Rattle.mt_base.specs.Trajectory.{horizon}
use Rattle.mt_kept.specs.Losing.{Joins}
use Rattle.mt_kept.specs.Window.{IsFoundOf, edge_of}
use Rattle.mt_kept.specs.Finds.{Agree, AreCandidates, AreFindsAt, AreFindsOfPlaces, IsOfOtherFlight, candidate_place}
use Rattle.mt_base.proofs.Members.{Contains-map, Contains-map_cases, Contains-none}
use Rattle.mt_kept.proofs.Gathering.{AreGathered}
use Rattle.mt_kept.proofs.Windows.{IsSolidAsSaid-sym, IsLossSecond-sym, IsSpanOfLoss-sym}

-- what was found among all candidates
found_swap : (rules : Rules) (now : ℕ) (mine other : NamedTrajectory) (c : Option Conflict) → IsFoundOf rules now mine other c → IsFoundOf rules now other mine c
found_swap rules now mine other None found = λ k low high loss. found k low high (IsLossSecond-sym rules other.path mine.path k loss)
found_swap rules now mine other (Some c) found = ⊎_elim (λ a. inr a) (λ b. inl b) found

pub finds_are : (rules : Rules) (places after : List (Option NamedTrajectory)) (now place : ℕ) (mine : NamedTrajectory) (xs : List Candidate)
    (finds : List OpenPair) → Agree places after place mine → AreCandidates rules places place mine xs → AreGathered rules places now place mine xs finds
    → AreFindsAt rules after now place finds
finds_are rules places after now place mine xs finds agree candidates gathered =
    let here : at after place ≡ Some mine = agree.here in
    record {
      sound = λ o held.
          let h = gathered.sound o held in
          let apart = h.is.apart in
          let other_is : at after h.of.place ≡ Some h.other = (agree.there h.of.place h.other h.is.elsewhere apart).1 h.is.is in
          ⊎_elim
          (λ e.
          let left_is : at after o.edge.a ≡ Some mine = ap (at after) e.0 ∙ here in
          let right_is : at after o.edge.b ≡ Some h.other = ap (at after) e.1 ∙ other_is in (
            inl e.0,
            record {
              left = mine;
              right = h.other;
              left_is = left_is;
              right_is = right_is;
              before = (let p = e.0 in let q = e.1 in let r = e.2 in omega arith);
              apart = apart;
              span = h.find.span;
              solid = h.find.solid;
            },
            λ meets. record { left = mine; right = h.other; left_is = left_is; right_is = right_is; found = h.find.shown meets },
          ))
          (λ e.
          let left_is : at after o.edge.a ≡ Some h.other = ap (at after) e.0 ∙ other_is in
          let right_is : at after o.edge.b ≡ Some mine = ap (at after) e.1 ∙ here in (
            inr e.1,
            record {
              left = h.other;
              right = mine;
              left_is = left_is;
              right_is = right_is;
              before = (let p = e.0 in let q = e.1 in let r = e.2 in omega arith);
              apart = λ eq. apart (sym eq);
              span = IsSpanOfLoss-sym rules mine.path h.other.path 0 horizon o.edge.first o.edge.last h.find.span;
              solid = IsSolidAsSaid-sym rules mine.path h.other.path o.edge h.find.solid;
            },
            λ meets. record {
              left = h.other;
              right = mine;
              left_is = left_is;
              right_is = right_is;
              found = found_swap rules now mine h.other o.conflict (h.find.shown meets);
            },
          )) h.find.ends;
      complete = λ a b k before touches loses. ⊎_elim
          (λ e.
          let b_else : b ≢ place = λ same. absurd (let p : a ≡ b = e ∙ sym same in omega arith) in
          let mine_is : loses.left ≡ mine = let p = loses.left_is in let q = ap (at after) e ∙ here in cc in
          let loss : IsLossSecond rules mine.path loses.right.path k =
          subst (λ (t : NamedTrajectory). IsLossSecond rules t.path loses.right.path k) mine_is loses.loss in
          let apart : mine.call ≢ loses.right.call = λ eq. loses.apart (ap (λ (t : NamedTrajectory). t.call) mine_is ∙ eq) in
          let other_is : at places b ≡ Some loses.right = (agree.there b loses.right b_else apart).0 loses.right_is in
          joined a b b k loses.right b_else other_is apart loses.early loss (inl (e, refl, before)))
          (λ e.
          let a_else : a ≢ place = λ same. absurd (let p : a ≡ b = same ∙ sym e in omega arith) in
          let mine_is : loses.right ≡ mine = let p = loses.right_is in let q = ap (at after) e ∙ here in cc in
          let loss : IsLossSecond rules mine.path loses.left.path k =
          subst (λ (t : NamedTrajectory). IsLossSecond rules t.path loses.left.path k) mine_is (IsLossSecond-sym rules loses.left.path loses.right.path k loses.loss) in
          let apart : mine.call ≢ loses.left.call = λ eq. loses.apart (sym eq ∙ sym (ap (λ (t : NamedTrajectory). t.call) mine_is)) in
          let other_is : at places a ≡ Some loses.left = (agree.there a loses.left a_else apart).0 loses.left_is in
          joined a b a k loses.left a_else other_is apart loses.early loss (inr (refl, e, before))) touches;
      distinct = gathered.distinct;
    } where
      joined : (a b j k : ℕ) (other : NamedTrajectory) → j ≢ place → at places j ≡ Some other → mine.call ≢ other.call → k < horizon
          → IsLossSecond rules mine.path other.path k → ((a ≡ place) × (b ≡ j) × (a < b)) ⊎ ((a ≡ j) × (b ≡ place) × (a < b)) → Joins (map edge_of finds) a b
      joined a b j k other else other_is apart early loss ends =
          let there : IsOfOtherFlight places place mine j other = record { is = other_is; elsewhere = else; apart = apart } in
          let c = Contains-map_cases candidate_place xs j (candidates.complete j k other there early loss) in
          let found = gathered.complete c.of k other c.held (subst (λ (i : ℕ). IsOfOtherFlight places place mine i other) (sym c.is) there) early loss in
          record {
            edge = found.find.edge;
            held = Contains-map edge_of finds found.find found.held;
            ends = ⊎_elim
                (λ p. ⊎_elim
                (λ q. (q.0 ∙ sym p.0, q.1 ∙ c.is ∙ sym p.1))
                (λ q. absurd (let r = c.is in omega (arith, p.0, p.1, p.2, q.2))) found.ends)
                (λ p. ⊎_elim
                (λ q. absurd (let r = c.is in omega (arith, p.0, p.1, p.2, q.2)))
                (λ q. (q.0 ∙ c.is ∙ sym p.0, q.1 ∙ sym p.1)) found.ends) ends;
          }

-- what was found for a place is what was found for all changed places, where the others are empty
pub finds_one : (rules : Rules) (after : List (Option NamedTrajectory)) (now : ℕ) (changed : List ℕ) (place : ℕ) (finds : List OpenPair)
    → Contains changed place → ((i : ℕ) → Contains changed i → i ≢ place → at after i ≡ None) → AreFindsAt rules after now place finds
    → AreFindsOfPlaces rules after now changed finds
finds_one rules after now changed place finds here empty found = record {
  sound = λ o held.
      let h = found.sound o held in
      (⊎_elim (λ a. inl (subst (Contains changed) (sym a) here)) (λ b. inr (subst (Contains changed) (sym b) here)) h.0, h.1, h.2);
  complete = λ a b k before either loses. ⊎_elim
      (λ x. found.complete a b k before (inl (is_it a loses.left x loses.left_is)) loses)
      (λ y. found.complete a b k before (inr (is_it b loses.right y loses.right_is)) loses) either;
  distinct = found.distinct;
} where
  is_it : (i : ℕ) (t : NamedTrajectory) → Contains changed i → at after i ≡ Some t → i ≡ place
  is_it i t held some = ⊎_elim (λ same. same) (λ other. absurd (let none = empty i held other in cc)) (cases_eq i place)

-- empty places have no finds
pub finds_none : (rules : Rules) (after : List (Option NamedTrajectory)) (now : ℕ) (changed : List ℕ) → ((i : ℕ) → Contains changed i → at after i ≡ None)
    → AreFindsOfPlaces rules after now changed []
finds_none rules after now changed empty = record {
  sound = λ o held. absurd (Contains-none o held);
  complete = λ a b k before either loses. absurd (⊎_elim
      (λ x. let none = empty a x in let some = loses.left_is in cc)
      (λ y. let none = empty b y in let some = loses.right_is in cc) either);
  distinct = λ i j d before below. absurd (omega arith);
}
