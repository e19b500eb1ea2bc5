-- What a prep says of the trajectories that stand now is right, and so the near ones are candidates.
use Rattle.std.proofs.Common.{◌≡◌, ◌≢◌, ℕ, suc, ◌/◌, ◌≤◌, Bool, true, List, [], Option, Some, None, Contains, get_or, option_map, refl, sym, ◌∙◌, ap, subst, arith}
use Rattle.std.specs.Prelude.{option_and_then}
use Rattle.std.specs.Arc.{arc_value}
use Rattle.mt_base.specs.declared.conflict.Kind.{Kind}
use Rattle.mt_base.specs.declared.conflict.Kind.TheVariants.{Actual, Tentative}
use Rattle.mt_base.specs.declared.flight.Record.{Record}
use Rattle.mt_base.specs.declared.rules.Rules.{Rules}
use Rattle.mt_base.specs.Conflict.{IsConflict, IsLossSecond}
use Rattle.mt_base.specs.Span.{IsSolid}
use Rattle.mt_base.specs.Picture.{NamedTrajectory}
use Rattle.mt_base.specs.Trajectory.{Trajectory}
use Rattle.mt_cover.specs.Cells.{cover_of}
use Rattle.mt_cover.specs.Sliced.{slices_of}
use Rattle.mt_kept.specs.declared.finds.Candidate.{Candidate}
use Rattle.mt_kept.specs.Finds.{AreCandidates, IsRight}
use Rattle.mt_kept.specs.Places.{at}
use Rattle.mt_base.specs.Trajectory.{horizon}
use Rattle.mt_probe.specs.declared.finding.Found.{Found}
use Rattle.mt_probe.specs.declared.flight.Flight.{Flight}
use Rattle.mt_probe.specs.declared.flight.Made.{Made}
use Rattle.mt_probe.specs.Finds.{IsFound, IsOfAnother}
use Rattle.mt_probe.specs.Items.{kind_at, stays_at, stays_by, stays_of_item}
use Rattle.mt_probe.specs.Meeting.{slices_at, slices_by}
use Rattle.mt_probe.specs.Prepared.{Prepared}
use Rattle.mt_probe.specs.Shot.{Shot, flight_at, kept_of, made_named, made_of}
use Rattle.mt_base.proofs.Members.{Contains-head}
use Rattle.mt_picture.specs.Private.Places.{all_places, made_of_kind, place_kind}
use Rattle.mt_picture.specs.Private.Stamps.{HaveStood}
use Rattle.mt_picture.specs.Private.Known.{AreNearCandidates, IsEarlierAt, IsPreps}
use Rattle.mt_picture.proofs.Slotted.{at_any, kind_made_of}

-- what is found says the conflict over all seconds
pub found_right : (shot : Shot) (slot : ℕ) (kind : Kind) (p : Prepared) (known : Bool) (stamp : ℕ) (card : Record) (found : Found)
    → HaveStood shot p → Some stamp ≡ option_map (λ (m : Made). m.stamp) (option_and_then (λ f. made_of f kind) (flight_at shot slot))
    → Some card ≡ option_map (λ (f : Flight). f.card) (flight_at shot slot) → stamp ≤ p.state.version → known ≡ true
    → ((other : NamedTrajectory) → IsOfAnother p.setup p.state p.card.call other → other.call ≡ card.call → other.kind ≡ kind
    → IsFound p.setup.rules p.state.now p.strand other found)
    → (f : Flight) (made : Made) (mine : NamedTrajectory) → flight_at shot slot ≡ Some f → made_of f kind ≡ Some made → f.card.call ≢ p.card.call
    → IsPreps p known mine.path → IsConflict p.setup.rules mine.path (arc_value made.strand) 0 horizon found.whole
    × (found.solid ≡ true → IsSolid (IsLossSecond p.setup.rules mine.path (arc_value made.strand)) found.whole)
found_right shot slot kind p known stamp card found stood stamp_is card_is early is_known says f made mine at_is made_is apart preps =
    let s : Some stamp ≡ Some made.stamp = rw (at_is, made_is) at stamp_is in
    let e : stamp ≡ made.stamp = cc in
    let c : Some card ≡ Some f.card = rw at_is at card_is in
    let d : card ≡ f.card = cc in
    let there = stood slot f kind made at_is made_is (omega (arith, e, early)) in
    let is = says (made_of_kind f kind made) (record { there = there; apart = apart }) (ap (λ (r : Record). r.call) (sym d)) refl in
    subst (λ (t : Trajectory). IsConflict p.setup.rules t (arc_value made.strand) 0 horizon found.whole
    × (found.solid ≡ true → IsSolid (IsLossSecond p.setup.rules t (arc_value made.strand)) found.whole)) (sym (preps is_known)) (is.whole, is.solid)

-- what a prep knows of was made before it
pub earlier_there : (p : Prepared) (slot : Option Flight) (kind : Kind) (stamp : ℕ)
    → Some stamp ≡ option_map (λ (m : Made). m.stamp) (option_and_then (λ f. made_of f kind) slot) → stamp ≤ p.state.version → IsEarlierAt p slot kind
earlier_there p slot kind stamp stamp_is early f made at_is made_is =
    let s : Some stamp ≡ Some made.stamp = rw (at_is, made_is) at stamp_is in
    let e : stamp ≡ made.stamp = cc in
    omega (arith, e, early)

-- what stands in a place: the trajectory of a kind of the flight in its slot
pub record StandsAt (slots : List (Option Flight)) (j : ℕ) (t : NamedTrajectory) : Type 0 where
  pub flight : Flight
  pub made : Made
  pub at_is : get_or slots (j / 2) None ≡ Some flight
  pub made_is : made_of flight (kind_at j) ≡ Some made
  pub is : made_of_kind flight (kind_at j) made ≡ t

stands_made : (slots : List (Option Flight)) (j : ℕ) (t : NamedTrajectory) (f : Flight) (made : Option Made) → get_or slots (j / 2) None ≡ Some f
    → made_of f (kind_at j) ≡ made → option_map (made_of_kind f (kind_at j)) made ≡ Some t → StandsAt slots j t
stands_made slots j t f None at_is made_is is = absurd (cc)
stands_made slots j t f (Some m) at_is made_is is = record { flight = f; made = m; at_is = at_is; made_is = made_is; is = cc }

none_there : (kind : Kind) (t : NamedTrajectory) → place_kind kind None ≡ Some t → ⊥
none_there Actual t is = cc
none_there Tentative t is = cc

pub stands_at : (slots : List (Option Flight)) (j : ℕ) (t : NamedTrajectory) → at (all_places slots) j ≡ Some t → StandsAt slots j t
stands_at slots j t is = by_slot (get_or slots (j / 2) None) refl (sym (at_any slots j) ∙ is) where
  by_slot : (s : Option Flight) → get_or slots (j / 2) None ≡ s → place_kind (kind_at j) s ≡ Some t → StandsAt slots j t
  by_slot None at_is there = absurd (none_there (kind_at j) t there)
  by_slot (Some f) at_is there = stands_made slots j t f (made_of f (kind_at j)) at_is refl (sym (kind_made_of f (kind_at j)) ∙ there)

-- what is made of a flight is kept of it
in_named : (call : List ℕ) (mark : Option Made) (made : Made) → mark ≡ Some made
    → Contains (made_named call Tentative (option_map (λ (m : Made). arc_value m.strand) mark)) (record { call = call; kind = Tentative; path = arc_value made.strand })
in_named call None made is = absurd (cc)
in_named call (Some m) made is =
    let e : m ≡ made = cc in
    subst (λ (n : Made). Contains (made_named call Tentative (Some (arc_value m.strand))) (record { call = call; kind = Tentative; path = arc_value n.strand })) e
    (Contains-head _ [])

pub kept_made : (f : Flight) (kind : Kind) (made : Made) → made_of f kind ≡ Some made → Contains (kept_of f) (made_of_kind f kind made)
kept_made f Actual made is =
    let e : f.actual ≡ made = cc in
    subst (λ (m : Made). Contains (kept_of f) (made_of_kind f Actual m)) e (Contains-head (made_of_kind f Actual f.actual) _)
kept_made f Tentative made is = let held = in_named f.card.call f.mark made is in (suc held.0, omega (arith, held.1), held.2)

-- the stays of what stands in a place are those of its item
pub stays_there : (rules : Rules) (slots : List (Option Flight)) (j : ℕ) (t : NamedTrajectory) → StandsAt slots j t → stays_at rules slots j ≡ cover_of rules t.path
stays_there rules slots j t s =
    ap (stays_by rules (kind_at j)) s.at_is ∙ ap (λ (m : Option Made). stays_of_item rules (option_map (λ (n : Made). arc_value n.strand) m)) s.made_is
    ∙ ap (λ (u : NamedTrajectory). cover_of rules u.path) s.is

-- and its slices are those of its item
pub slices_there : (rules : Rules) (slots : List (Option Flight)) (j : ℕ) (t : NamedTrajectory) → StandsAt slots j t
    → slices_at rules slots j ≡ Some (slices_of rules t.path)
slices_there rules slots j t s =
    ap (slices_by rules (kind_at j)) s.at_is
    ∙ ap (λ (m : Option Made). option_map (slices_of rules) (option_map (λ (n : Made). arc_value n.strand) m)) s.made_is
    ∙ ap (λ (u : NamedTrajectory). Some (slices_of rules u.path)) s.is

-- the near ones are candidates
pub candidates_right : (shot : Shot) (place : ℕ) (mine : NamedTrajectory) (p : Prepared) (known : Bool) (xs : List Candidate)
    → p.setup.rules ≡ shot.setup.rules → mine.call ≡ p.card.call → AreNearCandidates shot mine.path p known xs
    → AreCandidates shot.setup.rules (all_places shot.slots) place mine xs
candidates_right shot place mine p known xs rules_are own near = record {
  right = λ x other held is.
      let s = stands_at shot.slots x.place other is.is in
      let apart : s.flight.card.call ≢ p.card.call = λ same. is.apart (own ∙ sym same ∙ ap (λ (u : NamedTrajectory). u.call) s.is) in
      let right = (near.known_is x held).right s.flight s.made mine s.at_is s.made_is apart refl in
      subst (λ (rules : Rules). IsRight rules mine other x.knowledge) rules_are
      (subst (λ (u : NamedTrajectory). IsRight p.setup.rules mine u x.knowledge) s.is right);
  complete = λ j k other is early loss. near.complete j k other is.is (λ same. is.apart (own ∙ sym same)) early loss;
  once = near.once;
}
