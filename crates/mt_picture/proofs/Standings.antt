-- Where trajectories stand: each in one place, and one in a place.
use Rattle.std.proofs.Common.{◌≡◌, ℕ, ◌/◌, ⊎_elim, List, Option, Some, None, get_or, is_some, true, option_map, refl, sym, ◌∙◌, ap, ap₂, subst}
use Rattle.std.specs.Prelude.{option_and_then}
use Rattle.std.proofs.lemmas.Bool.{cases_eq}
use Rattle.mt_base.specs.declared.conflict.Kind.{Kind}
use Rattle.mt_base.specs.declared.flight.Record.{Record}
use Rattle.mt_base.specs.Picture.{flight_of}
use Rattle.mt_probe.specs.declared.flight.Flight.{Flight}
use Rattle.mt_probe.specs.declared.flight.Made.{Made}
use Rattle.mt_probe.specs.Items.{kind_at}
use Rattle.mt_probe.specs.Shot.{Shot, flight_at, made_of, records_in}
use Rattle.mt_probe.specs.Standing.{IsSoundShot}
use Rattle.mt_probe.proofs.Placed.{filled_inside, found_there}
use Rattle.mt_picture.specs.Private.Candidates.{StandsInPlace}
use Rattle.mt_picture.specs.Private.Places.{made_of_kind, place_in}
use Rattle.mt_picture.proofs.Knowing.{StandsAt}
use Rattle.mt_picture.proofs.Passing.{found_place}
use Rattle.mt_picture.proofs.Slotted.{place_back}

-- a place is that of its slot and its kind
pub same_place : (i j : ℕ) → i / 2 ≡ j / 2 → kind_at i ≡ kind_at j → i ≡ j
same_place i j half kind = sym (place_back i) ∙ ap₂ place_in half kind ∙ place_back j

module _ (slots : List (Option Flight)) (place : ℕ) where
  -- what stands in a place, as its trajectory
  pub as_at : (call : List ℕ) (kind : Kind) (stamp : ℕ) → (s : StandsInPlace slots place call kind stamp) → StandsAt slots place (made_of_kind s.flight kind s.made)
  as_at call kind stamp s = record {
    flight = s.flight;
    made = s.made;
    at_is = s.at_is;
    made_is = ap (made_of s.flight) s.kind_is ∙ s.made_is;
    is = ap (λ (k : Kind). made_of_kind s.flight k s.made) s.kind_is;
  }

  -- it is one thing
  pub one_there : (c d : List ℕ) (k l : Kind) (a b : ℕ) → StandsInPlace slots place c k a → StandsInPlace slots place d l b → (c ≡ d) × (k ≡ l) × (a ≡ b)
  one_there c d k l a b s r =
      let flights : Some s.flight ≡ Some r.flight = sym s.at_is ∙ r.at_is in
      let flight : s.flight ≡ r.flight = cc in
      let kind : k ≡ l = sym s.kind_is ∙ r.kind_is in
      let mades : Some s.made ≡ Some r.made = sym s.made_is ∙ ap₂ made_of flight kind ∙ r.made_is in
      let made : s.made ≡ r.made = cc in
      (sym s.call_is ∙ ap (λ (f : Flight). f.card.call) flight ∙ r.call_is, kind, sym s.stamp_is ∙ ap (λ (m : Made). m.stamp) made ∙ r.stamp_is)

-- a flight that has a callsign is in one slot
one_slot : (shot : Shot) (i j : ℕ) (f g : Flight) → IsSoundShot shot → flight_at shot i ≡ Some f → flight_at shot j ≡ Some g → f.card.call ≡ g.card.call → i ≡ j
one_slot shot i j f g sound f_at g_at same = ⊎_elim (λ here. here) (λ away. absurd ((sound.apart i j f g away f_at g_at).calls same)) (cases_eq i j)

module _ (shot : Shot) (sound : IsSoundShot shot) (call : List ℕ) (kind : Kind) where
  pub one_standing : (i j a b : ℕ) → StandsInPlace shot.slots i call kind a → StandsInPlace shot.slots j call kind b → (i ≡ j) × (a ≡ b)
  one_standing i j a b s r =
      let half = one_slot shot (i / 2) (j / 2) s.flight r.flight sound s.at_is r.at_is (s.call_is ∙ sym r.call_is) in
      let place : i ≡ j = same_place i j half (s.kind_is ∙ sym r.kind_is) in
      let one = one_there shot.slots j call call kind kind a b (subst (λ (k : ℕ). StandsInPlace shot.slots k call kind a) place s) r in
      (place, one.2)

  -- its flight is found
  pub flight_listed : (place stamp : ℕ) → (s : StandsInPlace shot.slots place call kind stamp) → flight_of (records_in shot.slots) call ≡ Some s.flight.card
  flight_listed place stamp s = found_there shot (place / 2) s.flight call sound (filled_inside shot.slots (place / 2) s.flight s.at_is) s.at_is s.call_is

  -- and its stamp is that of what the found slot has
  pub stamp_listed : (slot place stamp : ℕ) → option_map (λ (f : Flight). f.card.call) (flight_at shot slot) ≡ Some call
      → StandsInPlace shot.slots place call kind stamp
      → option_map (λ (m : Made). m.stamp) (option_and_then (λ f. made_of f kind) (flight_at shot slot)) ≡ Some stamp
  stamp_listed slot place stamp called s = by_flight (flight_at shot slot) refl called where
    by_flight : (at : Option Flight) → flight_at shot slot ≡ at → option_map (λ (f : Flight). f.card.call) at ≡ Some call
        → option_map (λ (m : Made). m.stamp) (option_and_then (λ f. made_of f kind) (flight_at shot slot)) ≡ Some stamp
    by_flight None is e = absurd (cc)
    by_flight (Some f) is e =
        let own : f.card.call ≡ call = cc in
        let here = one_slot shot slot (place / 2) f s.flight sound is s.at_is (own ∙ sym s.call_is) in
        ap (λ (i : ℕ). option_map (λ (m : Made). m.stamp) (option_and_then (λ f. made_of f kind) (flight_at shot i))) here
        ∙ ap (λ (o : Option Flight). option_map (λ (m : Made). m.stamp) (option_and_then (λ f. made_of f kind) o)) s.at_is
        ∙ ap (option_map (λ (m : Made). m.stamp)) s.made_is ∙ ap Some s.stamp_is

-- the flight of a slot that was found has the callsign
pub call_found : (rs : List Record) (call : List ℕ) (at : Option Flight) → is_some at ≡ true → flight_of rs call ≡ option_map (λ (f : Flight). f.card) at
    → option_map (λ (f : Flight). f.card.call) at ≡ Some call
call_found rs call None some is = absurd (cc)
call_found rs call (Some f) some is = found_place rs call (Some f) (ap is_some is) is

-- what the found slot has of a kind stands in that place
pub stands_found : (shot : Shot) (slot place : ℕ) (call : List ℕ) (kind : Kind) (stamp : ℕ) → place / 2 ≡ slot → kind_at place ≡ kind
    → option_map (λ (f : Flight). f.card.call) (flight_at shot slot) ≡ Some call
    → Some stamp ≡ option_map (λ (m : Made). m.stamp) (option_and_then (λ f. made_of f kind) (flight_at shot slot)) → StandsInPlace shot.slots place call kind stamp
stands_found shot slot place call kind stamp half kind_is called stamped = by_flight (flight_at shot slot) refl called stamped where
  by_made : (f : Flight) → flight_at shot slot ≡ Some f → f.card.call ≡ call → (m : Option Made) → made_of f kind ≡ m → Some stamp ≡ option_map (λ (m : Made). m.stamp) m
      → StandsInPlace shot.slots place call kind stamp
  by_made f at_is call_is None is e = absurd (cc)
  by_made f at_is call_is (Some m) is e = record {
    flight = f;
    made = m;
    at_is = ap (λ (k : ℕ). get_or shot.slots k None) half ∙ at_is;
    call_is = call_is;
    kind_is = kind_is;
    made_is = is;
    stamp_is = (let both : Some stamp ≡ Some m.stamp = e in cc);
  }

  by_flight : (at : Option Flight) → flight_at shot slot ≡ at → option_map (λ (f : Flight). f.card.call) at ≡ Some call
      → Some stamp ≡ option_map (λ (m : Made). m.stamp) (option_and_then (λ f. made_of f kind) at) → StandsInPlace shot.slots place call kind stamp
  by_flight None is e s = absurd (cc)
  by_flight (Some f) is e s = by_made f is (let both : Some f.card.call ≡ Some call = e in cc) (made_of f kind) refl s
