-- A new trajectory has a hit, or is clear of all places.
use Rattle.std.proofs.Common.{◌≡◌, ◌≢◌, ◌≤◌, ◌<◌, ◌+◌, ◌*◌, ◌/◌, ⊎_elim, Bool, true, false, ℕ, List, [], Option, Some, None, length, nat_eq, option_map, refl, sym, ◌∙◌, ap, subst, arith}
use Rattle.std.proofs.lemmas.Bool.{cases_eq, cases_lt}
use Rattle.std.proofs.lemmas.Bool.Decides.{nat_tests}
use Rattle.std.proofs.lemmas.Slice.Eq.{bytes_eq-Decides}
use Rattle.std.specs.Arc.{arc_value}
use Rattle.std.specs.Option.{option_eq}
use Rattle.std.specs.Prelude.{option_and_then}
use Rattle.std.specs.Str.{bytes_eq}
use Rattle.mt_base.specs.declared.conflict.Kind.{Kind}
use Rattle.mt_base.specs.declared.conflict.Kind.TheVariants.{Actual}
use Rattle.mt_base.specs.declared.flight.Record.{Record}
use Rattle.mt_base.specs.declared.hit.Hit.{Hit}
use Rattle.mt_base.specs.Conflict.{IsConflict}
use Rattle.mt_base.specs.Picture.{NamedTrajectory, flight_of, trajectory_of, window_end}
use Rattle.mt_base.specs.Trajectory.{Trajectory}
use Rattle.mt_base.specs.WhatIf.{IsHit}
use Rattle.mt_base.proofs.Members.{Contains-head}
use Rattle.mt_cover.specs.Sliced.{Sliced, slices_of}
use Rattle.mt_meet.specs.declared.table.Met.{Met}
use Rattle.mt_meet.proofs.Meetings.{losing_meet}
use Rattle.mt_track.specs.Laid.{IsStrand}
use Rattle.mt_probe.specs.declared.flight.Flight.{Flight}
use Rattle.mt_probe.specs.Meeting.{slices_by}
use Rattle.mt_probe.specs.Private.Ahead.{AreAhead}
use Rattle.mt_probe.specs.Private.Boxed.{IsFirstMetOf, IsNextMetOf, IsNotMet}
use Rattle.mt_probe.specs.Private.Clear.{IsClearAt, IsHitAt, IsOwnPlace}
use Rattle.mt_probe.specs.Items.{kind_at, other_at, path_of}
use Rattle.mt_probe.specs.Shot.{Shot, flight_at, records_in, state_in_shot}
use Rattle.mt_probe.specs.Standing.{IsSoundShot}
use Rattle.mt_probe.specs.Tests.{flown_at, flown_of_kind}
use Rattle.mt_probe.proofs.Ahead.{met_ahead}
use Rattle.mt_probe.proofs.Boxes.{slices_even}
use Rattle.mt_probe.proofs.Covered.{even_half, even_kind}
use Rattle.mt_probe.proofs.Left.{found_call}
use Rattle.mt_probe.proofs.Looking.{flown_is}
use Rattle.mt_probe.proofs.Nearby.{kept_by, other_one}
use Rattle.mt_probe.proofs.Placed.{filled_inside, found_there, record_placed, record_there}
use Rattle.mt_probe.proofs.Spans.{one_conflict}

module _ (shot : Shot) (call : List ℕ) (t : Trajectory) where
  -- the flight at a place, by its trajectory
  record IsLookedAt (slot : ℕ) (other : Trajectory) : Type 0 where
    flight : Flight
    at : flight_at shot slot ≡ Some flight
    flown : other ≡ trajectory_of shot.setup flight.card.path

  looked_at : (slot : ℕ) (other : Trajectory) → IsSoundShot shot → Some other ≡ option_and_then (path_of Actual) (flight_at shot slot) → IsLookedAt slot other
  looked_at slot other sound other_is = by_flight (flight_at shot slot) refl other_is where
    by_flight : (at : Option Flight) → flight_at shot slot ≡ at → Some other ≡ option_and_then (path_of Actual) at → IsLookedAt slot other
    by_flight None at other_is = absurd (cc)
    by_flight (Some f) at other_is =
        let same : other ≡ arc_value f.actual.strand = cc in
        record { flight = f; at = at; flown = same ∙ flown_is shot.setup f (sound.sound slot f at).kept }

  -- a conflict with it is a hit there, where it is another flight's
  pub hit_there : (slot : ℕ) (own : Option ℕ) (card : Record) (other : Trajectory) (first last : ℕ) → IsSoundShot shot → IsOwnPlace shot call own → own ≢ Some slot
      → Some card ≡ option_map (λ f. f.card) (flight_at shot slot) → Some other ≡ option_and_then (path_of Actual) (flight_at shot slot)
      → IsConflict shot.setup.rules t other shot.now (window_end shot.now) (Some (first, last))
      → IsHitAt shot call t slot (record { first = first; with = card.call; last = last })
  hit_there slot own card other first last sound place apart card_is other_is conflict =
      let it = looked_at slot other sound other_is in
      let same : card ≡ it.flight.card = (let both = card_is ∙ ap (option_map (λ (f : Flight). f.card)) it.at in cc) in
      record {
        flight = it.flight;
        at = it.at;
        other = λ named. apart ((place slot it.flight it.at).0 named);
        with_is = ap (λ (r : Record). r.call) same;
        span = subst (λ (u : Trajectory). IsConflict shot.setup.rules t u shot.now (window_end shot.now) (Some (first, last))) it.flown conflict;
      }

  -- no conflict with it is none at its place
  pub clear_there : (slot : ℕ) (other : Trajectory) → IsSoundShot shot → Some other ≡ option_and_then (path_of Actual) (flight_at shot slot)
      → IsConflict shot.setup.rules t other shot.now (window_end shot.now) None → IsClearAt shot call t slot
  clear_there slot other sound other_is quiet f at apart =
      let it = looked_at slot other sound other_is in
      let same : it.flight ≡ f = (let both = sym it.at ∙ at in cc) in
      subst (λ (u : Trajectory). IsConflict shot.setup.rules t u shot.now (window_end shot.now) None)
      (it.flown ∙ ap (λ (g : Flight). trajectory_of shot.setup g.card.path) same) quiet

  -- a place with a hit isn't clear, and has one hit
  pub not_clear : (slot : ℕ) (hit : Hit) → IsHitAt shot call t slot hit → ¬ IsClearAt shot call t slot
  not_clear slot hit is clear =
      let ends = is.span.inside in
      clear is.flight is.at is.other hit.first ends.0 (omega (arith, ends.1, ends.2)) is.span.first_is

  pub one_hit : (slot : ℕ) (h g : Hit) → IsHitAt shot call t slot h → IsHitAt shot call t slot g → h ≡ g
  one_hit slot h g is also =
      let flight : is.flight ≡ also.flight = (let both = sym is.at ∙ also.at in cc) in
      let path = trajectory_of shot.setup is.flight.card.path in
      let span : IsConflict shot.setup.rules t path shot.now (window_end shot.now) (Some (g.first, g.last)) =
      subst (λ (f : Flight). IsConflict shot.setup.rules t (trajectory_of shot.setup f.card.path) shot.now (window_end shot.now) (Some (g.first, g.last)))
      (sym flight) also.span in
      let spans = one_conflict shot.setup.rules t path shot.now (window_end shot.now) (Some (h.first, h.last)) (Some (g.first, g.last)) is.span span in
      let pair : (h.first, h.last) ≡ (g.first, g.last) = cc in
      let first : h.first ≡ g.first = ap (λ (p : ℕ × ℕ). p.0) pair in
      let last : h.last ≡ g.last = ap (λ (p : ℕ × ℕ). p.1) pair in
      let with_same : h.with ≡ g.with = is.with_is ∙ ap (λ (f : Flight). f.card.call) flight ∙ sym also.with_is in
      λ i. record { first = first i; with = with_same i; last = last i }

  -- the hits are those at places
  pub hit_is : (slot : ℕ) (hit : Hit) → IsSoundShot shot → IsHitAt shot call t slot hit → IsHit shot.setup (state_in_shot shot) call t hit
  hit_is slot hit sound is = record {
    flight = is.flight.card;
    flies = record_there shot slot is.flight sound (filled_inside shot.slots slot is.flight is.at) is.at;
    other = is.other;
    with_is = is.with_is;
    span = is.span;
  }

  pub record IsHitSomewhere (hit : Hit) : Type 0 where
    pub slot : ℕ
    pub is : IsHitAt shot call t slot hit

  pub hit_placed : (hit : Hit) → IsHit shot.setup (state_in_shot shot) call t hit → IsHitSomewhere hit
  hit_placed hit is =
      let it = record_placed shot.slots is.flight is.flies in
      record {
        slot = it.place;
        is = record {
          flight = it.flight;
          at = it.at;
          other = λ same. is.other (ap (λ (r : Record). r.call) (sym it.card_is) ∙ same);
          with_is = is.with_is ∙ ap (λ (r : Record). r.call) (sym it.card_is);
          span = subst (λ (r : Record). IsConflict shot.setup.rules t (trajectory_of shot.setup r.path) shot.now (window_end shot.now) (Some (hit.first, hit.last)))
              (sym it.card_is) is.span;
        };
      }

  module _ (mine : Sliced) (ahead : AreAhead shot t mine) (sound : IsSoundShot shot) (laid : IsStrand t) where
    -- the flight at a place whose slices its own don't meet in the look-ahead is no hit
    pub clear_of_unmet : (slot : ℕ) → IsNotMet shot mine (2 * slot) → IsClearAt shot call t slot
    clear_of_unmet slot unmet f at apart =
        let rules = shot.setup.rules in
        let named : NamedTrajectory = record { call = f.card.call; kind = Actual; path = arc_value f.actual.strand } in
        let path_laid = sound.laid slot f named at (kept_by f Actual named (Contains-head named [])) in
        let there = slices_even rules shot.slots slot ∙ ap (slices_by rules Actual) at in
        subst (λ (u : Trajectory). IsConflict rules t u shot.now (window_end shot.now) None) (flown_is shot.setup f (sound.sound slot f at).kept)
        (λ k low high loss. unmet (slices_of rules (arc_value f.actual.strand)) k there
        (met_ahead shot t mine ahead (slices_of rules (arc_value f.actual.strand)) k low high
        (losing_meet rules t (arc_value f.actual.strand) k sound.rules laid path_laid loss)))

    -- where none behind is met each place there is clear
    pub clear_behind : (from : ℕ) → IsNextMetOf shot mine from None → (j : ℕ) → from ≤ 2 * j → IsClearAt shot call t j
    clear_behind from none j late = clear_of_unmet j (none (2 * j) late)

    -- and each place up to the next that is met
    pub clear_between : (from : ℕ) (met : Met) → IsFirstMetOf shot mine from met → (kind_at met.item ≡ Actual → IsClearAt shot call t (met.item / 2))
        → (j : ℕ) → from ≤ 2 * j → 2 * j < met.item + 1 → IsClearAt shot call t j
    clear_between from met first here j late below = ⊎_elim
        (λ between. clear_of_unmet j (first.none_before (2 * j) late between))
        (λ last. let same : met.item ≡ 2 * j = omega (arith, below, last) in
        subst (IsClearAt shot call t) (ap (λ (n : ℕ). n / 2) same ∙ even_half j) (here (ap kind_at same ∙ even_kind j)))
        (cases_lt (2 * j) met.item)

-- a place is the own one, or another
pub same_place : (own : Option ℕ) (slot : ℕ) → option_eq nat_eq own (Some slot) ≡ true → own ≡ Some slot
same_place None slot e = absurd (cc)
same_place (Some place) slot e = let same : place ≡ slot = grind (arith, nat_tests) in ap Some same

pub other_place : (own : Option ℕ) (slot : ℕ) → option_eq nat_eq own (Some slot) ≡ false → own ≢ Some slot
other_place None slot e is = absurd (cc)
other_place (Some place) slot e is =
    let same : place ≡ slot = cc in
    let apart : place ≢ slot = grind (arith, nat_tests) in apart same

-- a flight without a trajectory is at no place
pub no_path : (at : Option Flight) (f : Flight) → None ≡ option_and_then (path_of Actual) at → ¬ (at ≡ Some f)
no_path None f none is = absurd (cc)
no_path (Some g) f none is = absurd (cc)

-- a trajectory that is flown at a place is a flight's, whose record is there
pub record_by_path : (at : Option Flight) (other : Trajectory) → Some other ≡ option_and_then (path_of Actual) at → ¬ (None ≡ option_map (λ f. f.card) at)
record_by_path None other is none = absurd (cc)
record_by_path (Some f) other is none = absurd (cc)

-- where an item's place isn't the own one, what is flown there is one trajectory of another flight
pub flown_one : (shot : Shot) (call : List ℕ) (item : ℕ) (own : Option ℕ) (other : Trajectory) → IsOwnPlace shot call own → own ≢ Some (item / 2)
    → Actual ≡ kind_at item → Some other ≡ option_and_then (path_of Actual) (flight_at shot (item / 2)) → length (flown_at call shot.slots item) ≡ 1
flown_one shot call item own other place apart kind other_is = by_flight (flight_at shot (item / 2)) refl other_is where
  by_flight : (at : Option Flight) → flight_at shot (item / 2) ≡ at → Some other ≡ option_and_then (path_of Actual) at → length (flown_at call shot.slots item) ≡ 1
  by_flight None at is = absurd (cc)
  by_flight (Some f) at is = by_test (bytes_eq f.card.call call) refl where
    by_test : (b : Bool) → bytes_eq f.card.call call ≡ b → length (flown_at call shot.slots item) ≡ 1
    by_test true e = absurd (apart ((place (item / 2) f at).0 ((bytes_eq-Decides f.card.call call).0 e)))
    by_test false e =
        ap (λ (k : Kind). length (flown_of_kind k (other_at call shot.slots item))) (sym kind)
        ∙ ap length (other_one shot.slots call item Actual f.card other kind (sym (ap (option_map (λ (g : Flight). g.card)) at)) e other_is)

-- what is found for a callsign is the place of its flight
pub own_place : (shot : Shot) (call : List ℕ) (own : Option ℕ) → IsSoundShot shot
    → flight_of (records_in shot.slots) call ≡ option_map (λ f. f.card) (option_and_then (flight_at shot) own) → IsOwnPlace shot call own
own_place shot call own sound found slot f at = (
  (λ same. by_place own (sym (found_there shot slot f call sound (filled_inside shot.slots slot f at) at same) ∙ found)),
  (λ here. found_call call (records_in shot.slots) f.card
      (found ∙ ap (λ (o : Option ℕ). option_map (λ g. g.card) (option_and_then (flight_at shot) o)) here ∙ ap (option_map (λ (g : Flight). g.card)) at)),
) where
  by_flight : (place : ℕ) (x : Option Flight) → flight_at shot place ≡ x → Some f.card ≡ option_map (λ g. g.card) x → Some place ≡ Some slot
  by_flight place None there is = absurd (cc)
  by_flight place (Some g) there is =
      let card : f.card ≡ g.card = cc in
      ⊎_elim (ap Some) (λ other. absurd ((sound.apart place slot g f other there at).calls (sym (ap (λ (r : Record). r.call) card)))) (cases_eq place slot)

  by_place : (o : Option ℕ) → Some f.card ≡ option_map (λ g. g.card) (option_and_then (flight_at shot) o) → o ≡ Some slot
  by_place None is = absurd (cc)
  by_place (Some place) is = by_flight place (flight_at shot place) refl is
