-- The first hit of a command.
use Rattle.std.proofs.Common.{◌≡◌, ℕ, ◌*◌, ◌<◌, Bool, true, false, List, [], Option, Some, None, length, refl, sym, ◌∙◌, ap, subst}
use Rattle.std.specs.Arc.{arc_value}
use Rattle.std.specs.Prelude.{IfOk, IfSome, is_some, Result, Ok, Err}
use Rattle.mt_base.specs.declared.command.Command.{Command}
use Rattle.mt_base.specs.declared.command.Command.TheVariants.{Accept, External, Plan}
use Rattle.mt_base.specs.declared.command.Entry.{Entry}
use Rattle.mt_base.specs.declared.conflict.Kind.TheVariants.{Actual}
use Rattle.mt_base.specs.declared.flight.Path.{Path}
use Rattle.mt_base.specs.declared.flight.Path.TheVariants.{Outer, Planned}
use Rattle.mt_base.specs.declared.flight.Record.{Record}
use Rattle.mt_base.specs.declared.hit.Hit.{Hit}
use Rattle.mt_base.specs.Decision.{HasHits, filled}
use Rattle.mt_base.specs.Effect.{cleared_path}
use Rattle.mt_base.specs.Picture.{State, flight_of, trajectory_of}
use Rattle.mt_base.specs.Tables.{Setup}
use Rattle.mt_base.specs.Trajectory.{Trajectory}
use Rattle.mt_base.specs.WhatIf.{AreHitsOf, course_on, trajectory_cleared}
use Rattle.mt_change.specs.Altered.{Alters, path_after}
use Rattle.mt_kept.specs.declared.open_pair.OpenPair.{OpenPair}
use Rattle.mt_kept.specs.Finds.{AreFindsAt}
use Rattle.mt_change.specs.Deciding.{IsFirstHit}
use Rattle.mt_change.proofs.Decisions.{first_of_hits}
use Rattle.mt_probe.specs.declared.flight.Flight.{Flight}
use Rattle.mt_probe.specs.Prepared.{IsLeftByEntry, kind_made}
use Rattle.mt_probe.specs.Shot.{Shot, flight_at, records_in}
use Rattle.mt_probe.specs.Shot.{state_in_shot as state_in}
use Rattle.mt_probe.specs.Standing.{IsSoundEntry, IsSoundShot}
use Rattle.mt_probe.proofs.Placed.{filled_inside, found_there}
use Rattle.mt_picture.specs.Private.Entries.{is_probed}
use Rattle.mt_picture.specs.Stamps.{IsFiling}
use Rattle.mt_picture.specs.Private.Hits.{IsFirstAmong}
use Rattle.mt_picture.specs.Private.Holding.{AddsOrStops, EntersOrStops, Holding, entry_now, held_story, story_after}
use Rattle.mt_picture.specs.Private.Places.{places_put}
use Rattle.mt_picture.specs.Private.Putting.{IsFirstOf}
use Rattle.mt_picture.proofs.Entered.{altered_by, own_actual}
use Rattle.mt_picture.proofs.HitsHere.{hits_here}

-- the first hit that the finds of a flight's place show is the first of the trajectory that is put there
pub first_here : (shot : Shot) (slot : ℕ) (f : Flight) (finds : List OpenPair) (first : Option Hit) → IsSoundShot shot → slot < length shot.slots
    → AreFindsAt shot.setup.rules (places_put shot slot (Some f)) shot.now (2 * slot) finds
    → ((g : Flight) → flight_at shot slot ≡ Some g → g.card.call ≡ f.card.call) → IsFirstAmong finds f.card.call shot.now first
    → IsFirstOf shot.setup (state_in shot) f.card.call (arc_value f.actual.strand) first
first_here shot slot f finds first sound inside are was is = record {
  hits = is.hits;
  all = hits_here shot slot f finds sound inside are was is.hits is.all;
  first_is = is.first_is;
}

-- a command that isn't probed has no hits
pub no_first : (setup : Setup) (s : State) (c : Command) (first : Option Hit) → is_probed c ≡ false → first ≡ None → IsFirstHit setup s c first
no_first setup s c first unprobed none = subst (IsFirstHit setup s c) (sym none) (by_command c unprobed) where
  by_command : (c : Command) → is_probed c ≡ false → HasHits setup s c []
  by_command (Accept call clearance eff probed) is = absurd (cc)
  by_command c is = refl

-- what is probed is to be flown
pub probed_actual : (c : Command) → is_probed c ≡ true → kind_made c ≡ Actual
probed_actual (Accept call clearance eff probed) is = refl
probed_actual c is = absurd (cc)

pub filing_unprobed : (c : Command) → IsFiling c → is_probed c ≡ false
filing_unprobed (Plan call kind route at from level rvsm) filing = refl
filing_unprobed (External call straight) filing = refl
filing_unprobed c filing = absurd filing

-- the hits of an acceptance are those of the trajectory that it leaves
accept_hits : (shot : Shot) (slot who : ℕ) (call : List ℕ) (old : Flight) (card : Record) (t : Trajectory) (hits : List Hit) (c : Command) → IsSoundShot shot
    → is_probed c ≡ true → flight_at shot slot ≡ Some old → old.card.call ≡ card.call → IsLeftByEntry shot.setup (state_in shot) who c card
    → card.path ≡ path_after shot.setup who (filled shot.now c) old.card.path → t ≡ trajectory_of shot.setup card.path
    → AreHitsOf shot.setup (state_in shot) card.call t hits → HasHits shot.setup (state_in shot) c hits
accept_hits shot slot who call old card t hits (Accept kall clearance eff at_version) sound probed at_is own left path flies all =
    let e : kall ≡ card.call = let l = left.call_is in cc in
    let found : flight_of (records_in shot.slots) kall ≡ Some old.card =
    found_there shot slot old kall sound (filled_inside shot.slots slot old at_is) at_is (own ∙ sym e) in
    rw found (by_path old.card.path refl e) where
      by_path : (old_path : Path) → old.card.path ≡ old_path → kall ≡ card.call
          → IfSome (course_on old_path) (λ course. AreHitsOf shot.setup (state_in shot) kall (trajectory_cleared shot.setup course clearance eff) hits)
      by_path (Outer stretch) is e = tt
      by_path (Planned course) is e =
          let one : card.path ≡ cleared_path shot.setup clearance eff (Planned course) = path ∙ ap (cleared_path shot.setup clearance eff) is in
          let two : t ≡ trajectory_cleared shot.setup course clearance eff = flies ∙ ap (trajectory_of shot.setup) one in
          subst (λ (k : List ℕ). AreHitsOf shot.setup (state_in shot) k (trajectory_cleared shot.setup course clearance eff) hits) (sym e)
          (subst (λ (u : Trajectory). AreHitsOf shot.setup (state_in shot) card.call u hits) two all)
accept_hits shot slot who call old card t hits c sound probed at_is own left path flies all = absurd (cc)

pub first_of_remade : (shot : Shot) (slot who : ℕ) (old : Flight) (card : Record) (t : Trajectory) (c : Command) (first : Option Hit) → IsSoundShot shot
    → flight_at shot slot ≡ Some old → old.card.call ≡ card.call → IsLeftByEntry shot.setup (state_in shot) who c card
    → card.path ≡ path_after shot.setup who (filled shot.now c) old.card.path → t ≡ trajectory_of shot.setup card.path
    → (is_probed c ≡ true → IsFirstOf shot.setup (state_in shot) card.call t first) → (is_probed c ≡ false → first ≡ None)
    → IsFirstHit shot.setup (state_in shot) c first
first_of_remade shot slot who old card t c first sound at_is own left path flies here none = by_test (is_probed c) refl where
  by_test : (b : Bool) → is_probed c ≡ b → IsFirstHit shot.setup (state_in shot) c first
  by_test true probed =
      let one = here probed in
      subst (IsFirstHit shot.setup (state_in shot) c) (sym one.first_is)
      (first_of_hits shot.setup (state_in shot) c one.hits (accept_hits shot slot who card.call old card t one.hits c sound probed at_is own left path flies one.all))
  by_test false unprobed = no_first shot.setup (state_in shot) c first unprobed (none unprobed)

-- the same of the flight as it is put there
pub first_of_put : (shot : Shot) (slot who : ℕ) (old f : Flight) (c : Command) (first : Option Hit) → IsSoundShot shot → flight_at shot slot ≡ Some old
    → old.card.call ≡ f.card.call → Alters c → IsLeftByEntry shot.setup (state_in shot) who c f.card → IsSoundEntry shot.setup f
    → (is_probed c ≡ true → IsFirstOf shot.setup (state_in shot) f.card.call (arc_value f.actual.strand) first) → (is_probed c ≡ false → first ≡ None)
    → IsFirstHit shot.setup (state_in shot) c first
first_of_put shot slot who old f c first sound at_is own alters left entry here none =
    let by = altered_by shot slot old who c f.card sound at_is own alters left in
    let flies : arc_value f.actual.strand ≡ trajectory_of shot.setup f.card.path = let e = own_actual shot.setup f entry in cc in
    first_of_remade shot slot who old f.card (arc_value f.actual.strand) c first sound at_is own left by.path flies here none

-- two facts of one answer
pub both_ok : {X E : Type 0} (r : Result X E) (P Q R : X → Type 0) → ((x : X) → P x → Q x → R x) → IfOk r P → IfOk r Q → IfOk r R
both_ok (Ok x) P Q R f p q = f x p q
both_ok (Err e) P Q R f p q = tt

pub none_is : {X : Type 0} (x : Option X) → is_some x ≡ false → x ≡ None
none_is None e = refl
none_is (Some x) e = absurd (cc)

-- with its first hit, what adds an entry or stops enters its command or stops
pub enters_or_stops : {E : Type 0} (before after : Holding) (who : ℕ) (c : Command) (e : Entry) (r : Result (Option Hit) E) → e ≡ entry_now before.snapshot who c
    → AddsOrStops before after e r → IfOk r (IsFirstHit before.snapshot.setup (state_in before.snapshot) c) → EntersOrStops before after who c r
enters_or_stops before after who c e (Ok first) is added hits =
    record { story = added ∙ ap (λ (x : Entry). story_after (held_story before) x first) is; hits = hits }
enters_or_stops before after who c e (Err err) is added hits = added
