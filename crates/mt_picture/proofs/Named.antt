-- The version of the last entry that names a flight tells whether one after a version does.
use Rattle.std.proofs.Common.{◌≡◌, ℕ, ◌-◌, ◌<◌, ◌≤◌, List, Option, Some, None, is_some, true, false, nat_lt, option_map, refl, sym, subst, arith}
use Rattle.std.proofs.lemmas.Bool.Decides.{nat_tests}
use Rattle.mt_base.specs.declared.command.Entry.{Entry}
use Rattle.mt_base.specs.declared.flight.Record.{Record}
use Rattle.mt_base.specs.Effect.{state_of}
use Rattle.mt_base.specs.Picture.{State, flight_of}
use Rattle.mt_probe.specs.declared.flight.Flight.{Flight}
use Rattle.mt_probe.specs.Shot.{Shot, flight_at, records_in}
use Rattle.mt_probe.specs.Shot.{state_in_shot as state_in}
use Rattle.mt_probe.proofs.Left.{found_call}
use Rattle.mt_picture.specs.Stamps.{AreNamedLast, WasNamedLastAt}
use Rattle.mt_picture.specs.Story.{IsNamedAfter, Story}

-- ---- of the last entry that names a callsign

pub after_last : (h : List Entry) (call : List ℕ) (last version : ℕ) → WasNamedLastAt h call last → version < last → IsNamedAfter h version call
after_last h call last version was behind =
    let some = was.some in
    let it = was.names (last - 1) (omega (arith, some)) in
    record { place = last - 1; entry = was.entry; later = omega (arith, some, behind); is = it.0; names = it.1 }

pub none_after : (h : List Entry) (call : List ℕ) (last version : ℕ) → WasNamedLastAt h call last → last ≤ version → ¬ IsNamedAfter h version call
none_after h call last version was by_then named =
    let later = named.later in
    was.last (record { place = named.place; entry = named.entry; later = omega (arith, later, by_then); is = named.is; names = named.names })

-- ---- of the flight that was found

-- the version that the found place has is that of the last entry that names the callsign
pub last_found : (shot : Shot) (h : List Entry) (slot last : ℕ) (call : List ℕ) → AreNamedLast h shot.slots
    → flight_of (records_in shot.slots) call ≡ option_map (λ (f : Flight). f.card) (flight_at shot slot)
    → Some last ≡ option_map (λ (f : Flight). f.named) (flight_at shot slot) → WasNamedLastAt h call last
last_found shot h slot last call named found last_is = by_flight (flight_at shot slot) refl found last_is where
  by_flight : (at : Option Flight) → flight_at shot slot ≡ at → flight_of (records_in shot.slots) call ≡ option_map (λ (f : Flight). f.card) at
      → Some last ≡ option_map (λ (f : Flight). f.named) at → WasNamedLastAt h call last
  by_flight None at_is f l = absurd (cc)
  by_flight (Some f) at_is found_is l =
      let own = found_call call (records_in shot.slots) f.card found_is in
      let same : last ≡ f.named = cc in
      subst (WasNamedLastAt h call) (sym same) (subst (λ (c : List ℕ). WasNamedLastAt h c f.named) own (named slot f at_is))

-- and it is there in the state of the history
pub there_now : (shot : Shot) (story : Story) (slot : ℕ) (call : List ℕ) → state_in shot ≡ state_of story.setup story.history → is_some (flight_at shot slot) ≡ true
    → flight_of (records_in shot.slots) call ≡ option_map (λ (f : Flight). f.card) (flight_at shot slot)
    → is_some (flight_of (state_of story.setup story.history).records call) ≡ true
there_now shot story slot call stands some found =
    let here : is_some (flight_of (records_in shot.slots) call) ≡ true = rw found (by_flight (flight_at shot slot) some) in
    subst (λ (s : State). is_some (flight_of s.records call) ≡ true) stands here where
      by_flight : (at : Option Flight) → is_some at ≡ true → is_some (option_map (λ (f : Flight). f.card) at) ≡ true
      by_flight None is = absurd (cc)
      by_flight (Some f) is = refl

-- where none is found there is none
pub none_now : (shot : Shot) (story : Story) (call : List ℕ) → state_in shot ≡ state_of story.setup story.history
    → flight_of (records_in shot.slots) call ≡ None → is_some (flight_of (state_of story.setup story.history).records call) ≡ true → ⊥
none_now shot story call stands none some =
    let here : is_some (flight_of (records_in shot.slots) call) ≡ true =
    subst (λ (s : State). is_some (flight_of s.records call) ≡ true) (sym stands) some in
    by_found (flight_of (records_in shot.slots) call) none here where
      by_found : (o : Option Record) → o ≡ None → is_some o ≡ true → ⊥
      by_found None is held = absurd (cc)
      by_found (Some r) is held = absurd (cc)

-- a flight that is there has such a version
pub some_named : (at : Option Flight) → is_some at ≡ true → None ≡ option_map (λ (f : Flight). f.named) at → ⊥
some_named None some is = absurd (cc)
some_named (Some f) some is = cc

-- ---- one number below another

pub below : (a b : ℕ) → nat_lt a b ≡ true → a < b
below a b is = grind (arith, nat_tests)

pub not_below : (a b : ℕ) → nat_lt a b ≡ false → b ≤ a
not_below a b is = grind (arith, nat_tests)
