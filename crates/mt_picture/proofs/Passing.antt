-- What a command that passes its checks says of the state.
use Rattle.std.proofs.Common.{◌≡◌, Bool, true, ℕ, ℤ, pos, ◌≤ℤ◌, ◌<◌, ◌^◌, List, [], ◌∷◌, ◌++◌, Option, Some, None, Ok, IsOk, is_some, length, option_map, refl, ap, subst, arith}
use Rattle.std.proofs.lemmas.Int.{ints}
use Rattle.std.specs.List.{AllByRecursion}
use Rattle.std.specs.Option.{option_map_or}
use Rattle.std.specs.Prelude.{int_lt, option_and_then, unwrap_or}
use Rattle.std.proofs.lemmas.Bool.Decides.{nat_tests}
use Rattle.mt_base.specs.declared.command.Command.{Command}
use Rattle.mt_base.specs.declared.command.Command.TheVariants.{Accept, Clear, Commit, Drop, External, Plan, Renew, Tentative, Tick, Withdraw}
use Rattle.mt_base.specs.declared.command.Command.TheVariants as commands
use Rattle.mt_base.specs.declared.command.Refusal.{Refusal}
use Rattle.mt_base.specs.declared.flight.Path.TheVariants.{Planned}
use Rattle.mt_base.specs.declared.flight.Record.{Record}
use Rattle.mt_base.specs.Bounds.{AreWithinBounds}
use Rattle.mt_base.specs.Checks.{judged}
use Rattle.mt_base.specs.Cleared.{aim_checks}
use Rattle.mt_base.specs.Decision.{call_of, checks, look_at, route_checks}
use Rattle.mt_base.specs.Picture.{State, flight_of, trajectory_of}
use Rattle.mt_base.specs.Tables.{Setup}
use Rattle.mt_base.specs.WhatIf.{course_in, what_if_checks}
use Rattle.mt_base.proofs.CheckLemmas.{all_pass, all_passed}
use Rattle.mt_change.proofs.Passed.{ok_is}
use Rattle.mt_probe.specs.declared.flight.Flight.{Flight}
use Rattle.mt_probe.specs.Prepared.{IsSlotNamed, judged_aside, roomy}
use Rattle.mt_probe.specs.Shot.{Shot, flight_at}
use Rattle.mt_probe.specs.Shot.{state_in_shot as state_in}
use Rattle.mt_probe.proofs.Left.{found_call, planned_there}
use Rattle.mt_base.proofs.Cases.{is_none, room_for_one}
use Rattle.mt_picture.specs.Private.Effects.{IsOfFlight}
use Rattle.mt_picture.specs.Stamps.{IsFiling}

abbrev Holds : Refusal × Bool → Type 0
Holds c = c.1 ≡ true

-- the checks that pass of a list in two parts
front_of : (xs ys : List (Refusal × Bool)) → AllByRecursion Holds (xs ++ ys) → AllByRecursion Holds xs
front_of [] ys all = tt
front_of (x ∷ xs) ys all = (all.0, front_of xs ys all.1)

end_of : (xs ys : List (Refusal × Bool)) → AllByRecursion Holds (xs ++ ys) → AllByRecursion Holds ys
end_of [] ys all = all
end_of (x ∷ xs) ys all = end_of xs ys all.1

both_of : (xs ys : List (Refusal × Bool)) → AllByRecursion Holds xs → AllByRecursion Holds ys → AllByRecursion Holds (xs ++ ys)
both_of [] ys one two = two
both_of (x ∷ xs) ys one two = (one.0, both_of xs ys one.1 two)

few : (n : ℕ) (h : ℤ) → int_lt (pos n) h ≡ true → h ≤ℤ pos 4194304 → n < 2 ^ 40
few n h below most = grind (arith, ints)

pub planned_some : (at : Option Record) → is_some (course_in at) ≡ true → is_some at ≡ true
planned_some None e = absurd (cc)
planned_some (Some r) e = refl

module _ (setup : Setup) (s : State) (who : ℕ) (rules : AreWithinBounds setup.rules) where
  abbrev Pass : Command → Type 0
  Pass c = judged (checks setup (look_at s c) who c) (tt {0}) ≡ Ok (tt {0})

  abbrev pub All : Command → Type 0
  All c = AllByRecursion Holds (checks setup (look_at s c) who c)

  tests : (c : Command) → Pass c → All c
  tests c passed = all_passed (checks setup (look_at s c) who c) (tt {0}) (let ok : IsOk (judged (checks setup (look_at s c) who c) (tt {0})) = rw passed refl in ok)

  entry_room : int_lt (pos 0) setup.rules.history ≡ true
  entry_room = room_for_one setup.rules.history rules.history.least

  flight_room : int_lt (pos 0) setup.rules.flights ≡ true
  flight_room = room_for_one setup.rules.flights rules.flights.least

  -- and that there is room for the entry
  pub has_entry : (c : Command) → All c → int_lt (pos s.version) setup.rules.history ≡ true
  has_entry (Plan call kind route at from level rvsm) all = (end_of (route_checks setup.tables route) _ all.1.1).1.1.1.0
  has_entry (External call straight) all = all.1.1.0
  has_entry (Drop call) all = all.1.0
  has_entry (commands.Report call report) all = all.1.1.1.1.0
  has_entry (Tick next) all = all.1.0
  has_entry (Renew call) all = all.1.1.1.0
  has_entry (Clear call clearance eff) all = (end_of (what_if_checks setup s.now (flight_of s.records call) call clearance (unwrap_or eff s.now)) _ all).0
  has_entry (Accept call clearance eff probed) all = (end_of (what_if_checks setup s.now (flight_of s.records call) call clearance eff) _ all).0
  has_entry (Tentative call clearance eff) all =
      (end_of (option_map_or (λ course. aim_checks setup.tables course (trajectory_of setup (Planned course)) clearance (unwrap_or eff s.now))
      (course_in (flight_of s.records call)) []) _ all.1.1).1.1.0
  has_entry (Withdraw call force) all = all.1.1.1.0
  has_entry (Commit call) all = all.1.1.0

  pub few_entries : (c : Command) → Pass c → s.version < 2 ^ 40
  few_entries c passed = few s.version setup.rules.history (has_entry c (tests c passed)) rules.history.most

  -- the same with room aside
  abbrev Aside : Command → Type 0
  Aside c = AllByRecursion Holds (checks setup (roomy s c) who c)

  aside_all : (c : Command) → All c → Aside c
  aside_all (Plan call kind route at from level rvsm) all =
      let e = end_of (route_checks setup.tables route) _ all.1.1 in
      (all.0, (all.1.0, both_of (route_checks setup.tables route) _ (front_of (route_checks setup.tables route) _ all.1.1) (e.0, (e.1.0, (flight_room, (entry_room, tt))))))
  aside_all (External call straight) all = (all.0, (flight_room, (entry_room, tt)))
  aside_all (Drop call) all = (all.0, (entry_room, tt))
  aside_all (commands.Report call report) all = (all.0, (all.1.0, (all.1.1.0, (all.1.1.1.0, (entry_room, tt)))))
  aside_all (Tick next) all = (all.0, (entry_room, tt))
  aside_all (Renew call) all = (all.0, (all.1.0, (all.1.1.0, (entry_room, tt))))
  aside_all (Clear call clearance eff) all =
      let cs = what_if_checks setup s.now (flight_of s.records call) call clearance (unwrap_or eff s.now) in
      both_of cs _ (front_of cs _ all) (entry_room, tt)
  aside_all (Accept call clearance eff probed) all =
      let cs = what_if_checks setup s.now (flight_of s.records call) call clearance eff in
      both_of cs _ (front_of cs _ all) (entry_room, tt)
  aside_all (Tentative call clearance eff) all =
      let cs : List (Refusal × Bool) = option_map_or (λ course. aim_checks setup.tables course (trajectory_of setup (Planned course)) clearance (unwrap_or eff s.now))
      (course_in (flight_of s.records call)) [] in
      let e = end_of cs _ all.1.1 in
      (all.0, (all.1.0, both_of cs _ (front_of cs _ all.1.1) (e.0, (e.1.0, (entry_room, tt)))))
  aside_all (Withdraw call force) all = (all.0, (all.1.0, (all.1.1.0, (entry_room, tt))))
  aside_all (Commit call) all = (all.0, (all.1.0, (entry_room, tt)))

  pub aside_passes : (c : Command) → Pass c → judged_aside setup s who c ≡ Ok (tt {0})
  aside_passes c passed = ok_is (judged_aside setup s who c) (all_pass (checks setup (roomy s c) who c) (tt {0}) (aside_all c (tests c passed)))

  -- that there is room for one more flight, where one is filed
  has_seat : (c : Command) → IsFiling c → All c → int_lt (pos (length s.records)) setup.rules.flights ≡ true
  has_seat (Plan call kind route at from level rvsm) filing all = (end_of (route_checks setup.tables route) _ all.1.1).1.1.0
  has_seat (External call straight) filing all = all.1.0
  has_seat c filing all = absurd filing

  pub seat_passed : (c : Command) → IsFiling c → Pass c → int_lt (pos (length s.records)) setup.rules.flights ≡ true
  seat_passed c filing passed = has_seat c filing (tests c passed)

  pub drop_there : (call : List ℕ) → Pass (Drop call) → is_some (flight_of s.records call) ≡ true
  drop_there call passed = (tests (Drop call) passed).0

  -- the flight that a command names is there, where it has to be; and where one is filed, none has its callsign
  pub flight_there : (c : Command) → IsOfFlight c → Pass c → is_some (option_and_then (flight_of s.records) (call_of c)) ≡ true
  flight_there (Plan call kind route at from level rvsm) of passed = absurd of
  flight_there (External call straight) of passed = absurd of
  flight_there (Tick now) of passed = absurd of
  flight_there (Drop call) of passed = drop_there call passed
  flight_there c of passed = planned_some (option_and_then (flight_of s.records) (call_of c)) (planned_there setup s who c tt (aside_passes c passed))

  pub none_filed : (c : Command) → IsFiling c → Pass c → option_and_then (flight_of s.records) (call_of c) ≡ None
  none_filed (Plan call kind route at from level rvsm) filing passed =
      is_none (flight_of s.records call) (tests (Plan call kind route at from level rvsm) passed).0
  none_filed (External call straight) filing passed = is_none (flight_of s.records call) (tests (External call straight) passed).0
  none_filed c filing passed = absurd filing

  pub tick_later : (now : ℕ) → Pass (Tick now) → s.now < now
  tick_later now passed = let t = (tests (Tick now) passed).0 in grind (arith, nat_tests)

-- the flight in the slot that a command names has the callsign
at_slot : (rs : List Record) (call : List ℕ) (at : Option Flight) → is_some at ≡ true → flight_of rs call ≡ option_map (λ (f : Flight). f.card) at
    → option_map (λ (f : Flight). f.card.call) at ≡ Some call
at_slot rs call None some is = absurd (cc)
at_slot rs call (Some f) some is = ap Some (found_call call rs f.card is)

pub slot_there : (shot : Shot) (c : Command) (slot : ℕ) (call : List ℕ) → IsSlotNamed shot c (Some slot) → call_of c ≡ Some call
    → option_map (λ (f : Flight). f.card.call) (flight_at shot slot) ≡ Some call
slot_there shot c slot call named is =
    at_slot (state_in shot).records call (flight_at shot slot) named.there
    (subst (λ (o : Option (List ℕ)). option_and_then (flight_of (state_in shot).records) o ≡ option_map (λ (f : Flight). f.card) (flight_at shot slot)) is
    named.flight_is)

-- a flight that is found is at its place
pub found_place : (rs : List Record) (call : List ℕ) (at : Option Flight) → is_some (flight_of rs call) ≡ true → flight_of rs call ≡ option_map (λ (f : Flight). f.card) at
    → option_map (λ (f : Flight). f.card.call) at ≡ Some call
found_place rs call None some is = absurd (let e = ap is_some is in cc)
found_place rs call (Some f) some is = ap Some (found_call call rs f.card is)

pub full_not : (n m : ℕ) (h : ℤ) → pos m ≡ h → int_lt (pos n) h ≡ true → n ≡ m → ⊥
full_not n m h is below same = grind (arith, ints)
