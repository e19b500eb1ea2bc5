use Rattle.std.proofs.Common.{◌≡◌, ◌≢◌, ℕ, ℤ, ◌+◌, ◌<◌, ◌≤◌, pos, ◌≤ℤ◌, ◌<ℤ◌, Bool, true, not, List, [], ◌∷◌, ◌++◌, length, Ok, refl, sym, ap, arith, length-append}
use Rattle.std.proofs.lemmas.Int.{ints}
use Rattle.std.proofs.lemmas.List.Elements.{All-push, All-filter, All-from_recursion}
use Rattle.std.proofs.lemmas.List.Filters.{length-filter_both}
use Rattle.std.proofs.lemmas.List.Kept.{AllPairs-filter}
use Rattle.std.proofs.lemmas.List.Quantifiers.{all_pairs_push}
use Rattle.std.specs.List.{filter}
use Rattle.std.specs.Option.{option_map_or}
use Rattle.std.specs.Prelude.{int_lt, is_some, unwrap_or}
use Rattle.std.specs.Str.{bytes_eq}
use Rattle.mt_base.specs.declared.command.Command.{Command}
use Rattle.mt_base.specs.declared.command.Command.TheVariants.{Plan, External, Drop, Tick, Renew, Clear, Accept, Tentative, Withdraw, Commit}
use Rattle.mt_base.specs.declared.command.Command.TheVariants as commands
use Rattle.mt_base.specs.declared.command.Entry.{Entry}
use Rattle.mt_base.specs.declared.flight.Path.{Path}
use Rattle.mt_base.specs.declared.flight.Path.TheVariants.{Planned, Outer}
use Rattle.mt_base.specs.declared.flight.Straight.{Straight}
use Rattle.mt_base.specs.Bounds.{AreWithinBounds, IsBoundedCommand, IsInPlane, IsSoundFlight, IsSoundPath}
use Rattle.mt_base.specs.Decision.{IsDecided, checks, filled, look_at, route_checks}
use Rattle.mt_base.specs.Effect.{course_of, first_of_points}
use Rattle.mt_base.specs.Cleared.{aim_checks}
use Rattle.mt_base.specs.Picture.{State, flight_of, opening, trajectory_of}
use Rattle.mt_base.specs.Predictor.{points_of}
use Rattle.mt_base.specs.Tables.{Setup}
use Rattle.mt_base.specs.WhatIf.{course_in, what_if_checks}
use Rattle.mt_base.proofs.CheckLemmas.{all_passed, answer_is}
use Rattle.mt_change.specs.Sound.{IsSoundState, PassesChecks}
use Rattle.mt_change.proofs.Passed.{halves}
use Rattle.mt_change.proofs.Plans.{sound_course}
use Rattle.mt_machine.proofs.Found.{none_found}

-- the opening state is sound
pub opening_sound : (setup : Setup) → IsSoundState setup opening
opening_sound setup = record {
  sound = λ k d below. absurd (omega arith);
  own_calls = λ i j d before below. absurd (omega arith);
  few = omega arith;
  early = omega arith;
  counted = omega arith;
}

-- an entry that was decided passed its checks
pub passed : (setup : Setup) (s : State) (e : Entry) → IsDecided setup s e.who e.command (Ok e) → PassesChecks setup s e.who e.command
passed setup s e decided =
    let entry : Entry = record { who = e.who; command = filled s.now e.command } in
    all_passed (checks setup (look_at s e.command) e.who e.command) entry (rw decided.0 refl)

-- and it says from when it holds
pub filled_is : (setup : Setup) (s : State) (e : Entry) → IsDecided setup s e.who e.command (Ok e) → e.command ≡ filled s.now e.command
filled_is setup s e decided =
    let entry : Entry = record { who = e.who; command = filled s.now e.command } in
    sym (ap (λ (x : Entry). x.command) (answer_is (checks setup (look_at s e.command) e.who e.command) entry e decided.0))

-- a flight of a new callsign after the others
filed : (setup : Setup) (s : State) (call : List ℕ) (path : Path) → IsSoundState setup s → IsSoundPath setup path
    → not (is_some (flight_of s.records call)) ≡ true → int_lt (pos (length s.records)) setup.rules.flights ≡ true → setup.rules.flights ≤ℤ pos 1024
    → IsSoundState setup (record s { records = s.records ++ (record { call = call; path = path }) ∷ [] })
filed setup s call path sound within free room most = record {
  sound = All-push (IsSoundFlight setup) s.records (record { call = call; path = path }) sound.sound within;
  own_calls = all_pairs_push (λ f g. f.call ≢ g.call) s.records (record { call = call; path = path }) sound.own_calls
      (All-from_recursion (λ f. f.call ≢ call) s.records (none_found call s.records free));
  few = few_enough;
  early = sound.early;
  counted = sound.counted;
} where
  below : (n : ℕ) (m : ℤ) → int_lt (pos n) m ≡ true → m ≤ℤ pos 1024 → n < 1024
  below n m test most = grind (arith, ints)

  few_enough : length (s.records ++ (record { call = call; path = path }) ∷ []) ≤ 1024
  few_enough = let fewer = below (length s.records) setup.rules.flights room most in
      rw (length-append s.records ((record { call = call; path = path }) ∷ [])) (omega arith)

pub sound_plan : (setup : Setup) (s : State) (who : ℕ) (call kind : List ℕ) (route : List (List ℕ)) (at from level : ℕ) (rvsm : Bool) → AreWithinBounds setup.rules
    → IsSoundState setup s → PassesChecks setup s who (Plan call kind route at from level rvsm) → IsBoundedCommand (Plan call kind route at from level rvsm)
    → IsInPlane (first_of_points (points_of setup.tables route)).x (first_of_points (points_of setup.tables route)).y
    → IsSoundState setup (record s { records = s.records ++ (record { call = call; path = Planned (course_of setup kind route at from level rvsm) }) ∷ [] })
sound_plan setup s who call kind route at from level rvsm rules sound tests within plane =
    let split = halves (λ c. c.1 ≡ true) (route_checks setup.tables route) _ tests.1.1 in
    filed setup s call (Planned (course_of setup kind route at from level rvsm)) sound
    (sound_course setup kind route at from level rvsm rules within.0 within.1 within.2 plane tests.1.0 split.0) tests.0 split.1.1.1.0 rules.flights.most

pub sound_external : (setup : Setup) (s : State) (who : ℕ) (call : List ℕ) (stretch : Straight) → AreWithinBounds setup.rules → IsSoundState setup s
    → PassesChecks setup s who (External call stretch) → IsBoundedCommand (External call stretch)
    → IsSoundState setup (record s { records = s.records ++ (record { call = call; path = Outer stretch }) ∷ [] })
sound_external setup s who call stretch rules sound tests within = filed setup s call (Outer stretch) sound within tests.0 tests.1.0 rules.flights.most

pub sound_drop : (setup : Setup) (s : State) (call : List ℕ) → IsSoundState setup s
    → IsSoundState setup (record s { records = filter (λ f. not (bytes_eq f.call call)) s.records })
sound_drop setup s call sound = record {
  sound = All-filter (λ f. not (bytes_eq f.call call)) (IsSoundFlight setup) s.records sound.sound;
  own_calls = AllPairs-filter (λ f g. f.call ≢ g.call) (λ f. not (bytes_eq f.call call)) s.records sound.own_calls;
  few = let both = length-filter_both (λ f. not (bytes_eq f.call call)) (λ f. not (not (bytes_eq f.call call))) (λ f. refl) s.records in omega (arith, sound.few);
  early = sound.early;
  counted = sound.counted;
}

-- a command is entered only where there is room in the history
room_by : (setup : Setup) (s : State) (who : ℕ) (c : Command) → PassesChecks setup s who c → int_lt (pos s.version) setup.rules.history ≡ true
room_by setup s who (Plan call kind route at from level rvsm) tests = (halves (λ c. c.1 ≡ true) (route_checks setup.tables route) _ tests.1.1).1.1.1.1.0
room_by setup s who (External call stretch) tests = tests.1.1.0
room_by setup s who (Drop call) tests = tests.1.0
room_by setup s who (commands.Report call report) tests = tests.1.1.1.1.0
room_by setup s who (Tick now) tests = tests.1.0
room_by setup s who (Renew call) tests = tests.1.1.1.0
room_by setup s who (Clear call clearance eff) tests =
    (halves (λ c. c.1 ≡ true) (what_if_checks setup s.now (flight_of s.records call) call clearance (unwrap_or eff s.now)) _ tests).1.0
room_by setup s who (Accept call clearance eff probed) tests =
    (halves (λ c. c.1 ≡ true) (what_if_checks setup s.now (flight_of s.records call) call clearance eff) _ tests).1.0
room_by setup s who (Tentative call clearance eff) tests = (halves (λ c. c.1 ≡ true) (option_map_or
    (λ course. aim_checks setup.tables course (trajectory_of setup (Planned course)) clearance (unwrap_or eff s.now)) (course_in (flight_of s.records call)) []) _ tests.1.1).1.1.1.0
room_by setup s who (Withdraw call force) tests = tests.1.1.1.0
room_by setup s who (Commit call) tests = tests.1.1.0

-- with one entry more it is sound
pub sound_counted : (setup : Setup) (s after : State) (e : Entry) → IsDecided setup s e.who e.command (Ok e) → AreWithinBounds setup.rules
    → IsSoundState setup after → after.version ≡ s.version → IsSoundState setup (record after { version = after.version + 1 })
sound_counted setup s after e decided rules sound same = record {
  sound = sound.sound;
  own_calls = sound.own_calls;
  few = sound.few;
  early = sound.early;
  counted = let room = below (pos s.version) setup.rules.history (room_by setup s e.who e.command (passed setup s e decided)) rules.history.most in
      omega (arith, ints, same);
} where
  below : (v h : ℤ) → int_lt v h ≡ true → h ≤ℤ pos 4194304 → v <ℤ pos 4194304
  below v h test most = grind (arith, ints)
