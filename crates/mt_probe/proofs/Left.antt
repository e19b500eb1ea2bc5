-- What the entry of a command leaves of the flight that it names.
use Rattle.std.proofs.Common.{◌≡◌, ◌≤◌, Bool, true, false, ℕ, pos, List, [], ◌∷◌, ◌++◌, Option, Some, None, Ok, IsOk, map, refl, sym, ◌∙◌, ap, subst, if◌then◌else◌, arith}
use Rattle.std.proofs.lemmas.List.Folds.{find-append}
use Rattle.std.proofs.lemmas.Slice.Eq.{bytes_eq-Decides}
use Rattle.std.specs.List.{AllByRecursion}
use Rattle.std.specs.Prelude.{int_lt, is_some, option_and_then, option_map}
use Rattle.std.specs.Str.{bytes_eq}
use Rattle.mt_base.specs.declared.clearance.Clearance.{Clearance}
use Rattle.mt_base.specs.declared.command.Command.{Command}
use Rattle.mt_base.specs.declared.command.Command.TheVariants.{Accept, Clear, Drop, External, Plan, Tentative, Tick, Withdraw}
use Rattle.mt_base.specs.declared.command.Command.TheVariants as commands
use Rattle.mt_base.specs.declared.command.Refusal.TheVariants.{HistoryFull}
use Rattle.mt_base.specs.declared.flight.Course.{Course}
use Rattle.mt_base.specs.declared.flight.Path.{Path}
use Rattle.mt_base.specs.declared.flight.Path.TheVariants.{Outer, Planned}
use Rattle.mt_base.specs.declared.flight.Record.{Record}
use Rattle.mt_base.specs.declared.flight.Straight.{Straight}
use Rattle.mt_base.specs.Bounds.{AreWithinBounds, IsBoundedStretch, IsInPlane, IsSoundFlight}
use Rattle.mt_base.specs.Checks.{judged, next}
use Rattle.mt_base.specs.Decision.{call_of, checks, filled, route_checks}
use Rattle.mt_base.specs.Effect.{changed, course_of, first_of_points, records_after, verdict_in, verdict_on}
use Rattle.mt_base.specs.Picture.{NamedTrajectory, State, flight_of}
use Rattle.mt_base.specs.Predictor.{points_of}
use Rattle.mt_base.specs.Tables.{Setup}
use Rattle.mt_base.specs.Trajectory.{Trajectory}
use Rattle.mt_base.specs.WhatIf.{course_in, course_on, what_if_checks}
use Rattle.mt_base.proofs.CheckLemmas.{all_passed, judged-append, next-ok}
use Rattle.mt_predict.proofs.Refusing.{check-true}
use Rattle.mt_change.specs.Altered.{Alters, CanAlter, path_after, verdict_for}
use Rattle.mt_change.proofs.Alterations.{PassesOn, can_alter, planned, records_are}
use Rattle.mt_change.proofs.Filling.{filled_alters, filled_call, filled_passes, filled_twice}
use Rattle.mt_change.proofs.Passed.{halves}
use Rattle.mt_change.proofs.Plans.{sound_course}
use Rattle.mt_base.proofs.Cases.{is_none, room_for_one}
use Rattle.mt_probe.specs.Items.{WasTestedNear}
use Rattle.mt_probe.specs.Prepared.{IsLeftByEntry, MakesStrand, WasTestedFor, WereFew, judged_aside, kind_made, left_made, named_trajectory, path_made, roomy}
use Rattle.mt_probe.specs.Shot.{Shot, state_in_shot}

-- a flight that is found has the callsign
pub found_call : (call : List ℕ) (rs : List Record) (r : Record) → flight_of rs call ≡ Some r → r.call ≡ call
found_call call [] r is = cc
found_call call (q ∷ rs) r is = by_test (bytes_eq q.call call) refl (found_call call rs r) is where
  by_test : (b : Bool) → bytes_eq q.call call ≡ b → (flight_of rs call ≡ Some r → r.call ≡ call) → (if b then Some q else flight_of rs call) ≡ Some r → r.call ≡ call
  by_test true e rest is = let same : q ≡ r = cc in subst (λ (s : Record). s.call ≡ call) same ((bytes_eq-Decides q.call call).0 e)
  by_test false e rest is = rest is

-- a flight that is found by the callsign of a command has it
pub found_named : (rs : List Record) (o : Option (List ℕ)) (r : Record) → option_and_then (flight_of rs) o ≡ Some r → (o ≡ Some r.call) × (flight_of rs r.call ≡ Some r)
found_named rs None r is = absurd (cc)
found_named rs (Some call) r is =
    let own = found_call call rs r is in
    (ap Some (sym own), subst (λ (k : List ℕ). flight_of rs k ≡ Some r) (sym own) is)

-- the verdict on the report of a flight is that on the report that is entered
pub verdict_named : (setup : Setup) (s : State) (now : ℕ) (command : Command) (flight : Record) (course : Course)
    → option_and_then (flight_of s.records) (call_of command) ≡ Some flight → flight.path ≡ Planned course
    → verdict_for setup course (filled now command) ≡ verdict_in setup s command
verdict_named setup s now (commands.Report call report) flight course found plan =
    sym (ap (λ (o : Option Record). option_map (λ (d : Course). verdict_on setup d report) (course_in o)) found
    ∙ ap (λ (p : Path). option_map (λ (d : Course). verdict_on setup d report) (course_on p)) plan)
verdict_named setup s now (Clear call clearance eff) flight course found plan = refl
verdict_named setup s now (Tentative call clearance eff) flight course found plan = refl
verdict_named setup s now c flight course found plan = refl

-- the flight of a callsign among flights of which that one has another path
pub found_changed : (call : List ℕ) (change : Path → Path) (rs : List Record) (r : Record) → flight_of rs call ≡ Some r
    → flight_of (map (changed call change) rs) call ≡ Some (record { call = r.call; path = change r.path })
found_changed call change [] r is = absurd (cc)
found_changed call change (q ∷ rs) r is = by_test (bytes_eq q.call call) refl (found_changed call change rs r) is where
  by_test : (b : Bool) → bytes_eq q.call call ≡ b
      → (flight_of rs call ≡ Some r → flight_of (map (changed call change) rs) call ≡ Some (record { call = r.call; path = change r.path }))
      → (if b then Some q else flight_of rs call) ≡ Some r
      → (if b then Some (record { call = q.call; path = if b then change q.path else q.path }) else flight_of (map (changed call change) rs) call)
      ≡ Some (record { call = r.call; path = change r.path })
  by_test true e rest is = let same : q ≡ r = cc in ap (λ (s : Record). Some (record { call = s.call; path = change s.path })) same
  by_test false e rest is = rest is

-- ---- the checks

pub passes : (setup : Setup) (s : State) (who : ℕ) (command : Command) → judged_aside setup s who command ≡ Ok (tt {0})
    → PassesOn setup (roomy s command) who command
passes setup s who command passed =
    let ok : IsOk (judged_aside setup s who command) = rw passed refl in all_passed (checks setup (roomy s command) who command) (tt {0}) ok

-- a last check that passes
last_passes : {F : Type 0} (cs : List (F × Bool)) (e : F) (b : Bool) → b ≡ true → judged (cs ++ (e, b) ∷ []) (tt {0}) ≡ judged cs (tt {0})
last_passes cs e b passes = judged-append cs ((e, b) ∷ []) (tt {0}) ∙ rw (passes, check-true e) (next-ok (judged cs (tt {0})))

-- an acceptance is refused as a what-if, room aside
pub accept_is : (setup : Setup) (s : State) (who : ℕ) (call : List ℕ) (clearance : Clearance) (eff probed : ℕ) → AreWithinBounds setup.rules
    → judged_aside setup s who (Accept call clearance eff probed) ≡ judged (what_if_checks setup s.now (flight_of s.records call) call clearance eff) (tt {0})
accept_is setup s who call clearance eff probed rules =
    last_passes (what_if_checks setup s.now (flight_of s.records call) call clearance eff) HistoryFull (int_lt (pos 0) setup.rules.history)
    (room_for_one setup.rules.history rules.history.least)

-- ---- what is filed

-- a flight that is filed after others, of which none has its callsign, is the one of its callsign
pub filed_is : (call : List ℕ) (path : Path) (rs : List Record) → flight_of rs call ≡ None
    → flight_of (rs ++ (record { call = call; path = path }) ∷ []) call ≡ Some (record { call = call; path = path })
filed_is call path rs none =
    let own : bytes_eq call call ≡ true = (bytes_eq-Decides call call).1 refl in
    find-append (λ (flight : Record). bytes_eq flight.call call) rs ((record { call = call; path = path }) ∷ []) ∙ rw (none, own) refl

pub left_external : (setup : Setup) (s : State) (who : ℕ) (call : List ℕ) (straight : Straight) → judged_aside setup s who (External call straight) ≡ Ok (tt {0})
    → IsBoundedStretch straight → IsLeftByEntry setup s who (External call straight) (record { call = call; path = Outer straight })
left_external setup s who call straight passed bounded = record {
  passed = passed;
  card_is = filed_is call (Outer straight) s.records (is_none (flight_of s.records call) (passes setup s who (External call straight) passed).0);
  call_is = refl;
  sound = bounded;
  makes = refl;
}

pub left_plan : (setup : Setup) (s : State) (who : ℕ) (call kind : List ℕ) (route : List (List ℕ)) (at from level : ℕ) (rvsm : Bool) → AreWithinBounds setup.rules
    → judged_aside setup s who (Plan call kind route at from level rvsm) ≡ Ok (tt {0}) → at ≤ 10000000 → from ≤ 600 → level ≤ 600
    → IsInPlane (first_of_points (points_of setup.tables route)).x (first_of_points (points_of setup.tables route)).y
    → IsLeftByEntry setup s who (Plan call kind route at from level rvsm) (record { call = call; path = Planned (course_of setup kind route at from level rvsm) })
left_plan setup s who call kind route at from level rvsm rules passed at_early from_low level_low plane =
    let tests = passes setup s who (Plan call kind route at from level rvsm) passed in
    let split = halves (λ c. c.1 ≡ true) (route_checks setup.tables route) _ tests.1.1 in
    record {
      passed = passed;
      card_is = filed_is call (Planned (course_of setup kind route at from level rvsm)) s.records (is_none (flight_of s.records call) tests.0);
      call_is = refl;
      sound = sound_course setup kind route at from level rvsm rules at_early from_low level_low plane tests.1.0 split.0;
      makes = refl;
    }

-- ---- what is altered

-- the flight that a command alters is there and planned
pub planned_there : (setup : Setup) (s : State) (who : ℕ) (command : Command) → Alters command → judged_aside setup s who command ≡ Ok (tt {0})
    → is_some (course_in (option_and_then (flight_of s.records) (call_of command))) ≡ true
planned_there setup s who command alters passed = planned setup (roomy s command) who command alters (passes setup s who command passed)

made_by : (setup : Setup) (who : ℕ) (now : ℕ) (command : Command) (card : Record) (course : Course) → Alters command
    → card.path ≡ path_after setup who (filled now command) (Planned course) → is_some (path_made setup card (kind_made command)) ≡ true
made_by setup who now (Tentative call clearance eff) card course alters path = rw path refl
made_by setup who now c card course alters path = refl

pub left_altered : (setup : Setup) (s : State) (who : ℕ) (command : Command) (call : List ℕ) (flight : Record) (course : Course) (path : Path) → Alters command
    → judged_aside setup s who command ≡ Ok (tt {0}) → call_of command ≡ Some call → flight_of s.records call ≡ Some flight → flight.path ≡ Planned course
    → path ≡ path_after setup who (filled s.now command) (Planned course) → IsSoundFlight setup (record { call = flight.call; path = path })
    → IsLeftByEntry setup s who command (record { call = flight.call; path = path })
left_altered setup s who command call flight course path alters passed named_trajectory found plan path_is sound =
    let change = path_after setup who (filled s.now command) in
    let all = records_are setup who (filled s.now command) call s.records (filled_alters s.now command alters) (filled_call s.now command ∙ named_trajectory) in
    let own = found_call call s.records flight found in
    record {
      passed = passed;
      card_is = ap (option_and_then (flight_of (records_after setup who (filled s.now command) s.records))) named_trajectory
          ∙ ap (λ (rs : List Record). flight_of rs call) all
          ∙ found_changed call change s.records flight found
          ∙ ap (λ (p : Path). Some (record { call = flight.call; path = p })) (ap change plan ∙ sym path_is);
      call_is = named_trajectory ∙ ap Some (sym own);
      sound = sound;
      makes = made_by setup who s.now command (record { call = flight.call; path = path }) course alters path_is;
    }

-- ---- the tests

pub few_left : (shot : Shot) (who : ℕ) (command : Command) (card : Record) (old new : ℕ) → IsLeftByEntry shot.setup (state_in_shot shot) who command card
    → ((t : Trajectory) → path_made shot.setup card (kind_made command) ≡ Some t → WasTestedNear shot card.call t old new)
    → WasTestedFor shot who command old new
few_left shot who command card old new is tested = rw is.card_is (by_path (path_made shot.setup card (kind_made command)) refl is.makes) where
  by_path : (path : Option Trajectory) → path_made shot.setup card (kind_made command) ≡ path → is_some path ≡ true
      → WereFew shot (option_map (named_trajectory card (kind_made command)) path) old new
  by_path None made is = cc
  by_path (Some t) made is = tested t made

none_more : (shot : Shot) (mine : Option NamedTrajectory) (count : ℕ) → WereFew shot mine count count
none_more shot None count = refl
none_more shot (Some mine) count = λ items near. omega arith

pub few_quiet : (shot : Shot) (who : ℕ) (command : Command) (count : ℕ) → WasTestedFor shot who command count count
few_quiet shot who command count = none_more shot (left_made shot.setup (state_in_shot shot) who command) count

-- a command that makes a trajectory and files nothing alters a flight
pub alters_by : (command : Command) → MakesStrand command
    → ((call kind : List ℕ) (route : List (List ℕ)) (at from level : ℕ) (rvsm : Bool) → command ≡ Plan call kind route at from level rvsm → ⊥)
    → ((call : List ℕ) (straight : Straight) → command ≡ External call straight → ⊥) → Alters command
alters_by (Plan call kind route at from level rvsm) makes no_plan no_external = absurd (no_plan call kind route at from level rvsm refl)
alters_by (External call straight) makes no_plan no_external = absurd (no_external call straight refl)
alters_by (Drop call) makes no_plan no_external = absurd makes
alters_by (commands.Report call report) makes no_plan no_external = absurd makes
alters_by (Tick next) makes no_plan no_external = absurd makes
alters_by (Withdraw call force) makes no_plan no_external = absurd makes
alters_by c makes no_plan no_external = tt

pub planned_flight : (setup : Setup) (s : State) (who : ℕ) (command : Command) (call : List ℕ) → Alters command → judged_aside setup s who command ≡ Ok (tt {0})
    → call_of command ≡ Some call → is_some (course_in (flight_of s.records call)) ≡ true
planned_flight setup s who command call alters passed named_trajectory =
    subst (λ (o : Option (List ℕ)). is_some (course_in (option_and_then (flight_of s.records) o)) ≡ true) named_trajectory (planned_there setup s who command alters passed)

-- the entry of a command that passes can alter the flight
pub can_alter_filled : (setup : Setup) (s : State) (who : ℕ) (command : Command) (call : List ℕ) (flight : Record) (course : Course) → Alters command
    → judged_aside setup s who command ≡ Ok (tt {0}) → call_of command ≡ Some call → flight_of s.records call ≡ Some flight → flight.path ≡ Planned course
    → CanAlter setup s.now course (filled s.now command)
can_alter_filled setup s who command call flight course alters passed named_trajectory found plan =
    can_alter setup (roomy s command) who (filled s.now command) flight course (filled_alters s.now command alters)
    (subst (AllByRecursion (λ c. c.1 ≡ true)) (sym (filled_passes setup (roomy s command) who command)) (passes setup s who command passed))
    (sym (filled_twice s.now command)) (ap (option_and_then (flight_of s.records)) named_trajectory ∙ found) plan

-- a flight that is not there, or that is external, is not planned
pub not_there : (at : Option Record) → at ≡ None → is_some (course_in at) ≡ true → ⊥
not_there None none planned = cc
not_there (Some flight) none planned = cc

pub not_planned : (at : Option Record) (flight : Record) (stretch : Straight) → at ≡ Some flight → flight.path ≡ Outer stretch → is_some (course_in at) ≡ true → ⊥
not_planned at flight stretch found outer planned =
    let at_all : is_some (course_in (Some flight)) ≡ true = subst (λ (o : Option Record). is_some (course_in o) ≡ true) found planned in
    let none : is_some (course_on (Outer stretch)) ≡ true = subst (λ (p : Path). is_some (course_on p) ≡ true) outer at_all in
    cc
