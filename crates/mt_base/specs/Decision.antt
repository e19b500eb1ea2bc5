-- What is decided of a command: its first refusal, or its entry.
use Rattle.std.specs.Prelude.{◌≡◌, ℕ, pos, List, [], ◌∷◌, ◌++◌, length, map, Bool, not, nat_eq, nat_le, nat_lt, ◌||◌, true, int_lt, Option, Some, None, option_and_then, false, is_some, unwrap_or, Result, Ok, Err, ◌⊎◌}
use Rattle.std.specs.Option.{option_map_or}
use Rattle.mt_base.specs.declared.command.Command.{Command}
use Rattle.mt_base.specs.declared.command.Command.TheVariants.{Plan, External, Drop, Tick, Renew, Clear, Accept, Tentative, Withdraw, Commit}
use Rattle.mt_base.specs.declared.command.Command.TheVariants as commands
use Rattle.mt_base.specs.declared.command.Entry.{Entry}
use Rattle.mt_base.specs.declared.command.Refusal.{Refusal}
use Rattle.mt_base.specs.declared.command.Refusal.TheVariants.{HeldCall, UnknownCall, UnknownType, UnknownFix, RouteShort, RouteLong, RouteTwice, Ceiling, Full, HistoryFull, Backward, Stale, Fixed, Old, Future, NotDue, TentativeHeld, NoTentative, NotOwner}
use Rattle.mt_base.specs.declared.flight.Path.TheVariants.{Planned}
use Rattle.mt_base.specs.declared.flight.Mark.{Mark}
use Rattle.mt_base.specs.declared.flight.Record.{Record}
use Rattle.mt_base.specs.declared.flight.Report.{Report}
use Rattle.mt_base.specs.declared.hit.Hit.{Hit}
use Rattle.mt_base.specs.declared.route.RouteNo.{RouteNo}
use Rattle.mt_base.specs.declared.route.RouteNo.TheVariants as route_no
use Rattle.mt_base.specs.declared.rules.Rules.{Rules}
use Rattle.mt_base.specs.Checks.{judged}
use Rattle.mt_base.specs.Cleared.{aim_checks, is_below_ceiling}
use Rattle.mt_base.specs.Picture.{State, flight_of, trajectory_of}
use Rattle.mt_base.specs.WhatIf.{AreHits, course_in, mark_in, what_if_checks}
use Rattle.mt_base.specs.Tables.{Setup, Tables, bands_of, fix_checks, length_checks}

-- what a decision looks at: the moment, counts, the flight named
pub record Look : Type 0 where
  pub now : ℕ
  pub held : ℕ
  pub entries : ℕ
  pub flight : Option Record

-- the callsign that a command names
abbrev pub call_of : Command → Option (List ℕ)
call_of (Plan call kind route at from level rvsm) = Some call
call_of (External call straight) = Some call
call_of (Drop call) = Some call
call_of (Tick now) = None
call_of (commands.Report call report) = Some call
call_of (Renew call) = Some call
call_of (Clear call clearance eff) = Some call
call_of (Accept call clearance eff probed) = Some call
call_of (Tentative call clearance eff) = Some call
call_of (Withdraw call force) = Some call
call_of (Commit call) = Some call

-- what the decision of a command looks at in a state
abbrev pub look_at : State → Command → Look
look_at s command = record {
  now = s.now;
  held = length s.records;
  entries = s.version;
  flight = option_and_then (flight_of s.records) (call_of command);
}

-- `has_room`, `has_history`: there is room for one more flight, and for one more entry
abbrev pub has_room : Rules → Look → Bool
has_room rules look = int_lt (pos look.held) rules.flights

abbrev pub has_history : Rules → Look → Bool
has_history rules look = int_lt (pos look.entries) rules.history

-- a route's fault as the refusal of a plan
abbrev pub refusal_of : RouteNo → Refusal
refusal_of (route_no.UnknownFix name) = UnknownFix name
refusal_of route_no.Short = RouteShort
refusal_of route_no.Long = RouteLong
refusal_of route_no.Twice = RouteTwice

-- what is checked of a route: each name, how many, no two neighbours equal
abbrev pub route_checks : Tables → List (List ℕ) → List (Refusal × Bool)
route_checks tables route = map (λ c. (refusal_of c.0, c.1)) (fix_checks tables route ++ length_checks route)

-- a report is later than the last one
abbrev pub is_later : Option Report → ℕ → Bool
is_later last at = option_map_or (λ (report : Report). nat_lt report.at at) last true

-- `owner_of`, `is_owned`: who owns a tentative clearance; whether it is that actor's
abbrev pub owner_of : Option Mark → ℕ
owner_of mark = option_map_or (λ (m : Mark). m.owner) mark 0

abbrev pub is_owned : ℕ → Option Mark → Bool
is_owned who mark = option_map_or (λ (m : Mark). nat_eq m.owner who) mark false

-- what is checked of a command, in order
abbrev pub checks : Setup → Look → ℕ → Command → List (Refusal × Bool)
checks setup look who (Plan call kind route at from level rvsm) =
    (HeldCall, not (is_some look.flight)) ∷
    (UnknownType kind, is_some (bands_of setup.tables kind)) ∷
    (route_checks setup.tables route ++
    (Ceiling, is_below_ceiling setup.tables kind from) ∷
    (Ceiling, is_below_ceiling setup.tables kind level) ∷
    (Full, has_room setup.rules look) ∷
    (HistoryFull, has_history setup.rules look) ∷ [])
checks setup look who (External call straight) =
    (HeldCall, not (is_some look.flight)) ∷ (Full, has_room setup.rules look) ∷ (HistoryFull, has_history setup.rules look) ∷ []
checks setup look who (Drop call) = (UnknownCall call, is_some look.flight) ∷ (HistoryFull, has_history setup.rules look) ∷ []
checks setup look who (Tick now) = (Backward, nat_lt look.now now) ∷ (HistoryFull, has_history setup.rules look) ∷ []
checks setup look who (Clear call clearance eff) =
    what_if_checks setup look.now look.flight call clearance (unwrap_or eff look.now) ++ (HistoryFull, has_history setup.rules look) ∷ []
checks setup look who (Accept call clearance eff probed) =
    what_if_checks setup look.now look.flight call clearance eff ++ (HistoryFull, has_history setup.rules look) ∷ []
checks setup look who (commands.Report call report) =
    (UnknownCall call, is_some look.flight) ∷
    (Fixed, is_some (course_in look.flight)) ∷
    (Old, option_map_or (λ course. is_later course.last report.at) (course_in look.flight) true) ∷
    (Future, nat_le report.at look.now) ∷
    (HistoryFull, has_history setup.rules look) ∷ []
checks setup look who (Renew call) =
    (UnknownCall call, is_some look.flight) ∷
    (Fixed, is_some (course_in look.flight)) ∷
    (NotDue, option_map_or (λ course. course.due) (course_in look.flight) false) ∷
    (HistoryFull, has_history setup.rules look) ∷ []
checks setup look who (Tentative call clearance eff) =
    (UnknownCall call, is_some look.flight) ∷
    (Fixed, is_some (course_in look.flight)) ∷
    (option_map_or (λ course. aim_checks setup.tables course (trajectory_of setup (Planned course)) clearance (unwrap_or eff look.now))
    (course_in look.flight) [] ++
    (TentativeHeld (owner_of (mark_in look.flight)), not (is_some (mark_in look.flight))) ∷
    (Future, nat_le (unwrap_or eff look.now) look.now) ∷
    (HistoryFull, has_history setup.rules look) ∷ [])
checks setup look who (Withdraw call force) =
    (UnknownCall call, is_some look.flight) ∷
    (NoTentative, is_some (mark_in look.flight)) ∷
    (NotOwner, force || is_owned who (mark_in look.flight)) ∷
    (HistoryFull, has_history setup.rules look) ∷ []
checks setup look who (Commit call) =
    (UnknownCall call, is_some look.flight) ∷ (NoTentative, is_some (mark_in look.flight)) ∷ (HistoryFull, has_history setup.rules look) ∷ []

-- a command with its effective second filled in
abbrev pub filled : ℕ → Command → Command
filled now (Clear call clearance eff) = Clear call clearance (Some (unwrap_or eff now))
filled now (Tentative call clearance eff) = Tentative call clearance (Some (unwrap_or eff now))
filled now command = command

-- a command's first refusal, staleness aside, or its entry
abbrev pub decision_of : Setup → State → ℕ → Command → Result Entry Refusal
decision_of setup s who command = judged (checks setup (look_at s command) who command) (record { who = who; command = filled s.now command })

-- the hits of an accepted probe in the state, none for any other command
abbrev pub HasHits : Setup → State → Command → List Hit → Type 0
HasHits setup s (Accept call clearance eff probed) hits = AreHits setup s call clearance eff hits
HasHits setup s command hits = hits ≡ []

-- a probed clearance, otherwise allowed, has hits by now. The refusal carries the first of them.
pub record IsStale (setup : Setup) (s : State) (who : ℕ) (command : Command) (refusal : Refusal) : Type 0 where
  pub entry : Entry
  pub passed : decision_of setup s who command ≡ Ok entry
  pub first : Hit
  pub others : List Hit
  pub hits : HasHits setup s command (first ∷ others)
  pub refusal_is : refusal ≡ Stale first

-- what is decided of a command: its first refusal, staleness last, or its entry. It is stale where it was probed and is no longer free.
abbrev pub IsDecided : Setup → State → ℕ → Command → Result Entry Refusal → Type 0
IsDecided setup s who command (Ok entry) = (decision_of setup s who command ≡ Ok entry) × HasHits setup s command []
IsDecided setup s who command (Err refusal) = (decision_of setup s who command ≡ Err refusal) ⊎ IsStale setup s who command refusal
