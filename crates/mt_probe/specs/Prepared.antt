-- What is prepared for a command that makes a trajectory.
use Rattle.std.specs.Prelude.{◌≡◌, ◌≤◌, ℕ, List, Option, Some, None, IfSome, Result, Ok, Err, length, is_some, option_and_then, option_map, true, ⊤}
use Rattle.mt_base.specs.declared.command.Command.{Command}
use Rattle.mt_base.specs.declared.command.Command.TheVariants.{Plan, External, Renew, Clear, Accept, Tentative, Commit}
use Rattle.mt_base.specs.declared.command.Refusal.{Refusal}
use Rattle.mt_base.specs.declared.conflict.Kind.{Kind}
use Rattle.mt_base.specs.declared.conflict.Kind.TheVariants as kinds
use Rattle.mt_base.specs.declared.flight.Path.{Path}
use Rattle.mt_base.specs.declared.flight.Path.TheVariants.{Outer, Planned}
use Rattle.mt_base.specs.declared.flight.Record.{Record}
use Rattle.mt_base.specs.Bounds.{AreWithinBounds, IsSoundFlight}
use Rattle.mt_base.specs.Checks.{judged}
use Rattle.mt_base.specs.Decision.{Look, call_of, checks, filled, look_at}
use Rattle.mt_base.specs.Effect.{effect}
use Rattle.mt_base.specs.Picture.{HaveOwnCalls, NamedTrajectory, State, flight_of, trajectories, trajectory_marked, trajectory_of}
use Rattle.mt_base.specs.Tables.{Setup}
use Rattle.mt_base.specs.Trajectory.{Trajectory}
use Rattle.mt_board.specs.declared.no.No.{No}
use Rattle.mt_board.specs.declared.no.No.TheVariants as nos
use Rattle.mt_track.specs.Laid.{IsStrand}
use Rattle.mt_probe.specs.declared.finding.Found.{Found}
use Rattle.mt_probe.specs.Finds.{AreFinds, AreOneEach}
use Rattle.mt_probe.specs.Items.{WasTestedNear}
use Rattle.mt_probe.specs.Shot.{Shot, flight_at, state_in_shot}

-- what a decision looks at, with room to spare
abbrev pub roomy : State → Command → Look
roomy s command = record (look_at s command) { held = 0; entries = 0 }

-- a command's first refusal, want of room aside
abbrev pub judged_aside : Setup → State → ℕ → Command → Result ⊤ Refusal
judged_aside setup s who command = judged (checks setup (roomy s command) who command) (tt {0})

-- the named flight, as the command leaves it
abbrev pub flight_left : Setup → State → ℕ → Command → Option Record
flight_left setup s who command =
    option_and_then (flight_of (effect setup s (record { who = who; command = filled s.now command })).records) (call_of command)

-- `MakesStrand`, `kind_made`: the commands that make a trajectory, and its kind. A tentative clearance makes a tentative one.
abbrev pub MakesStrand : Command → Type 0
MakesStrand (Plan call kind route at from level rvsm) = ⊤
MakesStrand (External call straight) = ⊤
MakesStrand (Renew call) = ⊤
MakesStrand (Clear call clearance eff) = ⊤
MakesStrand (Accept call clearance eff probed) = ⊤
MakesStrand (Tentative call clearance eff) = ⊤
MakesStrand (Commit call) = ⊤
MakesStrand command = ⊥

abbrev pub kind_made : Command → Kind
kind_made (Tentative call clearance eff) = kinds.Tentative
kind_made command = kinds.Actual

-- `marked_of`, `path_made`, `named_trajectory`: a flight's trajectory of a kind, and its name
abbrev pub marked_of : Setup → Path → Option Trajectory
marked_of setup (Planned course) = option_map (trajectory_marked setup course) course.mark
marked_of setup (Outer stretch) = None

abbrev pub path_made : Setup → Record → Kind → Option Trajectory
path_made setup flight kinds.Actual = Some (trajectory_of setup flight.path)
path_made setup flight kinds.Tentative = marked_of setup flight.path

abbrev pub named_trajectory : Record → Kind → Trajectory → NamedTrajectory
named_trajectory flight kind path = record { call = flight.call; kind = kind; path = path }

-- a prepared command: flight left, trajectory made, finds
pub record Prepared : Type 0 where
  pub setup : Setup
  pub state : State
  pub who : ℕ
  pub command : Command
  pub card : Record
  pub strand : Trajectory
  pub finds : List Found

-- a preparation is right for its state: the flight and trajectory that the command leaves, exact finds. The command passes in its state, room aside.
pub record IsPrepared (p : Prepared) : Type 0 where
  pub passed : judged_aside p.setup p.state p.who p.command ≡ Ok (tt {0})
  pub card_is : flight_left p.setup p.state p.who p.command ≡ Some p.card
  pub call_is : call_of p.command ≡ Some p.card.call
  pub sound : IsSoundFlight p.setup p.card
  pub strand_is : path_made p.setup p.card (kind_made p.command) ≡ Some p.strand
  pub laid : IsStrand p.strand
  pub finds_are : AreFinds p.setup p.state p.card.call p.strand p.finds
  pub rules : AreWithinBounds p.setup.rules
  pub early : p.state.now ≤ 10000000
  pub own_calls : HaveOwnCalls p.state.records
  pub few : length p.state.records ≤ 1024
  pub one_each : AreOneEach (trajectories p.setup p.state)

-- the flight that a command leaves
pub record IsLeftByEntry (setup : Setup) (s : State) (who : ℕ) (command : Command) (card : Record) : Type 0 where
  pub passed : judged_aside setup s who command ≡ Ok (tt {0})
  pub card_is : flight_left setup s who command ≡ Some card
  pub call_is : call_of command ≡ Some card.call
  pub sound : IsSoundFlight setup card
  pub makes : is_some (path_made setup card (kind_made command)) ≡ true

-- the slot of the flight that a command names, none where it names none that is there
pub record IsSlotNamed (shot : Shot) (command : Command) (slot : Option ℕ) : Type 0 where
  pub there : IfSome slot (λ k. is_some (flight_at shot k) ≡ true)
  pub flight_is : option_and_then (flight_of (state_in_shot shot).records) (call_of command) ≡ option_map (λ f. f.card) (option_and_then (flight_at shot) slot)

-- prepared on that snapshot, for that actor's command
pub record IsPrepOf (shot : Shot) (who : ℕ) (command : Command) (p : Prepared) : Type 0 where
  pub setup_is : p.setup ≡ shot.setup
  pub state_is : p.state ≡ state_in_shot shot
  pub who_is : p.who ≡ who
  pub command_is : p.command ≡ command

-- refused on that snapshot, at its version
abbrev pub IsRefusedOn : Shot → ℕ → Command → No → Type 0
IsRefusedOn shot who command (nos.Refused refusal version) =
    (judged_aside shot.setup (state_in_shot shot) who command ≡ Err refusal) × (version ≡ shot.version)
IsRefusedOn shot who command nos.Memory = ⊤

-- the named trajectory that a command makes
abbrev pub left_made : Setup → State → ℕ → Command → Option NamedTrajectory
left_made setup s who command = option_and_then (λ card. option_map (named_trajectory card (kind_made command)) (path_made setup card (kind_made command)))
    (flight_left setup s who command)

-- at most two tests per trajectory near this one, none without one
abbrev pub WereFew : Shot → Option NamedTrajectory → ℕ → ℕ → Type 0
WereFew shot None old new = new ≡ old
WereFew shot (Some mine) old new = WasTestedNear shot mine.call mine.path old new

-- at most two tests per trajectory near the one that the command makes
abbrev pub WasTestedFor : Shot → ℕ → Command → ℕ → ℕ → Type 0
WasTestedFor shot who command old new = WereFew shot (left_made shot.setup (state_in_shot shot) who command) old new
