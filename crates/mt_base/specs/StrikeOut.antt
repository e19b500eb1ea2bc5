-- A history without a tentative clearance that was withdrawn: as if neither that clearance nor its withdrawal had been entered.
use Rattle.std.specs.Prelude.{◌≡◌, ◌≢◌, ℕ, ◌+◌, ◌-◌, nat_lt, Bool, List, ◌∷◌, ◌++◌, length, map, take, All, Option, Some, None, if◌then◌else◌}
use Rattle.mt_base.specs.declared.clearance.Clearance.{Clearance}
use Rattle.mt_base.specs.declared.command.Command.{Command}
use Rattle.mt_base.specs.declared.command.Command.TheVariants.{Accept, Drop, Tentative, Withdraw, Commit}
use Rattle.mt_base.specs.declared.command.Entry.{Entry}
use Rattle.mt_base.specs.declared.conflict.Conflict.{Conflict}
use Rattle.mt_base.specs.declared.conflict.Kind.TheVariants.{Actual}
use Rattle.mt_base.specs.declared.flight.Record.{Record}
use Rattle.mt_base.specs.Effect.{bare_path, changed, state_of}
use Rattle.mt_base.specs.Picture.{IsPublishedOf, NamedTrajectory, State, trajectory_of}
use Rattle.mt_base.specs.Tables.{Setup}

-- the flight whose tentative clearance a command ends
abbrev pub ended_by : Command → Option (List ℕ)
ended_by (Drop call) = Some call
ended_by (Withdraw call force) = Some call
ended_by (Commit call) = Some call
ended_by command = None

-- the flight whose tentative clearance a command makes, withdraws or commits
abbrev pub handled_by : Command → Option (List ℕ)
handled_by (Tentative call clearance eff) = Some call
handled_by (Withdraw call force) = Some call
handled_by (Commit call) = Some call
handled_by command = None

-- `marking`, `withdrawal`: the entries of a tentative clearance and of its withdrawal
abbrev pub marking : ℕ → List ℕ → Clearance → Option ℕ → Entry
marking owner call clearance eff = record { who = owner; command = Tentative call clearance eff }

abbrev pub withdrawal : ℕ → List ℕ → Bool → Entry
withdrawal who call force = record { who = who; command = Withdraw call force }

-- a history with a tentative clearance and its withdrawal. It has the entries before, between and after the two. None between ends the clearance, so
-- the withdrawal is the first entry that does.
pub record Withdrawn : Type 0 where
  pub before : List Entry
  pub owner : ℕ
  pub call : List ℕ
  pub clearance : Clearance
  pub eff : Option ℕ
  pub between : List Entry
  pub lasts : All (λ e. ended_by e.command ≢ Some call) between
  pub who : ℕ
  pub force : Bool
  pub after : List Entry

-- `made`, `ended`, `history_of`: the two entries, and the whole history
abbrev pub made : Withdrawn → Entry
made w = marking w.owner w.call w.clearance w.eff

abbrev pub ended : Withdrawn → Entry
ended w = withdrawal w.who w.call w.force

abbrev pub history_of : Withdrawn → List Entry
history_of w = w.before ++ made w ∷ (w.between ++ ended w ∷ w.after)

-- `made_at`, `ended_at`: the places of the two entries
abbrev pub made_at : Withdrawn → ℕ
made_at w = length w.before

abbrev pub ended_at : Withdrawn → ℕ
ended_at w = length w.before + 1 + length w.between

-- `one_if`, `lowered`: a version, lowered by one for each of two places below it. A version counts the entries at the places below it.
abbrev pub one_if : Bool → ℕ
one_if test = if test then 1 else 0

abbrev pub lowered : ℕ → ℕ → ℕ → ℕ
lowered i j version = version - (one_if (nat_lt i version) + one_if (nat_lt j version))

-- a version, as it is without the two
abbrev pub lowered_in : Withdrawn → ℕ → ℕ
lowered_in w = lowered (made_at w) (ended_at w)

-- `renumbered`, `entry_renumbered`: an acceptance, and its entry, with its probe's version changed
abbrev pub renumbered : (ℕ → ℕ) → Command → Command
renumbered change (Accept call clearance eff probed) = Accept call clearance eff (change probed)
renumbered change command = command

abbrev pub entry_renumbered : (ℕ → ℕ) → Entry → Entry
entry_renumbered change e = record e { command = renumbered change e.command }

-- the history without the two entries, versions renumbered. Each acceptance names the lowered version of its probe.
abbrev pub strike_out : Withdrawn → List Entry
strike_out w = map (entry_renumbered (lowered_in w)) (w.before ++ (w.between ++ w.after))

-- `state_at`, `struck_state_at`: the state at a version, with and without the two
abbrev pub state_at : Setup → Withdrawn → ℕ → State
state_at setup w version = state_of setup (take version (history_of w))

abbrev pub struck_state_at : Setup → Withdrawn → ℕ → State
struck_state_at setup w version = state_of setup (take (lowered_in w version) (strike_out w))

-- a state without a flight's tentative clearance
abbrev pub without : List ℕ → State → State
without call s = record s { records = map (changed call bare_path) s.records }

-- two states are the same but for versions
pub record AreSameButVersions (s t : State) : Type 0 where
  pub now : s.now ≡ t.now
  pub records : s.records ≡ t.records

-- two states are the same but for versions and that tentative clearance
abbrev pub AreAlike : List ℕ → State → State → Type 0
AreAlike call s t = AreSameButVersions (without call s) (without call t)

-- `flown_by`, `all_flown`, `AreConflictsFlown`: what flights actually fly, and those trajectories' conflicts in the look-ahead
abbrev pub flown_by : Setup → Record → NamedTrajectory
flown_by setup flight = record { call = flight.call; kind = Actual; path = trajectory_of setup flight.path }

abbrev pub all_flown : Setup → State → List NamedTrajectory
all_flown setup s = map (flown_by setup) s.records

abbrev pub AreConflictsFlown : Setup → State → List Conflict → Type 0
AreConflictsFlown setup s cs = IsPublishedOf setup.rules s.now (all_flown setup s) cs
