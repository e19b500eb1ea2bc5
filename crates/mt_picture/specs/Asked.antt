-- How many pair tests a command may cost.
use Rattle.std.specs.Prelude.{◌≡◌, ◌≢◌, ◌<◌, ◌≤◌, ◌+◌, ◌*◌, ◌++◌, ℕ, List, true, All, AllPairs, Contains, Option, Some, None, length}
use Rattle.std.specs.Cmp.Lexicographic.{slice_cmp}
use Rattle.std.specs.Ordering.{nat_cmp}
use Rattle.std.specs.declared.cmp.Ordering.TheVariants.{Less}
use Rattle.mt_base.specs.declared.command.Command.{Command}
use Rattle.mt_base.specs.declared.command.Command.TheVariants.{Drop, Tick, Withdraw}
use Rattle.mt_base.specs.declared.command.Command.TheVariants as commands
use Rattle.mt_base.specs.Conflict.{IsConflict, IsSpanOfLoss}
use Rattle.mt_base.specs.declared.rules.Rules.{Rules}
use Rattle.mt_base.specs.Effect.{state_of}
use Rattle.mt_base.specs.Picture.{NamedTrajectory, State, trajectories}
use Rattle.mt_base.specs.Trajectory.{Trajectory}
use Rattle.mt_cover.specs.declared.stays.Stay.{Stay}
use Rattle.mt_cover.specs.Cells.{cover_of}
use Rattle.mt_base.specs.Trajectory.{horizon}
use Rattle.mt_base.specs.Tally.{raised_by}
use Rattle.mt_kept.specs.Window.{is_straddling}
use Rattle.mt_probe.specs.Items.{Meet}
use Rattle.mt_probe.specs.Prepared.{Prepared, left_made}
use Rattle.mt_picture.specs.Stamps.{IsMadeAt}
use Rattle.mt_picture.specs.Story.{IsUsable, Story}

-- the state of the history
abbrev pub state_now : Story → State
state_now story = state_of story.setup story.history

-- two trajectories share a cell in some second
pub record AreNearby (rules : Rules) (a b : Trajectory) : Type 0 where
  pub left : Stay
  pub left_of : Contains (cover_of rules a) left
  pub right : Stay
  pub right_of : Contains (cover_of rules b) right
  pub meet : Meet left right

-- another flight's current trajectory near the new one
pub record IsNearNow (story : Story) (mine other : NamedTrajectory) : Type 0 where
  pub stands : Contains (trajectories story.setup (state_now story)) other
  pub apart : other.call ≢ mine.call
  pub near : AreNearby story.setup.rules mine.path other.path

-- one that was made after version v
pub record IsLaterNow (story : Story) (v : ℕ) (mine other : NamedTrajectory) : Type 0 where
  pub now : IsNearNow story mine other
  pub stamp : ℕ
  pub later : v < stamp
  pub made : IsMadeAt story.setup story.history other stamp

-- one that a preparation saw, now across an edge. Its conflict with the new one over all seconds straddles an edge of the look-ahead now.
pub record IsCrossingNow (story : Story) (p : Prepared) (mine other : NamedTrajectory) : Type 0 where
  pub now : IsNearNow story mine other
  pub prepared : Contains (trajectories p.setup p.state) other
  pub first : ℕ
  pub last : ℕ
  pub conflict : IsConflict story.setup.rules mine.path other.path 0 horizon (Some (first, last))
  pub straddling : is_straddling (state_now story).now first last ≡ true

-- at most two tests per other flight's trajectory near the new one
pub record WasTestedAnew (story : Story) (mine : NamedTrajectory) (old new : ℕ) : Type 0 where
  pub others : List NamedTrajectory
  pub distinct : AllPairs (λ s t. s ≢ t) others
  pub each : All (IsNearNow story mine) others
  pub more : ℕ
  pub within : more ≤ 2 * length others
  pub is : new ≡ raised_by more old

-- at most two tests per nearby trajectory made since the preparation, one per crossing one. A crossing one was there when the preparation was made,
-- and its conflict with the new one straddles an edge of the look-ahead now. None is counted twice.
pub record WasTestedAgain (story : Story) (p : Prepared) (mine : NamedTrajectory) (old new : ℕ) : Type 0 where
  pub later : List NamedTrajectory
  pub later_each : All (IsLaterNow story p.state.version mine) later
  pub crossing : List NamedTrajectory
  pub crossing_each : All (IsCrossingNow story p mine) crossing
  pub distinct : AllPairs (λ s t. s ≢ t) (later ++ crossing)
  pub more : ℕ
  pub within : more ≤ 2 * length later + length crossing
  pub is : new ≡ raised_by more old

-- two flights' trajectories in conflict across an edge. They stand now, the one of the lesser callsign first, and their conflict over all seconds
-- straddles an edge of the look-ahead from `now`.
pub record IsCrossingPair (story : Story) (now : ℕ) (pair : NamedTrajectory × NamedTrajectory) : Type 0 where
  pub left_stands : Contains (trajectories story.setup (state_now story)) pair.0
  pub right_stands : Contains (trajectories story.setup (state_now story)) pair.1
  pub before : slice_cmp nat_cmp pair.0.call pair.1.call ≡ Less
  pub first : ℕ
  pub last : ℕ
  pub span : IsSpanOfLoss story.setup.rules pair.0.path pair.1.path 0 horizon first last
  pub straddling : is_straddling now first last ≡ true

-- at most as many tests as there are pairs across an edge
pub record WasTestedForTick (story : Story) (now old new : ℕ) : Type 0 where
  pub pairs : List (NamedTrajectory × NamedTrajectory)
  pub distinct : AllPairs (λ p q. p ≢ q) pairs
  pub each : All (IsCrossingPair story now) pairs
  pub is : new ≡ raised_by (length pairs) old

-- tested anew; and where the preparation is usable, only as often as that allows
pub record IsWithinBoth (story : Story) (command : Command) (p : Prepared) (mine : NamedTrajectory) (old new : ℕ) : Type 0 where
  pub anew : WasTestedAnew story mine old new
  pub again : IsUsable story command p → WasTestedAgain story p mine old new

-- `IsWithinPrep`, `IsWithinPreps`: the tests of a command that makes a trajectory. By its preparation and the trajectory that it leaves now: none,
-- where it leaves none.
abbrev pub IsWithinPrep : Story → Command → Option Prepared → Option NamedTrajectory → ℕ → ℕ → Type 0
IsWithinPrep story command prep None old new = new ≡ old
IsWithinPrep story command None (Some mine) old new = new ≡ old
IsWithinPrep story command (Some p) (Some mine) old new = IsWithinBoth story command p mine old new

abbrev pub IsWithinPreps : Story → ℕ → Command → Option Prepared → ℕ → ℕ → Type 0
IsWithinPreps story who command prep old new = IsWithinPrep story command prep (left_made story.setup (state_now story) who command) old new

-- each command keeps within its bound of tests. The bounds:
--   a tick                                    at most one test for each pair that straddles an edge of its look-ahead
--   a drop, a report, a withdrawal            none
--   any other, where it leaves no trajectory  none
--     where its prep is usable                two for each near trajectory that was made after it, one for each that was there and whose conflict
--                                             straddles an edge of the look-ahead now
--     else                                    two for each near trajectory
abbrev pub IsWithinBound : Story → ℕ → Command → Option Prepared → ℕ → ℕ → Type 0
IsWithinBound story who (Tick now) prep old new = WasTestedForTick story now old new
IsWithinBound story who (Drop call) prep old new = new ≡ old
IsWithinBound story who (commands.Report call report) prep old new = new ≡ old
IsWithinBound story who (Withdraw call force) prep old new = new ≡ old
IsWithinBound story who command prep old new = IsWithinPreps story who command prep old new
