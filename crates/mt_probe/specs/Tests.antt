-- How many tests a try and a refusal take.
use Rattle.std.specs.Prelude.{◌≡◌, ◌≤◌, ℕ, ◌+◌, ◌-◌, ◌^◌, min, List, [], Option, Some, None, length, unwrap_or, ⊤}
use Rattle.std.specs.List.{flat_map}
use Rattle.mt_base.specs.declared.clearance.Clearance.{Clearance}
use Rattle.mt_base.specs.declared.command.Command.TheVariants.{Accept}
use Rattle.mt_base.specs.declared.conflict.Kind.{Kind}
use Rattle.mt_base.specs.declared.conflict.Kind.TheVariants.{Actual, Tentative}
use Rattle.mt_base.specs.Picture.{NamedTrajectory}
use Rattle.mt_base.specs.Trajectory.{Trajectory}
use Rattle.mt_board.specs.declared.no.No.{No}
use Rattle.mt_board.specs.declared.no.No.TheVariants as nos
use Rattle.mt_cover.specs.Cells.{cover_of}
use Rattle.mt_probe.specs.declared.flight.Flight.{Flight}
use Rattle.mt_probe.specs.Items.{AreNearItems, kind_at, other_at}
use Rattle.mt_probe.specs.Prepared.{left_made}
use Rattle.mt_probe.specs.Shot.{Shot, state_in_shot}

-- a refusal comes before any test
abbrev pub IsUntested : ℕ → ℕ → No → Type 0
IsUntested old new (nos.Refused refusal version) = new ≡ old
IsUntested old new nos.Memory = ⊤

-- at least so many tests were made, as far as a count goes
abbrev pub WereAtLeast : ℕ → ℕ → ℕ → Type 0
WereAtLeast least old new = min (old + least) (2 ^ 64 - 1) ≤ new

-- `flown_of_kind`, `flown_at`, `flown_among`: trajectories of a kind that are flown; those of other flights that an item names, and that items name
abbrev pub flown_of_kind : Kind → List NamedTrajectory → List NamedTrajectory
flown_of_kind Actual others = others
flown_of_kind Tentative others = []

abbrev pub flown_at : List ℕ → List (Option Flight) → ℕ → List NamedTrajectory
flown_at call slots item = flown_of_kind (kind_at item) (other_at call slots item)

abbrev pub flown_among : List ℕ → List (Option Flight) → List ℕ → List NamedTrajectory
flown_among call slots items = flat_map (flown_at call slots) items

-- at most one test for each trajectory that another flight flies near this one
abbrev pub WasTriedNear : Shot → List ℕ → Trajectory → ℕ → ℕ → Type 0
WasTriedNear shot call t old new = (items : List ℕ) → AreNearItems shot (cover_of shot.setup.rules t) items
    → new ≤ old + length (flown_among call shot.slots items)

-- the tests for a trajectory where there is one, else none
abbrev pub WereTried : Shot → Option NamedTrajectory → ℕ → ℕ → Type 0
WereTried shot None old new = new ≡ old
WereTried shot (Some mine) old new = WasTriedNear shot mine.call mine.path old new

-- the tests of a clearance's try: at most one for each trajectory that another flight flies near the one that the clearance would leave
abbrev pub WasTriedFor : Shot → List ℕ → Clearance → Option ℕ → ℕ → ℕ → Type 0
WasTriedFor shot call clearance eff old new =
    WereTried shot (left_made shot.setup (state_in_shot shot) 0 (Accept call clearance (unwrap_or eff shot.now) shot.version)) old new
