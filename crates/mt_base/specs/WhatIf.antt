-- What would follow from a clearance: the conflicts of the trajectory that it would leave.
use Rattle.std.specs.Prelude.{◌≡◌, ◌≢◌, ◌↔◌, ℕ, Bool, List, [], ◌∷◌, Contains, Option, Some, None, is_some, unwrap_or, IfSome, Result, Ok, Err, ⊤}
use Rattle.std.specs.Option.{option_map_or}
use Rattle.std.specs.List.Sorted.{IsStrictlySortedBy}
use Rattle.std.specs.Cmp.Lexicographic.{slice_cmp}
use Rattle.std.specs.Ordering.{nat_cmp, ordering_then}
use Rattle.std.specs.declared.cmp.Ordering.{Ordering}
use Rattle.mt_base.specs.declared.clearance.Aim.{Aim}
use Rattle.mt_base.specs.declared.clearance.Clearance.{Clearance}
use Rattle.mt_base.specs.declared.command.Refusal.{Refusal}
use Rattle.mt_base.specs.declared.command.Refusal.TheVariants.{UnknownCall, Fixed}
use Rattle.mt_base.specs.declared.flight.Course.{Course}
use Rattle.mt_base.specs.declared.flight.Mark.{Mark}
use Rattle.mt_base.specs.declared.flight.Path.{Path}
use Rattle.mt_base.specs.declared.flight.Path.TheVariants.{Planned, Outer}
use Rattle.mt_base.specs.declared.flight.Record.{Record}
use Rattle.mt_base.specs.declared.hit.Hit.{Hit}
use Rattle.mt_base.specs.Checks.{judged}
use Rattle.mt_base.specs.Cleared.{aim_of, clearance_checks}
use Rattle.mt_base.specs.Conflict.{IsSpanOfLoss}
use Rattle.mt_base.specs.Picture.{State, flight_of, trajectory_of, window_end}
use Rattle.mt_base.specs.Predictor.{flown}
use Rattle.mt_base.specs.Tables.{Setup}
use Rattle.mt_base.specs.Trajectory.{Trajectory}

-- `course_on`, `course_in`: the course of a planned path, and of a planned flight
abbrev pub course_on : Path → Option Course
course_on (Planned course) = Some course
course_on (Outer stretch) = None

abbrev pub course_in : Option Record → Option Course
course_in None = None
course_in (Some flight) = course_on flight.path

-- `mark_on`, `mark_in`: the tentative clearance of a path, and of a flight
abbrev pub mark_on : Path → Option Mark
mark_on (Planned course) = course.mark
mark_on (Outer stretch) = None

abbrev pub mark_in : Option Record → Option Mark
mark_in None = None
mark_in (Some flight) = mark_on flight.path

-- what is checked before a clearance is tried. In order: the flight is known, it is planned, and the clearance can hold at the moment `now`.
abbrev pub what_if_checks : Setup → ℕ → Option Record → List ℕ → Clearance → ℕ → List (Refusal × Bool)
what_if_checks setup now flight call clearance eff =
    (UnknownCall call, is_some flight) ∷
    (Fixed, is_some (course_in flight)) ∷
    option_map_or (λ course. clearance_checks setup.tables course (trajectory_of setup (Planned course)) clearance eff now) (course_in flight) []

-- `aimed`, `trajectory_cleared`: the trajectory that a clearance would leave
abbrev pub aimed : Setup → Course → Aim → Trajectory
aimed setup course aim = flown setup course.kind course.route aim.base aim.level course.rvsm

abbrev pub trajectory_cleared : Setup → Course → Clearance → ℕ → Trajectory
trajectory_cleared setup course clearance eff = aimed setup course (aim_of course (trajectory_of setup (Planned course)) clearance eff)

-- within the look-ahead the trajectory conflicts with another flight's actual one
pub record IsHit (setup : Setup) (s : State) (call : List ℕ) (t : Trajectory) (hit : Hit) : Type 0 where
  pub flight : Record
  pub flies : Contains s.records flight
  pub other : flight.call ≢ call
  pub with_is : hit.with ≡ flight.call
  pub span : IsSpanOfLoss setup.rules t (trajectory_of setup flight.path) s.now (window_end s.now) hit.first hit.last

-- the order of hits: first second, then callsign. The last second decides nothing, as a flight flies one trajectory.
abbrev pub hit_cmp : Hit → Hit → Ordering
hit_cmp h g = ordering_then (nat_cmp h.first g.first) (ordering_then (slice_cmp nat_cmp h.with g.with) (nat_cmp h.last g.last))

-- exactly the hits of a trajectory, each once, in order. Tentative trajectories don't count.
pub record AreHitsOf (setup : Setup) (s : State) (call : List ℕ) (t : Trajectory) (hits : List Hit) : Type 0 where
  pub exact : (h : Hit) → Contains hits h ↔ IsHit setup s call t h
  pub sorted : IsStrictlySortedBy hit_cmp hits

-- a trajectory has some hit
pub record HasHit (setup : Setup) (s : State) (call : List ℕ) (t : Trajectory) : Type 0 where
  pub hit : Hit
  pub is : IsHit setup s call t hit

-- the hits of a flight's clearance
abbrev pub AreHits : Setup → State → List ℕ → Clearance → ℕ → List Hit → Type 0
AreHits setup s call clearance eff hits =
    IfSome (course_in (flight_of s.records call)) (λ course. AreHitsOf setup s call (trajectory_cleared setup course clearance eff) hits)

-- the first refusal of a clearance, or none. It holds from second `eff` on, by default the moment.
abbrev pub what_if_judged : Setup → State → List ℕ → Clearance → Option ℕ → Result ⊤ Refusal
what_if_judged setup s call clearance eff =
    judged (what_if_checks setup s.now (flight_of s.records call) call clearance (unwrap_or eff s.now)) (tt {0})

-- a what-if: the clearance's first refusal, or its hits. The clearance holds from second `eff` on, by default the moment.
abbrev pub IsWhatIf : Setup → State → List ℕ → Clearance → Option ℕ → Result (List Hit) Refusal → Type 0
IsWhatIf setup s call clearance eff (Err refusal) = what_if_judged setup s call clearance eff ≡ Err refusal
IsWhatIf setup s call clearance eff (Ok hits) =
    (what_if_judged setup s call clearance eff ≡ Ok (tt {0}))
    × AreHits setup s call clearance (unwrap_or eff s.now) hits

-- no check refuses the clearance, and it has hits. It holds from second `eff` on, by default the moment.
abbrev pub IsConflicting : Setup → State → List ℕ → Clearance → Option ℕ → Type 0
IsConflicting setup s call clearance eff =
    (what_if_judged setup s call clearance eff ≡ Ok (tt {0}))
    × IfSome (course_in (flight_of s.records call)) (λ course. HasHit setup s call (trajectory_cleared setup course clearance (unwrap_or eff s.now)))
