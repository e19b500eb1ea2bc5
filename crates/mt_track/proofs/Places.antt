-- Segments as code reads them at their places, and the seconds that a trajectory covers.
use Rattle.std.proofs.Common.{◌≡◌, ℕ, zero, suc, ◌+◌, ◌-◌, ◌<◌, ◌≤◌, List, [], ◌∷◌, length, get_or, pos, Some, None, refl, arith, ⊎_elim}
use Rattle.std.proofs.lemmas.Bool.{cases_lt, le-ltb, lt-ltb}
use Rattle.std.proofs.lemmas.Option.{slice_get_within}
use Rattle.std.specs.Prelude.{slice_index_or}
use Rattle.mt_base.specs.declared.row.Row.{Row}
use Rattle.mt_base.specs.Trajectory.{Trajectory, row_at}
use Rattle.mt_track.specs.declared.segment.Segment.{Segment}
use Rattle.mt_track.specs.Laid.{Adjoin, edge}
use Rattle.mt_track.proofs.Apart.{few_segments}

-- what the code reads where a list has no such place
abbrev pub blank : Segment
blank = record { from = 0; to = 0; first = record { x = pos 0; y = pos 0; z = pos 0; r = pos 0; w = pos 0; vx = pos 0; vy = pos 0; vz = pos 0; gr = pos 0; gw = pos 0; leg = 0 } }

-- a place of a list of segments, as the code reads it
pub at_place : (ss : List Segment) (i : ℕ) (d : Segment) → i < length ss → slice_index_or ss i d ≡ get_or ss i (slice_index_or ss i d)
at_place [] i d below = absurd (omega arith)
at_place (s ∷ ss) zero d below = refl
at_place (s ∷ ss) (suc i) d below = at_place ss i d (omega arith)

-- no segment ends after the end
pub edge_to : (from to : ℕ) (ss : List Segment) (i : ℕ) → Adjoin from ss to → i ≤ length ss → edge from ss i ≤ to
edge_to from to ss zero lie below = let h = few_segments from to ss lie in omega (arith, h)
edge_to from to [] (suc i) lie below = absurd (omega arith)
edge_to from to (s ∷ ss) (suc i) lie below = edge_to s.to to ss i lie.2 (omega arith)

-- a second that has a row is covered
pub covered : (t : Trajectory) (k : ℕ) (row : Row) → row_at t k ≡ Some row → (t.start ≤ k) × (k < t.start + length t.rows)
covered t k row at = ⊎_elim
    (λ early. let none : row_at t k ≡ None = rw (lt-ltb k t.start early) refl in cc)
    (λ begun. let within = slice_get_within t.rows (k - t.start) row (rw (le-ltb k t.start begun) at at) in (begun, omega arith))
    (cases_lt k t.start)
