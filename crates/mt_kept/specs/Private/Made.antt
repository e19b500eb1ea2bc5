-- No public contract names these: they are of private steps and of proofs.
use Rattle.std.specs.Prelude.{◌≡◌, ℕ, ◌<◌, ◌↔◌, ◌⊎◌, ◌++◌, ◌∷◌, [], ◌+◌, ◌*◌, ◌≤◌, List, map, take, length, filter, Contains, Option, Some, None, Bool, ⊤, not, ◌&&◌, ◌||◌, max, min, nat_le, nat_lt}
use Rattle.std.specs.List.{count_by, list_any}
use Rattle.std.specs.Cmp.Lexicographic.{slice_cmp}
use Rattle.std.specs.Ordering.{nat_cmp}
use Rattle.std.specs.declared.cmp.Ordering.TheVariants.{Less}
use Rattle.mt_base.specs.declared.conflict.Conflict.{Conflict}
use Rattle.mt_base.specs.declared.rules.Rules.{Rules}
use Rattle.mt_base.specs.Conflict.{IsLossSecond, IsSpanOfLoss}
use Rattle.mt_base.specs.Picture.{NamedTrajectory}
use Rattle.mt_edges.specs.declared.edge.Edge.{Edge}
use Rattle.mt_edges.specs.Pairs.{touches}
use Rattle.mt_kept.specs.declared.finds.Candidate.{Candidate}
use Rattle.mt_kept.specs.declared.finds.Knowledge.{Knowledge}
use Rattle.mt_kept.specs.declared.finds.Knowledge.TheVariants.{Known, Within}
use Rattle.mt_kept.specs.declared.open_pair.OpenPair.{OpenPair}
use Rattle.mt_kept.specs.Finds.{IsOfOtherFlight}
use Rattle.mt_kept.specs.Losing.{IsSolidAsSaid}
use Rattle.mt_kept.specs.Private.Losing.{AvoidsAll}
use Rattle.mt_base.specs.Trajectory.{horizon}
use Rattle.mt_base.specs.Tally.{RoseUpTo, raised_by}
use Rattle.mt_kept.specs.Window.{IsFoundOf, IsOpen, edge_of, straddles}
use Rattle.mt_kept.specs.Made.{is_open_pair}

-- `window_last`, `goes_on`, `borders`: the last second of the look-ahead; a pair doesn't end before the moment; an open pair is at the border of the
-- look-ahead, as it begins before it, or doesn't end before its last second
abbrev pub window_last : ℕ → ℕ
window_last now = now + 1199

abbrev pub goes_on : ℕ → Edge → Bool
goes_on now e = nat_le now e.last

abbrev pub borders : ℕ → Edge → Bool
borders now e = is_open_pair now e && (nat_lt e.first now || nat_le (window_last now) e.last)

-- what of a pair's span lies within the look-ahead
abbrev pub span_within : ℕ → Edge → ℕ × ℕ
span_within now e = (max now e.first, min (window_last now) e.last)

-- `touches_one`, `opens`, `is_at_border`, `meets`, `avoids`, `touches_place`: an end of a pair is among some places; of a pair with what it shows: it is
-- open; it is at the border of the look-ahead; an end is among some places; none is; one end is that place
abbrev pub touches_one : List ℕ → Edge → Bool
touches_one some e = list_any (λ place. touches place e) some

abbrev pub opens : ℕ → OpenPair → Bool
opens now o = is_open_pair now o.edge

abbrev pub is_at_border : ℕ → OpenPair → Bool
is_at_border now o = borders now o.edge

abbrev pub meets : List ℕ → OpenPair → Bool
meets some o = touches_one some o.edge

abbrev pub avoids : List ℕ → OpenPair → Bool
avoids some o = not (meets some o)

abbrev pub touches_place : ℕ → OpenPair → Bool
touches_place place o = touches place o.edge

-- `conflict_of`, `IsInOrder`: the conflict of two trajectories over a span, the lesser callsign first
abbrev pub conflict_of : NamedTrajectory → NamedTrajectory → ℕ → ℕ → Conflict
conflict_of left right first last =
    record { first = first; a = left.call; b = right.call; ka = left.kind; kb = right.kind; last = last }

abbrev pub IsInOrder : NamedTrajectory → NamedTrajectory → ℕ × ℕ → Conflict → Type 0
IsInOrder left right span c = (slice_cmp nat_cmp left.call right.call ≡ Less) × (c ≡ conflict_of left right span.0 span.1)

-- a conflict of the same two trajectories over another span
abbrev pub over_span : Conflict → ℕ × ℕ → Conflict
over_span c span = record { first = span.0; a = c.a; b = c.b; ka = c.ka; kb = c.kb; last = span.1 }

-- a pair that straddles an edge of the look-ahead is tested where it isn't known to be solid
abbrev pub is_tested : ℕ → Edge → Bool
is_tested now e = straddles now e && not e.solid

-- a pair that goes on straddles an edge of the look-ahead
abbrev pub straddles_on : ℕ → Edge → Bool
straddles_on now e = goes_on now e && straddles now e

-- some first ones of these pairs were gone over, with at most one test for each of this kind
pub record WereTested (p : Edge → Bool) (edges : List Edge) (old new : ℕ) : Type 0 where
  pub first : ℕ
  pub rose : RoseUpTo (count_by p (take first edges)) old new

-- the first second of what was shown, where it isn't before a moment
abbrev pub IsFirstFrom : Option Conflict → ℕ → Option ℕ → Type 0
IsFirstFrom shown now None = (c : Conflict) → shown ≡ Some c → c.first < now
IsFirstFrom shown now (Some first) = (c : Conflict) × (shown ≡ Some c) × (c.first ≡ first) × (now ≤ first)

-- tests were made of so many that were allowed, and so many are left to spare
pub record WereTestedOf (allowed spare old new : ℕ) : Type 0 where
  pub more : ℕ
  pub within : more + spare ≤ allowed
  pub is : new ≡ raised_by more old

-- the pairs of some places were taken out, and the found ones put in
abbrev pub AreReplaced : List ℕ → List OpenPair → List Edge → List Edge → Type 0
AreReplaced changed finds old new = (e : Edge) → Contains new e ↔ ((Contains old e × AvoidsAll changed e) ⊎ Contains (map edge_of finds) e)

-- `without_places`, `WereDropped`: the pairs without those of some places; at most six steps for each of those, and one for each place
abbrev pub without_places : List ℕ → List Edge → List Edge
without_places changed edges = filter (λ e. not (touches_one changed e)) edges

abbrev pub WereDropped : List ℕ → List Edge → ℕ → ℕ → Type 0
WereDropped changed edges old new = new ≤ old + 6 * length (filter (touches_one changed) edges) + length changed

-- this is the conflict that is known
abbrev pub IsKnownAs : Knowledge → Option (ℕ × ℕ) → Type 0
IsKnownAs (Within first last) span = ⊤
IsKnownAs (Known known solid) span = span ≡ known

-- one test where none is known
abbrev pub tests_if_unknown : Knowledge → ℕ
tests_if_unknown (Within first last) = 1
tests_if_unknown (Known span solid) = 0

-- `IsEdgeBetween`, `IsEdgeOf`: the pair between two places, the lesser first, with that span
abbrev pub IsEdgeBetween : ℕ → ℕ → Edge → Type 0
IsEdgeBetween place other e = ((e.a ≡ place) × (e.b ≡ other) × (place < other)) ⊎ ((e.a ≡ other) × (e.b ≡ place) × (other < place))

abbrev pub IsEdgeOf : ℕ → ℕ → ℕ × ℕ → Edge → Type 0
IsEdgeOf place other span e = IsEdgeBetween place other e × (e.first ≡ span.0) × (e.last ≡ span.1)

-- a pair that was found, and what it shows where it is open
pub record IsFind (rules : Rules) (now place other_place : ℕ) (mine other : NamedTrajectory) (o : OpenPair) : Type 0 where
  pub ends : IsEdgeBetween place other_place o.edge
  pub span : IsSpanOfLoss rules mine.path other.path 0 horizon o.edge.first o.edge.last
  pub solid : IsSolidAsSaid rules mine.path other.path o.edge
  pub shown : IsOpen now o.edge → IsFoundOf rules now mine other o.conflict

-- what one candidate adds to the finds: nothing, where it never loses separation, or one find
abbrev pub IsFindAdded : Rules → ℕ → ℕ → ℕ → NamedTrajectory → NamedTrajectory → List OpenPair → List OpenPair → Type 0
IsFindAdded rules now place other_place mine other old new =
    ((new ≡ old) × ((k : ℕ) → k < horizon → ¬ IsLossSecond rules mine.path other.path k))
    ⊎ ((o : OpenPair) × IsFind rules now place other_place mine other o × (new ≡ old ++ o ∷ []))

-- what one candidate adds, where a trajectory of another flight stands in its place; else nothing
abbrev pub IsAddedAt : Rules → ℕ → List (Option NamedTrajectory) → ℕ → NamedTrajectory → Candidate → List OpenPair → List OpenPair
    → Type 0
IsAddedAt rules now places place mine x old new =
    ((new ≡ old) × ((other : NamedTrajectory) → ¬ IsOfOtherFlight places place mine x.place other))
    ⊎ ((other : NamedTrajectory) × IsOfOtherFlight places place mine x.place other × IsFindAdded rules now place x.place mine other old new)
