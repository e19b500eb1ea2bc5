-- What the volume of a strand holds, one segment more at a time; and that a trajectory doesn't pass through an area that lies apart from it.
use Rattle.std.proofs.Common.{◌≡◌, ◌∙◌, ℕ, ◌+◌, ◌-◌, ◌<◌, ◌≤◌, ℤ, pos, ◌≤ℤ◌, ◌<ℤ◌, List, length, None, ap, subst, refl, ⊎_elim, arith}
use Rattle.std.proofs.lemmas.Bool.{cases_lt, le-ltb, lt-ltb}
use Rattle.std.proofs.lemmas.Option.{slice_get_within}
use Rattle.mt_ring.proofs.Ring.{lin}
use Rattle.mt_base.specs.declared.area.Area.{Area}
use Rattle.mt_base.specs.declared.row.Row.{Row}
use Rattle.mt_base.specs.Area.{IsBoundedArea, IsPierce}
use Rattle.mt_base.specs.Trajectory.{Trajectory, row_at}
use Rattle.mt_track.specs.declared.segment.Segment.{Segment}
use Rattle.mt_track.specs.Laid.{CoversSecond, edge}
use Rattle.mt_track.specs.Rows.{row_after}
use Rattle.mt_track.proofs.Straight.{row_after-add}
use Rattle.mt_area.specs.declared.volume.Volume.{Volume}
use Rattle.mt_area.specs.Private.Volume.{HoldsRowAt, HoldsRow, HoldsSecond, IsWiderVolume, AreBoxesApart}
use Rattle.mt_area.proofs.Volumes.{HoldsRowAt-between, HoldsRowAt-wider, none_inside}
use Rattle.mt_area.proofs.Walks.{Reads}

-- an instant of some seconds of a segment
pub HoldsRowAt-segment : (volume : Volume) (first : Row) (s begin end k : ℕ) → s ≤ begin → begin ≤ k → k < end → HoldsRow volume (row_after first (begin - s))
    → HoldsRow volume (row_after first (end - s)) → (n d : ℤ) → pos 0 ≤ℤ n → n <ℤ d → HoldsRowAt volume (row_after first (k - s)) n d
HoldsRowAt-segment volume first s begin end k later begun ahead first_held last_held n d n+ within =
    let row = row_after first (begin - s) in
    let last : row_after row (end - begin) ≡ row_after first (end - s) = row_after-add first (begin - s) (end - begin) ∙ ap (row_after first) (omega arith) in
    let same : row_after row (k - begin) ≡ row_after first (k - s) = row_after-add first (begin - s) (k - begin) ∙ ap (row_after first) (omega arith) in
    subst (λ (r : Row). HoldsRowAt volume r n d) same
    (HoldsRowAt-between volume row (end - begin) (k - begin) first_held (rw last last_held) (omega arith) n d n+ within)

-- seconds that a trajectory doesn't cover
pub HoldsSecond-before : (volume : Volume) (t : Trajectory) (k : ℕ) → k < t.start → HoldsSecond volume t k
HoldsSecond-before volume t k early row is = let none : row_at t k ≡ None = rw (lt-ltb k t.start early) refl in cc

pub HoldsSecond-behind : (volume : Volume) (t : Trajectory) (k : ℕ) → t.start + length t.rows ≤ k → HoldsSecond volume t k
HoldsSecond-behind volume t k late row is =
    let within = slice_get_within t.rows (k - t.start) row (rw (le-ltb k t.start (omega arith)) at is) in
    absurd (omega (arith, within, late))

HoldsSecond-wider : (volume wider : Volume) (t : Trajectory) (k : ℕ) → IsWiderVolume volume wider → HoldsSecond volume t k → HoldsSecond wider t k
HoldsSecond-wider volume wider t k more held row is n d n+ within =
    HoldsRowAt-wider volume wider row n d (omega (arith, lin, n+, within)) more (held row is n d n+ within)

HoldsSecond-segment : (volume : Volume) (t : Trajectory) (s : Segment) (begin end k : ℕ) → s.from ≤ begin → begin ≤ k → k < end → CoversSecond t k s
    → HoldsRow volume (row_after s.first (begin - s.from)) → HoldsRow volume (row_after s.first (end - s.from)) → HoldsSecond volume t k
HoldsSecond-segment volume t s begin end k later begun ahead holds first last row is n d n+ within =
    let at = holds.row in
    let same : row_after s.first (k - s.from) ≡ row = cc in
    subst (λ (r : Row). HoldsRowAt volume r n d) same (HoldsRowAt-segment volume s.first s.from begin end k later begun ahead first last n d n+ within)

-- the seconds up to the next segment
abbrev pub HoldsBefore : Volume → Trajectory → ℕ → ℕ → ℕ → Type 0
HoldsBefore volume t from to edge = (k : ℕ) → k < edge → from ≤ k → k < to → HoldsSecond volume t k

pub HoldsBefore-more : (volume wider : Volume) (t : Trajectory) (ss : List Segment) (i : ℕ) (s : Segment) (from to begin end : ℕ) → Reads t ss i s → IsWiderVolume volume wider
    → s.from ≤ begin → end ≤ s.to → ((k : ℕ) → s.from ≤ k → k < s.to → from ≤ k → k < to → (begin ≤ k) × (k < end))
    → HoldsRow wider (row_after s.first (begin - s.from)) → HoldsRow wider (row_after s.first (end - s.from)) → HoldsBefore volume t from to (edge t.start ss i)
    → HoldsBefore wider t from to (edge t.start ss (i + 1))
HoldsBefore-more volume wider t ss i s from to begin end at more later sooner held first last before k ahead low high = ⊎_elim
    (λ early. HoldsSecond-wider volume wider t k more (before k early low high))
    (λ late.
    let begun : s.from ≤ k = omega (arith, at.from, late) in
    let within : k < s.to = omega (arith, at.to, ahead) in
    let part = held k begun within low high in
    HoldsSecond-segment wider t s begin end k later part.0 part.1 (at.holds k begun within) first last)
    (cases_lt k (edge t.start ss i))

-- a segment that has none of the seconds
pub HoldsBefore-skip : (volume : Volume) (t : Trajectory) (ss : List Segment) (i : ℕ) (s : Segment) (from to : ℕ) → Reads t ss i s
    → ((k : ℕ) → s.from ≤ k → k < s.to → from ≤ k → k < to → ⊥) → HoldsBefore volume t from to (edge t.start ss i)
    → HoldsBefore volume t from to (edge t.start ss (i + 1))
HoldsBefore-skip volume t ss i s from to at none before k ahead low high = ⊎_elim
    (λ early. before k early low high)
    (λ late. absurd (none k (omega (arith, at.from, late)) (omega (arith, at.to, ahead)) low high))
    (cases_lt k (edge t.start ss i))

-- an area that lies apart from it
pub none_pierced : (t : Trajectory) (area : Area) (volume : Volume) (from to : ℕ) → IsBoundedArea area → AreBoxesApart area volume
    → ((k : ℕ) → from ≤ k → k < to → HoldsSecond volume t k) → IsPierce t area from to None
none_pierced t area volume from to kept apart held k low high second =
    let at = second.inside in
    none_inside area volume second.row at.n at.d kept (omega (arith, lin, at.begun, at.within))
    (held k low high second.row second.row_is at.n at.d at.begun at.within) apart at.at
