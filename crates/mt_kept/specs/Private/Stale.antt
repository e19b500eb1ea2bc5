-- No public contract names these: they are of private steps and of proofs.
-- The seconds in which the conflicts that begin are made anew when the look-ahead moves.
use Rattle.std.specs.Prelude.{◌≡◌, ℕ, ◌-◌, ◌<◌, ◌≤◌, List, ◌++◌, length, slice_index_or, Option, Some, Bool, true, false, ◌||◌, ◌&&◌, not, nat_lt}
use Rattle.mt_base.specs.declared.conflict.Conflict.{Conflict}
use Rattle.mt_base.specs.Picture.{window_end}
use Rattle.mt_edges.specs.declared.edge.Edge.{Edge}
use Rattle.mt_edges.specs.Pairs.{IsEach}
use Rattle.mt_kept.specs.declared.stale.Stale.{Stale}
use Rattle.mt_kept.specs.Private.Made.{borders, goes_on, window_last}

-- `is_stale`, `is_settled`, `stays`: a second before the first mark, a marked one or one past the last mark; a span begins in no such second, and ends
-- before the last second of the earlier look-ahead; so does a conflict, which stays
abbrev pub is_stale : Stale → ℕ → Bool
is_stale stale k = nat_lt k stale.from || slice_index_or stale.marks.items (k - stale.from) true

abbrev pub is_settled : Stale → ℕ → ℕ → Bool
is_settled stale first last = nat_lt last stale.last && not (is_stale stale first)

abbrev pub stays : Stale → Conflict → Bool
stays stale c = is_settled stale c.first c.last

-- seconds when the look-ahead moves from an earlier moment to a later one. Stale are those that aren't in both look-aheads, and those that are marked.
pub record AreStale (moment now : ℕ) (stale : Stale) : Type 0 where
  pub from_is : stale.from ≡ now
  pub last_is : stale.last ≡ window_last moment
  pub length_is : length stale.marks.items ≡ window_end moment - now
  pub bare : stale.marked ≡ false → (k : ℕ) → now ≤ k → k < window_end moment → is_stale stale k ≡ false

-- stale seconds stay stale, and the moments stay
pub record IsLater (old new : Stale) : Type 0 where
  pub from_stays : new.from ≡ old.from
  pub last_stays : new.last ≡ old.last
  pub length_stays : length new.marks.items ≡ length old.marks.items
  pub stays : (k : ℕ) → is_stale old k ≡ true → is_stale new k ≡ true

-- `IsSecondMarked`, `IsChangeMarked`: a second was marked; of what a pair showed and shows now, what it shows no more doesn't stay
pub record IsSecondMarked (second : ℕ) (old new : Stale) : Type 0 where
  pub later : IsLater old new
  pub marked : new.marked ≡ true
  pub stale : is_stale new second ≡ true

pub record IsChangeMarked (shown shows : Option Conflict) (old new : Stale) : Type 0 where
  pub later : IsLater old new
  pub bare : new.marked ≡ false → new ≡ old
  pub kept : (c : Conflict) → shown ≡ Some c → stays new c ≡ true → shows ≡ Some c

-- `comes_due`, `AreDue`, `AreDueAdded`: a pair goes on at the later moment, begins in a stale second and wasn't at the border of the earlier look-ahead; the
-- pairs that do so and begin in one of the two look-aheads; those of some seconds were put after others
abbrev pub comes_due : ℕ → ℕ → Stale → Edge → Bool
comes_due moment now stale e = goes_on now e && is_stale stale e.first && not (borders moment e)

abbrev pub AreDue : ℕ → ℕ → Stale → List Edge → List Edge → Type 0
AreDue moment now stale edges due = IsEach (λ e. (moment ≤ e.first) × (e.first < window_end now) × (comes_due moment now stale e ≡ true)) edges due

pub record AreDueAdded (edges : List Edge) (from to : ℕ) (p : Edge → Bool) (old new : List Edge) : Type 0 where
  pub added : List Edge
  pub is : new ≡ old ++ added
  pub each : IsEach (λ e. (from ≤ e.first) × (e.first < to) × (p e ≡ true)) edges added
