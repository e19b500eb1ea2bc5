-- No public contract names these: they are of private steps and of proofs.
-- Lists of places that are linked in both directions.
use Rattle.std.specs.Prelude.{◌≡◌, ◌≢◌, ℕ, ◌<◌, ◌≤◌, ◌⊎◌, List, [], ◌∷◌, length, slice_index, if◌then◌else◌, ◌==◌}

-- a place stands in a list
abbrev pub Has : List ℕ → ℕ → Type 0
Has [] p = ⊥
Has (x ∷ xs) p = (p ≡ x) ⊎ Has xs p

-- no place stands twice in a list
abbrev pub AreDistinct : List ℕ → Type 0
AreDistinct [] = Unit {0}
AreDistinct (x ∷ xs) = (¬ Has xs x) × AreDistinct xs

-- the list without a place
abbrev pub without_place : ℕ → List ℕ → List ℕ
without_place p [] = []
without_place p (x ∷ xs) = if x == p then without_place p xs else x ∷ without_place p xs

-- the links lead from place u through these places, and back. After the last one stands 0.
abbrev pub Chain : List ℕ → List ℕ → ℕ → List ℕ → Type 0
Chain next prev u [] = slice_index next u ≡ 0
Chain next prev u (x ∷ xs) = (slice_index next u ≡ x) × (slice_index prev x ≡ u) × Chain next prev x xs

-- the places below the base, but 0, are heads of lists
abbrev pub IsHead : ℕ → ℕ → Type 0
IsHead base h = (0 < h) × (h < base)

-- the links of all lists. Each list is a chain from its head, its places stand at the base or above, and no place stands twice, neither in one list
-- nor in two.
pub record Laid (next prev : List ℕ) (base : ℕ) (lists : ℕ → List ℕ) : Type 0 where
  pub some : 0 < base
  pub heads : base ≤ length next
  pub both : length next ≤ length prev
  pub chain : (h : ℕ) → IsHead base h → Chain next prev h (lists h)
  pub nodes : (h p : ℕ) → IsHead base h → Has (lists h) p → (base ≤ p) × (p < length next)
  pub once : (h : ℕ) → IsHead base h → AreDistinct (lists h)
  pub apart : (h k p : ℕ) → IsHead base h → IsHead base k → Has (lists h) p → Has (lists k) p → h ≡ k

-- place p now follows place h
pub record IsLinked (next prev next' prev' : List ℕ) (h p : ℕ) : Type 0 where
  pub lengths : (length next' ≡ length next) × (length prev' ≡ length prev)
  pub first : slice_index next' h ≡ p
  pub rest : slice_index next' p ≡ slice_index next h
  pub next_kept : (y : ℕ) → y ≢ h → y ≢ p → slice_index next' y ≡ slice_index next y
  pub back : slice_index prev' p ≡ h
  pub rest_back : slice_index prev' (slice_index next h) ≡ p
  pub prev_kept : (y : ℕ) → y ≢ p → y ≢ slice_index next h → slice_index prev' y ≡ slice_index prev y

-- place p is taken out, and its neighbours are linked with each other
pub record IsUnlinked (next prev next' prev' : List ℕ) (p : ℕ) : Type 0 where
  pub lengths : (length next' ≡ length next) × (length prev' ≡ length prev)
  pub joined : slice_index next' (slice_index prev p) ≡ slice_index next p
  pub next_kept : (y : ℕ) → y ≢ slice_index prev p → slice_index next' y ≡ slice_index next y
  pub back : slice_index prev' (slice_index next p) ≡ slice_index prev p
  pub prev_kept : (y : ℕ) → y ≢ slice_index next p → slice_index prev' y ≡ slice_index prev y

-- the places to be linked are in range, and p is new
pub record CanLink (next prev : List ℕ) (h p : ℕ) : Type 0 where
  pub head : h < length next
  pub place : (p < length next) × (p < length prev)
  pub behind : slice_index next h < length prev
  pub new : (p ≢ h) × (p ≢ slice_index next h)

-- the place to be taken out and its neighbours are in range
pub record CanUnlink (next prev : List ℕ) (p : ℕ) : Type 0 where
  pub place : (p < length next) × (p < length prev)
  pub before : slice_index prev p < length next
  pub behind : slice_index next p < length prev

-- the links are those that were, and perhaps some more after them
pub record IsLonger (next prev next' prev' : List ℕ) : Type 0 where
  pub next_length : length next ≤ length next'
  pub both : length next ≤ length prev → length next' ≤ length prev'
  pub next_kept : (y : ℕ) → y < length next → slice_index next' y ≡ slice_index next y
  pub prev_kept : (y : ℕ) → y < length prev → slice_index prev' y ≡ slice_index prev y
  pub prev_length : length prev ≤ length prev'
