-- No public contract names these: they are of private steps and of proofs.
use Rattle.std.specs.Prelude.{◌≡◌, ◌≢◌, ◌<◌, ◌≤◌, ℕ, ◌+◌, List, AllPairs, Contains, length, take, drop, slice_index_or}
use Rattle.std.specs.Cmp.Lexicographic.{slice_cmp}
use Rattle.std.specs.Ordering.{nat_cmp}
use Rattle.std.specs.declared.cmp.Ordering.TheVariants.{Less}
use Rattle.mt_names.specs.declared.names.Named.{Named}

-- `IsCallBefore`, `IsNotBefore`: a listed callsign is before another in byte order, and is not
abbrev pub IsCallBefore : List ℕ → Named → Type 0
IsCallBefore call n = slice_cmp nat_cmp n.call call ≡ Less

abbrev pub IsNotBefore : List ℕ → Named → Type 0
IsNotBefore call n = slice_cmp nat_cmp n.call call ≢ Less

-- callsigns in strictly rising order
abbrev pub AreRising : List Named → Type 0
AreRising names = AllPairs (λ a b. IsCallBefore b.call a) names

-- the places before a callsign, its own, and those after it. Between the two bounds stands only its own.
pub record IsSplit (names : List Named) (call : List ℕ) (span : ℕ × ℕ) : Type 0 where
  pub first : span.0 ≤ span.1
  pub inside : span.1 ≤ length names
  pub one : span.1 ≤ span.0 + 1
  pub below : (n : Named) → Contains (take span.0 names) n → IsCallBefore call n
  pub same : (d : Named) → span.0 < span.1 → (slice_index_or names span.0 d).call ≡ call
  pub above : (n : Named) → Contains (drop span.1 names) n → slice_cmp nat_cmp call n.call ≡ Less

-- a listed name with another callsign
pub record IsOtherName (names : List Named) (call : List ℕ) (n : Named) : Type 0 where
  pub listed : Contains names n
  pub other : n.call ≢ call
