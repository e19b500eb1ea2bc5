-- The keys of an object, and which of them are allowed.
use Rattle.std.specs.Prelude.{◌≡◌, ◌⊎◌, ℕ, ◌==◌, ◌&&◌, List, [], ◌∷◌, length, All, slice_get, Bool, false, not, Option, Some, None, option_and_then, Result, Ok, Err, ⊤}
use Rattle.std.specs.List.{list_any, position, slice_split}
use Rattle.std.specs.List.Sorted.{IsStrictlySortedBy}
use Rattle.std.specs.Ordering.{nat_cmp}
use Rattle.std.specs.Cmp.Lexicographic.{slice_cmp}
use Rattle.std.specs.Str.{bytes_eq}
use Rattle.std.specs.declared.cmp.Ordering.TheVariants.{Less}
use Rattle.mt_json.specs.declared.bad.Extra.{Extra}
use Rattle.serde_json.specs.Data.{Members, no_members, member}

-- an object's keys, in order
abbrev pub keys : Members → List (List ℕ)
keys no_members = []
keys (member k d ms) = k ∷ keys ms

-- keys rise in byte order, each once
abbrev pub AreInByteOrder : Members → Type 0
AreInByteOrder ms = IsStrictlySortedBy (slice_cmp nat_cmp) (keys ms)

-- a key is one of the space-separated words allowed. The empty text is no word.
abbrev pub is_allowed : List ℕ → List ℕ → Bool
is_allowed allowed key = not (length key == 0) && list_any (λ word. bytes_eq word key) (slice_split (λ b. b == 32) allowed)

-- the place of the first key not allowed, from 0
abbrev pub other_key_at : List ℕ → Members → Option ℕ
other_key_at allowed ms = position (λ key. not (is_allowed allowed key)) (keys ms)

-- the least key not allowed, in byte order
abbrev pub other_key : List ℕ → Members → Option (List ℕ)
other_key allowed ms = option_and_then (slice_get (keys ms)) (other_key_at allowed ms)

-- the key that an answer names
abbrev pub shown_other : Result ⊤ Extra → Option (List ℕ)
shown_other (Ok _) = None
shown_other (Err extra) = Some extra.key.now

-- this key is the least not allowed
pub record IsLeastOther (allowed : List ℕ) (ks : List (List ℕ)) (key : List ℕ) : Type 0 where
  pub place : ℕ
  pub stands : slice_get ks place ≡ Some key
  pub other : is_allowed allowed key ≡ false
  pub least : All (λ k. is_allowed allowed k ≡ false → (k ≡ key) ⊎ (slice_cmp nat_cmp key k ≡ Less)) ks
