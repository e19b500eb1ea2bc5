-- The keys of a map ascend, so those of the members do that it is seen as.
use Rattle.std.proofs.Common.{◌≡◌, ℕ, List, [], ◌∷◌, String, Global, string_bytes, string_cmp, nat_cmp, Less}
use Rattle.std.specs.Cmp.Lexicographic.{slice_cmp}
use Rattle.std.specs.List.{AllByRecursion}
use Rattle.std.specs.List.Sorted.{IsStrictlySortedBy}
use Rattle.std.specs.Map.{keys_of}
use Rattle.serde_json.specs.declared.value.Value.{Value}
use Rattle.serde_json.specs.View.{members_view}
use Rattle.mt_json.specs.Keys.{keys}

abbrev Entry : Type 0
Entry = String Global × Value

all_shown : (P : List ℕ → Type 0) (es : List Entry) → AllByRecursion (λ k. P (string_bytes k)) (keys_of es) → AllByRecursion P (keys (members_view es))
all_shown P [] h = tt
all_shown P (e ∷ es) h = (h.0, all_shown P es h.1)

-- the keys ascend as the map's do
pub ordered_shown : (es : List Entry) → IsStrictlySortedBy string_cmp (keys_of es) → IsStrictlySortedBy (slice_cmp nat_cmp) (keys (members_view es))
unfolding IsStrictlySortedBy
ordered_shown [] h = tt
ordered_shown (e ∷ es) h = (all_shown (λ k. slice_cmp nat_cmp (string_bytes e.0) k ≡ Less) es h.0, ordered_shown es h.1)
