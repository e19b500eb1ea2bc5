-- Lists in the order of publishing, and what a search in one says.
use Rattle.std.proofs.Common.{◌≡◌, ◌≢◌, ℕ, ◌+◌, List, [], ◌∷◌, get_or, ◌∙◌, ap, subst, arith}
use Rattle.std.specs.List.Sorted.{IsBinarySearchResult, IsNonDecreasingBy, IsStrictlySortedBy}
use Rattle.std.specs.Ordering.{is_lt, ordering_index, ordering_reverse}
use Rattle.std.specs.declared.cmp.Ordering.{Ordering}
use Rattle.std.specs.declared.cmp.Ordering.TheVariants.{Less}
use Rattle.std.specs.declared.result.Result.{Result}
use Rattle.std.proofs.lemmas.List.Sorted.{searchable_from_sorted}
use Rattle.std.proofs.lemmas.Map.Keys.{Less-from_sorted}
use Rattle.mt_base.specs.declared.conflict.Conflict.{Conflict}
use Rattle.mt_base.specs.Picture.{conflict_cmp}
use Rattle.mt_base.specs.contracts.conflict.ConflictOrd.TheImpl as conflict
use Rattle.mt_base.proofs.ConflictOrder.{order_is, total}

-- no conflict comes before itself
pub not_before : (x : Conflict) → conflict_cmp x x ≢ Less
not_before x e = let flip = total.antisymm x x in let g : Less ≡ ordering_reverse Less = rw e at flip in cc

-- a sorted list may be searched
pub rising : (xs : List Conflict) (x : Conflict) → IsStrictlySortedBy conflict_cmp xs → IsNonDecreasingBy (λ y. ordering_index (conflict_cmp y x)) xs
rising xs x sorted = searchable_from_sorted total (λ y. y) xs x (λ k d low below.
    let less = Less-from_sorted conflict_cmp xs k (k + 1) d sorted (omega arith) below in
    ap is_lt (total.antisymm (get_or xs (k + 1) d) (get_or xs k d) ∙ ap ordering_reverse less))

-- what a search says, in the order of publishing
pub searched : (xs : List Conflict) (x : Conflict) (r : Result ℕ ℕ) → IsBinarySearchResult (λ y. conflict.ghosts.cmp y x) xs r
    → IsBinarySearchResult (λ y. conflict_cmp y x) xs r
searched xs x r h = let P : (Conflict → Conflict → Ordering) → Type 0 = λ R. IsBinarySearchResult (λ y. R y x) xs r in subst P order_is h

pub sorted_none : (xs : List Conflict) → xs ≡ [] → IsStrictlySortedBy conflict_cmp xs
unfolding IsStrictlySortedBy
sorted_none [] e = tt
sorted_none (x ∷ xs) e = cc
