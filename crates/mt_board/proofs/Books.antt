-- A book of values, also as the book of what is told of them.
use Rattle.std.proofs.Common.{◌≡◌, subst, ◌-◌, ◌+◌, ℕ, Bool, true, false, List, [], ◌∷◌, ◌++◌, All, length, map, Some, None, refl, sym, ◌∙◌, ap, if◌then◌else◌, nat_lt}
use Rattle.std.proofs.lemmas.List.{drop-map, length-map, map-append}
use Rattle.std.proofs.lemmas.List.Elements.{All-drop, All-push, recursion_from_All}
use Rattle.std.proofs.lemmas.Option.{get_or_from_slice_get, slice_get-map, slice_get_within}
use Rattle.std.specs.List.{AllByRecursion}
use Rattle.std.specs.Option.{option_map}
use Rattle.std.specs.Prelude.{slice_get}
use Rattle.circular_buffer.specs.Buffer.{keep_last}
use Rattle.mt_board.specs.Book.{Book, probe_at, told_book, with_all, with_probe}

-- one value more, put last
pub put_more : {P : Type 0} (book : Book P) (ps : List P) (p : P) → with_all book (ps ++ p ∷ []) ≡ with_probe (with_all book ps) p
put_more book [] p = refl
put_more book (q ∷ ps) p = put_more (with_probe book q) ps p

module _ {P Q : Type 0} (told : P → Q) where
  map_keep_last : (n : ℕ) (xs : List P) → map told (keep_last n xs) ≡ keep_last n (map told xs)
  map_keep_last n xs = rw (length-map xs told) (sym (drop-map told (length xs - n) xs))

  -- one value more, as it is told
  pub told_push : (book : Book P) (p : P) → told_book told (with_probe book p) ≡ with_probe (told_book told book) (told p)
  told_push book p = rw (map_keep_last 64 (book.last ++ p ∷ []), map-append told book.last (p ∷ [])) refl

  -- some more
  pub told_all : (book : Book P) (ps : List P) → told_book told (with_all book ps) ≡ with_all (told_book told book) (map told ps)
  told_all book [] = refl
  told_all book (p ∷ ps) = told_all (with_probe book p) ps ∙ ap (λ (b : Book Q). with_all b (map told ps)) (told_push book p)

  at_place : (b : Bool) (xs : List P) (k : ℕ)
      → (if b then slice_get (map told xs) k else None) ≡ option_map told (if b then slice_get xs k else None)
  at_place true xs k = slice_get-map told xs k
  at_place false xs k = refl

  -- the value of a number
  pub told_at : (book : Book P) (n : ℕ) → probe_at (told_book told book) n ≡ option_map told (probe_at book n)
  told_at book n = rw (length-map book.last told) (at_place (nat_lt book.count (n + length book.last)) book.last (n + length book.last - (book.count + 1)))

module _ {A : Type 0} (P : A → Type 0) where
  -- what holds of each value of a book holds of each with one more
  pub all_push : (book : Book A) (p : A) → All P book.last → P p → All P (with_probe book p).last
  all_push book p are one = All-drop P _ _ (All-push P book.last p are one)

  each_push : (book : Book A) (ps : List A) → All P book.last → AllByRecursion P ps → All P (with_all book ps).last
  each_push book [] are more = are
  each_push book (p ∷ ps) are more = each_push (with_probe book p) ps (all_push book p are more.0) more.1

  -- or some more
  pub all_more : (book : Book A) (ps : List A) → All P book.last → All P ps → All P (with_all book ps).last
  all_more book ps are more = each_push book ps are (recursion_from_All P ps more)

  -- and of the value of a number
  pub all_at : (book : Book A) (n : ℕ) (p : A) → All P book.last → probe_at book n ≡ Some p → P p
  all_at book n p are found = by_test (nat_lt book.count (n + length book.last)) found where
    at : (i : ℕ) → slice_get book.last i ≡ Some p → P p
    at i is = subst P (get_or_from_slice_get book.last i p p is) (are i p (slice_get_within book.last i p is))

    by_test : (b : Bool) → (if b then slice_get book.last (n + length book.last - (book.count + 1)) else None) ≡ Some p → P p
    by_test true is = at (n + length book.last - (book.count + 1)) is
    by_test false is = cc
