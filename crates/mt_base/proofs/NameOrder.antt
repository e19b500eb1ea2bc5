-- Eight bytes of a name, read as a number, are in the order of its letters.
use Rattle.std.proofs.Common.{◌≡◌, ◌<◌, ◌≤◌, ℕ, ◌+◌, ◌*◌, ◌^◌, zero, suc, List, [], ◌∷◌, length, true, refl, sym, ◌∙◌, ap, arith}
use Rattle.std.specs.Prelude.{nat_eq}
use Rattle.std.specs.List.{list_all}
use Rattle.std.specs.Int.{w64, from_be_bytes}
use Rattle.std.specs.Cmp.{nat_cmp_is, unsigned_ties}
use Rattle.std.specs.Cmp.Lexicographic.{pointwise, slice_cmp, texts_ties}
use Rattle.std.specs.Ordering.{MatchOrdering, is_eq, nat_cmp, ordering_then}
use Rattle.std.specs.declared.cmp.Ordering.{Ordering}
use Rattle.std.specs.declared.cmp.Ordering.TheVariants.{Less, Equal, Greater}
use Rattle.std.proofs.lemmas.Bool.Decides.{nat_tests}
use Rattle.std.proofs.lemmas.Cmp.{by_ranked, ranked}
use Rattle.std.proofs.lemmas.Nat.{mul-add-lt}
use Rattle.std.proofs.Math.Nat.{one-le-pow, pow-suc, mul_comm}
use Rattle.mt_base.specs.Name.{is_letter, is_name}
use Rattle.mt_base.specs.Private.Padded.{padded, packed, name_number}

-- a higher first digit
higher : (base x y q r : ℕ) → x < y → q < base → x * base + q < y * base + r
higher base x y q r less small = omega (arith, mul-add-lt x base q y less small, mul_comm base y)

-- the same number before both changes nothing
shifted : (n q r : ℕ) → nat_cmp (n + q) (n + r) ≡ nat_cmp q r
shifted n q r = grind (arith, nat_tests)

-- of numbers of two digits the first decides, and where it is the same the second
digits : (base x y q r : ℕ) → q < base → r < base → nat_cmp (x * base + q) (y * base + r) ≡ ordering_then (nat_cmp x y) (nat_cmp q r)
digits base x y q r q_small r_small = by_ranked (x < y) (x ≡ y) (y < x) (nat_cmp x y) (ranked x y (nat_cmp x y) refl)
    (λ is less. rw is (sym (nat_cmp_is _ _ Less (higher base x y q r less q_small))))
    (λ is same. rw (is, same) (shifted (y * base) q r))
    (λ is more. rw is (sym (nat_cmp_is _ _ Greater (higher base y x r q more r_small))))

-- each byte is a letter
abbrev AreLetters : List ℕ → Type 0
AreLetters text = list_all is_letter text ≡ true

first_is : (x : ℕ) (xs : List ℕ) → AreLetters (x ∷ xs) → (0 < x) × (x < 256) × AreLetters xs
first_is x xs letters = grind (arith, nat_tests)

packed_fits : (left before : ℕ) (text : List ℕ) → before + left < 256 → AreLetters text → packed left before text < 256 ^ suc left
packed_fits left before [] small letters = omega (arith, pow-suc 256 left, one-le-pow left 256 (omega arith))
packed_fits zero before (x ∷ xs) small letters = omega arith
packed_fits (suc left) before (x ∷ xs) small letters =
    let p = first_is x xs letters in
    omega (arith, pow-suc 256 (suc left), mul-add-lt x (256 ^ suc left) (packed left (suc before) xs) 256 p.1 (packed_fits left (suc before) xs (omega arith) p.2))

-- a name with one more letter is after one that ends here
first_more : (left before x : ℕ) (xs : List ℕ) → before + suc left < 256 → AreLetters (x ∷ xs) → before < packed (suc left) before (x ∷ xs)
first_more left before x xs small letters =
    let p = first_is x xs letters in
    omega (arith, higher (256 ^ suc left) 0 x before (packed left (suc before) xs) p.0 (packed_fits left before [] (omega arith) refl))

-- by the letters, one after the other
packed_order : (left before : ℕ) (s t : List ℕ) → length s ≤ left → length t ≤ left → before + left < 256 → AreLetters s → AreLetters t
    → nat_cmp (packed left before s) (packed left before t) ≡ slice_cmp nat_cmp s t
packed_order left before [] [] fits fits' small of of' = sym (nat_cmp_is before before Equal refl)
packed_order zero before [] (y ∷ ys) fits fits' small of of' = absurd (omega arith)
packed_order (suc left) before [] (y ∷ ys) fits fits' small of of' =
    sym (nat_cmp_is before (packed (suc left) before (y ∷ ys)) Less (first_more left before y ys small of'))
packed_order zero before (x ∷ xs) t fits fits' small of of' = absurd (omega arith)
packed_order (suc left) before (x ∷ xs) [] fits fits' small of of' =
    sym (nat_cmp_is (packed (suc left) before (x ∷ xs)) before Greater (first_more left before x xs small of))
packed_order (suc left) before (x ∷ xs) (y ∷ ys) fits fits' small of of' =
    let p = first_is x xs of in
    let q = first_is y ys of' in
    digits (256 ^ suc left) x y (packed left (suc before) xs) (packed left (suc before) ys)
    (packed_fits left (suc before) xs (omega arith) p.2) (packed_fits left (suc before) ys (omega arith) q.2)
    ∙ ap (ordering_then (nat_cmp x y)) (packed_order left (suc before) xs ys (omega arith) (omega arith) (omega arith) p.2 q.2)

-- the number is in the order of the letters
number_order : (s t : List ℕ) → is_name 1 7 s ≡ true → is_name 1 7 t ≡ true → nat_cmp (name_number s) (name_number t) ≡ slice_cmp nat_cmp s t
number_order s t s_named t_named = packed_order 7 0 s t (grind (arith, nat_tests)) (grind (arith, nat_tests)) (omega arith) (grind (arith, nat_tests)) (grind (arith, nat_tests))

-- and so an order that tells of the numbers tells of the letters
pub order_is : (s t : List ℕ) (order : Ordering) → is_name 1 7 s ≡ true → is_name 1 7 t ≡ true
    → MatchOrdering order (name_number s < name_number t) (name_number s ≡ name_number t) (name_number t < name_number s) → order ≡ slice_cmp nat_cmp s t
order_is s t order s_named t_named told = nat_cmp_is (name_number s) (name_number t) order told ∙ number_order s t s_named t_named

-- names of one number are one
pub number_same : (s t : List ℕ) → is_name 1 7 s ≡ true → is_name 1 7 t ≡ true → nat_eq (name_number s) (name_number t) ≡ pointwise nat_eq s t
number_same s t s_named t_named = unsigned_ties (name_number s) (name_number t) ∙ ap is_eq (number_order s t s_named t_named) ∙ sym (texts_ties s t)

-- the bytes give that number
pub number_is : (text : List ℕ) → length text ≤ 7 → from_be_bytes w64 (padded text) ≡ name_number text
number_is [] short = omega arith
number_is (a ∷ []) short = omega arith
number_is (a ∷ b ∷ []) short = omega arith
number_is (a ∷ b ∷ c ∷ []) short = omega arith
number_is (a ∷ b ∷ c ∷ d ∷ []) short = omega arith
number_is (a ∷ b ∷ c ∷ d ∷ e ∷ []) short = omega arith
number_is (a ∷ b ∷ c ∷ d ∷ e ∷ f ∷ []) short = omega arith
number_is (a ∷ b ∷ c ∷ d ∷ e ∷ f ∷ g ∷ []) short = omega arith
number_is (a ∷ b ∷ c ∷ d ∷ e ∷ f ∷ g ∷ h ∷ rest) short = absurd (omega arith)
