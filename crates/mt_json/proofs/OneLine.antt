-- A compact text has no byte below a space.
use Rattle.std.proofs.Common.{◌≡◌, ℕ, pos, negsuc, zero, suc, ◌+◌, ◌/◌, ◌%◌, ◌≤◌, ◌==◌, nat_lt, cond, List, [], ◌∷◌, ◌++◌, Bool, true, false, decimal, refl, arith}
use Rattle.std.proofs.lemmas.List.Elements.{All-from_recursion}
use Rattle.std.specs.List.{AllByRecursion}
use Rattle.std.specs.Char.{digit_char}
use Rattle.std.specs.Fmt.{digits, digits_onto, digit_glyph}
use Rattle.json.specs.Print.{escape_letter, escape_byte, escape, quoted}
use Rattle.serde_json.specs.Data.{Num, unsigned, negative, float, Data, null, boolean, number, string, array, object, Items, no_items, item, Members, no_members, member}
use Rattle.serde_json.specs.Written.{number_text, comma_if, compact_text, items_text, members_text}
use Rattle.mt_json.specs.Line.{IsOneLine}

-- `IsOneLine`, byte after byte
abbrev Clear : List ℕ → Type 0
Clear = AllByRecursion (λ byte. 32 ≤ byte)

clear-append : (xs ys : List ℕ) → Clear xs → Clear ys → Clear (xs ++ ys)
clear-append [] ys h k = k
clear-append (x ∷ xs) ys h k = (h.0, clear-append xs ys h.1 k)

either : (b : Bool) (xs ys : List ℕ) → (b ≡ true → Clear xs) → (b ≡ false → Clear ys) → Clear (cond b xs ys)
either true xs ys h k = h refl
either false xs ys h k = k refl

digit : (d : ℕ) (b : Bool) → 32 ≤ cond b (48 + d) (87 + d)
digit d true = omega arith
digit d false = omega arith

clear-digits_onto : (k n : ℕ) (ds : List ℕ) → Clear ds → Clear (digits_onto k 10 false n ds)
clear-digits_onto zero n ds h = h
clear-digits_onto (suc k) n ds h =
    let more : Clear (digit_glyph false (n % 10) ∷ ds) = (digit (n % 10) (nat_lt (n % 10) 10), h) in
    either (n / 10 == 0) _ _ (λ _. more) (λ _. clear-digits_onto k (n / 10) _ more)

clear-decimal : (n : ℕ) → Clear (decimal n)
unfolding digits
clear-decimal n = clear-digits_onto 64 n [] tt

clear-number_text : (x : Num) → Clear (number_text x)
clear-number_text (unsigned n) = clear-decimal n
clear-number_text (negative (pos n)) = clear-decimal n
clear-number_text (negative (negsuc n)) = (omega arith, clear-decimal (suc n))
clear-number_text (float x) = tt

letter : (x : ℕ) → nat_lt 0 (escape_letter x) ≡ true → 32 ≤ escape_letter x
letter x h = grind arith

clear-escape_byte : (x : ℕ) → Clear (escape_byte x)
unfolding escape_byte
clear-escape_byte x =
    let codes : Clear (digit_char (x / 16) ∷ digit_char (x % 16) ∷ []) = (digit (x / 16) (nat_lt (x / 16) 10), (digit (x % 16) (nat_lt (x % 16) 10), tt)) in
    either (nat_lt 0 (escape_letter x)) _ _ (λ h. (omega arith, (letter x h, tt)))
    (λ _. either (nat_lt x 32) _ _ (λ _. (omega arith, (omega arith, (omega arith, (omega arith, codes))))) (λ h. (grind arith, tt)))

clear-escape : (s : List ℕ) → Clear (escape s)
clear-escape [] = tt
clear-escape (x ∷ s) = clear-append (escape_byte x) (escape s) (clear-escape_byte x) (clear-escape s)

clear-quoted : (s : List ℕ) → Clear (quoted s)
clear-quoted s = (omega arith, clear-append (escape s) (34 ∷ []) (clear-escape s) (omega arith, tt))

clear-comma_if : (later : Bool) → Clear (comma_if later)
clear-comma_if true = (omega arith, tt)
clear-comma_if false = tt

mutual
  clear-compact_text : (d : Data) → Clear (compact_text d)
  clear-compact_text null = (omega arith, (omega arith, (omega arith, (omega arith, tt))))
  clear-compact_text (boolean true) = (omega arith, (omega arith, (omega arith, (omega arith, tt))))
  clear-compact_text (boolean false) = (omega arith, (omega arith, (omega arith, (omega arith, (omega arith, tt)))))
  clear-compact_text (number x) = clear-number_text x
  clear-compact_text (string s) = clear-quoted s
  clear-compact_text (array ds) = (omega arith, clear-items_text false ds)
  clear-compact_text (object ms) = (omega arith, clear-members_text false ms)

  clear-items_text : (later : Bool) (ds : Items) → Clear (items_text later ds)
  clear-items_text later no_items = (omega arith, tt)
  clear-items_text later (item d ds) =
      clear-append (comma_if later) _ (clear-comma_if later) (clear-append (compact_text d) _ (clear-compact_text d) (clear-items_text true ds))

  clear-members_text : (later : Bool) (ms : Members) → Clear (members_text later ms)
  clear-members_text later no_members = (omega arith, tt)
  clear-members_text later (member k d ms) =
      let rest : Clear (58 ∷ (compact_text d ++ members_text true ms)) = (omega arith, clear-append (compact_text d) _ (clear-compact_text d) (clear-members_text true ms)) in
      clear-append (comma_if later) _ (clear-comma_if later) (clear-append (quoted k) _ (clear-quoted k) rest)

pub one_line : (d : Data) → IsOneLine (compact_text d)
one_line d = All-from_recursion (λ byte. 32 ≤ byte) (compact_text d) (clear-compact_text d)
