-- The text of a value whose texts are ASCII is UTF-8.
use Rattle.std.proofs.Common.{◌≡◌, ℕ, pos, negsuc, Bool, true, false, List, [], ◌∷◌, ◌++◌, IsUtf8, refl, arith}
use Rattle.std.specs.Prelude.{◌&&◌}
use Rattle.std.specs.List.{list_all}
use Rattle.std.proofs.lemmas.Bool.{and_parts}
use Rattle.std.proofs.lemmas.Bool.Decides.{nat_tests}
use Rattle.std.proofs.lemmas.Fmt.{IsAscii-decimal, IsAscii-signed}
use Rattle.std.proofs.lemmas.Str.{IsUtf8-append, IsUtf8-from_ascii}
use Rattle.json.specs.Print.{quoted}
use Rattle.json.proofs.Printed.Utf8.{are_ascii, IsUtf8-are_ascii, IsUtf8-boolean, IsUtf8-quoted}
use Rattle.serde_json.specs.Data.{Num, unsigned, negative, float, Data, null, boolean, number, string, array, object, Items, no_items, item, Members, no_members, member}
use Rattle.serde_json.specs.Written.{comma_if, compact_text, items_text, members_text, number_text}
use Rattle.mt_base.specs.Name.{is_letter, is_name}
use Rattle.mt_wire.specs.Held.{IsWireNumber, HoldsWhole, ItemsHoldWhole, MembersHoldWhole}

ascii_letters : (text : List ℕ) → list_all is_letter text ≡ true → are_ascii text ≡ true
ascii_letters [] h = refl
ascii_letters (b ∷ bs) h =
    let first : is_letter b ≡ true = grind (arith, nat_tests) in
    let rest : list_all is_letter bs ≡ true = grind (arith, nat_tests) in
    let others : are_ascii bs ≡ true = ascii_letters bs rest in
    grind (arith, nat_tests)

pub ascii_name : (low high : ℕ) (text : List ℕ) → is_name low high text ≡ true → are_ascii text ≡ true
ascii_name low high text h = let letters : list_all is_letter text ≡ true = grind (arith, nat_tests) in ascii_letters text letters

-- whether every text in a value is ASCII
abbrev mutual
  pub is_plain : Data → Bool
  is_plain null = true
  is_plain (boolean b) = true
  is_plain (number n) = true
  is_plain (string s) = are_ascii s
  is_plain (array ds) = are_plain ds
  is_plain (object ms) = have_plain ms

  pub are_plain : Items → Bool
  are_plain no_items = true
  are_plain (item d ds) = is_plain d && are_plain ds

  pub have_plain : Members → Bool
  have_plain no_members = true
  have_plain (member k d ms) = are_ascii k && (is_plain d && have_plain ms)

utf8_comma : (later : Bool) → IsUtf8 (comma_if later)
utf8_comma true = IsUtf8-are_ascii (44 ∷ []) refl
utf8_comma false = IsUtf8-are_ascii [] refl

utf8_number : (n : Num) → IsWireNumber n → IsUtf8 (number_text n)
utf8_number (unsigned n) h = IsUtf8-from_ascii _ (IsAscii-decimal n h)
utf8_number (negative (pos n)) h = absurd h
utf8_number (negative (negsuc n)) h = IsUtf8-from_ascii _ (IsAscii-signed (negsuc n) (omega arith))
utf8_number (float x) h = absurd h

mutual
  pub utf8_value : (d : Data) → HoldsWhole d → is_plain d ≡ true → IsUtf8 (compact_text d)
  utf8_value null h e = IsUtf8-are_ascii _ refl
  utf8_value (boolean b) h e = IsUtf8-boolean b
  utf8_value (number n) h e = utf8_number n h
  utf8_value (string s) h e = IsUtf8-quoted s (IsUtf8-are_ascii s e)
  utf8_value (array ds) h e = IsUtf8-append (91 ∷ []) (items_text false ds) (IsUtf8-are_ascii (91 ∷ []) refl) (utf8_items false ds h e)
  utf8_value (object ms) h e = IsUtf8-append (123 ∷ []) (members_text false ms) (IsUtf8-are_ascii (123 ∷ []) refl) (utf8_members false ms h e)

  utf8_items : (later : Bool) (ds : Items) → ItemsHoldWhole ds → are_plain ds ≡ true → IsUtf8 (items_text later ds)
  utf8_items later no_items h e = IsUtf8-are_ascii (93 ∷ []) refl
  utf8_items later (item d ds) h e =
      let p = and_parts (is_plain d) (are_plain ds) e in
      IsUtf8-append (comma_if later) (compact_text d ++ items_text true ds) (utf8_comma later)
      (IsUtf8-append (compact_text d) (items_text true ds) (utf8_value d h.0 p.0) (utf8_items true ds h.1 p.1))

  utf8_members : (later : Bool) (ms : Members) → MembersHoldWhole ms → have_plain ms ≡ true → IsUtf8 (members_text later ms)
  utf8_members later no_members h e = IsUtf8-are_ascii (125 ∷ []) refl
  utf8_members later (member k d ms) h e =
      let p = and_parts (are_ascii k) (is_plain d && have_plain ms) e in
      let q = and_parts (is_plain d) (have_plain ms) p.1 in
      IsUtf8-append (comma_if later) (quoted k ++ 58 ∷ (compact_text d ++ members_text true ms)) (utf8_comma later)
      (IsUtf8-append (quoted k) (58 ∷ (compact_text d ++ members_text true ms)) (IsUtf8-quoted k (IsUtf8-are_ascii k p.0))
      (IsUtf8-append (58 ∷ []) (compact_text d ++ members_text true ms) (IsUtf8-are_ascii (58 ∷ []) refl)
      (IsUtf8-append (compact_text d) (members_text true ms) (utf8_value d h.0 q.0) (utf8_members true ms h.1 q.1))))
