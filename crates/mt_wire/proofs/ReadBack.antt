-- A value whose numbers are whole and held is read as it was written.
use Rattle.std.proofs.Common.{◌≡◌, ℤ, pos, negsuc, ◌≤◌, List, [], ◌∷◌, Option, Some, refl, sym, ap, ◌∙◌, arith, append-nil}
use Rattle.std.specs.Prelude.{option_and_then}
use Rattle.json.specs.Tree as tree
use Rattle.json.specs.Json as json
use Rattle.json.specs.Lex.{tokens}
use Rattle.json.specs.Token.{Token}
use Rattle.json.specs.Print.{IsNumber, print}
use Rattle.json.proofs.Printed.Tokens.{tokens-print}
use Rattle.json.proofs.Printed.Decimals.{IsNumber-decimal, IsNumber-signed_decimal}
use Rattle.json.proofs.Printed.Trees.{ArePrintable-json_tokens, value-json_tokens}
use Rattle.serde_json.specs.Data.{Num, unsigned, negative, float, Data, null, boolean, number, string, array, object, Items, no_items, item, Members, no_members, member}
use Rattle.serde_json.specs.Find.{of_integer}
use Rattle.serde_json.specs.Read.{number_of, of_json, of_items, max_depth, read}
use Rattle.serde_json.specs.Written.{compact_text, number_text, outline, items_outline, members_outline}
use Rattle.serde_json.proofs.Numbers.{number_of-decimal, number_of-negative}
use Rattle.serde_json.proofs.Texts.{print-outline}
use Rattle.mt_write.specs.Entry.{values, whole}
use Rattle.mt_wire.specs.Held.{IsWireNumber, HoldsWhole, ItemsHoldWhole, MembersHoldWhole}

-- ---- a number's text is a number, and is read as that number

held_text : (n : Num) → IsWireNumber n → IsNumber (number_text n)
held_text (unsigned n) h = IsNumber-decimal n h
held_text (negative (pos n)) h = absurd h
held_text (negative (negsuc n)) h = IsNumber-signed_decimal (negsuc n) (omega arith)
held_text (float x) h = absurd h

mutual
  pub held_value : (d : Data) → HoldsWhole d → tree.HasNumbers (outline d)
  held_value null h = tt
  held_value (boolean b) h = tt
  held_value (number n) h = held_text n h
  held_value (string s) h = tt
  held_value (array ds) h = held_items ds h
  held_value (object ms) h = held_members ms h

  held_items : (ds : Items) → ItemsHoldWhole ds → tree.ItemsHaveNumbers (items_outline ds)
  held_items no_items h = tt
  held_items (item d ds) h = (held_value d h.0, held_items ds h.1)

  held_members : (ms : Members) → MembersHoldWhole ms → tree.MembersHaveNumbers (members_outline ms)
  held_members no_members h = tt
  held_members (member k d ms) h = (held_value d h.0, held_members ms h.1)

pub numbered : (z : ℤ) → HoldsWhole (whole z) → number_of (number_text (of_integer z)) ≡ Some (of_integer z)
numbered (pos n) h = number_of-decimal n h
numbered (negsuc n) h = number_of-negative n (omega arith)

-- ---- a value whose tree is read as it is, is read back

-- what was parsed, where nothing follows
abbrev taken : Option (json.Json × List Token) → Option Data
taken o = option_and_then of_json (option_and_then (λ p. json.if_last p.0 p.1) o)

pub read_back : (d : Data) → HoldsWhole d → tree.depth (outline d) ≤ max_depth → of_json (outline d) ≡ Some d → read (compact_text d) ≡ Some d
read_back d h shallow e =
    let ts = tree.json_tokens (outline d) in
    let same : tokens (print ts) ≡ ts = tokens-print ts (ArePrintable-json_tokens (outline d) (held_value d h)) in
    ap read (sym (print-outline d))
    ∙ ap taken (ap (json.value max_depth) (same ∙ sym (append-nil ts)) ∙ value-json_tokens (outline d) max_depth [] shallow) ∙ e

pub numbered_value : (z : ℤ) → HoldsWhole (whole z) → of_json (outline (whole z)) ≡ Some (whole z)
numbered_value z h = rw (numbered z h) refl

pub items_read : {A : Type 0} (value : A → Data) → ((x : A) → HoldsWhole (value x) → of_json (outline (value x)) ≡ Some (value x)) → (xs : List A)
    → ItemsHoldWhole (values value xs) → of_items (items_outline (values value xs)) ≡ Some (values value xs)
items_read value one [] h = refl
items_read value one (x ∷ xs) h = rw (one x h.0, items_read value one xs h.1) refl

pub items_depth : {A : Type 0} (value : A → Data) → ((x : A) → tree.depth (outline (value x)) ≤ 2) → (xs : List A) → tree.items_depth (items_outline (values value xs)) ≤ 2
items_depth value one [] = omega arith
items_depth value one (x ∷ xs) = omega (arith, one x, items_depth value one xs)
