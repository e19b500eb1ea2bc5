-- A text of 1 to 10 digits is read as its number.
use Rattle.std.proofs.Common.{◌≡◌, ◌<◌, ◌≤◌, ℕ, true, List, length, Result, Ok, Err, arith}
use Rattle.std.proofs.lemmas.Str.Parse.{IsNumeralModel, digits_value_short, numerals_by_value, parse_gives, tells_all_ascii_digits}
use Rattle.std.specs.Str.{all_ascii_digits}
use Rattle.std.specs.Str.Parse.{ParsesUnsigned, digits_value}

numerals : IsNumeralModel (λ (ds : List ℕ). all_ascii_digits ds ≡ true) (digits_value 10)
numerals = numerals_by_value _ tells_all_ascii_digits

pub parsed : {E : Type 0} (text : List ℕ) (r : Result ℕ E) → ParsesUnsigned 64 10 text r → all_ascii_digits text ≡ true → 0 < length text → length text ≤ 10
    → r ≡ Ok (digits_value 10 text)
parsed text r parses digits some few =
    parse_gives numerals 64 text r parses digits some (omega (arith, digits_value_short numerals text 10 digits few))

pub never : {E : Type 0} (text : List ℕ) (r : Result ℕ E) (e : E) → ParsesUnsigned 64 10 text r → all_ascii_digits text ≡ true → 0 < length text → length text ≤ 10
    → r ≡ Err e → ⊥
never text r e parses digits some few is = let ok = parsed text r parses digits some few in cc
