-- A name stands between quotes as it is.
use Rattle.std.proofs.Common.{◌≡◌, ℕ, List, [], ◌∷◌, true, refl, arith}
use Rattle.std.proofs.lemmas.Bool.Decides.{nat_tests}
use Rattle.std.specs.List.{list_all}
use Rattle.json.specs.Print.{escape, escape_byte}
use Rattle.mt_base.specs.Name.{is_letter, is_name}

plain_byte : (b : ℕ) → is_letter b ≡ true → escape_byte b ≡ b ∷ []
unfolding escape_byte
plain_byte b h = grind (arith, nat_tests)

plain_letters : (text : List ℕ) → list_all is_letter text ≡ true → escape text ≡ text
plain_letters [] h = refl
plain_letters (b ∷ bs) h =
    let first : is_letter b ≡ true = grind (arith, nat_tests) in
    let rest : list_all is_letter bs ≡ true = grind (arith, nat_tests) in
    rw (plain_byte b first, plain_letters bs rest) refl

named_letters : (low high : ℕ) (text : List ℕ) → is_name low high text ≡ true → list_all is_letter text ≡ true
named_letters low high text h = grind (arith, nat_tests)

pub plain_name : (low high : ℕ) (text : List ℕ) → is_name low high text ≡ true → escape text ≡ text
plain_name low high text h = plain_letters text (named_letters low high text h)
