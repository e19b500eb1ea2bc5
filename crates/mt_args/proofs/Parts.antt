-- A word's parts.
use Rattle.std.proofs.Common.{◌≡◌, ◌<◌, ℕ, true, false, List, length, Option, Some, None, refl, arith}
use Rattle.std.proofs.lemmas.Bool.{lt-ltb}
use Rattle.std.proofs.lemmas.Bool.Decides.{nat_tests}
use Rattle.std.specs.Borrow.{Bor}
use Rattle.std.specs.List.{after_first, before_first, position_or_len}
use Rattle.std.specs.Prelude.{MatchOption, nat_lt}
use Rattle.mt_args.specs.Task.{is_sign, has_sign, parted}

not_below : (n : ℕ) → nat_lt n n ≡ false
not_below n = grind (arith, nat_tests)

pub parts_are : (word : List ℕ) (r : Option (Bor (List ℕ) × Bor (List ℕ)))
    → MatchOption r (position_or_len is_sign word ≡ length word)
    (λ x. (position_or_len is_sign word < length word) × (x.0.now ≡ before_first is_sign word) × (x.1.now ≡ after_first is_sign word))
    → MatchOption r (has_sign word ≡ false)
    (λ p. (has_sign word ≡ true) × (parted word ≡ record { name = p.0.now; value = p.1.now }))
parts_are word None at_end = rw at_end (not_below (length word))
parts_are word (Some p) (within, name, value) = (lt-ltb _ _ within, rw (name, value) refl)
