-- No public contract names these: they are of private steps and of proofs.
use Rattle.std.specs.Prelude.{ℕ, List, refl}
use Rattle.std.specs.Coded.{Coded, code_by, coded×, coded_list, coded_ℕ}
use Rattle.mt_board.specs.Book.{Book}

module _ {P : Type 0} where
  -- a book coded as its count and its values
  abbrev pub book_code : Coded P → Coded (Book P)
  book_code c = code_by (ℕ × List P) (coded× coded_ℕ (coded_list c)) (λ b. (b.count, b.last)) (λ p. record { count = p.0; last = p.1 }) (λ _. refl)
