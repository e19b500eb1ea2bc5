-- What tests of stored numbers tell.
use borrow.Author.Differences.{true_is_le}
use lib.Signed.{le_z}
use Rattle.std.proofs.Common.{◌≡◌, ◌∙◌, ◌↔◌, ℕ, ℤ, pos, ◌+ℤ◌, ◌*ℤ◌, ◌≤ℤ◌, IsTrue, true, false, true≢false, sym, arith}
use Rattle.std.proofs.lemmas.Int.{ints}
use Rattle.mt_base.specs.declared.row.Row.{Row}
use Rattle.mt_frac.specs.declared.linear.Linear.{Linear}
use Rattle.mt_pair.specs.Private.High.{IsLow, StaysAbove}

pub is_le : (x y : ℤ) → le_z x y ≡ true → x ≤ℤ y
is_le x y test = omega (arith, ints, test)

pub le_is : (x y : ℤ) → x ≤ℤ y → le_z x y ≡ true
le_is x y h = sym (true_is_le x y (omega (arith, ints)))

pub no_le : {x y : ℤ} → le_z x y ≡ false → x ≤ℤ y → true ≡ false
no_le {x} {y} fails h = sym (le_is x y h) ∙ fails

-- a row is low at both ends
pub low_by : (level : ℤ) (a : Row) (seconds : ℕ) → le_z a.z level ≡ true → IsTrue (le_z (a.z +ℤ a.vz *ℤ pos seconds) level) ↔ IsLow level a seconds
low_by level a seconds start = (
  (λ t. record { start = is_le a.z level start; end = is_le (a.z +ℤ a.vz *ℤ pos seconds) level t }),
  (λ low. le_is (a.z +ℤ a.vz *ℤ pos seconds) level low.end),
)

pub not_low : (level : ℤ) (a : Row) (seconds : ℕ) → le_z a.z level ≡ false → IsTrue (le_z a.z level) ↔ IsLow level a seconds
not_low level a seconds fails = ((λ t. absurd (true≢false (sym t ∙ fails))), (λ low. absurd (true≢false (no_le fails low.start))))

-- a line is 0 or above at both ends
pub stays_by : (line : Linear) (seconds : ℕ) → le_z (pos 0) line.c ≡ true
    → IsTrue (le_z (pos 0) (line.b *ℤ pos seconds +ℤ line.c)) ↔ StaysAbove line seconds
stays_by line seconds start = (
  (λ t. record { start = is_le (pos 0) line.c start; end = is_le (pos 0) (line.b *ℤ pos seconds +ℤ line.c) t }),
  (λ above. le_is (pos 0) (line.b *ℤ pos seconds +ℤ line.c) above.end),
)

pub not_stays : (line : Linear) (seconds : ℕ) → le_z (pos 0) line.c ≡ false → IsTrue (le_z (pos 0) line.c) ↔ StaysAbove line seconds
not_stays line seconds fails = ((λ t. absurd (true≢false (sym t ∙ fails))), (λ above. absurd (true≢false (no_le fails above.start))))
