-- Halving: how often, and what is known of the seconds that are left.
use Rattle.std.proofs.Common.{ℕ, zero, suc, ◌+◌, ◌*◌, ◌^◌, ◌<◌, ◌≤◌, subst, arith, le_refl, ⊎_elim}
use Rattle.std.proofs.lemmas.Bool.{cases_lt}
use Rattle.mt_base.specs.Span.{IsLeast}
use Rattle.mt_track.specs.Seconds.{HasSome}

-- so much is left that the halvings to come end within so many steps in all
pub record IsHalvedTo (size count most : ℕ) : Type 0 where
  pub rounds : ℕ
  pub fits : size ≤ 2 ^ rounds
  pub left : count + rounds ≤ most

halved_fits : (size half rounds : ℕ) → 2 * half ≤ size + 1 → size ≤ 2 ^ suc rounds → half ≤ 2 ^ rounds
halved_fits size half rounds about fits = omega arith

halved_rounds : (size half count more most rounds : ℕ) → 1 < size → 2 * half ≤ size + 1 → more ≤ count + 1 → size ≤ 2 ^ rounds → count + rounds ≤ most
    → IsHalvedTo half more most
halved_rounds size half count more most zero some about once fits left = absurd (omega arith)
halved_rounds size half count more most (suc rounds) some about once fits left =
    record { rounds = rounds; fits = halved_fits size half rounds about fits; left = omega arith }

pub halved : (size half count more most : ℕ) → 1 < size → 2 * half ≤ size + 1 → more ≤ count + 1 → IsHalvedTo size count most → IsHalvedTo half more most
halved size half count more most some about once left = halved_rounds size half count more most left.rounds some about once left.fits left.left

module _ (P : ℕ → Type 0) where
  -- the seconds from a middle on are left where none is before it; and the other way round
  pub left_behind : (low middle high : ℕ) → ¬ HasSome P low middle → HasSome P low high → HasSome P middle high
  left_behind low middle high none some = ⊎_elim
      (λ less. absurd (none (record { k = some.k; begun = some.begun; ahead = less; holds = some.holds })))
      (λ enough. record { k = some.k; begun = enough; ahead = some.ahead; holds = some.holds })
      (cases_lt some.k middle)

  pub left_before : (low middle high : ℕ) → ¬ HasSome P middle high → HasSome P low high → HasSome P low middle
  left_before low middle high none some = ⊎_elim
      (λ less. record { k = some.k; begun = some.begun; ahead = less; holds = some.holds })
      (λ enough. absurd (none (record { k = some.k; begun = enough; ahead = some.ahead; holds = some.holds })))
      (cases_lt some.k middle)

  -- one second is left
  pub only_one : (low high : ℕ) → high ≤ low + 1 → HasSome P low high → P low
  only_one low high one some = subst P (let b = some.begun in let a = some.ahead in omega arith) some.holds

  pub none_over : (low high k : ℕ) → ¬ HasSome P low high → low ≤ k → k < high → ¬ P k
  none_over low high k none begun ahead at = none (record { k = k; begun = begun; ahead = ahead; holds = at })

  -- from the first on there is one
  pub some_from : (low high first : ℕ) → IsLeast P low high first → HasSome P first high
  some_from low high first least = record { k = first; begun = le_refl first; ahead = least.ahead; holds = least.is }
