-- Lists of one value.
use Rattle.std.proofs.Common.{◌≡◌, ◌<◌, ℕ, zero, suc, get_or, replicate, refl, arith}

pub same : {X : Type 0} (n i : ℕ) (x d : X) → i < n → get_or (replicate n x) i d ≡ x
same zero i x d below = absurd (omega arith)
same (suc n) zero x d below = refl
same (suc n) (suc i) x d below = same n i x d (omega arith)

pub always : {X : Type 0} (n i : ℕ) (x : X) → get_or (replicate n x) i x ≡ x
always zero i x = refl
always (suc n) zero x = refl
always (suc n) (suc i) x = always n i x
