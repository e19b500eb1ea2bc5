use lib.IntN.{*ℤ_comm}
use Rattle.mt_ring.proofs.Ring.{*ℤ_assoc, *ℤ-+ℤ, *ℤ-neg_ℤ}
use Rattle.mt_ring.proofs.Signs.{mul_nonneg, mul_pos, square_nonneg}
use Rattle.mt_ring.proofs.ring_laws.Goals as goal

pub returns : goal.returns
returns c = record {
  commutes = *ℤ_comm;
  associates = *ℤ_assoc;
  distributes = *ℤ-+ℤ;
  negates = *ℤ-neg_ℤ;
  positive = mul_pos;
  never_negative = mul_nonneg;
  squares = square_nonneg;
}
