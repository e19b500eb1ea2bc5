use Rattle.std.proofs.Common.{pos, neg_ℤ, refl}
use Rattle.mt_meet.proofs.Same.{same}
use Rattle.mt_meet.proofs.boxes.Boxes.empty.Goals as goal

pub returns : goal.returns
returns c = λ place within. rw (same 64 place (pos 32767) (pos 0) within, same 64 place (neg_ℤ (pos 1)) (pos 0) within) refl
