-- No public contract names these: they are of private steps and of proofs.
-- Conflicts as they are listed.
use Rattle.std.specs.Prelude.{ℕ, List}
use Rattle.mt_base.specs.declared.conflict.Conflict.{Conflict}

-- conflicts in the order of publishing, each once, and how many there is room for
pub record Ordered : Type 0 where
  pub conflicts : List Conflict
  pub room : ℕ
