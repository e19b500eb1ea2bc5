-- No public contract names these: they are of private steps and of proofs.
use Rattle.std.specs.Prelude.{◌≡◌, ℤ, ◌≤ℤ◌, ◌⊎◌}
use Rattle.mt_base.specs.declared.rules.Rules.{Rules}
use Rattle.mt_cover.specs.declared.layer.Layer.{Layer}
use Rattle.mt_meet.specs.Heights.{EndBelow}

-- the greater minimum; or the lesser one, where neither layer reaches above the level from which on the greater one holds
abbrev pub IsMinimumIn : Rules → ℤ → Layer → Layer → ℤ → Type 0
IsMinimumIn rules level a b least = (least ≡ rules.sv2) ⊎ ((least ≡ rules.sv) × EndBelow level a b)

-- the second of two layers holds what the first one does
pub record IsWider (layer wider : Layer) : Type 0 where
  pub low : wider.low ≤ℤ layer.low
  pub high : layer.high ≤ℤ wider.high
