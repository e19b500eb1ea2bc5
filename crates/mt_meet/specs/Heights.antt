-- Which vertical minimum keeps two layers of heights apart.
use Rattle.std.specs.Prelude.{ℤ, ◌-ℤ◌, ◌≤ℤ◌, ◌⊎◌}
use Rattle.mt_base.specs.declared.rules.Rules.{Rules}
use Rattle.mt_cover.specs.declared.layer.Layer.{Layer}

-- neither layer reaches above a level
pub record EndBelow (level : ℤ) (a b : Layer) : Type 0 where
  pub first : a.high ≤ℤ level
  pub second : b.high ≤ℤ level

-- one layer lies at least so far above the other
abbrev pub AreApartBy : ℤ → Layer → Layer → Type 0
AreApartBy least a b = (least ≤ℤ (b.low -ℤ a.high)) ⊎ (least ≤ℤ (a.low -ℤ b.high))

-- two layers lie apart by the vertical minimum. By the greater one; or by the lesser one, where neither reaches above the level from which on the
-- greater one holds.
abbrev pub LieApart : Rules → ℤ → Layer → Layer → Type 0
LieApart rules level a b = AreApartBy rules.sv2 a b ⊎ (EndBelow level a b × AreApartBy rules.sv a b)
