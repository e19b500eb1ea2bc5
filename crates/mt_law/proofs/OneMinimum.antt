-- Where the two vertical minima are one, what approval and height add is nothing.
use Rattle.std.proofs.Common.{◌≡◌, ◌↔◌, Bool, ℤ, inl, subst, ⊎_elim}
use Rattle.mt_base.specs.declared.row.Row.{Row}
use Rattle.mt_base.specs.declared.rules.Rules.{Rules}
use Rattle.mt_base.specs.Loss.{IsNearAt, LosesAt}
use Rattle.mt_law.specs.OneMinimum.{LosesByOneAt}

pub one_minimum : (rules : Rules) (pa pb : Bool) (a b : Row) (n d : ℤ) → rules.sv2 ≡ rules.sv → LosesAt rules pa pb a b n d ↔ LosesByOneAt rules a b n d
one_minimum rules pa pb a b n d same = (
  (λ loss.
      let near : IsNearAt rules.sv a b n d = ⊎_elim (λ h. h)
      (λ more. ⊎_elim (λ h. subst (λ (least : ℤ). IsNearAt least a b n d) same h.0) (λ h. subst (λ (least : ℤ). IsNearAt least a b n d) same h.0) more)
      loss.vertical in
      record { horizontal = loss.horizontal; above = near.above; below = near.below }),
  (λ loss. record { horizontal = loss.horizontal; vertical = inl (record { above = loss.above; below = loss.below }) }),
)
