-- One of two conditions at some fraction between two.
use Rattle.std.proofs.Common.{◌≡◌, ◌↔◌, ◌⊎◌, inl, inr, ⊎_elim, Bool, true, false, ℤ, Option, Some, None, IsTrue, refl, sym, true≢false}
use Rattle.mt_frac.specs.declared.fraction.Frac.{Frac}
use Rattle.mt_frac.specs.declared.quadratic.Quad.{Quad}
use Rattle.mt_pair.specs.declared.approach.High.{High}
use Rattle.mt_pair.specs.Private.Below.{HoldsBetween}
use Rattle.mt_pair.specs.Private.Cases.{IsHighAt, IsHighLoss}

first_between : (P Q : ℤ → ℤ → Type 0) (lo hi : Frac) → HoldsBetween P lo hi → HoldsBetween (λ n d. P n d ⊎ Q n d) lo hi
first_between P Q lo hi some = record { n = some.n; d = some.d; positive = some.positive; between = some.between; holds = inl some.holds }

second_between : (P Q : ℤ → ℤ → Type 0) (lo hi : Frac) → HoldsBetween Q lo hi → HoldsBetween (λ n d. P n d ⊎ Q n d) lo hi
second_between P Q lo hi some = record { n = some.n; d = some.d; positive = some.positive; between = some.between; holds = inr some.holds }

-- where the first holds somewhere, one of the two does
pub by_first : (P Q : ℤ → ℤ → Type 0) (lo hi : Frac) → HoldsBetween P lo hi → IsTrue true ↔ HoldsBetween (λ n d. P n d ⊎ Q n d) lo hi
by_first P Q lo hi some = ((λ t. first_between P Q lo hi some), (λ all. refl))

-- where the first holds nowhere, one of the two does exactly where the second does
pub by_second : (P Q : ℤ → ℤ → Type 0) (lo hi : Frac) (r : Bool) → ¬ HoldsBetween P lo hi → IsTrue r ↔ HoldsBetween Q lo hi
    → IsTrue r ↔ HoldsBetween (λ n d. P n d ⊎ Q n d) lo hi
by_second P Q lo hi r none same = (
  (λ t. second_between P Q lo hi (same.0 t)),
  (λ some. ⊎_elim
      (λ first. absurd (none (record { n = some.n; d = some.d; positive = some.positive; between = some.between; holds = first })))
      (λ second. same.1 (record { n = some.n; d = some.d; positive = some.positive; between = some.between; holds = second }))
      some.holds),
)

-- the greater minimum, where it holds for no one and where it does
pub by_none : (gap : Quad) (high : Option High) (lo hi : Frac) → high ≡ None → IsTrue false ↔ HoldsBetween (IsHighLoss gap high) lo hi
by_none gap None lo hi is = ((λ t. absurd (true≢false (sym t))), (λ some. absurd some.holds))
by_none gap (Some high) lo hi is = cc

pub by_some : (gap : Quad) (high : Option High) (some : High) (lo hi : Frac) (r : Bool) → high ≡ Some some → IsTrue r ↔ HoldsBetween (IsHighAt gap some) lo hi
    → IsTrue r ↔ HoldsBetween (IsHighLoss gap high) lo hi
by_some gap high some lo hi r is same = rw is same
