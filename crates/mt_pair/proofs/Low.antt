-- Where no one is high only the lesser minimum is asked for; and there is no loss where there is none by the one minimum nor by the other.
use Rattle.std.proofs.Common.{◌≡◌, ◌↔◌, inl, ⊎_elim, Bool, ℕ, ℤ, pos, ◌+ℤ◌, ◌*ℤ◌, ◌<ℤ◌, ◌≤ℤ◌, Option, Some, None, Bor, IsTrue, arith, refl}
use Rattle.std.proofs.lemmas.Int.{ints}
use Rattle.mt_ring.proofs.Ring.{lin, spread}
use Rattle.mt_frac.specs.Polynomials.{value}
use Rattle.std.specs.Option.{option_copied}
use Rattle.mt_frac.specs.declared.quadratic.Quad.{Quad}
use Rattle.mt_pair.specs.declared.approach.Approach.{Approach}
use Rattle.mt_pair.specs.declared.approach.High.{High}
use Rattle.mt_frac.specs.Instants.{HoldsIn}
use Rattle.mt_track.specs.Seconds.{HasSome}
use Rattle.mt_pair.specs.Private.Below.{AreBelowAt}
use Rattle.mt_pair.specs.Private.Cases.{IsHighLoss, IsLoss}

-- what follows at each fraction follows in some seconds
over_from : (P Q : ℤ → ℤ → Type 0) (low high : ℕ) → ((n d : ℤ) → P n d → Q n d) → HasSome (HoldsIn P) low high → HasSome (HoldsIn Q) low high
over_from P Q low high follows some =
    let at = some.holds in
    record {
      k = some.k;
      begun = some.begun;
      ahead = some.ahead;
      holds = record { n = at.n; d = at.d; begun = at.begun; within = at.within; holds = follows _ _ at.holds };
    }

no_high : (gap : Quad) (high : Option High) (n d : ℤ) → high ≡ None → ¬ IsHighLoss gap high n d
no_high gap None n d is loss = loss
no_high gap (Some high) n d is loss = cc

pub copied_none : (x : Approach) → x.high ≡ None → option_copied x.high ≡ None
copied_none x none = rw none refl

pub low_over : (x : Approach) (low high : ℕ) → x.high ≡ None → HasSome (HoldsIn (IsLoss x)) low high ↔ HasSome (HoldsIn (AreBelowAt x.gap x.over x.under)) low high
low_over x low high none = (
  (λ some. over_from (IsLoss x) (AreBelowAt x.gap x.over x.under) low high (λ n d loss. ⊎_elim (λ near. near) (λ far. absurd (no_high x.gap (option_copied x.high) n d (copied_none x none) far)) loss) some),
  (λ some. over_from (AreBelowAt x.gap x.over x.under) (IsLoss x) low high (λ n d near. inl near) some),
)

pub by_low : (x : Approach) (r : Bool) (low high : ℕ) → x.high ≡ None → IsTrue r ↔ HasSome (HoldsIn (AreBelowAt x.gap x.over x.under)) low high
    → IsTrue r ↔ HasSome (HoldsIn (IsLoss x)) low high
by_low x r low high none same =
    let low_is = low_over x low high none in
    ((λ t. low_is.1 (same.0 t)), (λ some. same.1 (low_is.0 some)))

pub quiet_low : (x : Approach) (low high : ℕ) → x.high ≡ None → ¬ HasSome (HoldsIn (AreBelowAt x.gap x.over x.under)) low high → ¬ HasSome (HoldsIn (IsLoss x)) low high
quiet_low x low high none quiet some = quiet ((low_over x low high none).0 some)

-- a loss by the greater minimum is nearness by it
near_high : (gap : Quad) (high : Option High) (one : High) (n d : ℤ) → high ≡ Some one → IsHighLoss gap high n d → AreBelowAt gap one.over one.under n d
near_high gap high one n d is loss = ⊎_elim (λ left. left.0) (λ right. right.0) (rw is at loss)

pub copied_some : (x : Approach) (one : Bor High) → x.high ≡ Some one → option_copied x.high ≡ Some one.now
copied_some x one some = rw some refl

pub quiet_high : (x : Approach) (one : High) (low high : ℕ) → option_copied x.high ≡ Some one → ¬ HasSome (HoldsIn (AreBelowAt x.gap x.over x.under)) low high
    → ¬ HasSome (HoldsIn (AreBelowAt x.gap one.over one.under)) low high → ¬ HasSome (HoldsIn (IsLoss x)) low high
quiet_high x one low high is quiet far_quiet some =
    let at = some.holds in
    ⊎_elim
    (λ near. quiet (record {
      k = some.k;
      begun = some.begun;
      ahead = some.ahead;
      holds = record { n = at.n; d = at.d; begun = at.begun; within = at.within; holds = near };
    }))
    (λ far. far_quiet (record {
      k = some.k;
      begun = some.begun;
      ahead = some.ahead;
      holds = record { n = at.n; d = at.d; begun = at.begun; within = at.within; holds = near_high x.gap (option_copied x.high) one _ _ is far };
    }))
    at.holds

-- all three are below 0 at the start of second 0
pub at_start : (x : Approach) → x.gap.c <ℤ pos 0 → x.over.c <ℤ pos 0 → x.under.c <ℤ pos 0 → HoldsIn (IsLoss x) 0
at_start x gap over under = record {
  n = pos 0;
  d = pos 1;
  begun = omega (arith, ints);
  within = omega (arith, ints);
  holds = inl (record { gap_is = simp spread (omega (arith, lin)); over_is = omega (arith, lin); under_is = omega (arith, lin) });
}

-- a loss by either minimum is below the horizontal one
gap_of_loss : (x : Approach) (n d : ℤ) → IsLoss x n d → value x.gap.a x.gap.b x.gap.c n d <ℤ pos 0
gap_of_loss x n d loss = ⊎_elim (λ near. near.gap_is) (λ far. high_gap (option_copied x.high) far) loss where
  high_gap : (high : Option High) → IsHighLoss x.gap high n d → value x.gap.a x.gap.b x.gap.c n d <ℤ pos 0
  high_gap None loss = absurd loss
  high_gap (Some one) loss = ⊎_elim (λ left. left.0.gap_is) (λ right. right.0.gap_is) loss

pub quiet_gap : (x : Approach) (low high : ℕ) → ((n d : ℤ) → pos 0 ≤ℤ value x.gap.a x.gap.b x.gap.c n d) → ¬ HasSome (HoldsIn (IsLoss x)) low high
quiet_gap x low high above some =
    let at = some.holds in
    let here = above (at.n +ℤ pos some.k *ℤ at.d) at.d in
    let below = gap_of_loss x _ _ at.holds in
    omega (arith, lin, here, below)
