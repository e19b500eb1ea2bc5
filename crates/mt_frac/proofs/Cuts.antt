-- What a line cuts off an interval from m/e to x/y, and that something is left of one in order.
use Rattle.std.proofs.Common.{◌≡◌, ℤ, pos, ◌+ℤ◌, ◌*ℤ◌, ◌≤ℤ◌, ◌<ℤ◌, arith}
use Rattle.mt_ring.proofs.Ring.{lin, spread}
use Rattle.mt_frac.specs.Private.Meeting.{IsCut, Lies}
use Rattle.mt_frac.specs.Polynomials.{line_value}
use Rattle.mt_frac.proofs.Fractions.{at_most_trans, trans_at_most}
use Rattle.mt_frac.proofs.Parts.{both_below, falls, rises, below_after, after_below, below_before, before_below, root_at_least, root_at_most}

-- it falls: what is left is from its root r/s to the upper end
pub cut_falling : (b c m e x y r s : ℤ) → pos 0 <ℤ e → pos 0 <ℤ y → pos 0 <ℤ s → (m *ℤ y) <ℤ (x *ℤ e) → pos 0 ≤ℤ line_value b c m e → line_value b c x y <ℤ pos 0
    → line_value b c r s ≡ pos 0 → IsCut b c m e x y r s x y
cut_falling b c m e x y r s e+ y+ s+ ordered low high zero =
    let b- = falls b c m e x y e+ y+ ordered low high in
    let begins = root_at_least b c r s m e s+ b- zero low in
    record {
      ordered = below_after b c r s x y s+ b- zero high;
      exact = λ n d d+. (
        (λ part. (
          record { after = at_most_trans m e r s n d e+ s+ d+ begins part.after; until = part.until },
          after_below b c r s n d s+ b- zero part.after,
        )),
        (λ at. record { after = below_after b c r s n d s+ b- zero at.1; until = at.0.until }),
      );
    }

-- it is below 0 at every fraction between: all is left
pub cut_nothing : (b c m e x y : ℤ) → pos 0 <ℤ e → pos 0 <ℤ y → (m *ℤ y) <ℤ (x *ℤ e) → line_value b c m e <ℤ pos 0 → line_value b c x y ≤ℤ pos 0 → IsCut b c m e x y m e x y
cut_nothing b c m e x y e+ y+ ordered low high = record {
  ordered = ordered;
  exact = λ n d d+. (
    (λ part. (part, both_below b c n d m e x y d+ e+ y+ part.after part.until low high)),
    (λ at. at.0),
  );
}

-- it rises: what is left is from the lower end to its root r/s
pub cut_rising : (b c m e x y r s : ℤ) → pos 0 <ℤ e → pos 0 <ℤ y → pos 0 <ℤ s → (m *ℤ y) <ℤ (x *ℤ e) → line_value b c m e <ℤ pos 0 → pos 0 ≤ℤ line_value b c x y
    → line_value b c r s ≡ pos 0 → IsCut b c m e x y m e r s
cut_rising b c m e x y r s e+ y+ s+ ordered low high zero =
    let b+ = rises b c m e x y e+ y+ ordered low high in
    let ends = root_at_most b c r s x y s+ b+ zero high in
    record {
      ordered = below_before b c r s m e s+ b+ zero low;
      exact = λ n d d+. (
        (λ part. (
          record { after = part.after; until = trans_at_most n d r s x y d+ s+ y+ part.until ends },
          before_below b c r s n d s+ b+ zero part.until,
        )),
        (λ at. record { after = at.0.after; until = below_before b c r s n d s+ b+ zero at.1 }),
      );
    }

-- a fraction strictly between two in order
pub between : (m e x y : ℤ) → (m *ℤ y) <ℤ (x *ℤ e) → Lies m e x y (m +ℤ x) (e +ℤ y)
between m e x y ordered = record {
  after = simp spread (omega (arith, lin, simp spread at ordered));
  until = simp spread (omega (arith, lin, simp spread at ordered));
}
