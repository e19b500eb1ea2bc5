use Rattle.std.proofs.Common.{arith, sym, subst}
use Rattle.mt_frac.specs.Signs.{IsBoundedQuad}
use Rattle.mt_pair.proofs.Gaps.{square_bounded, square_is, twice_fits}
use Rattle.mt_pair.proofs.Sizes.{IsOffsetWithin-weaken}
use Rattle.mt_pair.proofs.horizontal.gap.Goals as goal

pub offset_gain-gain-requires-clause-a_kept : goal.offset_gain-gain-requires-clause-a_kept
offset_gain-gain-requires-clause-a_kept c = c.requires.a_kept

pub offset_gain-gain-requires-clause-b_kept : goal.offset_gain-gain-requires-clause-b_kept
offset_gain-gain-requires-clause-b_kept c = c.requires.b_kept

pub product-requires-clause-p_kept : goal.product-requires-clause-p_kept
product-requires-clause-p_kept c = IsOffsetWithin-weaken 2000 7372800 _ (omega arith) c.offset_gain-gain.ensures.kept

pub product-requires-clause-q_kept : goal.product-requires-clause-q_kept
product-requires-clause-q_kept c = IsOffsetWithin-weaken 2000 7372800 _ (omega arith) c.offset_gain-gain.ensures.kept

pub product-requires-2-clause-p_kept : goal.product-requires-2-clause-p_kept
product-requires-2-clause-p_kept c = c.offset_at_start-offset.ensures.kept

pub product-requires-3-clause-p_kept : goal.product-requires-3-clause-p_kept
product-requires-3-clause-p_kept c = c.offset_at_start-offset.ensures.kept

pub product-requires-3-clause-q_kept : goal.product-requires-3-clause-q_kept
product-requires-3-clause-q_kept c = c.offset_at_start-offset.ensures.kept

pub product-requires-2-clause-q_kept : goal.product-requires-2-clause-q_kept
product-requires-2-clause-q_kept c = IsOffsetWithin-weaken 2000 7372800 _ (omega arith) c.offset_gain-gain.ensures.kept

pub overflow_mul-result : goal.overflow_mul-result
overflow_mul-result c = twice_fits _ _ c.offset_at_start-offset.ensures.kept c.offset_gain-gain.ensures.kept _ c.product-2.ensures

pub returns-clause-is : goal.returns-clause-is
returns-clause-is c =
    let is = square_is _ _ c.offset_at_start-offset.ensures.kept c.offset_gain-gain.ensures.kept _ _ _ c.product.ensures c.product-2.ensures c.product-3.ensures in
    rw (c.offset_at_start-offset.ensures.is, c.offset_gain-gain.ensures.is) at is

pub returns-clause-bounded : goal.returns-clause-bounded
returns-clause-bounded c =
    let is = square_is _ _ c.offset_at_start-offset.ensures.kept c.offset_gain-gain.ensures.kept _ _ _ c.product.ensures c.product-2.ensures c.product-3.ensures in
    subst IsBoundedQuad (sym is) (square_bounded _ _ c.offset_at_start-offset.ensures.kept c.offset_gain-gain.ensures.kept)
