use Rattle.std.proofs.Common.{arith, sym, subst}
use Rattle.std.proofs.lemmas.Int.{ints}
use Rattle.mt_pair.specs.Private.Gap.{IsOffsetWithin}
use Rattle.mt_pair.proofs.Gaps.{offset_is, width_fits}
use Rattle.mt_pair.proofs.Sizes.{offset_of_within}
use Rattle.mt_pair.proofs.horizontal.offset_at_start.Goals as goal

pub overflow_sub-b : goal.overflow_sub-b
overflow_sub-b c = omega (arith, ints)

pub overflow_sub-b-2 : goal.overflow_sub-b-2
overflow_sub-b-2 c = omega (arith, ints)

pub overflow_add-rules-2 : goal.overflow_add-rules-2
overflow_add-rules-2 c = width_fits c.args.rules.now c.args.a.now c.args.b.now c.requires.rules_kept c.requires.a_kept c.requires.b_kept

pub returns-clause-is : goal.returns-clause-is
returns-clause-is c = offset_is _ _ _ c.requires.rules_kept c.requires.a_kept c.requires.b_kept _ _ _ c.from.ensures c.from-2.ensures c.from-3.ensures

pub returns-clause-kept : goal.returns-clause-kept
returns-clause-kept c =
    let is = offset_is _ _ _ c.requires.rules_kept c.requires.a_kept c.requires.b_kept _ _ _ c.from.ensures c.from-2.ensures c.from-3.ensures in
    subst (IsOffsetWithin 7372800) (sym is) (offset_of_within _ _ _ c.requires.rules_kept c.requires.a_kept c.requires.b_kept)
