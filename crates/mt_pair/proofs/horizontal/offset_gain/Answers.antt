use Rattle.std.proofs.Common.{sym, subst}
use Rattle.mt_pair.specs.Private.Gap.{IsOffsetWithin}
use Rattle.mt_pair.proofs.Gaps.{gain_is}
use Rattle.mt_pair.proofs.Sizes.{gain_of_within}
use Rattle.mt_pair.proofs.horizontal.offset_gain.Goals as goal

pub returns-clause-is : goal.returns-clause-is
returns-clause-is c = gain_is _ _ c.requires.a_kept c.requires.b_kept _ _ _ c.from.ensures c.from-2.ensures c.from-3.ensures

pub returns-clause-kept : goal.returns-clause-kept
returns-clause-kept c =
    let is = gain_is _ _ c.requires.a_kept c.requires.b_kept _ _ _ c.from.ensures c.from-2.ensures c.from-3.ensures in
    subst (IsOffsetWithin 2000) (sym is) (gain_of_within _ _ c.requires.a_kept c.requires.b_kept)
