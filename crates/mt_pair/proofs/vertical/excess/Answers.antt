use Rattle.std.proofs.Common.{sym, subst}
use Rattle.mt_frac.specs.Signs.{IsBoundedLine}
use Rattle.mt_pair.proofs.Gaps.{excess_bounded, excess_fits, excess_is, excess_reads}
use Rattle.mt_pair.proofs.vertical.excess.Goals as goal

pub overflow_sub-b : goal.overflow_sub-b
overflow_sub-b c = let s = excess_fits _ _ _ c.requires.least_kept c.requires.a_kept c.requires.b_kept in s.b_one

pub overflow_sub-b-2 : goal.overflow_sub-b-2
overflow_sub-b-2 c = let s = excess_fits _ _ _ c.requires.least_kept c.requires.a_kept c.requires.b_kept in s.b_two

pub overflow_sub-b-3 : goal.overflow_sub-b-3
overflow_sub-b-3 c = let s = excess_fits _ _ _ c.requires.least_kept c.requires.a_kept c.requires.b_kept in s.b_three

pub overflow_sub-b-5 : goal.overflow_sub-b-5
overflow_sub-b-5 c = let s = excess_fits _ _ _ c.requires.least_kept c.requires.a_kept c.requires.b_kept in s.c_two

pub overflow_sub-b-6 : goal.overflow_sub-b-6
overflow_sub-b-6 c = let s = excess_fits _ _ _ c.requires.least_kept c.requires.a_kept c.requires.b_kept in s.c_three

pub overflow_sub-b-7 : goal.overflow_sub-b-7
overflow_sub-b-7 c = let s = excess_fits _ _ _ c.requires.least_kept c.requires.a_kept c.requires.b_kept in s.c_four

pub returns-clause-is : goal.returns-clause-is
returns-clause-is c =
    let s = excess_reads _ _ _ c.requires.least_kept c.requires.a_kept c.requires.b_kept in
    excess_is _ _ _ s _ _ c.from.ensures c.from-2.ensures

pub returns-clause-bounded : goal.returns-clause-bounded
returns-clause-bounded c =
    let s = excess_reads _ _ _ c.requires.least_kept c.requires.a_kept c.requires.b_kept in
    subst IsBoundedLine (sym (excess_is _ _ _ s _ _ c.from.ensures c.from-2.ensures)) (excess_bounded _ _ _ s)
