use Rattle.std.proofs.Common.{sym, subst}
use Rattle.mt_frac.specs.Signs.{IsBoundedLine}
use Rattle.mt_pair.specs.High.{level_of}
use Rattle.mt_pair.proofs.Gaps.{above_bounded, above_is, level_size}
use Rattle.mt_pair.proofs.vertical.above.Goals as goal

pub returns-clause-is : goal.returns-clause-is
returns-clause-is c = above_is (level_of c.args.approved) c.args.a.now (level_size c.args.approved) c.requires.a_kept _ _ c.from.ensures
    (rw c.level_of.ensures at c.from-2.ensures)

pub returns-clause-bounded : goal.returns-clause-bounded
returns-clause-bounded c =
    let is = above_is (level_of c.args.approved) c.args.a.now (level_size c.args.approved) c.requires.a_kept _ _ c.from.ensures
    (rw c.level_of.ensures at c.from-2.ensures) in
    subst IsBoundedLine (sym is) (above_bounded (level_of c.args.approved) c.args.a.now (level_size c.args.approved) c.requires.a_kept)
