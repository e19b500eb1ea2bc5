use borrow.Author.Differences.{true_is_lt}
use Rattle.std.proofs.Common.{pos, ◌<ℤ◌, sym, arith}
use Rattle.std.proofs.lemmas.Int.{ints}
use Rattle.mt_area.proofs.Sides.{in_128, inside_64, left_reads, plain_128}
use Rattle.mt_area.proofs.shape.is_left.Goals as goal

pub returns : goal.returns
returns c =
    let reads = left_reads c.args.i c.args.j c.args.k _ _ _ _ c.cross.result c.requires.i_kept c.requires.j_kept c.requires.k_kept
    c.apart-east.ensures.is c.apart-north.ensures.is c.apart.ensures.is c.apart-2.ensures.is c.cross.ensures in (
      (λ t. let h : pos 0 <ℤ in_128 c.cross.result = omega (arith, ints, t) in rw reads at h),
      (λ left. sym (true_is_lt (pos 0) (in_128 c.cross.result) (let h : pos 0 <ℤ in_128 c.cross.result = rw reads left in omega (arith, ints, h)))),
    )

pub apart-east-requires-clause-a_kept : goal.apart-east-requires-clause-a_kept
apart-east-requires-clause-a_kept c = inside_64 c.args.i.0 c.requires.i_kept.0

pub apart-east-requires-clause-b_kept : goal.apart-east-requires-clause-b_kept
apart-east-requires-clause-b_kept c = inside_64 c.args.j.0 c.requires.j_kept.0

pub apart-north-requires-clause-a_kept : goal.apart-north-requires-clause-a_kept
apart-north-requires-clause-a_kept c = inside_64 c.args.i.1 c.requires.i_kept.1

pub apart-north-requires-clause-b_kept : goal.apart-north-requires-clause-b_kept
apart-north-requires-clause-b_kept c = inside_64 c.args.j.1 c.requires.j_kept.1

pub apart-requires-clause-a_kept : goal.apart-requires-clause-a_kept
apart-requires-clause-a_kept c = inside_64 c.args.i.0 c.requires.i_kept.0

pub apart-requires-clause-b_kept : goal.apart-requires-clause-b_kept
apart-requires-clause-b_kept c = inside_64 c.args.k.0 c.requires.k_kept.0

pub apart-requires-2-clause-a_kept : goal.apart-requires-2-clause-a_kept
apart-requires-2-clause-a_kept c = inside_64 c.args.i.1 c.requires.i_kept.1

pub apart-requires-2-clause-b_kept : goal.apart-requires-2-clause-b_kept
apart-requires-2-clause-b_kept c = inside_64 c.args.k.1 c.requires.k_kept.1

pub cross-requires-clause-x_kept : goal.cross-requires-clause-x_kept
cross-requires-clause-x_kept c = plain_128 _ c.apart-east.ensures.kept

pub cross-requires-clause-y_kept : goal.cross-requires-clause-y_kept
cross-requires-clause-y_kept c = plain_128 _ c.apart-north.ensures.kept

pub cross-requires-clause-u_kept : goal.cross-requires-clause-u_kept
cross-requires-clause-u_kept c = plain_128 _ c.apart.ensures.kept

pub cross-requires-clause-v_kept : goal.cross-requires-clause-v_kept
cross-requires-clause-v_kept c = plain_128 _ c.apart-2.ensures.kept
