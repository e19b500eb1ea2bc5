use Rattle.std.proofs.Common.{subst, sym}
use Rattle.mt_frac.specs.Meeting.{IsBoundedSide}
use Rattle.mt_area.proofs.Sides.{inside_64, plain_128, plain_speed, side_reads}
use Rattle.mt_area.proofs.lines.side.Goals as goal

pub returns-clause-is : goal.returns-clause-is
returns-clause-is c =
    let reads = side_reads c.args.row.now c.args.i c.args.j _ _ _ _ _ _ c.cross.result c.cross-2.result c.requires.row_kept c.requires.i_kept c.requires.j_kept
    c.apart-east.ensures.is c.apart-north.ensures.is c.from.ensures c.from-2.ensures c.apart.ensures.is c.apart-2.ensures.is c.cross.ensures c.cross-2.ensures in
    reads.is

pub returns-clause-bounded : goal.returns-clause-bounded
returns-clause-bounded c =
    let reads = side_reads c.args.row.now c.args.i c.args.j _ _ _ _ _ _ c.cross.result c.cross-2.result c.requires.row_kept c.requires.i_kept c.requires.j_kept
    c.apart-east.ensures.is c.apart-north.ensures.is c.from.ensures c.from-2.ensures c.apart.ensures.is c.apart-2.ensures.is c.cross.ensures c.cross-2.ensures in
    subst IsBoundedSide (sym reads.is) reads.bounded

pub apart-east-requires-clause-a_kept : goal.apart-east-requires-clause-a_kept
apart-east-requires-clause-a_kept c = inside_64 c.args.i.0 c.requires.i_kept.0

pub apart-east-requires-clause-b_kept : goal.apart-east-requires-clause-b_kept
apart-east-requires-clause-b_kept c = inside_64 c.args.j.0 c.requires.j_kept.0

pub apart-north-requires-clause-a_kept : goal.apart-north-requires-clause-a_kept
apart-north-requires-clause-a_kept c = inside_64 c.args.i.1 c.requires.i_kept.1

pub apart-north-requires-clause-b_kept : goal.apart-north-requires-clause-b_kept
apart-north-requires-clause-b_kept c = inside_64 c.args.j.1 c.requires.j_kept.1

pub apart-requires-clause-a_kept : goal.apart-requires-clause-a_kept
apart-requires-clause-a_kept c = inside_64 c.args.i.0 c.requires.i_kept.0

pub apart-requires-clause-b_kept : goal.apart-requires-clause-b_kept
apart-requires-clause-b_kept c = inside_64 c.args.row.now.x c.requires.row_kept.x.value

pub apart-requires-2-clause-a_kept : goal.apart-requires-2-clause-a_kept
apart-requires-2-clause-a_kept c = inside_64 c.args.i.1 c.requires.i_kept.1

pub apart-requires-2-clause-b_kept : goal.apart-requires-2-clause-b_kept
apart-requires-2-clause-b_kept c = inside_64 c.args.row.now.y c.requires.row_kept.y.value

pub cross-requires-clause-x_kept : goal.cross-requires-clause-x_kept
cross-requires-clause-x_kept c = plain_speed _ c.args.row.now.vx c.requires.row_kept.x.growth c.from.ensures

pub cross-requires-clause-y_kept : goal.cross-requires-clause-y_kept
cross-requires-clause-y_kept c = plain_speed _ c.args.row.now.vy c.requires.row_kept.y.growth c.from-2.ensures

pub cross-requires-clause-u_kept : goal.cross-requires-clause-u_kept
cross-requires-clause-u_kept c = plain_128 _ c.apart-east.ensures.kept

pub cross-requires-clause-v_kept : goal.cross-requires-clause-v_kept
cross-requires-clause-v_kept c = plain_128 _ c.apart-north.ensures.kept

pub cross-requires-2-clause-x_kept : goal.cross-requires-2-clause-x_kept
cross-requires-2-clause-x_kept c = plain_128 _ c.apart.ensures.kept

pub cross-requires-2-clause-y_kept : goal.cross-requires-2-clause-y_kept
cross-requires-2-clause-y_kept c = plain_128 _ c.apart-2.ensures.kept

pub cross-requires-2-clause-u_kept : goal.cross-requires-2-clause-u_kept
cross-requires-2-clause-u_kept c = plain_128 _ c.apart-east.ensures.kept

pub cross-requires-2-clause-v_kept : goal.cross-requires-2-clause-v_kept
cross-requires-2-clause-v_kept c = plain_128 _ c.apart-north.ensures.kept
