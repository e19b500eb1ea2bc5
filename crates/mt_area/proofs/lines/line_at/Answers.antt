use Rattle.std.proofs.Common.{subst, sym}
use Rattle.mt_area.specs.Private.Lines.{IsLineOf}
use Rattle.mt_area.proofs.Sides.{ceiling_says, corner_kept, floor_says, nothing_says, side_says}
use Rattle.mt_area.proofs.lines.line_at.Goals as goal

pub side-requires-clause-i_kept : goal.side-requires-clause-i_kept
side-requires-clause-i_kept c = corner_kept c.args.area.now c.items-corners.result.now c.args.i c.items-corners.ensures c.requires.area_kept c.if-i-corners.true

pub side-requires-clause-j_kept : goal.side-requires-clause-j_kept
side-requires-clause-j_kept c =
    corner_kept c.args.area.now c.items-corners.result.now c.place_after-next.result c.items-corners.ensures c.requires.area_kept c.place_after-next.ensures.inside

pub returns-then-i-corners-clause-is : goal.returns-then-i-corners-clause-is
returns-then-i-corners-clause-is c =
    subst (IsLineOf c.args.area.now c.args.row.now c.args.i) (sym c.side.ensures.is)
    (side_says c.args.area.now c.args.row.now c.items-corners.result.now c.args.i c.place_after-next.result c.items-corners.ensures c.requires.area_kept
    c.if-i-corners.true c.place_after-next.ensures.is)

pub returns-then-i-eq-SIDES-clause-is : goal.returns-then-i-eq-SIDES-clause-is
returns-then-i-eq-SIDES-clause-is c =
    subst (IsLineOf c.args.area.now c.args.row.now c.args.i) (sym c.floor.ensures.is)
    (floor_says c.args.area.now c.args.row.now c.items-corners.result.now c.args.i c.items-corners.ensures c.if-i-corners.false c.if-i-eq-SIDES.true)

pub returns-then-i-clause-is : goal.returns-then-i-clause-is
returns-then-i-clause-is c =
    subst (IsLineOf c.args.area.now c.args.row.now c.args.i) (sym c.ceiling.ensures.is)
    (ceiling_says c.args.area.now c.args.row.now c.items-corners.result.now c.args.i c.items-corners.ensures c.if-i-corners.false c.if-i.true)

pub returns-clause-is : goal.returns-clause-is
returns-clause-is c =
    nothing_says c.args.area.now c.args.row.now c.items-corners.result.now c.args.i c.items-corners.ensures c.if-i-corners.false c.if-i-eq-SIDES.false c.if-i.false
