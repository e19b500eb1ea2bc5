use Rattle.std.proofs.Common.{refl}
use Rattle.mt_meet.specs.Private.Meeting.{Before, PieceMeets}
use Rattle.mt_meet.proofs.Ends.{hull_of}
use Rattle.mt_meet.proofs.Pieces.{begin_early, have_slices, no_piece, pieces_hull}
use Rattle.mt_meet.proofs.meeting.meet_within.Goals as goal

pub first_that_meets-requires-clause-slices : goal.first_that_meets-requires-clause-slices
first_that_meets-requires-clause-slices c = have_slices c.args.a.now c.args.b.now c.args.begin c.args.end c.pieces_of-pieces.result c.pieces_of-pieces.ensures
    c.args.rules.now c.requires.outside
    c.slices_from-left.result.now c.slices_from-right.result.now c.slices_from-left.ensures.is c.slices_from-right.ensures.is
    c.keeps.ensures c.keeps-2.ensures c.slices_from-left.ensures.kept c.slices_from-right.ensures.kept

pub returns-in_err-first : goal.returns-in_err-first
returns-in_err-first c = rw c.from_residual.ensures (no_piece c.args.a.now c.args.b.now c.args.begin c.args.end c.pieces_of-pieces.result c.pieces_of-pieces.ensures
    c.args.rules.now c.requires.outside
    c.slices_from-left.result.now c.slices_from-right.result.now c.slices_from-left.ensures.is c.slices_from-right.ensures.is
    c.are_approved-approved.result c.are_approved-approved.ensures c.in_err-first.ensures)

pub last_that_meets-last-requires-clause-slices : goal.last_that_meets-last-requires-clause-slices
last_that_meets-last-requires-clause-slices c = have_slices c.args.a.now c.args.b.now c.args.begin c.args.end c.pieces_of-pieces.result c.pieces_of-pieces.ensures
    c.args.rules.now c.requires.outside
    c.slices_from-left.result.now c.slices_from-right.result.now c.slices_from-left.ensures.is c.slices_from-right.ensures.is
    c.keeps.ensures c.keeps-2.ensures c.slices_from-left.ensures.kept c.slices_from-right.ensures.kept

pub piece_seconds-from-requires : goal.piece_seconds-from-requires
piece_seconds-from-requires c = begin_early c.args.a.now c.args.b.now c.args.begin c.args.end c.pieces_of-pieces.result c.pieces_of-pieces.ensures
    c.args.rules.now c.requires.outside
    c.keeps.ensures c.keeps-2.ensures c.in_ok-first.first c.in_ok-first.ensures.0.0

pub piece_seconds-past-requires : goal.piece_seconds-past-requires
piece_seconds-past-requires c = begin_early c.args.a.now c.args.b.now c.args.begin c.args.end c.pieces_of-pieces.result c.pieces_of-pieces.ensures
    c.args.rules.now c.requires.outside
    c.keeps.ensures c.keeps-2.ensures c.last_that_meets-last.result c.last_that_meets-last.ensures.0.0

pub returns : goal.returns
returns c =
    let meets = Before (PieceMeets c.args.rules.now c.are_approved-approved.result c.slices_from-left.result.now c.slices_from-right.result.now c.pieces_of-pieces.result.turn)
    c.pieces_of-pieces.result.number in
    rw (c.max.ensures, c.min.ensures, c.piece_seconds-from.ensures, c.piece_seconds-past.ensures) (pieces_hull c.args.a.now c.args.b.now c.args.begin c.args.end c.pieces_of-pieces.result c.pieces_of-pieces.ensures
    c.args.rules.now c.requires.outside
    c.slices_from-left.result.now c.slices_from-right.result.now c.slices_from-left.ensures.is c.slices_from-right.ensures.is
    c.are_approved-approved.result c.are_approved-approved.ensures _ _ _ _ refl refl
    (hull_of meets c.in_ok-first.first c.last_that_meets-last.result c.in_ok-first.ensures c.last_that_meets-last.ensures))
