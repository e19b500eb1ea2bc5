use Rattle.std.proofs.lemmas.List.{at_drop_all, at_drop_more}
use Rattle.mt_write.specs.Private.Joined.{texts_joined}
use Rattle.mt_write.proofs.Putting.{all_put, length_on, piece_refused, room_on, text_on}
use Rattle.mt_write.proofs.write.put_all.Goals as goal

pub returns-in_err-put : goal.returns-in_err-put
returns-in_err-put c =
    piece_refused c.from_residual.result c.in_err-put.field-0.0 c.args.out.now c.loop-piece.out c.put.new.out _ _ _ _ c.from_residual.ensures.0
    (at_drop_more texts_joined c.args.pieces.now c.loop-piece.piece-index _ c.loop-piece-test.true) c.in_err-put.ensures c.loop-piece.invariant.len
    c.loop-piece.invariant.room

pub loop-piece-preserved : goal.loop-piece-preserved
loop-piece-preserved c =
    record {
      text = text_on c.args.out.now c.loop-piece.out c.put.new.out _ _ _ _ (at_drop_more texts_joined c.args.pieces.now
          c.loop-piece.piece-index _ c.loop-piece-test.true) c.in_ok-put.ensures c.loop-piece.invariant.text;
      len = length_on c.args.out.now
          c.loop-piece.out c.put.new.out _ _ _ _ (at_drop_more texts_joined c.args.pieces.now c.loop-piece.piece-index _ c.loop-piece-test.true)
          c.in_ok-put.ensures c.loop-piece.invariant.len;
      room = room_on c.args.out.now c.loop-piece.out c.put.new.out _ c.in_ok-put.ensures
          c.loop-piece.invariant.room;
    }

pub returns : goal.returns
returns c =
    all_put c.args.out.now c.loop-piece.out _ _ (at_drop_all texts_joined c.args.pieces.now c.loop-piece.piece-index c.loop-piece-test.false)
    c.loop-piece.invariant.text c.loop-piece.invariant.len c.loop-piece.invariant.room
