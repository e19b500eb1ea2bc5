use Rattle.std.proofs.lemmas.List.{at_drop_all, at_drop_more}
use Rattle.json.specs.Print.{escape}
use Rattle.mt_write.proofs.Putting.{all_put, length_on, piece_refused, room_on, text_on}
use Rattle.mt_write.proofs.escape.put_escaped.Goals as goal

pub returns-in_err-put_escaped_byte : goal.returns-in_err-put_escaped_byte
returns-in_err-put_escaped_byte c =
    piece_refused c.from_residual.result c.in_err-put_escaped_byte.field-0.0 c.args.out.now c.loop-byte.out c.put_escaped_byte.new.out _ _ _ _
    c.from_residual.ensures.0 (at_drop_more escape c.args.text.now c.loop-byte.byte-index _ c.loop-byte-test.true) c.in_err-put_escaped_byte.ensures
    c.loop-byte.invariant.len c.loop-byte.invariant.room

pub loop-byte-preserved : goal.loop-byte-preserved
loop-byte-preserved c =
    record {
      text = text_on c.args.out.now c.loop-byte.out c.put_escaped_byte.new.out _ _ _ _ (at_drop_more escape c.args.text.now
          c.loop-byte.byte-index _ c.loop-byte-test.true) c.in_ok-put_escaped_byte.ensures c.loop-byte.invariant.text;
      len = length_on c.args.out.now
          c.loop-byte.out c.put_escaped_byte.new.out _ _ _ _ (at_drop_more escape c.args.text.now c.loop-byte.byte-index _ c.loop-byte-test.true)
          c.in_ok-put_escaped_byte.ensures c.loop-byte.invariant.len;
      room = room_on c.args.out.now c.loop-byte.out c.put_escaped_byte.new.out _
          c.in_ok-put_escaped_byte.ensures c.loop-byte.invariant.room;
    }

pub returns : goal.returns
returns c =
    all_put c.args.out.now c.loop-byte.out _ _ (at_drop_all escape c.args.text.now c.loop-byte.byte-index c.loop-byte-test.false)
    c.loop-byte.invariant.text c.loop-byte.invariant.len c.loop-byte.invariant.room
