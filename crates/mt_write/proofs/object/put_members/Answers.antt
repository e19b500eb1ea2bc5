use Rattle.std.proofs.Common.{◌≡◌, ◌<◌, ◌+◌, ℕ, List, ◌++◌, length, drop, get_or, sym, ap, ◌∙◌}
use Rattle.std.proofs.lemmas.List.{at_drop_all, at_drop_more}
use Rattle.std.specs.Borrow.{Bor}
use Rattle.mt_write.specs.Private.Object.{ended_text, member_text}
use Rattle.mt_write.specs.declared.object.Datum.{Datum}
use Rattle.mt_write.proofs.Putting.{length_on, piece_refused, rest_put, room_on, text_on}
use Rattle.mt_write.proofs.object.put_members.Goals as goal

-- the members from a place on are the one there and those after it
one_more : (end : List ℕ) (ms : List (Bor (List ℕ) × Datum)) (i : ℕ) (m : Bor (List ℕ) × Datum) → i < length ms → m ≡ get_or ms i m
    → ended_text end (drop i ms) ≡ member_text m ++ ended_text end (drop (i + 1) ms)
one_more end ms i m lt is = at_drop_more (ended_text end) ms i m lt ∙ ap (λ x. member_text x ++ ended_text end (drop (i + 1) ms)) (sym is)

pub returns-in_err-put_member : goal.returns-in_err-put_member
returns-in_err-put_member c =
    piece_refused c.from_residual.result c.in_err-put_member.field-0.0 c.args.out.now c.loop-member.out c.put_member.new.out _ _ _ _ c.from_residual.ensures.0
    (one_more c.args.end.now c.args.members.now c.loop-member.member-index c.member-item.result c.loop-member-test.true c.member-item.is) c.in_err-put_member.ensures c.loop-member.invariant.len
    c.loop-member.invariant.room

pub loop-member-preserved : goal.loop-member-preserved
loop-member-preserved c =
    let more = one_more c.args.end.now c.args.members.now c.loop-member.member-index c.member-item.result c.loop-member-test.true c.member-item.is in
    record {
      text = text_on c.args.out.now c.loop-member.out c.put_member.new.out _ _ _ _ more c.in_ok-put_member.ensures c.loop-member.invariant.text;
      len = length_on c.args.out.now c.loop-member.out c.put_member.new.out _ _ _ _ more c.in_ok-put_member.ensures c.loop-member.invariant.len;
      room = room_on c.args.out.now c.loop-member.out c.put_member.new.out _ c.in_ok-put_member.ensures c.loop-member.invariant.room;
    }

pub returns : goal.returns
returns c =
    rest_put c.put.result c.args.out.now c.loop-member.out c.put.new.out _ _ _ (at_drop_all (ended_text c.args.end.now) c.args.members.now c.loop-member.member-index
    c.loop-member-test.false) c.put.ensures c.loop-member.invariant.text c.loop-member.invariant.len c.loop-member.invariant.room
