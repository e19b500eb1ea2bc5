use Rattle.std.proofs.Common.{◌≡◌, ◌<◌, ◌≤◌, ℕ, ◌+◌, Bool, true, List, ◌++◌, length, get_or, drop, Result, Ok, Err, vec_len, vec_capacity, sym, ◌∙◌, arith, add-one, append_assoc, length-append, drop-cons}
use Rattle.std.proofs.lemmas.List.{drop_all}
use Rattle.std.proofs.lemmas.Result.{err_from_is_err_and}
use Rattle.std.specs.Bool.{⊤}
use Rattle.std.specs.Global.{Vec}
use Rattle.serde_json.specs.Data.{Data}
use Rattle.serde_json.specs.Written.{comma_if, compact_text, items_text}
use Rattle.mt_memory.specs.declared.Memory.{Memory}
use Rattle.mt_write.specs.Entry.{values}
use Rattle.mt_write.specs.Private.Puts.{Puts}
use Rattle.mt_write.proofs.written.put_items.Goals as goal

-- the items from a place on are the one there and those after it
one_more : {A : Type 0} (value : A → Data) (later : Bool) (xs : List A) (i : ℕ) (x : A) → i < length xs → x ≡ get_or xs i x
    → items_text later (values value (drop i xs)) ≡ (comma_if later ++ compact_text (value x)) ++ items_text true (values value (drop (i + 1) xs))
one_more value later xs i x lt is = rw (add-one, drop-cons xs i x, ← is, append_assoc)

-- what is left of a text was put
ends : (r : Result ⊤ Memory) (old mid new : Vec ℕ) (text rest : List ℕ) → old.items ++ text ≡ mid.items ++ rest → vec_len old + length text ≡ vec_len mid + length rest
    → vec_capacity old ≤ vec_capacity mid → Puts r mid new rest → Puts r old new text
ends (Ok u) old mid new text rest same len room puts = (puts.0 ∙ sym same, omega (arith, puts.1, len), omega (arith, puts.2, room))
ends (Err e) old mid new text rest same len room puts = omega (arith, puts, len, room)

pub returns-in_err-put_item : goal.returns-in_err-put_item
returns-in_err-put_item g c =
    let more = one_more g.T.Written.value c.loop-item.later c.args.items.now c.loop-item.item-index c.item-item.result c.loop-item-test.true c.item-item.is in
    let len = rw more at c.loop-item.invariant.len in
    let p = err_from_is_err_and c.from_residual.result c.from_residual.ensures.1 in
    rw p.1 (omega (arith, len, c.loop-item.invariant.room, c.in_err-put_item.ensures, length-append {A = ℕ}))

pub loop-item-preserved : goal.loop-item-preserved
loop-item-preserved g c =
    let more = one_more g.T.Written.value c.loop-item.later c.args.items.now c.loop-item.item-index c.item-item.result c.loop-item-test.true c.item-item.is in
    let text = rw more at c.loop-item.invariant.text in
    let len = rw more at c.loop-item.invariant.len in
    let puts = c.in_ok-put_item.ensures in
    record {
      text = rw (puts.0, append_assoc) text;
      len = omega (arith, len, puts.1, length-append {A = ℕ});
      room = omega (arith, puts.2, c.loop-item.invariant.room);
    }

pub returns : goal.returns
returns g c =
    let none = drop_all c.loop-item.item-index c.args.items.now c.loop-item-test.false in
    ends c.put_byte.result c.args.out.now c.loop-item.out c.put_byte.new.out _ _ (rw none at c.loop-item.invariant.text) (rw none at c.loop-item.invariant.len) c.loop-item.invariant.room c.put_byte.ensures
