use Rattle.mt_ws.proofs.Giving.{few_left, gives_left}
use Rattle.mt_ws.proofs.put_back.PutBack.give.Goals as goal

pub returns-clause-bytes : goal.returns-clause-bytes
returns-clause-bytes c =
    let xs = c.self.inside.bytes.items in
    let few = rw c.deref.ensures.value at c.min-count.ensures in
    rw (← c.self.view_is) (gives_left xs c.args.buf.now c.copy_from_slice.new.self c.self.inside.at c.min-count.result
    c.self.invariant (few_left xs c.self.inside.at c.min-count.result _ few) (rw c.deref.ensures.value at c.copy_from_slice.ensures.after))
