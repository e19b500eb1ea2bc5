use Rattle.std.proofs.Common.{sym, ◌∙◌}
use Rattle.std.proofs.lemmas.Bool.{eqb-true}
use Rattle.mt_ws.specs.Private.Messages.{bytes_in}
use Rattle.mt_io.specs.Gathering.{ending_of}
use Rattle.mt_ws.proofs.Giving.{gives_rest, few_left, gives_break}
use Rattle.mt_ws.proofs.ungiven.Ungiven.give.Goals as goal

pub returns-then-is_empty-clause-bytes : goal.returns-then-is_empty-clause-bytes
returns-then-is_empty-clause-bytes c =
    let test = rw c.bytes_of.ensures at c.is_empty.ensures in
    rw (← c.self.view_is) (gives_break (bytes_in c.self.inside.message) c.args.buf.now c.self.inside.at c.self.inside.unended c.self.invariant
    c.requires.room (eqb-true _ _ (sym test ∙ c.if-is_empty.true)) (rw c.self.view_is c.requires.some))

pub returns-clause-bytes : goal.returns-clause-bytes
returns-clause-bytes c =
    let xs = bytes_in c.self.inside.message in
    let few = rw c.bytes_of.ensures at c.min-count.ensures in
    rw (← c.self.view_is) (gives_rest xs c.args.buf.now c.copy_from_slice.new.self (ending_of c.self.inside.unended) c.self.inside.at c.min-count.result
    c.self.invariant (few_left xs c.self.inside.at c.min-count.result _ few) (rw c.bytes_of.ensures at c.copy_from_slice.ensures.after))
