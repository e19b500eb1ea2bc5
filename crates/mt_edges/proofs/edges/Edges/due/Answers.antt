use Rattle.std.proofs.Common.{◌≤◌, ◌⊎◌, arith, inl, inr}
use Rattle.std.proofs.lemmas.Bool.{cases_lt}
use Rattle.mt_edges.proofs.Reading.{due_all, due_more, none_due}
use Rattle.mt_edges.proofs.edges.Edges.due.Goals as goal

pub returns-then-from-end : goal.returns-then-from-end
returns-then-from-end c =
    let capped : (c.args.to ≤ c.min-end.result) ⊎ (10014400 ≤ c.min-end.result) = elim (cases_lt c.args.to 10014400) [ inl l ↦ inl (omega arith) | inr g ↦ inr (omega arith) ] in
    rw (← c.self.view_is, c.new-found.ensures.items)
    (none_due c.self.inside.table.ends c.self.inside.table.nodes.items c.args.from c.args.to c.min-end.result c.self.invariant.shape.sound c.if-from-end.true capped)

pub loop-bucket-preserved : goal.loop-bucket-preserved
loop-bucket-preserved c = due_more c.self.inside.table.ends c.self.inside.table.nodes.items c.args.from c.args.to _ _ _ c.self.invariant.shape.sound c.loop-bucket.invariant c.in_ok-gather.ensures

pub returns : goal.returns
returns c =
    let last = c.loop-bucket-test.false in
    let capped = c.min-end.ensures in
    rw (← c.self.view_is)
    (due_all c.self.inside.table.ends c.self.inside.table.nodes.items c.args.from c.args.to c.loop-bucket.bucket _ c.self.invariant.shape.sound c.loop-bucket.invariant
    (λ e sound below above. omega (arith, last, capped, sound.span, sound.early, below, above)))
