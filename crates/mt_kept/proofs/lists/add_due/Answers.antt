use Rattle.std.proofs.Common.{false, refl, sym, ◌∙◌}
use Rattle.std.proofs.lemmas.List.{append-nil, append_assoc, take_all, take_more}
use Rattle.std.proofs.lemmas.List.Elements.{filter-append}
use Rattle.mt_edges.specs.declared.edge.Edge.{Edge}
use Rattle.mt_kept.proofs.lists.add_due.Goals as goal
use Rattle.mt_kept.proofs.lists.add_due.Goals.{then-comes_due+in_ok-push, else-comes_due}

pub loop-edge-preserved : goal.loop-edge-preserved
loop-edge-preserved c =
    let none : Edge = record { a = 0; b = 0; first = 0; last = 0; solid = false } in
    let more = take_more c.args.others.now c.loop-edge.edge-index none c.loop-edge-test.true in
    elim c.if-comes_due.branch [
      | then-comes_due+in_ok-push w ↦
          rw (w.edges-is, w.in_ok-push.ensures.items, c.loop-edge.invariant, more, filter-append, sym c.comes_due.ensures ∙ w.if-comes_due.true, append_assoc) refl
      | else-comes_due w ↦ rw (w.edges-is, c.loop-edge.invariant, more, filter-append, sym c.comes_due.ensures ∙ w.if-comes_due.false, append-nil) refl
    ]

pub returns : goal.returns
returns c = rw (c.loop-edge.invariant, take_all c.loop-edge.edge-index c.args.others.now c.loop-edge-test.false) refl
