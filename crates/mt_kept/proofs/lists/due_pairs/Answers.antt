use Rattle.std.proofs.Common.{◌≡◌, ◌++◌, List, sym, ◌∙◌, ap}
use Rattle.mt_edges.specs.declared.edge.Edge.{Edge}
use Rattle.mt_kept.proofs.Due.{due_bare, due_marked}
use Rattle.mt_kept.proofs.lists.due_pairs.Goals as goal
use Rattle.mt_kept.proofs.lists.due_pairs.Goals.{then-is_marked+in_ok-add_from-3, else-is_marked}

pub returns : goal.returns
returns c =
    let r = c.requires in
    let one = c.in_ok-add_from.ensures in
    let two = c.in_ok-add_from-2.ensures in
    let both : c.add_from-2.new.edges.items ≡ one.added ++ two.added =
    two.is ∙ ap (λ (es : List Edge). es ++ two.added) (one.is ∙ ap (λ (es : List Edge). es ++ one.added) c.new-edges.ensures.items) in
    elim c.if-is_marked.branch [
      | then-is_marked+in_ok-add_from-3 w ↦
          let three = w.in_ok-add_from-3.ensures in
          rw (w.edges-is, three.is, both) (due_marked c.args.moment c.args.now c.args.stale.now c.args.pairs.now.edges r.later r.stale r.distinct one.added two.added
          one.each (rw c.max.ensures at two.each) three.added three.each)
      | else-is_marked w ↦
          rw (w.edges-is, both) (due_bare c.args.moment c.args.now c.args.stale.now c.args.pairs.now.edges r.later r.stale r.distinct one.added two.added
          one.each (rw c.max.ensures at two.each) (sym c.is_marked.ensures ∙ w.if-is_marked.false))
    ]
