use Rattle.std.proofs.Common.{sym, ◌∙◌, refl}
use Rattle.std.proofs.lemmas.List.{append-nil, take_all}
use Rattle.std.proofs.lemmas.List.Elements.{filter-append}
use Rattle.mt_base.proofs.Members.{take_push}
use Rattle.mt_kept.proofs.lists.bordering_of.Goals as goal
use Rattle.mt_kept.proofs.lists.bordering_of.Goals.{then-is_bordering+in_ok-push, else-is_bordering}

pub loop-pair-preserved : goal.loop-pair-preserved
loop-pair-preserved c =
    let more = take_push c.args.pairs.now c.loop-pair.pair-index c.pair-item.result c.loop-pair-test.true c.pair-item.is in
    elim c.if-is_bordering.branch [
      | then-is_bordering+in_ok-push w ↦
          rw (w.list-is, w.in_ok-push.ensures.items, c.loop-pair.invariant, more, filter-append, sym c.is_bordering.ensures ∙ w.if-is_bordering.true) refl
      | else-is_bordering w ↦ rw (w.list-is, c.loop-pair.invariant, more, filter-append, sym c.is_bordering.ensures ∙ w.if-is_bordering.false, append-nil) refl
    ]

pub returns : goal.returns
returns c = rw (c.loop-pair.invariant, take_all c.loop-pair.pair-index c.args.pairs.now c.loop-pair-test.false) refl
