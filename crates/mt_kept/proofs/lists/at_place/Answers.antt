use Rattle.std.proofs.Common.{refl}
use Rattle.std.proofs.lemmas.Bool.{eq-eqb, ne_eqb}
use Rattle.std.proofs.lemmas.List.{append-nil, take_all}
use Rattle.std.proofs.lemmas.List.Elements.{filter-append}
use Rattle.mt_base.proofs.Members.{take_push}
use Rattle.mt_kept.proofs.lists.at_place.Goals as goal
use Rattle.mt_kept.proofs.lists.at_place.Goals.{then-pair-place+in_ok-push, then-pair-place-via-then-pair-place, then-pair-place-via-else-pair-place+then-pair-place-2, else-pair-place+else-pair-place-2}

pub loop-pair-preserved : goal.loop-pair-preserved
loop-pair-preserved c =
    let more = take_push c.args.pairs.now c.loop-pair.pair-index c.pair-item.result c.loop-pair-test.true c.pair-item.is in
    elim c.if-pair-place.branch [
      | then-pair-place+in_ok-push w ↦ rw (w.list-is, w.in_ok-push.ensures.items, c.loop-pair.invariant, more, filter-append) (elim w.then-pair-place.branch [
        | then-pair-place-via-then-pair-place v ↦ rw (eq-eqb _ _ v.if-pair-place.true) refl
        | then-pair-place-via-else-pair-place+then-pair-place-2 v ↦ rw (ne_eqb _ _ v.if-pair-place.false, eq-eqb _ _ v.if-pair-place-2.true) refl
      ])
      | else-pair-place+else-pair-place-2 w ↦
          rw (w.list-is, c.loop-pair.invariant, more, filter-append, ne_eqb _ _ w.if-pair-place.false, ne_eqb _ _ w.if-pair-place-2.false, append-nil) refl
    ]

pub returns : goal.returns
returns c = rw (c.loop-pair.invariant, take_all c.loop-pair.pair-index c.args.pairs.now c.loop-pair-test.false) refl
