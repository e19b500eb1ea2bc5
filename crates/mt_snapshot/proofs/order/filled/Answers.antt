use Rattle.std.proofs.Common.{◌≤◌, ◌∙◌, length, sym, arith}
use Rattle.mt_snapshot.proofs.Filling.{all_filled, none_more, one_more}
use Rattle.mt_snapshot.proofs.order.filled.Goals as goal
use Rattle.mt_snapshot.proofs.order.filled.Goals.{in-Some+in_ok-push, in_default}

pub loop-place-preserved : goal.loop-place-preserved
loop-place-preserved c =
    elim c.match-filed.branch [
      | in-Some+in_ok-push w ↦
          rw (w.all-is, w.in_ok-push.ensures.items)
          (one_more c.args.snapshot.now c.loop-place.all.items c.loop-place.place w.in-Some.at c.loop-place.invariant (sym w.in-Some.is ∙ c.filed.ensures))
      | in_default w ↦
          rw w.all-is
          (none_more c.args.snapshot.now c.loop-place.all.items c.loop-place.place c.loop-place.invariant (sym w.in_default.is ∙ c.filed.ensures))
    ]

pub returns : goal.returns
returns c =
    let past : length c.args.snapshot.now.slots ≤ c.loop-place.place = omega (arith, c.slots-count.ensures, c.loop-place-test.false) in
    all_filled c.args.snapshot.now c.loop-place.all.items c.loop-place.place c.loop-place.invariant past
