use Rattle.std.proofs.Common.{◌≡◌, ◌∙◌}
use Rattle.mt_grid.proofs.Marking.{numbers_on, numbers_past}
use Rattle.mt_grid.proofs.marks.Marks.numbers.Goals as goal
use Rattle.mt_grid.proofs.marks.Marks.numbers.Goals.{then-marked+in_ok-push, else-marked}

pub loop-number-preserved : goal.loop-number-preserved
loop-number-preserved c =
    let same : c.deref-marked-items.result.now ≡ c.args.self.now = c.deref-marked-items.ensures.value ∙ c.self.view_is in
    let below = rw same at c.loop-number-test.true in
    elim c.if-marked.branch [
      | then-marked+in_ok-push w ↦ let set = rw same at w.if-marked.true in
          rw (w.numbers-is, w.in_ok-push.ensures.items) (numbers_on _ _ _ below set c.loop-number.invariant)
      | else-marked w ↦ let unset = rw same at w.if-marked.false in rw w.numbers-is (numbers_past _ _ _ below unset c.loop-number.invariant)
    ]
