use Rattle.std.proofs.Common.{sym, ◌∙◌}
use Rattle.mt_picture.proofs.HitsHere.{all_hits, hit_more, no_more}
use Rattle.mt_picture.proofs.hits.hits_of.Goals as goal
use Rattle.mt_picture.proofs.hits.hits_of.Goals.{in-Some+in_ok-push, in_default}

pub loop-pair-preserved : goal.loop-pair-preserved
loop-pair-preserved c =
    elim c.match-hit_of.branch [
      | in-Some+in_ok-push w ↦
          rw (w.hits-is, w.in_ok-push.ensures.ok) (hit_more c.args.finds.now c.loop-pair.pair-index c.pair-item.result c.args.call c.args.now c.loop-pair.hits w.in-Some.hit
          c.loop-pair-test.true c.pair-item.is (sym c.hit_of.ensures ∙ w.in-Some.is) c.loop-pair.invariant)
      | in_default w ↦
          rw w.hits-is (no_more c.args.finds.now c.loop-pair.pair-index c.pair-item.result c.args.call c.args.now c.loop-pair.hits
          c.loop-pair-test.true c.pair-item.is (sym c.hit_of.ensures ∙ w.in_default.is) c.loop-pair.invariant)
    ]

pub returns : goal.returns
returns c = record {
  members = all_hits c.args.finds.now c.loop-pair.pair-index c.args.call c.args.now c.loop-pair.hits c.order.new.self c.loop-pair-test.false c.loop-pair.invariant c.order.ensures.same;
  sorted = c.order.ensures.sorted;
}
