use Rattle.std.proofs.Common.{refl, sym, ◌∙◌, arith}
use Rattle.mt_kept.proofs.Replacing.{dropped_next, nothing_dropped, without_next, without_none}
use Rattle.mt_kept.proofs.changes.drop_pairs.Goals as goal

pub loop-change-init : goal.loop-change-init
loop-change-init c = record {
  edges = sym (without_none c.args.pairs.now.edges);
  steps = nothing_dropped c.args.pairs.now.edges c.args.steps.now;
  once = c.requires.distinct;
  spare = omega arith;
  ends = refl;
}

pub loop-change-preserved : goal.loop-change-preserved
loop-change-preserved c =
    let so_far = c.loop-change.invariant in record {
      edges = without_next c.args.changes.now c.loop-change.change-index c.change-item.result c.args.pairs.now.edges c.loop-change.pairs.edges
          c.drop_all.new.self.edges c.loop-change-test.true c.change-item.is so_far.edges c.drop_all.ensures.edges;
      steps = dropped_next c.args.changes.now c.loop-change.change-index c.change-item.result c.args.pairs.now.edges c.loop-change.pairs.edges
          c.args.steps.now c.loop-change.steps c.drop_all.new.steps c.loop-change-test.true c.change-item.is so_far.edges so_far.steps c.drop_all.ensures.steps;
      once = c.drop_all.ensures.apart;
      spare = let more = c.drop_all.ensures.spare in let room = so_far.spare in omega arith;
      ends = c.drop_all.ensures.ends ∙ so_far.ends;
    }
