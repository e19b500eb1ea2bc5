use Rattle.std.proofs.Common.{◌≡◌, ◌∙◌, ◌+◌, ◌-◌, ℕ, subst, arith}
use Rattle.mt_edges.specs.Private.Kept.{HasRoom}
use Rattle.mt_edges.proofs.table.Table.grow.Goals as goal

pub loop-preserved : goal.loop-preserved
loop-preserved c =
    let one_more : c.args.count - c.loop.counter ≡ (c.args.count - (c.loop.counter + 1)) + 1 = omega (arith, c.loop-test.true) in
    record {
      kept = c.add_node.ensures.kept;
      room = c.add_node.ensures.room (c.args.count - (c.loop.counter + 1)) (subst (λ (n : ℕ). HasRoom c.loop.self n) one_more c.loop.invariant.room);
      ends = c.add_node.ensures.ends ∙ c.loop.invariant.ends;
      edges = c.add_node.ensures.edges ∙ c.loop.invariant.edges;
      spare = omega (arith, c.add_node.ensures.spare, c.loop.invariant.spare);
    }
