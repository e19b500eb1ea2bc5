use Rattle.std.proofs.Common.{ℕ, ◌++◌, List, sym, ap, ◌∙◌, append-nil}
use Rattle.mt_edges.specs.Private.Kept.{gathered}
use Rattle.mt_edges.proofs.Reading.{gathered_all, gathered_step, read_turn, reads_begin}
use Rattle.mt_edges.proofs.table.Table.gather.Goals as goal

pub loop-place-init : goal.loop-place-init
loop-place-init c =
    let b = reads_begin _ _ _ _ _ _ _ _ c.requires.kept c.requires.head _ c.behind-place.ensures in
    record {
      reads = b.0;
      out = sym (append-nil c.args.out.now.items) ∙ ap (λ (ps : List ℕ). c.args.out.now.items ++ gathered c.args.self.now.nodes.items c.args.self.now.base c.args.from c.args.to ps) (sym b.1);
    }

pub edge-edge-requires-clause-base : goal.edge-edge-requires-clause-base
edge-edge-requires-clause-base c = (read_turn _ _ _ _ _ _ _ _ _ c.loop-place.invariant.reads c.loop-place-test.true).above

pub edge-edge-requires-clause-here : goal.edge-edge-requires-clause-here
edge-edge-requires-clause-here c =
    let t = read_turn _ _ _ _ _ _ _ _ _ c.loop-place.invariant.reads c.loop-place-test.true in (t.edge, t.here)

pub loop-place-smaller : goal.loop-place-smaller
loop-place-smaller c = rw c.behind-place-in-loop-place.ensures (read_turn _ _ _ _ _ _ _ _ _ c.loop-place.invariant.reads c.loop-place-test.true).smaller

pub loop-place-preserved : goal.loop-place-preserved
loop-place-preserved c =
    let t = read_turn _ _ _ _ _ _ _ _ _ c.loop-place.invariant.reads c.loop-place-test.true in
    let on = t.on _ c.behind-place-in-loop-place.ensures in
    record {
      reads = on.0;
      out = gathered_step _ _ _ _ _ _ _ c.edge-edge.result _ _ _ on.1 c.edge-edge.ensures c.loop-place.invariant.out c.in_ok-keep.ensures;
    }

pub returns : goal.returns
returns c = gathered_all _ _ _ _ _ _ _ _ _ _ _ _ _ c.loop-place.invariant.reads c.loop-place-test.false c.loop-place.invariant.out
