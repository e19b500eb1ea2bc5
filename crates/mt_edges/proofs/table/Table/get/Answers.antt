use Rattle.std.proofs.Common.{◌+◌, sym, arith, subst}
use Rattle.mt_edges.specs.Private.Laid.{IsHead}
use Rattle.mt_edges.proofs.Nodes.{stands}
use Rattle.mt_edges.proofs.Reading.{NoneYet, none_found, none_more, read_turn, reads_begin}
use Rattle.mt_edges.proofs.table.Table.get.Goals as goal
use Rattle.mt_edges.proofs.table.Table.get.Goals.{else-edge-a-via-then-edge-a+else-edge-b, else-edge-a-via-else-edge-a}

pub loop-place-init : goal.loop-place-init
loop-place-init c =
    let head : IsHead c.args.self.now.base (1 + c.args.a) = (omega arith, omega (arith, c.requires.kept.shape.base_is)) in
    let b = reads_begin _ _ _ _ _ _ _ _ c.requires.kept head _ c.behind-place.ensures in
    record {
      reads = b.0;
      so_far = subst (NoneYet c.args.self.now.nodes.items c.args.self.now.base c.args.a c.args.b) (sym b.1) (λ p e has. absurd has);
    }

pub edge-edge-requires-clause-base : goal.edge-edge-requires-clause-base
edge-edge-requires-clause-base c = (read_turn _ _ _ _ _ _ _ _ _ c.loop-place.invariant.reads c.loop-place-test.true).above

pub edge-edge-requires-clause-here : goal.edge-edge-requires-clause-here
edge-edge-requires-clause-here c =
    let t = read_turn _ _ _ _ _ _ _ _ _ c.loop-place.invariant.reads c.loop-place-test.true in (t.edge, t.here)

pub loop-place-smaller : goal.loop-place-smaller
loop-place-smaller c = rw c.behind-place-in-loop-place.ensures (read_turn _ _ _ _ _ _ _ _ _ c.loop-place.invariant.reads c.loop-place-test.true).smaller

pub loop-place-preserved : goal.loop-place-preserved
loop-place-preserved c =
    let t = read_turn _ _ _ _ _ _ _ _ _ c.loop-place.invariant.reads c.loop-place-test.true in
    let on = t.on _ c.behind-place-in-loop-place.ensures in
    record {
      reads = on.0;
      so_far = none_more _ _ _ _ _ _ _ c.edge-edge.result c.loop-place.invariant.so_far on.1 c.edge-edge.ensures (λ same. elim c.else-edge-a.branch [
        | else-edge-a-via-then-edge-a+else-edge-b w ↦ absurd (w.if-edge-b.false same.1)
        | else-edge-a-via-else-edge-a w ↦ absurd (w.if-edge-a.false same.0)
      ]);
    }

pub returns-then-edge-b-clause-some : goal.returns-then-edge-b-clause-some
returns-then-edge-b-clause-some c = (stands c.args.self.now.nodes.items _ c.edge-edge.result c.edge-edge.ensures, c.if-edge-a.true, c.if-edge-b.true)

pub returns-clause-none : goal.returns-clause-none
returns-clause-none c = none_found _ _ _ _ _ _ _ _ c.args.b _ c.loop-place.invariant.reads c.loop-place-test.false c.loop-place.invariant.so_far
