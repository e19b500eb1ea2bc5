use Rattle.std.proofs.Common.{Some, length-set, arith}
use Rattle.mt_edges.proofs.Adds.{three, ties_filled}
use Rattle.mt_edges.proofs.Nodes.{has_places, popped, sound_filled, spares_popped, with_new}
use Rattle.mt_edges.proofs.table.Table.put.Goals as goal

pub link-requires : goal.link-requires
link-requires c =
    let p = popped _ _ _ c.index-node.result.now c.requires.kept.shape.spares c.requires.spare c.index-node.ensures in
    (three _ _ _ _ _ _ _ c.args.self.now.links.next.items c.args.self.now.links.prev.items c.args.self.now.links.next.items c.args.self.now.links.prev.items _ _ c.requires.kept c.requires.sound p.1 p.2).one

pub link-requires-2 : goal.link-requires-2
link-requires-2 c =
    let p = popped _ _ _ c.index-node.result.now c.requires.kept.shape.spares c.requires.spare c.index-node.ensures in
    (three _ _ _ _ _ _ _ _ _ c.link.new.self.next.items c.link.new.self.prev.items _ _ c.requires.kept c.requires.sound p.1 p.2).two c.link.ensures

pub link-requires-3 : goal.link-requires-3
link-requires-3 c =
    let p = popped _ _ _ c.index-node.result.now c.requires.kept.shape.spares c.requires.spare c.index-node.ensures in
    (three _ _ _ _ _ _ _ _ _ _ _ _ _ c.requires.kept c.requires.sound p.1 p.2).three c.link.ensures c.link-2.ensures

pub returns-clause-kept : goal.returns-clause-kept
returns-clause-kept c =
    let p = popped _ _ _ c.index-node.result.now c.requires.kept.shape.spares c.requires.spare c.index-node.ensures in
    let t = three _ _ _ _ _ _ _ _ _ _ _ _ _ c.requires.kept c.requires.sound p.1 p.2 in
    let k = c.requires.kept in
    record {
      shape = record {
        base_is = k.shape.base_is;
        room = omega (arith, k.shape.room, length-set c.args.self.now.nodes.items c.index-node.result.now (Some c.args.edge), c.link.ensures.lengths.0, c.link-2.ensures.lengths.0, c.link-3.ensures.lengths.0);
        sound = sound_filled _ _ _ _ k.shape.sound p.1 c.requires.sound c.requires.new;
        spares = spares_popped _ _ _ _ _ k.shape.spares c.requires.spare p.0;
      };
      lists = _;
      laid = t.all _ _ c.link.ensures c.link-2.ensures c.link-3.ensures;
      ties = ties_filled _ _ _ _ _ _ k.ties p.1 p.2;
    }

pub returns-clause-edges : goal.returns-clause-edges
returns-clause-edges c =
    let p = popped _ _ _ c.index-node.result.now c.requires.kept.shape.spares c.requires.spare c.index-node.ensures in
    with_new _ _ _ p.1 p.2

pub overflow_mul-first : goal.overflow_mul-first
overflow_mul-first c = omega (arith, has_places _ _ _ _ _ c.index-node.result.now _ c.requires.kept.shape c.requires.spare c.index-node.ensures, c.args.self.now.links.next.ok.0)

pub overflow_add-first : goal.overflow_add-first
overflow_add-first c = omega (arith, has_places _ _ _ _ _ c.index-node.result.now _ c.requires.kept.shape c.requires.spare c.index-node.ensures, c.args.self.now.links.next.ok.0)

pub overflow_add-first-2 : goal.overflow_add-first-2
overflow_add-first-2 c = omega (arith, has_places _ _ _ _ _ c.index-node.result.now _ c.requires.kept.shape c.requires.spare c.index-node.ensures, c.args.self.now.links.next.ok.0)

pub overflow_add-first-3 : goal.overflow_add-first-3
overflow_add-first-3 c = omega (arith, has_places _ _ _ _ _ c.index-node.result.now _ c.requires.kept.shape c.requires.spare c.index-node.ensures, c.args.self.now.links.next.ok.0)

pub overflow_add-self-2 : goal.overflow_add-self-2
overflow_add-self-2 c =
    let s = c.requires.kept.shape in
    let h = c.args.self.now.links.next.ok in
    omega (arith, s.base_is, s.room, h.0, c.requires.sound.early)
