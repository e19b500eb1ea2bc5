use Rattle.std.proofs.Common.{◌≡◌, arith, length}
use Rattle.mt_edges.proofs.Growth.{kept_more, standing_more}
use Rattle.mt_edges.proofs.table.Table.add_node.Goals as goal

pub returns-clause-kept : goal.returns-clause-kept
returns-clause-kept c =
    let n : c.len-node.result ≡ length c.args.self.now.nodes.items = omega (arith, c.args.self.now.nodes.ok.0) in
    rw (c.push_reserved.ensures.items, n)
    (kept_more _ _ _ _ _ _ _ c.requires.kept (omega (arith, c.requires.room.free)) (omega (arith, c.requires.room.links)))

pub returns-clause-edges : goal.returns-clause-edges
returns-clause-edges c = rw c.push_reserved.ensures.items (standing_more c.args.self.now.nodes.items)
