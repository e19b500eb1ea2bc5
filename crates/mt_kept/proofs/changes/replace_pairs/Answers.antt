use Rattle.std.proofs.Common.{arith, map, sym, ◌∙◌, subst, List}
use Rattle.std.proofs.lemmas.List.{take_all}
use Rattle.mt_edges.specs.Pairs.{IsEdge}
use Rattle.mt_kept.specs.declared.open_pair.OpenPair.{OpenPair}
use Rattle.mt_kept.specs.Places.{change_place}
use Rattle.mt_kept.specs.Private.Made.{AreReplaced}
use Rattle.mt_kept.proofs.Replacing.{new_edge, replaced_more, replaced_none}
use Rattle.mt_kept.proofs.changes.replace_pairs.Goals as goal

pub loop-find-init : goal.loop-find-init
loop-find-init c = record {
  exact = replaced_none (map change_place c.args.changes.now) c.args.pairs.now.edges c.drop_pairs.new.pairs.edges c.drop_pairs.ensures.edges;
  once = c.drop_pairs.ensures.once;
  ends = c.drop_pairs.ensures.ends;
  room = let spare = c.drop_pairs.ensures.spare in let room = c.requires.room in omega arith;
}

pub add-requires-clause-spare : goal.add-requires-clause-spare
add-requires-clause-spare c = let room = c.loop-find.invariant.room in let below = c.loop-find-test.true in omega arith

pub add-requires-clause-sound : goal.add-requires-clause-sound
add-requires-clause-sound c = rw c.loop-find.invariant.ends (subst (λ (o : OpenPair). IsEdge c.args.pairs.now.ends o.edge) (sym c.find-item.is)
    (c.requires.sound c.loop-find.find-index c.find-item.result c.loop-find-test.true))

pub add-requires-clause-new : goal.add-requires-clause-new
add-requires-clause-new c =
    new_edge (map change_place c.args.changes.now) c.args.finds.now c.loop-find.find-index c.find-item.result c.args.pairs.now.edges
    c.loop-find.pairs.edges c.loop-find-test.true c.find-item.is c.requires.touching c.requires.distinct c.loop-find.invariant.exact

pub loop-find-preserved : goal.loop-find-preserved
loop-find-preserved c = record {
  exact = replaced_more (map change_place c.args.changes.now) c.args.finds.now c.loop-find.find-index c.find-item.result c.args.pairs.now.edges
      c.loop-find.pairs.edges c.add.new.self.edges c.loop-find-test.true c.find-item.is c.loop-find.invariant.exact c.add.ensures.edges;
  once = c.add.ensures.apart;
  ends = c.add.ensures.ends ∙ c.loop-find.invariant.ends;
  room = let spare = c.add.ensures.spare in let room = c.loop-find.invariant.room in omega arith;
}

pub returns-clause-replaced : goal.returns-clause-replaced
returns-clause-replaced c =
    subst (λ (finds : List OpenPair). AreReplaced (map change_place c.args.changes.now) finds c.args.pairs.now.edges c.loop-find.pairs.edges)
    (take_all c.loop-find.find-index c.args.finds.now c.loop-find-test.false) c.loop-find.invariant.exact
