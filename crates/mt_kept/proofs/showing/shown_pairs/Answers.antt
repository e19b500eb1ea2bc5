use Rattle.std.proofs.Common.{false, map, take, slice_index_or}
use Rattle.std.proofs.lemmas.List.{take_more}
use Rattle.mt_edges.specs.declared.edge.Edge.{Edge}
use Rattle.mt_kept.specs.declared.open_pair.OpenPair.{OpenPair}
use Rattle.mt_kept.specs.Places.{seen}
use Rattle.mt_kept.proofs.Untested.{untested_more}
use Rattle.mt_kept.proofs.showing.shown_pairs.Goals as goal

pub shown_untested-conflict-requires-clause-pair : goal.shown_untested-conflict-requires-clause-pair
shown_untested-conflict-requires-clause-pair c = (
  c.requires.pairs.0,
  c.requires.pairs.1 c.loop-edge.edge-index (record { a = 0; b = 0; first = 0; last = 0; solid = false }) c.loop-edge-test.true,
)

pub loop-edge-preserved : goal.loop-edge-preserved
loop-edge-preserved c =
    let none : Edge = record { a = 0; b = 0; first = 0; last = 0; solid = false } in
    let edges = c.args.edges.now in
    let i = c.loop-edge.edge-index in
    let o : OpenPair = record { edge = slice_index_or edges i none; conflict = c.shown_untested-conflict.result } in
    rw (take_more edges i none c.loop-edge-test.true, c.in_ok-push_pair.ensures) (untested_more (map seen c.args.places.now) c.args.now c.args.tested.now (take i edges) o
    c.loop-edge.pairs.items c.loop-edge.invariant c.shown_untested-conflict.ensures)
