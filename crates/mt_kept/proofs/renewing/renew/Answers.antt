use Rattle.std.proofs.Common.{false, ◌+◌, map, List, subst, refl, slice_index_or, take}
use Rattle.std.proofs.lemmas.List.{take_all, take_more}
use Rattle.mt_edges.specs.declared.edge.Edge.{Edge}
use Rattle.mt_kept.specs.declared.open_pair.OpenPair.{OpenPair}
use Rattle.mt_kept.specs.Places.{seen}
use Rattle.mt_kept.specs.Private.Made.{is_tested}
use Rattle.mt_kept.specs.Private.Window.{AreAdded}
use Rattle.mt_kept.proofs.Looking.{added_more, added_none}
use Rattle.mt_kept.proofs.Moving.{tested_each, tested_more}
use Rattle.mt_kept.proofs.renewing.renew.Goals as goal

pub returns-in_err-push_pair-clause-counted : goal.returns-in_err-push_pair-clause-counted
returns-in_err-push_pair-clause-counted c = tested_each (is_tested c.args.now) c.args.edges.now (c.loop-edge.edge-index + 1) c.args.tests.now
    c.shown-conflict.new.tests (tested_more (is_tested c.args.now) c.args.edges.now c.loop-edge.edge-index c.args.tests.now c.loop-edge.tests
    c.shown-conflict.new.tests _ c.loop-edge-test.true c.loop-edge.invariant.counted c.shown-conflict.ensures.counted)

pub loop-edge-preserved : goal.loop-edge-preserved
loop-edge-preserved c =
    let none : Edge = record { a = 0; b = 0; first = 0; last = 0; solid = false } in
    let edges = c.args.edges.now in
    let i = c.loop-edge.edge-index in
    let places = map seen c.args.places.now in
    let below = c.loop-edge-test.true in
    let o : OpenPair = record { edge = slice_index_or edges i none; conflict = c.shown-conflict.result } in
    record {
      added = rw (take_more edges i none below) (added_more c.args.rules.now places c.args.now (take i edges) o c.args.renewed.now.items c.loop-edge.renewed.items
          c.push_pair.new.pairs.items c.loop-edge.invariant.added c.shown-conflict.ensures.shown c.in_ok-push_pair.ensures);
      counted = tested_more (is_tested c.args.now) edges i c.args.tests.now c.loop-edge.tests c.shown-conflict.new.tests _ below
          c.loop-edge.invariant.counted c.shown-conflict.ensures.counted;
    }

pub shown-conflict-requires-clause-pair : goal.shown-conflict-requires-clause-pair
shown-conflict-requires-clause-pair c = (c.requires.pairs c.loop-edge.edge-index (record { a = 0; b = 0; first = 0; last = 0; solid = false }) c.loop-edge-test.true).0

pub shown-conflict-requires-clause-opened : goal.shown-conflict-requires-clause-opened
shown-conflict-requires-clause-opened c = (c.requires.pairs c.loop-edge.edge-index (record { a = 0; b = 0; first = 0; last = 0; solid = false }) c.loop-edge-test.true).1

pub loop-edge-init : goal.loop-edge-init
loop-edge-init c = record {
  added = added_none c.args.rules.now (map seen c.args.places.now) c.args.now c.args.renewed.now.items;
  counted = refl;
}

pub returns-clause-added : goal.returns-clause-added
returns-clause-added c =
    subst (λ (edges : List Edge). AreAdded c.args.rules.now (map seen c.args.places.now) c.args.now edges c.args.renewed.now.items c.loop-edge.renewed.items)
    (take_all c.loop-edge.edge-index c.args.edges.now c.loop-edge-test.false) c.loop-edge.invariant.added

pub returns-clause-counted : goal.returns-clause-counted
returns-clause-counted c =
    tested_each (is_tested c.args.now) c.args.edges.now c.loop-edge.edge-index c.args.tests.now c.loop-edge.tests c.loop-edge.invariant.counted
