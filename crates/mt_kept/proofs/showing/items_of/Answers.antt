use Rattle.std.proofs.Common.{ap, ◌∙◌, Some}
use Rattle.mt_kept.proofs.Publishing.{at_seen, none_seen, seen_inside}
use Rattle.mt_kept.proofs.showing.items_of.Goals as goal

pub returns-clause-left : goal.returns-clause-left
returns-clause-left c =
    let pair = c.requires.1 in
    pair.left_is ∙ ap Some (at_seen c.args.places.now c.args.edge.now.a c.index-places-edge.result c.in-Some.left pair.left pair.left_is c.index-places-edge.is c.in-Some.is)

pub returns-clause-right : goal.returns-clause-right
returns-clause-right c =
    let pair = c.requires.1 in
    pair.right_is ∙ ap Some (at_seen c.args.places.now c.args.edge.now.b c.index-places-edge-2.result c.in-Some-places.right pair.right pair.right_is
    c.index-places-edge-2.is c.in-Some-places.is)

pub bounds-places-edge : goal.bounds-places-edge
bounds-places-edge c = let pair = c.requires.1 in seen_inside c.args.places.now c.args.edge.now.a pair.left pair.left_is

pub bounds-places-edge-2 : goal.bounds-places-edge-2
bounds-places-edge-2 c = let pair = c.requires.1 in seen_inside c.args.places.now c.args.edge.now.b pair.right pair.right_is

pub unreachable-requires : goal.unreachable-requires
unreachable-requires c =
    let pair = c.requires.1 in
    none_seen c.args.places.now c.args.edge.now.a c.index-places-edge.result pair.left pair.left_is c.index-places-edge.is c.in_default.is

pub unreachable-requires-in_default-places : goal.unreachable-requires-in_default-places
unreachable-requires-in_default-places c =
    let pair = c.requires.1 in
    none_seen c.args.places.now c.args.edge.now.b c.index-places-edge-2.result pair.right pair.right_is c.index-places-edge-2.is c.in_default-places.is
