use Rattle.std.proofs.Common.{ap, sym, ◌∙◌, map}
use Rattle.mt_base.specs.Picture.{NamedTrajectory}
use Rattle.mt_track.specs.Named.{named}
use Rattle.mt_kept.specs.Places.{seen}
use Rattle.mt_kept.proofs.Publishing.{one_there, said_of, shown_of, span_of}
use Rattle.mt_kept.proofs.showing.shown.Goals as goal

pub items_of-requires : goal.items_of-requires
items_of-requires c = (c.args.rules.now, c.requires.pair)

pub shown_pair-requires-clause-apart : goal.shown_pair-requires-clause-apart
shown_pair-requires-clause-apart c =
    let pair = c.requires.pair in
    let l = one_there (map seen c.args.places.now) c.args.edge.now.a pair.left (named c.items_of.result.0.now) pair.left_is c.items_of.ensures.left in
    let r = one_there (map seen c.args.places.now) c.args.edge.now.b pair.right (named c.items_of.result.1.now) pair.right_is c.items_of.ensures.right in
    λ same. pair.apart (ap (λ (t : NamedTrajectory). t.call) l ∙ same ∙ sym (ap (λ (t : NamedTrajectory). t.call) r))

pub shown_pair-requires-clause-span : goal.shown_pair-requires-clause-span
shown_pair-requires-clause-span c =
    let pair = c.requires.pair in
    let l = one_there (map seen c.args.places.now) c.args.edge.now.a pair.left (named c.items_of.result.0.now) pair.left_is c.items_of.ensures.left in
    let r = one_there (map seen c.args.places.now) c.args.edge.now.b pair.right (named c.items_of.result.1.now) pair.right_is c.items_of.ensures.right in
    span_of c.args.rules.now (map seen c.args.places.now) c.args.edge.now pair (named c.items_of.result.0.now) (named c.items_of.result.1.now) l r

pub shown_pair-requires-clause-solid : goal.shown_pair-requires-clause-solid
shown_pair-requires-clause-solid c =
    let pair = c.requires.pair in
    let l = one_there (map seen c.args.places.now) c.args.edge.now.a pair.left (named c.items_of.result.0.now) pair.left_is c.items_of.ensures.left in
    let r = one_there (map seen c.args.places.now) c.args.edge.now.b pair.right (named c.items_of.result.1.now) pair.right_is c.items_of.ensures.right in
    said_of c.args.rules.now (map seen c.args.places.now) c.args.edge.now pair (named c.items_of.result.0.now) (named c.items_of.result.1.now) l r

pub returns-clause-shown : goal.returns-clause-shown
returns-clause-shown c =
    let pair = c.requires.pair in
    let l = one_there (map seen c.args.places.now) c.args.edge.now.a pair.left (named c.items_of.result.0.now) pair.left_is c.items_of.ensures.left in
    let r = one_there (map seen c.args.places.now) c.args.edge.now.b pair.right (named c.items_of.result.1.now) pair.right_is c.items_of.ensures.right in
    shown_of c.args.rules.now (map seen c.args.places.now) c.args.now c.args.edge.now pair (named c.items_of.result.0.now) (named c.items_of.result.1.now) _ l r
    c.shown_pair.ensures.found
