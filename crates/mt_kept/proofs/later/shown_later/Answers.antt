use Rattle.std.proofs.Common.{map, Some, sym, ◌∙◌}
use Rattle.mt_track.specs.Named.{named}
use Rattle.mt_kept.specs.Places.{seen}
use Rattle.mt_kept.proofs.Publishing.{found_pair, one_there, shown_of}
use Rattle.mt_kept.proofs.Shifted.{shows_over}
use Rattle.mt_kept.proofs.later.shown_later.Goals as goal

pub returns-clause-shown : goal.returns-clause-shown
returns-clause-shown c =
    let rules = c.args.rules.now in
    let places = map seen c.args.places.now in
    let edge = c.args.pair.now.edge in
    let pair = c.requires.pair in
    let left = named c.items_of.result.0.now in
    let right = named c.items_of.result.1.now in
    let l = one_there places edge.a pair.left left pair.left_is c.items_of.ensures.left in
    let r = one_there places edge.b pair.right right pair.right_is c.items_of.ensures.right in
    shown_of rules places c.args.now edge pair left right (Some c.paired.result) l r
    (found_pair rules c.args.now left right c.in_ok-span.span c.paired.result c.in_ok-span.ensures.conflict c.paired.ensures)

pub returns-in-Some-clause-shown : goal.returns-in-Some-clause-shown
returns-in-Some-clause-shown c =
    rw (c.over_span.ensures, c.span_within.ensures) (shows_over c.args.rules.now (map seen c.args.places.now) c.args.moment c.args.now c.args.pair.now.edge
    c.args.pair.now.conflict c.in-Some.conflict c.requires.early c.requires.pair c.requires.opened.1 (sym c.is_tested.ensures ∙ c.if-not-is_tested.true)
    c.in-Some.is c.requires.shown)
