use Rattle.std.proofs.lemmas.Result.{IfOk-weaker}
use Rattle.mt_track.specs.Named.{named}
use Rattle.mt_picture.proofs.Changing.{found_put, kind_own}
use Rattle.mt_picture.proofs.change.change_for.Goals as goal

pub slot_change-requires-clause-finds : goal.slot_change-requires-clause-finds
slot_change-requires-clause-finds c =
    let f = c.args.flight.now in
    let own = kind_own f _ (named c.in_ok-item.item) c.in_ok-item.ensures in
    rw own (found_put c.args.held.now.snapshot c.args.slot c.requires.inside f _ (named c.in_ok-item.item) c.place_of.result c.in_ok-finds.finds.items
    c.requires.was c.in_ok-item.ensures c.place_of.ensures c.in_ok-finds.ensures.finds)

pub returns-clause-finds : goal.returns-clause-finds
returns-clause-finds c =
    let found = rw c.kind_made-kind.ensures at (found_put c.args.held.now.snapshot c.args.slot c.requires.inside c.args.flight.now _ (named c.in_ok-item.item) c.place_of.result
    c.in_ok-finds.finds.items c.requires.was c.in_ok-item.ensures c.place_of.ensures c.in_ok-finds.ensures.finds) in
    IfOk-weaker c.slot_change.result _ _ (λ change same. rw same found) c.slot_change.ensures.finds
