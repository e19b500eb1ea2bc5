use Rattle.std.proofs.Common.{refl}
use Rattle.mt_picture.proofs.Changing.{flight_goes}
use Rattle.mt_picture.proofs.change.change_none.Goals as goal

pub returns : goal.returns
returns c =
    let items = rw (c.in_ok-push.ensures.items, c.new-changes.ensures.items) at c.in_ok-push-2.ensures.items in
    flight_goes c.args.held.now.snapshot c.args.slot c.requires _ _ _ items c.place_of.ensures c.place_of-2.ensures refl refl c.new.ensures.items refl refl
