use Rattle.std.proofs.Common.{refl}
use Rattle.mt_picture.proofs.Changing.{mark_goes}
use Rattle.mt_picture.proofs.change.change_bare.Goals as goal

pub returns : goal.returns
returns c = λ f first bare.
    let items = rw c.new-changes.ensures.items at c.in_ok-push.ensures.items in
    mark_goes c.args.held.now.snapshot c.args.slot c.requires f _ _ items c.place_of.ensures refl c.new.ensures.items refl first bare refl
