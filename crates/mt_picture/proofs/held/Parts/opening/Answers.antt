use Rattle.std.proofs.Common.{length}
use Rattle.mt_base.specs.Tables.{Setup}
use Rattle.mt_picture.proofs.Opening.{picture_opening}
use Rattle.mt_picture.proofs.held.Parts.opening.Goals as goal

pub invariant_of-result : goal.invariant_of-result
invariant_of-result c =
    let setup : Setup = record { rules = c.args.rules; tables = c.args.tables.value } in
    let kept = rw c.slots.ensures at c.in_ok-kept.ensures in
    rw c.new.ensures.items (picture_opening setup c.in_ok-snapshot.snapshot c.in_ok-kept.kept (length c.in_ok-snapshot.snapshot.slots)
    c.in_ok-snapshot.ensures.value c.in_ok-snapshot.ensures.state kept)
