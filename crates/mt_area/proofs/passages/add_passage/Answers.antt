use Rattle.std.proofs.lemmas.Result.{on_ok_weaker}
use Rattle.mt_track.specs.Named.{named}
use Rattle.mt_area.proofs.Tellings.{Adds-none, Adds-told, none_told}
use Rattle.mt_area.proofs.passages.add_passage.Goals as goal

pub returns-in_default : goal.returns-in_default
returns-in_default c =
    let none = rw c.deref.ensures at c.in_default.ensures in
    Adds-none _ _ (none_told c.args.now c.args.area.now (named c.args.item.now) none)

pub returns : goal.returns
returns c =
    let span = rw c.deref.ensures at c.in-Some.ensures in
    on_ok_weaker _ (Adds-told c.args.now c.args.area.now (named c.args.item.now) c.in-Some.first c.in-Some.last c.args.found.now c.push.new.self span) c.push.ensures.ok
