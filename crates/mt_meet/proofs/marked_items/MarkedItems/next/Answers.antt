use Rattle.std.proofs.Common.{◌≡◌, ◌<◌, ◌^◌, get_or, subst}
use Rattle.mt_meet.specs.declared.marked_parts.MarkedParts.{MarkedParts}
use Rattle.mt_meet.proofs.Marking.{none_till_bit}
use Rattle.mt_meet.proofs.marked_items.MarkedItems.next.Goals as goal

pub returns-clause-none : goal.returns-clause-none
returns-clause-none c = λ place late below.
    let fits : c.self.inside.items < 2 ^ 64 = search in
    subst (λ (marks : MarkedParts). get_or marks.parts place 0 ≡ 0) c.self.view_is
    (none_till_bit c.self.inside.marks c.self.inside.items c.args.from c.self.invariant fits place late below)
