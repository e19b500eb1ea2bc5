use Rattle.std.proofs.Common.{◌≡◌, ◌∙◌, List, Option, None, Some, ap, get_or, subst, sym}
use Rattle.std.specs.Option.{option_copied}
use Rattle.mt_cover.specs.Sliced.{Sliced}
use Rattle.mt_base.specs.declared.rules.Rules.{Rules}
use Rattle.mt_meet.specs.Meeting.{Asked}
use Rattle.mt_meet.specs.Private.Meeting.{MeetOnlyIn}
use Rattle.mt_meet.proofs.Meetings.{narrowed}
use Rattle.mt_meet.proofs.table.SliceTable.met_at.Goals as goal

pub meet_within-requires-clause-outside : goal.meet_within-requires-clause-outside
meet_within-requires-clause-outside c =
    let there : get_or c.args.self.now c.args.item None ≡ Some c.in_ok-theirs.theirs.now =
    subst (λ (t : List (Option Sliced)). get_or t c.args.item None ≡ Some c.in_ok-theirs.theirs.now) c.self.view_is
    (sym c.get.ensures ∙ ap option_copied c.in_ok-theirs.was) in
    rw (c.slices-mine.ensures.slices)
    (subst (λ (r : Rules). MeetOnlyIn r c.args.subject.now.sliced c.in_ok-theirs.theirs.now c.max-begin.result c.min-end.result)
    (sym (ap (λ (a : Asked). a.rules) c.subject.view_is))
    (narrowed c.args.subject.now c.args.self.now c.args.item c.args.parts c.in_ok-theirs.theirs.now _ _ c.max-begin.result c.min-end.result there c.requires
    c.between-from.ensures (rw (c.max.ensures, c.from.ensures.from, c.from-2.ensures.from, c.slices-mine.ensures.slices) at c.max-begin.ensures)
    (rw (c.min.ensures, c.to.ensures, c.to-2.ensures, c.slices-mine.ensures.slices) at c.min-end.ensures) c.if-begin-end.false))
