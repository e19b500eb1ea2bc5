use Rattle.std.proofs.Common.{◌<◌, ◌∙◌, List, Option, ap, length, option_map, subst, sym}
use Rattle.std.specs.Arc.{arc_value}
use Rattle.mt_cover.specs.Sliced.{Sliced}
use Rattle.mt_meet.specs.Private.Boxing.{AreSlicesIn, bounds_in, boxes_in}
use Rattle.mt_meet.specs.declared.boxes.Boxes.{Boxes}
use Rattle.mt_meet.proofs.Boxed.{kept_with}
use Rattle.mt_meet.proofs.table.SliceTable.set.Goals as goal

pub invariant_of-result : goal.invariant_of-result
invariant_of-result c =
    let inside = subst (λ (t : List (Option Sliced)). c.args.item < length t) (sym c.self.view_is) c.requires in
    rw (c.in_ok-with_page.ensures, c.in_ok-set.ensures)
    (kept_with c.self.inside.count c.self.inside.slices c.self.inside.pages c.self.invariant c.args.item (option_map arc_value c.args.slices) c.in_ok-page.page inside
    c.in_ok-page.ensures.full
    (rw (c.seen.ensures.same, c.as_ref.ensures.value) at c.in_ok-page.ensures.own)
    (λ remainder other few within apart. c.in_ok-page.ensures.beside remainder other few within apart
    ∙ ap (λ (p : Option (List (Option Boxes))). bounds_in (boxes_in p remainder) other) c.get-2.ensures)
    (subst AreSlicesIn (rw c.as_ref.ensures.value at c.seen.ensures.same) c.seen.ensures.kept))
