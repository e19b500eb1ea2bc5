use Rattle.std.proofs.Common.{◌≡◌, ◌∙◌, Bor, List, None, Option, Some, false, refl, subst, sym, true≢false}
use Rattle.std.specs.Option.{is_some, option_copied}
use Rattle.mt_cover.specs.Sliced.{Sliced}
use Rattle.mt_meet.specs.Private.Boxing.{AreBoxesKept}
use Rattle.mt_meet.specs.declared.boxes.Boxes.{Boxes}
use Rattle.mt_meet.proofs.Boxed.{none_in_block}
use Rattle.mt_meet.proofs.table.SliceTable.has_some.Goals as goal

none_copied : (page : Option (Bor (List (Option Boxes)))) → is_some page ≡ false → option_copied page ≡ None
none_copied None none = refl
none_copied (Some page) none = absurd (true≢false none)

pub returns-else-is_some : goal.returns-else-is_some
returns-else-is_some c = λ none.
    let kept = subst (λ (t : List (Option Sliced)). AreBoxesKept c.self.inside.count t c.self.inside.pages) c.self.view_is c.self.invariant in
    none_in_block c.self.inside.count c.args.self.now c.self.inside.pages kept c.args.block
    (sym c.get.ensures ∙ none_copied c.get.result (sym c.is_some.ensures ∙ c.if-is_some.false))
    (sym c.get-else-is_some.ensures ∙ none_copied c.get-else-is_some.result (sym c.is_some-else-is_some.ensures ∙ none))
