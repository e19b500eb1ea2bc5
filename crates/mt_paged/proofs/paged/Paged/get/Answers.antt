use Rattle.std.proofs.Common.{◌∙◌, ap, arith, sym}
use Rattle.std.specs.Arc.{arc_value}
use Rattle.std.specs.Option.{option_map}
use Rattle.std.proofs.lemmas.List.{length-map}
use Rattle.mt_paged.proofs.Rows.{within_count}
use Rattle.mt_paged.proofs.Sharing.{page_is_full, read}
use Rattle.mt_paged.proofs.paged.Paged.get.Goals as goal

pub index-requires : goal.index-requires
index-requires g c =
    let at_page = rw c.deref.ensures at c.index-page.ensures in
    let within = within_count _ _ _ c.self.invariant (rw (← c.self.view_is) at c.requires) in
    let full = page_is_full _ _ _ _ c.self.invariant within at_page in
    let long = length-map (arc_value c.index-page.result.now).items (option_map arc_value) in
    rw c.deref-2.ensures (omega (arith, full, long, (arc_value c.index-page.result.now).ok.0))

pub returns-in-Some : goal.returns-in-Some
returns-in-Some g c =
    let at_page = rw c.deref.ensures at c.index-page.ensures in
    let at_place = rw c.deref-2.ensures at c.index.ensures in
    let within = within_count _ _ _ c.self.invariant (rw (← c.self.view_is) at c.requires) in
    let r = read _ _ _ _ _ c.self.invariant within at_page at_place in
    rw (← c.self.view_is, c.deref-in-Some.ensures) (sym (r ∙ ap (option_map arc_value) c.in-Some.is))

pub returns-in-None : goal.returns-in-None
returns-in-None g c =
    let at_page = rw c.deref.ensures at c.index-page.ensures in
    let at_place = rw c.deref-2.ensures at c.index.ensures in
    let within = within_count _ _ _ c.self.invariant (rw (← c.self.view_is) at c.requires) in
    let r = read _ _ _ _ _ c.self.invariant within at_page at_place in
    rw (← c.self.view_is) (sym (r ∙ ap (option_map arc_value) c.in-None.is))
