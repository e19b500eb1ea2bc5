use Rattle.std.proofs.Common.{◌∙◌, ◌/◌, ap, arith, refl, set, subst, sym, take}
use Rattle.std.specs.Arc.{arc_value}
use Rattle.std.specs.Option.{option_map}
use Rattle.std.specs.Vec.{with_item}
use Rattle.std.proofs.lemmas.Result.{on_err_weaker, on_ok_weaker}
use Rattle.mt_paged.specs.Private.Pages.{AreRows, rows_joined, row}
use Rattle.mt_paged.proofs.Rows.{within_count}
use Rattle.mt_paged.proofs.Sharing.{copied, kept, on_either, on_err, page_is_full, same_row, written}
use Rattle.mt_paged.proofs.paged.Paged.replace.Goals as goal

pub invariant_of-self : goal.invariant_of-self
invariant_of-self g c =
    let same = copied _ row same_row _ _ (rw c.in_err-pages.was at c.make_mut.follows.holds-at-none) in
    subst (AreRows c.self.inside.count) (sym same) c.self.invariant

pub returns-in_err-pages-clause-err : goal.returns-in_err-pages-clause-err
returns-in_err-pages-clause-err g c =
    let same = copied _ row same_row _ _ (rw c.in_err-pages.was at c.make_mut.follows.holds-at-none) in
    on_err c.from_residual.result (ap (λ rows. take c.self.inside.count (rows_joined rows)) same ∙ c.self.view_is)

pub replace_place-requires : goal.replace_place-requires
replace_place-requires g c =
    let same = copied _ row same_row _ _ c.in_ok-pages.ensures.value in
    let within = within_count _ _ _ c.self.invariant (rw (← c.self.view_is) at c.requires) in
    let full = page_is_full _ _ _ _ (subst (AreRows c.self.inside.count) (sym same) c.self.invariant) within c.index_mut-page.ensures.value in
    omega (arith, full)

pub invariant_of-self-2 : goal.invariant_of-self-2
invariant_of-self-2 g c =
    let same = copied _ row same_row _ _ c.in_ok-pages.ensures.value in
    let within = within_count _ _ _ c.self.invariant (rw (← c.self.view_is) at c.requires) in
    let there = c.make_mut.follows.holds (with_item c.in_ok-pages.pages.now (c.args.place / 32) c.replace_place.new.page) (rw c.in_ok-pages.was refl) in
    on_either _ c.replace_place.ensures.ok c.replace_place.ensures.err (λ is. (written _ _ _ _ c.args.place _ _ _ c.self.invariant within same c.index_mut-page.ensures.value is there).0)
    (λ is. subst (AreRows c.self.inside.count) (sym (kept _ _ _ _ _ _ same c.index_mut-page.ensures.value is there)) c.self.invariant)

pub returns-clause-ok : goal.returns-clause-ok
returns-clause-ok g c =
    let same = copied _ row same_row _ _ c.in_ok-pages.ensures.value in
    let within = within_count _ _ _ c.self.invariant (rw (← c.self.view_is) at c.requires) in
    let there = c.make_mut.follows.holds (with_item c.in_ok-pages.pages.now (c.args.place / 32) c.replace_place.new.page) (rw c.in_ok-pages.was refl) in
    on_ok_weaker _ (λ is. (written _ _ _ _ c.args.place _ _ _ c.self.invariant within same c.index_mut-page.ensures.value is there).1
    ∙ ap (λ list. set list c.args.place (option_map arc_value c.args.item)) c.self.view_is) c.replace_place.ensures.ok

pub returns-clause-err : goal.returns-clause-err
returns-clause-err g c =
    let same = copied _ row same_row _ _ c.in_ok-pages.ensures.value in
    let there = c.make_mut.follows.holds (with_item c.in_ok-pages.pages.now (c.args.place / 32) c.replace_place.new.page) (rw c.in_ok-pages.was refl) in
    on_err_weaker _ (λ is. ap (λ rows. take c.self.inside.count (rows_joined rows)) (kept _ _ _ _ _ _ same c.index_mut-page.ensures.value is there) ∙ c.self.view_is) c.replace_place.ensures.err
