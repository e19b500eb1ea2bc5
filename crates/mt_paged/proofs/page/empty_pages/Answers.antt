use Rattle.std.proofs.Common.{◌≡◌, ◌∙◌, ℕ, List, Option, length, replicate, ap, arith, rules}
use Rattle.std.specs.declared.sync.Arc.{Arc}
use Rattle.std.specs.declared.vec.Vec.{Vec}
use Rattle.std.specs.Arc.{arc_value}
use Rattle.mt_paged.specs.Private.Pages.{page_places, row}
use Rattle.mt_paged.proofs.Sharing.{all_copies, empty_places, same_row}
use Rattle.mt_paged.proofs.page.empty_pages.Goals as goal

pub returns : goal.returns
returns g c =
    let empty = c.in_ok-vec.ensures.items_if_clones_equal (λ y r. search rules) in
    let page = ap (λ (v : Vec (Option (Arc _ _)) _). page_places v.items) c.in_ok-page.ensures.ok ∙ ap (λ (items : List (Option (Arc _ _))). page_places items) empty ∙ empty_places _ _ c.args.size in
    let number : length c.in_ok-vec-2.field-0.items ≡ c.args.number = omega (arith, c.in_ok-vec-2.ensures.len, c.in_ok-vec-2.field-0.ok.0) in
    all_copies (λ x y. arc_value y ≡ arc_value x) row c.in_ok-page.page (same_row c.in_ok-page.page) _ c.in_ok-vec-2.ensures.items
    ∙ ap (λ (n : ℕ). replicate n (row c.in_ok-page.page)) number
    ∙ ap (replicate c.args.number) page
