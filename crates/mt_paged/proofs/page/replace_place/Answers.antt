use Rattle.std.proofs.Common.{◌∙◌, ap, refl, rules, set, Option}
use Rattle.std.specs.declared.sync.Arc.{Arc}
use Rattle.std.specs.declared.vec.Vec.{Vec}
use Rattle.std.specs.Arc.{arc_value}
use Rattle.std.specs.Option.{option_map}
use Rattle.std.specs.Vec.{with_item}
use Rattle.std.proofs.lemmas.List.{map-set}
use Rattle.mt_paged.specs.Private.Pages.{page_places}
use Rattle.mt_paged.proofs.Sharing.{copied, on_err}
use Rattle.mt_paged.proofs.page.replace_place.Goals as goal

pub returns-in_err-own-clause-err : goal.returns-in_err-own-clause-err
returns-in_err-own-clause-err g c = on_err _ (copied _ (option_map arc_value) (λ x y r. search rules) _ _ (rw c.in_err-own.was at c.make_mut.follows.holds-at-none))

pub returns-clause-ok : goal.returns-clause-ok
returns-clause-ok g c =
    let written = c.make_mut.follows.holds (with_item c.in_ok-own.own.now c.args.place c.args.item) (rw c.in_ok-own.was refl) in
    ap (λ (v : Vec (Option (Arc _ _)) _). page_places v.items) written
    ∙ map-set (option_map arc_value) c.in_ok-own.own.now.items c.args.place c.args.item
    ∙ ap (λ row. set row c.args.place (option_map arc_value c.args.item)) (copied _ (option_map arc_value) (λ x y r. search rules) _ _ c.in_ok-own.ensures.value)
