-- A flight that is put again keeps what its places have.
use Rattle.std.proofs.Common.{◌≡◌, ◌∙◌, List, ◌∷◌, Option, None, Some, option_map, ap, refl, sym}
use Rattle.std.specs.Arc.{arc_value}
use Rattle.std.specs.Prelude.{option_to_list}
use Rattle.mt_base.specs.declared.conflict.Kind.TheVariants.{Actual, Tentative}
use Rattle.mt_base.specs.Picture.{NamedTrajectory}
use Rattle.mt_probe.specs.declared.flight.Flight.{Flight}
use Rattle.mt_probe.specs.declared.flight.Made.{Made}
use Rattle.mt_probe.specs.Shot.{kept_of, made_named}
use Rattle.mt_picture.specs.Private.Places.{first_of, made_of_kind, second_of}
use Rattle.std.proofs.lemmas.Option.{none-some, same_Some}

abbrev marked : Flight → List NamedTrajectory
marked f = made_named f.card.call Tentative (option_map (λ m. arc_value m.strand) f.mark)

marked_is : (f : Flight) → marked f ≡ option_to_list (second_of (Some f))
marked_is f = by_mark f.mark where
  by_mark : (m : Option Made) → made_named f.card.call Tentative (option_map (λ m. arc_value m.strand) m) ≡ option_to_list (option_map (made_of_kind f Tentative) m)
  by_mark None = refl
  by_mark (Some m) = refl

pub kept_same : (f : Flight) (x : Option Flight) → first_of (Some f) ≡ first_of x → second_of (Some f) ≡ second_of x
    → option_map kept_of x ≡ Some (kept_of f)
kept_same f None first second = absurd (none-some _ (sym first))
kept_same f (Some g) first second =
    let head = same_Some (made_of_kind f Actual f.actual) (made_of_kind g Actual g.actual) first in
    let rest : marked f ≡ marked g = marked_is f ∙ ap option_to_list second ∙ sym (marked_is g) in
    sym (ap (λ (t : NamedTrajectory). Some (t ∷ marked f)) head ∙ ap (λ (ts : List NamedTrajectory). Some (made_of_kind g Actual g.actual ∷ ts)) rest)
