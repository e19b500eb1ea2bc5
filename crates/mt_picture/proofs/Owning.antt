-- Each trajectory of a snapshot has one place.
use Rattle.std.proofs.Common.{◌≡◌, ◌/◌, ⊎_elim, sym, ◌∙◌, ap}
use Rattle.std.proofs.lemmas.Bool.{cases_eq}
use Rattle.mt_base.specs.Picture.{NamedTrajectory}
use Rattle.mt_kept.specs.Places.{HaveOwnPlaces}
use Rattle.mt_probe.specs.Items.{kind_at}
use Rattle.mt_probe.specs.Shot.{Shot}
use Rattle.mt_probe.specs.Standing.{IsSoundShot}
use Rattle.mt_picture.specs.Private.Places.{all_places}
use Rattle.mt_picture.proofs.Knowing.{stands_at}
use Rattle.mt_picture.proofs.Standings.{same_place}

pub own_places : (shot : Shot) → IsSoundShot shot → HaveOwnPlaces (all_places shot.slots)
own_places shot sound i j s t s_is t_is same kinds =
    let one = stands_at shot.slots i s s_is in
    let other = stands_at shot.slots j t t_is in
    let calls : one.flight.card.call ≡ other.flight.card.call =
    ap (λ (n : NamedTrajectory). n.call) one.is ∙ same ∙ ap (λ (n : NamedTrajectory). n.call) (sym other.is) in
    let kind : kind_at i ≡ kind_at j = ap (λ (n : NamedTrajectory). n.kind) one.is ∙ kinds ∙ ap (λ (n : NamedTrajectory). n.kind) (sym other.is) in
    same_place i j (⊎_elim
    (λ here. here)
    (λ away. absurd ((sound.apart (i / 2) (j / 2) one.flight other.flight away one.at_is other.at_is).calls calls))
    (cases_eq (i / 2) (j / 2))) kind
