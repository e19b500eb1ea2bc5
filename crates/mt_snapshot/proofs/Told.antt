-- What is told of the flight at a place.
use Rattle.std.proofs.Common.{◌≡◌, ℕ, Option, Some, ap, sym, ◌∙◌}
use Rattle.std.specs.Prelude.{option_map, unwrap_or}
use Rattle.std.specs.Arc.{arc_value}
use Rattle.mt_base.specs.declared.flight.Record.{Record}
use Rattle.mt_base.specs.Picture.{trajectory_of}
use Rattle.mt_base.specs.Trajectory.{Trajectory}
use Rattle.mt_base.specs.View.{view_of, view_of_path}
use Rattle.mt_probe.specs.declared.flight.Flight.{Flight}
use Rattle.mt_probe.specs.Shot.{Shot, flight_at, state_in_shot}
use Rattle.mt_probe.specs.Standing.{IsSoundShot}
use Rattle.mt_probe.proofs.Placed.{placed}
use Rattle.mt_probe.proofs.Looking.{flown_is}

-- the flight of a callsign, with the trajectory that it flies
pub view_is : (shot : Shot) (sec : Option ℕ) (place : ℕ) (card : Record) (t : Trajectory) (found : Option Record) → IsSoundShot shot
    → Some card ≡ option_map (λ f. f.card) (flight_at shot place) → ((f : Flight) → flight_at shot place ≡ Some f → t ≡ arc_value f.actual.strand)
    → found ≡ option_map (λ f. f.card) (flight_at shot place)
    → Some (view_of_path card.call card.path t (unwrap_or sec shot.now) shot.version) ≡ option_map (view_of shot.setup (state_in_shot shot) sec) found
view_is shot sec place card t found sound card_is t_is found_is =
    let it = placed (flight_at shot place) card card_is in
    let flown : t ≡ trajectory_of shot.setup card.path =
    t_is it.flight it.at_is
    ∙ flown_is shot.setup it.flight (sound.sound place it.flight it.at_is).kept
    ∙ ap (λ (r : Record). trajectory_of shot.setup r.path) it.card_is in
    let there : found ≡ Some card = found_is ∙ sym card_is in
    rw there (ap (λ (path : Trajectory). Some (view_of_path card.call card.path path (unwrap_or sec shot.now) shot.version)) flown)
