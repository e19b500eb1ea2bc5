-- The flight that is advised, by what a snapshot gives of its place.
use Rattle.std.proofs.Common.{◌≡◌, ◌∙◌, ap, ℕ, Option, Some, None, option_map}
use Rattle.std.specs.Arc.{arc_value}
use Rattle.std.specs.Prelude.{option_and_then}
use Rattle.mt_base.specs.declared.conflict.Kind.TheVariants.{Actual}
use Rattle.mt_base.specs.declared.flight.Course.{Course}
use Rattle.mt_base.specs.declared.flight.Path.TheVariants.{Planned}
use Rattle.mt_base.specs.declared.flight.Record.{Record}
use Rattle.mt_base.specs.Trajectory.{Trajectory}
use Rattle.mt_probe.specs.declared.flight.Flight.{Flight}
use Rattle.mt_probe.specs.declared.flight.Made.{Made}
use Rattle.mt_probe.specs.Items.{path_of}
use Rattle.mt_probe.specs.Shot.{Shot, flight_at, made_of}
use Rattle.mt_probe.specs.Standing.{IsSoundShot}
use Rattle.mt_probe.proofs.Looking.{IsPlannedAt, planned_at}

-- its course is sound, and the trajectory that is kept of it is the one that it flies
pub planned_there : (shot : Shot) (slot : ℕ) (card : Record) (course : Course) (flown : Trajectory) (made : Made) → IsSoundShot shot
    → Some card ≡ option_map (λ f. f.card) (flight_at shot slot)
    → Some made.strand ≡ option_map (λ (m : Made). m.strand) (option_and_then (λ f. made_of f Actual) (flight_at shot slot))
    → flown ≡ arc_value made.strand → card.path ≡ Planned course → IsPlannedAt shot.setup course flown
planned_there shot slot card course flown made sound card_is made_is flown_is plan =
    planned_at shot slot card course flown sound card_is (by_flight (flight_at shot slot) made_is) plan where
      by_flight : (at : Option Flight) → Some made.strand ≡ option_map (λ (m : Made). m.strand) (option_and_then (λ f. made_of f Actual) at)
          → Some flown ≡ option_and_then (path_of Actual) at
      by_flight None is = absurd (cc)
      by_flight (Some f) is = let same : made.strand ≡ f.actual.strand = cc in ap Some (flown_is ∙ ap arc_value same)
