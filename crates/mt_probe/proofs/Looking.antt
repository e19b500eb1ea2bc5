-- What a decision on a snapshot has at hand.
use Rattle.std.proofs.Common.{◌≡◌, ℕ, Option, Some, None, option_copied, option_map, refl, sym, ◌∙◌, ap, subst}
use Rattle.std.specs.Arc.{arc_value}
use Rattle.std.specs.Prelude.{IfSome, option_and_then}
use Rattle.mt_base.specs.declared.command.Command.{Command}
use Rattle.mt_base.specs.declared.conflict.Kind.TheVariants.{Actual}
use Rattle.mt_base.specs.declared.flight.Course.{Course}
use Rattle.mt_base.specs.declared.flight.Path.{Path}
use Rattle.mt_base.specs.declared.flight.Path.TheVariants.{Outer, Planned}
use Rattle.mt_base.specs.declared.flight.Record.{Record}
use Rattle.mt_base.specs.Bounds.{IsSoundCourse, IsSoundPath}
use Rattle.mt_base.specs.Picture.{NamedTrajectory, trajectories_of, trajectory_of}
use Rattle.mt_base.specs.Tables.{Setup}
use Rattle.mt_base.specs.Trajectory.{Trajectory}
use Rattle.mt_base.specs.WhatIf.{course_in, course_on}
use Rattle.mt_change.proofs.Plans.{few_names}
use Rattle.mt_predict.specs.declared.judging.Looked.{Looked}
use Rattle.mt_predict.specs.Looking.{HasStrand, HasStrandOf}
use Rattle.mt_predict.proofs.Looks.{any_command}
use Rattle.mt_probe.specs.declared.flight.Flight.{Flight}
use Rattle.mt_probe.specs.Items.{path_of}
use Rattle.mt_probe.specs.Shot.{Shot, flight_at, kept_of}
use Rattle.mt_probe.specs.Standing.{IsSoundShot}

-- the trajectory that is kept of a flight is the one that it flies
pub flown_is : (setup : Setup) (f : Flight) → kept_of f ≡ trajectories_of setup f.card → arc_value f.actual.strand ≡ trajectory_of setup f.card.path
flown_is setup f kept =
    let one : NamedTrajectory = record { call = f.card.call; kind = Actual; path = arc_value f.actual.strand } in
    let other : NamedTrajectory = record { call = f.card.call; kind = Actual; path = trajectory_of setup f.card.path } in
    let first : one ≡ other = cc in ap (λ (o : NamedTrajectory). o.path) first

-- of a planned flight at a place the course is sound, and its trajectory is kept
pub record IsPlannedAt (setup : Setup) (course : Course) (strand : Trajectory) : Type 0 where
  pub sound : IsSoundCourse setup course
  pub strand_is : strand ≡ trajectory_of setup (Planned course)

pub planned_at : (shot : Shot) (slot : ℕ) (card : Record) (course : Course) (strand : Trajectory) → IsSoundShot shot
    → Some card ≡ option_map (λ f. f.card) (flight_at shot slot) → Some strand ≡ option_and_then (path_of Actual) (flight_at shot slot)
    → card.path ≡ Planned course → IsPlannedAt shot.setup course strand
planned_at shot slot card course strand sound card_is strand_is plan = by_flight (flight_at shot slot) refl card_is strand_is where
  by_flight : (at : Option Flight) → flight_at shot slot ≡ at → Some card ≡ option_map (λ f. f.card) at → Some strand ≡ option_and_then (path_of Actual) at
      → IsPlannedAt shot.setup course strand
  by_flight None at card_is strand_is = absurd (cc)
  by_flight (Some f) at card_is strand_is =
      let entry = sound.sound slot f at in
      let same : card ≡ f.card = cc in
      let flown : strand ≡ arc_value f.actual.strand = cc in
      let path : f.card.path ≡ Planned course = ap (λ (r : Record). r.path) (sym same) ∙ plan in
      record {
        sound = subst (IsSoundPath shot.setup) path entry.sound;
        strand_is = flown ∙ flown_is shot.setup f entry.kept ∙ ap (trajectory_of shot.setup) path;
      }

pub nothing_looked : (setup : Setup) (looked : Looked) (command : Command) → option_copied looked.flight ≡ None → HasStrand setup looked command
nothing_looked setup looked command none = any_command setup looked command (subst (λ (at : Option Record). IfSome (course_in at) (HasStrandOf setup looked)) (sym none) tt)

pub flight_looked : (shot : Shot) (slot : ℕ) (looked : Looked) (command : Command) → IsSoundShot shot
    → option_copied looked.flight ≡ option_map (λ f. f.card) (flight_at shot slot)
    → option_copied looked.strand ≡ option_and_then (path_of Actual) (flight_at shot slot) → HasStrand shot.setup looked command
flight_looked shot slot looked command sound card_is strand_is = any_command shot.setup looked command (by_flight (flight_at shot slot) refl card_is strand_is) where
  by_path : (f : Flight) → flight_at shot slot ≡ Some f → option_copied looked.strand ≡ Some (arc_value f.actual.strand) → (path : Path) → f.card.path ≡ path
      → IfSome (course_on path) (HasStrandOf shot.setup looked)
  by_path f at strand_is (Outer stretch) path = tt
  by_path f at strand_is (Planned course) path =
      let entry = sound.sound slot f at in
      record {
        strand = strand_is ∙ ap Some (flown_is shot.setup f entry.kept ∙ ap (trajectory_of shot.setup) path);
        short = few_names shot.setup course (subst (IsSoundPath shot.setup) path entry.sound);
      }

  by_flight : (at : Option Flight) → flight_at shot slot ≡ at → option_copied looked.flight ≡ option_map (λ f. f.card) at
      → option_copied looked.strand ≡ option_and_then (path_of Actual) at → IfSome (course_in (option_copied looked.flight)) (HasStrandOf shot.setup looked)
  by_flight None at card_is strand_is = subst (λ (o : Option Record). IfSome (course_in o) (HasStrandOf shot.setup looked)) (sym card_is) tt
  by_flight (Some f) at card_is strand_is =
      subst (λ (o : Option Record). IfSome (course_in o) (HasStrandOf shot.setup looked)) (sym card_is) (by_path f at strand_is f.card.path refl)
