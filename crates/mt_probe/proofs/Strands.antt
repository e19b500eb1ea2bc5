-- The trajectory of a kind of a flight.
use Rattle.std.proofs.Common.{◌≡◌, true, Option, Some, None, refl, sym, ◌∙◌, ap, subst}
use Rattle.std.specs.Prelude.{IfSome, is_some, option_map}
use Rattle.mt_base.specs.declared.conflict.Kind.{Kind}
use Rattle.mt_base.specs.declared.conflict.Kind.TheVariants.{Actual, Tentative}
use Rattle.mt_base.specs.declared.flight.Course.{Course}
use Rattle.mt_base.specs.declared.flight.Mark.{Mark}
use Rattle.mt_base.specs.declared.flight.Path.{Path}
use Rattle.mt_base.specs.declared.flight.Path.TheVariants.{Outer, Planned}
use Rattle.mt_base.specs.declared.flight.Record.{Record}
use Rattle.mt_base.specs.declared.flight.Straight.{Straight}
use Rattle.mt_base.specs.Picture.{trajectory_marked, trajectory_of}
use Rattle.mt_base.specs.Tables.{Setup}
use Rattle.mt_base.specs.Trajectory.{Trajectory, straight}
use Rattle.mt_predict.specs.Paths.{IsPathOf}
use Rattle.mt_probe.specs.Prepared.{marked_of, path_made}

module _ (setup : Setup) (card : Record) where
  -- of a planned one
  marked : (course : Course) (mark : Option Mark) → course.mark ≡ mark → is_some (marked_of setup (Planned course)) ≡ true → is_some mark ≡ true
  marked course None is makes = let none : is_some (option_map (trajectory_marked setup course) None) ≡ true = rw is at makes in cc
  marked course (Some mark) is makes = refl

  pub is_marked : (course : Course) (kind : Kind) → card.path ≡ Planned course → is_some (path_made setup card kind) ≡ true → kind ≡ Tentative
      → is_some course.mark ≡ true
  is_marked course Actual plan makes is = cc
  is_marked course Tentative plan makes is =
      marked course course.mark refl (subst (λ (p : Path). is_some (marked_of setup p) ≡ true) plan makes)

  by_mark : (course : Course) (t : Trajectory) (mark : Option Mark) → is_some mark ≡ true → IfSome mark (λ m. t ≡ trajectory_marked setup course m)
      → option_map (trajectory_marked setup course) mark ≡ Some t
  by_mark course t None some is = cc
  by_mark course t (Some mark) some is = ap Some (sym is)

  pub planned_made : (course : Course) (kind : Kind) (t : Trajectory) → card.path ≡ Planned course → is_some (path_made setup card kind) ≡ true
      → IsPathOf setup course kind t → path_made setup card kind ≡ Some t
  planned_made course Actual t plan makes is = ap (λ (p : Path). Some (trajectory_of setup p)) plan ∙ ap Some (sym is)
  planned_made course Tentative t plan makes is =
      ap (marked_of setup) plan ∙ by_mark course t course.mark (is_marked course Tentative plan makes refl) is

  -- of an external one
  pub outer_made : (stretch : Straight) (kind : Kind) (t : Trajectory) → card.path ≡ Outer stretch → is_some (path_made setup card kind) ≡ true
      → t ≡ straight stretch → path_made setup card kind ≡ Some t
  outer_made stretch Actual t outer makes is = ap (λ (p : Path). Some (trajectory_of setup p)) outer ∙ ap Some (sym is)
  outer_made stretch Tentative t outer makes is =
      let none : is_some (marked_of setup (Outer stretch)) ≡ true = subst (λ (p : Path). is_some (marked_of setup p) ≡ true) outer makes in cc
