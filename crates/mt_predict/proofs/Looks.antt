-- What a decision has at hand, whatever is commanded.
use Rattle.std.proofs.Common.{◌≡◌, ◌∙◌, ℕ, List, [], Bool, true, Option, Some, None, Result, Bor, ap, refl}
use Rattle.std.specs.Option.{option_copied, option_map_or}
use Rattle.std.specs.Prelude.{⊤, IfSome, is_some, unwrap_or}
use Rattle.mt_base.specs.declared.command.Command.{Command}
use Rattle.mt_base.specs.declared.command.Command.TheVariants.{Clear, Accept, Tentative}
use Rattle.mt_base.specs.declared.command.Refusal.{Refusal}
use Rattle.mt_base.specs.declared.flight.Course.{Course}
use Rattle.mt_base.specs.declared.flight.Path.TheVariants.{Planned}
use Rattle.mt_base.specs.Checks.{judged}
use Rattle.mt_base.specs.Cleared.{aim_checks, clearance_checks}
use Rattle.mt_base.specs.Decision.{checks}
use Rattle.mt_base.specs.Picture.{trajectory_of}
use Rattle.mt_base.specs.Tables.{Setup}
use Rattle.mt_base.specs.Trajectory.{Trajectory}
use Rattle.mt_base.specs.WhatIf.{course_in}
use Rattle.mt_predict.specs.declared.judging.Looked.{Looked}
use Rattle.mt_predict.specs.Looking.{HasSomeStrand, HasSomeStrandOf, HasStrand, HasStrandOf, HasStrandOfPlanned, checks_along, look_of, strand_in}

pub any_command : (setup : Setup) (looked : Looked) (command : Command) → HasStrandOfPlanned setup looked → HasStrand setup looked command
any_command setup looked (Clear call clearance eff) has = has
any_command setup looked (Accept call clearance eff probed) has = has
any_command setup looked (Tentative call clearance eff) has = has
any_command setup looked command has = tt

-- where the trajectory that the flight flies is at hand, one is
copied_there : {A : Type 0} (at_hand : Option (Bor A)) (a : A) → option_copied at_hand ≡ Some a → is_some at_hand ≡ true
copied_there None a is = cc
copied_there (Some b) a is = refl

some_of : (setup : Setup) (looked : Looked) (course : Option Course) → IfSome course (HasStrandOf setup looked) → IfSome course (HasSomeStrandOf looked)
some_of setup looked None has = tt
some_of setup looked (Some course) has = record { strand = copied_there looked.strand _ has.strand; short = has.short }

pub some_strand : (setup : Setup) (looked : Looked) (command : Command) → HasStrand setup looked command → HasSomeStrand looked command
some_strand setup looked (Clear call clearance eff) has = some_of setup looked (course_in (option_copied looked.flight)) has
some_strand setup looked (Accept call clearance eff probed) has = some_of setup looked (course_in (option_copied looked.flight)) has
some_strand setup looked (Tentative call clearance eff) has = some_of setup looked (course_in (option_copied looked.flight)) has
some_strand setup looked command has = tt

-- and what is checked is what is checked of the command
alike : (setup : Setup) (looked : Looked) (f : Course → Trajectory → List (Refusal × Bool)) (course : Option Course) → IfSome course (HasStrandOf setup looked)
    → option_map_or (λ course. f course (strand_in looked)) course [] ≡ option_map_or (λ course. f course (trajectory_of setup (Planned course))) course []
alike setup looked f None has = refl
alike setup looked f (Some course) has = rw has.strand refl

checks_flown : (setup : Setup) (looked : Looked) (who : ℕ) (command : Command) → HasStrand setup looked command
    → checks_along setup (strand_in looked) (look_of looked) who command ≡ checks setup (look_of looked) who command
checks_flown setup looked who (Clear call clearance eff) has =
    rw (alike setup looked (λ course t. clearance_checks setup.tables course t clearance (unwrap_or eff looked.now) looked.now) (course_in (option_copied looked.flight)) has) refl
checks_flown setup looked who (Accept call clearance eff probed) has =
    rw (alike setup looked (λ course t. clearance_checks setup.tables course t clearance eff looked.now) (course_in (option_copied looked.flight)) has) refl
checks_flown setup looked who (Tentative call clearance eff) has =
    rw (alike setup looked (λ course t. aim_checks setup.tables course t clearance (unwrap_or eff looked.now)) (course_in (option_copied looked.flight)) has) refl
checks_flown setup looked who command has = refl

pub judged_flown : (setup : Setup) (looked : Looked) (who : ℕ) (command : Command) (result : Result ⊤ Refusal) → HasStrand setup looked command
    → result ≡ judged (checks_along setup (strand_in looked) (look_of looked) who command) (tt {0}) → result ≡ judged (checks setup (look_of looked) who command) (tt {0})
judged_flown setup looked who command result has is =
    is ∙ ap (λ (cs : List (Refusal × Bool)). judged cs (tt {0})) (checks_flown setup looked who command has)
