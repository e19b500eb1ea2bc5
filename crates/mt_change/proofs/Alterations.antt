-- What a command that passed its checks alters.
use Rattle.std.proofs.Common.{◌≡◌, ℕ, Bool, true, false, List, [], ◌∷◌, ◌++◌, map, Option, Some, None, refl, ap, subst}
use Rattle.std.specs.List.{AllByRecursion}
use Rattle.std.specs.Option.{option_map_or}
use Rattle.std.specs.Prelude.{is_some, unwrap_or, nat_le}
use Rattle.mt_base.specs.declared.clearance.Clearance.{Clearance}
use Rattle.mt_base.specs.declared.command.Command.{Command}
use Rattle.mt_base.specs.declared.command.Command.TheVariants.{Plan, External, Drop, Tick, Renew, Clear, Accept, Tentative, Withdraw, Commit}
use Rattle.mt_base.specs.declared.command.Command.TheVariants as commands
use Rattle.mt_base.specs.declared.command.Refusal.{Refusal}
use Rattle.mt_base.specs.declared.command.Refusal.TheVariants.{Future}
use Rattle.mt_base.specs.declared.flight.Course.{Course}
use Rattle.mt_base.specs.declared.flight.Path.{Path}
use Rattle.mt_base.specs.declared.flight.Path.TheVariants.{Planned, Outer}
use Rattle.mt_base.specs.declared.flight.Record.{Record}
use Rattle.mt_base.specs.Checks.{judged}
use Rattle.mt_base.specs.Cleared.{aim_checks, clearance_checks}
use Rattle.mt_base.specs.Decision.{Look, call_of, checks, filled}
use Rattle.mt_base.specs.Effect.{changed, records_after}
use Rattle.mt_base.specs.Picture.{trajectory_of}
use Rattle.mt_base.specs.Tables.{Setup}
use Rattle.mt_base.specs.WhatIf.{course_in, mark_in, what_if_checks}
use Rattle.mt_base.proofs.CheckLemmas.{all_pass}
use Rattle.mt_change.specs.Altered.{Alters, CanAlter, IsFreeToFly, path_after}
use Rattle.mt_change.proofs.Passed.{halves, ok_is}

-- a flight with a tentative clearance is planned
marked_planned : (flight : Option Record) → is_some (mark_in flight) ≡ true → is_some (course_in flight) ≡ true
marked_planned None marked = cc
marked_planned (Some flight) marked = by_path flight.path marked where
  by_path : (path : Path) → is_some (mark_in (Some (record flight { path = path }))) ≡ true → is_some (course_in (Some (record flight { path = path }))) ≡ true
  by_path (Planned course) marked = refl
  by_path (Outer stretch) marked = cc

-- each check of a command passes
abbrev pub PassesOn : Setup → Look → ℕ → Command → Type 0
PassesOn setup look who command = AllByRecursion (λ c. c.1 ≡ true) (checks setup look who command)

-- and where its checks are passed the flight that it changes is there and planned
pub planned : (setup : Setup) (look : Look) (who : ℕ) (command : Command) → Alters command → PassesOn setup look who command
    → is_some (course_in look.flight) ≡ true
planned setup look who (Plan own kind route at from level rvsm) alters passed = absurd alters
planned setup look who (External own straight) alters passed = absurd alters
planned setup look who (Drop own) alters passed = absurd alters
planned setup look who (Tick now) alters passed = absurd alters
planned setup look who (commands.Report own report) alters passed = passed.1.0
planned setup look who (Renew own) alters passed = passed.1.0
planned setup look who (Clear own clearance eff) alters passed = passed.1.0
planned setup look who (Accept own clearance eff probed) alters passed = passed.1.0
planned setup look who (Tentative own clearance eff) alters passed = passed.1.0
planned setup look who (Withdraw own force) alters passed = marked_planned look.flight passed.1.0
planned setup look who (Commit own) alters passed = marked_planned look.flight passed.1.0

-- a clearance that no check of a what-if refuses
module _ (setup : Setup) (now : ℕ) (course : Course) (clearance : Clearance) where
  free : (eff : ℕ) → AllByRecursion (λ c. c.1 ≡ true) (clearance_checks setup.tables course (trajectory_of setup (Planned course)) clearance eff now)
      → IsFreeToFly setup now course clearance eff
  free eff tests =
      let cs = clearance_checks setup.tables course (trajectory_of setup (Planned course)) clearance eff now in
      ok_is (judged cs (tt {0})) (all_pass cs (tt {0}) tests)

  -- with the two ends of its list of checks
  joined : (cs ds : List (Refusal × Bool)) → AllByRecursion (λ c. c.1 ≡ true) cs → AllByRecursion (λ c. c.1 ≡ true) ds
      → AllByRecursion (λ (c : Refusal × Bool). c.1 ≡ true) (cs ++ ds)
  joined [] ds all rest = rest
  joined (c ∷ cs) ds all rest = (all.0, joined cs ds all.1 rest)

  free_marked : (eff : ℕ) → AllByRecursion (λ c. c.1 ≡ true) (aim_checks setup.tables course (trajectory_of setup (Planned course)) clearance eff)
      → nat_le eff now ≡ true → IsFreeToFly setup now course clearance eff
  free_marked eff tests early =
      free eff (joined (aim_checks setup.tables course (trajectory_of setup (Planned course)) clearance eff) ((Future, nat_le eff now) ∷ []) tests (early, tt))

-- the second of a command that says it
said : (eff : Option ℕ) (now : ℕ) → eff ≡ Some (unwrap_or eff now) → unwrap_or eff now ≡ unwrap_or eff 0
said None now is = cc
said (Some second) now is = refl

abbrev eff_of : Command → Option ℕ
eff_of (Clear call clearance eff) = eff
eff_of (Tentative call clearance eff) = eff
eff_of command = None

-- the course of the flight that is named, and what is checked of it
there : (at : Option Record) (flight : Record) (course : Course) → at ≡ Some flight → flight.path ≡ Planned course → course_in at ≡ Some course
there at flight course found plan = rw (found, plan) refl

checks_there : {at : Option Course} {course : Course} (list : Course → List (Refusal × Bool)) → at ≡ Some course
    → AllByRecursion (λ c. c.1 ≡ true) (option_map_or list at []) → AllByRecursion (λ (c : Refusal × Bool). c.1 ≡ true) (list course)
checks_there list is all = subst (λ (a : Option Course). AllByRecursion (λ (c : Refusal × Bool). c.1 ≡ true) (option_map_or list a [])) is all

-- What it needs of its checks is passed.
pub can_alter : (setup : Setup) (look : Look) (who : ℕ) (command : Command) (flight : Record) (course : Course) → Alters command
    → PassesOn setup look who command → command ≡ filled look.now command → look.flight ≡ Some flight → flight.path ≡ Planned course
    → CanAlter setup look.now course command
can_alter setup look who (Plan own kind route at from level rvsm) flight course alters passed fill found plan = absurd alters
can_alter setup look who (External own straight) flight course alters passed fill found plan = absurd alters
can_alter setup look who (Drop own) flight course alters passed fill found plan = absurd alters
can_alter setup look who (Tick now) flight course alters passed fill found plan = absurd alters
can_alter setup look who (commands.Report own report) flight course alters passed fill found plan = tt
can_alter setup look who (Withdraw own force) flight course alters passed fill found plan = tt
can_alter setup look who (Commit own) flight course alters passed fill found plan = tt
can_alter setup look who (Renew own) flight course alters passed fill found plan =
    subst (λ (at : Option Course). option_map_or (λ (x : Course). x.due) at false ≡ true) (there look.flight flight course found plan) passed.1.1.0
can_alter setup look who (Clear own clearance eff) flight course alters passed fill found plan =
    let tests = (halves (λ c. c.1 ≡ true) (what_if_checks setup look.now look.flight own clearance (unwrap_or eff look.now)) _ passed).0 in
    let at = there look.flight flight course found plan in
    subst (IsFreeToFly setup look.now course clearance) (said eff look.now (ap eff_of fill))
    (free setup look.now course clearance (unwrap_or eff look.now)
    (checks_there (λ x. clearance_checks setup.tables x (trajectory_of setup (Planned x)) clearance (unwrap_or eff look.now) look.now) at tests.1.1))
can_alter setup look who (Accept own clearance eff probed) flight course alters passed fill found plan =
    let tests = (halves (λ c. c.1 ≡ true) (what_if_checks setup look.now look.flight own clearance eff) _ passed).0 in
    let at = there look.flight flight course found plan in
    free setup look.now course clearance eff
    (checks_there (λ x. clearance_checks setup.tables x (trajectory_of setup (Planned x)) clearance eff look.now) at tests.1.1)
can_alter setup look who (Tentative own clearance eff) flight course alters passed fill found plan =
    let aims : Course → List (Refusal × Bool) = λ x. aim_checks setup.tables x (trajectory_of setup (Planned x)) clearance (unwrap_or eff look.now) in
    let split = halves (λ c. c.1 ≡ true) (option_map_or aims (course_in look.flight) []) _ passed.1.1 in
    let at = there look.flight flight course found plan in
    subst (IsFreeToFly setup look.now course clearance) (said eff look.now (ap eff_of fill))
    (free_marked setup look.now course clearance (unwrap_or eff look.now) (checks_there aims at split.0) split.1.1.0)

-- the flights that it leaves are those of which that one has another path
pub records_are : (setup : Setup) (who : ℕ) (command : Command) (call : List ℕ) (flights : List Record) → Alters command → call_of command ≡ Some call
    → records_after setup who command flights ≡ map (changed call (path_after setup who command)) flights
records_are setup who (Plan own kind route at from level rvsm) call flights alters is = absurd alters
records_are setup who (External own straight) call flights alters is = absurd alters
records_are setup who (Drop own) call flights alters is = absurd alters
records_are setup who (Tick now) call flights alters is = absurd alters
records_are setup who (commands.Report own report) call flights alters is = let same : own ≡ call = cc in rw same refl
records_are setup who (Renew own) call flights alters is = let same : own ≡ call = cc in rw same refl
records_are setup who (Clear own clearance eff) call flights alters is = let same : own ≡ call = cc in rw same refl
records_are setup who (Accept own clearance eff probed) call flights alters is = let same : own ≡ call = cc in rw same refl
records_are setup who (Tentative own clearance eff) call flights alters is = let same : own ≡ call = cc in rw same refl
records_are setup who (Withdraw own force) call flights alters is = let same : own ≡ call = cc in rw same refl
records_are setup who (Commit own) call flights alters is = let same : own ≡ call = cc in rw same refl
