-- What a clearance of a flight of a state is answered.
use Rattle.std.proofs.Common.{◌≡◌, Bool, true, ℕ, List, ◌++◌, Option, Some, None, Ok, Err, sym, ◌∙◌, ap, subst, refl}
use Rattle.std.specs.List.{AllByRecursion}
use Rattle.std.specs.Str.{bytes_eq}
use Rattle.mt_base.specs.declared.clearance.Aim.{Aim}
use Rattle.mt_base.specs.declared.clearance.Clearance.{Clearance}
use Rattle.mt_base.specs.declared.command.Refusal.{Refusal}
use Rattle.mt_base.specs.declared.command.Refusal.TheVariants.{Fixed, UnknownCall}
use Rattle.mt_base.specs.declared.flight.Course.{Course}
use Rattle.mt_base.specs.declared.flight.Path.TheVariants.{Planned, Outer}
use Rattle.mt_base.specs.declared.flight.Record.{Record}
use Rattle.mt_base.specs.declared.flight.Straight.{Straight}
use Rattle.mt_base.specs.declared.hit.Hit.{Hit}
use Rattle.mt_base.specs.Bounds.{IsSoundFlight, IsSoundPath}
use Rattle.mt_base.specs.Checks.{judged}
use Rattle.mt_base.specs.Cleared.{aim_of, clearance_checks, cleared}
use Rattle.mt_base.specs.Picture.{State, flight_of, trajectory_of}
use Rattle.mt_base.specs.Tables.{Setup}
use Rattle.mt_base.specs.Trajectory.{Trajectory}
use Rattle.mt_base.specs.WhatIf.{AreHits, AreHitsOf, aimed, trajectory_cleared, what_if_checks}
use Rattle.mt_base.proofs.CheckLemmas.{all_pass}
use Rattle.mt_predict.proofs.Refusing.{check-false, check-true, passed_alike, refused_alike}
use Rattle.mt_change.specs.Sound.{IsSoundState}
use Rattle.mt_change.proofs.Passed.{halves, ok_is}
use Rattle.mt_change.proofs.Aims.{aim_is}
use Rattle.mt_machine.proofs.Found.{found}

-- a flight that is found is sound
pub sound_path : (setup : Setup) (s : State) (call : List ℕ) (flight : Record) → IsSoundState setup s → flight_of s.records call ≡ Some flight
    → IsSoundPath setup flight.path
sound_path setup s call flight sound is = found (IsSoundFlight setup) (λ f. bytes_eq f.call call) s.records flight sound.sound is

-- what is checked where no flight has the callsign, where it is an external one, and where it is planned
pub no_flight : (setup : Setup) (now : ℕ) (flight : Option Record) (call : List ℕ) (clearance : Clearance) (eff : ℕ) → flight ≡ None
    → judged (what_if_checks setup now flight call clearance eff) (tt {0}) ≡ Err (UnknownCall call)
no_flight setup now flight call clearance eff none = rw (none, check-false (UnknownCall call)) refl

pub outer_flight : (setup : Setup) (now : ℕ) (at : Option Record) (flight : Record) (stretch : Straight) (call : List ℕ) (clearance : Clearance) (eff : ℕ)
    → at ≡ Some flight → flight.path ≡ Outer stretch → judged (what_if_checks setup now at call clearance eff) (tt {0}) ≡ Err Fixed
outer_flight setup now at flight stretch call clearance eff is outer = rw (is, check-true (UnknownCall call), outer, check-false Fixed) refl

pub planned_flight : (setup : Setup) (now : ℕ) (at : Option Record) (flight : Record) (course : Course) (call : List ℕ) (clearance : Clearance) (eff : ℕ)
    → at ≡ Some flight → flight.path ≡ Planned course → judged (what_if_checks setup now at call clearance eff) (tt {0})
    ≡ judged (clearance_checks setup.tables course (trajectory_of setup (Planned course)) clearance eff now) (tt {0})
planned_flight setup now at flight course call clearance eff is planned =
    rw (is, check-true (UnknownCall call), planned, check-true Fixed) refl

-- a clearance that is refused
pub not_cleared : (setup : Setup) (now : ℕ) (at : Option Record) (flight : Record) (course : Course) (call : List ℕ) (clearance : Clearance) (eff : ℕ)
    (refusal : Refusal) → at ≡ Some flight → flight.path ≡ Planned course
    → Err refusal ≡ cleared setup.tables course (trajectory_of setup (Planned course)) clearance eff now
    → judged (what_if_checks setup now at call clearance eff) (tt {0}) ≡ Err refusal
not_cleared setup now at flight course call clearance eff refusal is planned refused =
    let t : Trajectory = trajectory_of setup (Planned course) in
    planned_flight setup now at flight course call clearance eff is planned
    ∙ sym (refused_alike (clearance_checks setup.tables course t clearance eff now) (aim_of course t clearance eff) refusal refused)

-- the hits of one that isn't
pub tried : (setup : Setup) (s : State) (call : List ℕ) (flight : Record) (course : Course) (clearance : Clearance) (eff : ℕ) (aim : Aim) (t : Trajectory)
    (hits : List Hit) → flight_of s.records call ≡ Some flight → flight.path ≡ Planned course
    → Ok aim ≡ cleared setup.tables course (trajectory_of setup (Planned course)) clearance eff s.now → t ≡ aimed setup course aim
    → AreHitsOf setup s call t hits
    → (judged (what_if_checks setup s.now (flight_of s.records call) call clearance eff) (tt {0}) ≡ Ok (tt {0})) × AreHits setup s call clearance eff hits
tried setup s call flight course clearance eff aim t hits is planned exact aimed_is are =
    let own : Trajectory = trajectory_of setup (Planned course) in
    let same : t ≡ trajectory_cleared setup course clearance eff = aimed_is ∙ ap (aimed setup course) (aim_is setup s.now course clearance eff aim exact) in (
      planned_flight setup s.now (flight_of s.records call) flight course call clearance eff is planned
          ∙ sym (passed_alike (clearance_checks setup.tables course own clearance eff s.now) (aim_of course own clearance eff) aim exact),
      rw (is, planned) (subst (λ (u : Trajectory). AreHitsOf setup s call u hits) same are),
    )

-- a command whose checks are passed has a what-if
pub passed_what_if : (setup : Setup) (now : ℕ) (at : Option Record) (call : List ℕ) (clearance : Clearance) (eff : ℕ) (rest : List (Refusal × Bool))
    → AllByRecursion (λ c. c.1 ≡ true) (what_if_checks setup now at call clearance eff ++ rest)
    → judged (what_if_checks setup now at call clearance eff) (tt {0}) ≡ Ok (tt {0})
passed_what_if setup now at call clearance eff rest tests =
    let cs = what_if_checks setup now at call clearance eff in
    ok_is (judged cs (tt {0})) (all_pass cs (tt {0}) (halves (λ c. c.1 ≡ true) cs rest tests).0)
