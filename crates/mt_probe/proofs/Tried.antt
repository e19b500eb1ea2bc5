-- A clearance that was tried.
use Rattle.std.proofs.Common.{◌≡◌, ◌≤◌, true, ℕ, List, Option, Some, None, Ok, Err, length, map, refl, sym, ◌∙◌, ap, subst}
use Rattle.std.specs.Prelude.{IfSome, is_some, unwrap_or}
use Rattle.mt_base.specs.declared.clearance.Clearance.{Clearance}
use Rattle.mt_base.specs.declared.command.Command.TheVariants.{Accept}
use Rattle.mt_base.specs.declared.command.Refusal.{Refusal}
use Rattle.mt_base.specs.declared.conflict.Kind.TheVariants.{Actual}
use Rattle.mt_base.specs.declared.flight.Path.{Path}
use Rattle.mt_base.specs.declared.flight.Path.TheVariants.{Outer, Planned}
use Rattle.mt_base.specs.declared.flight.Record.{Record}
use Rattle.mt_base.specs.declared.hit.Hit.{Hit}
use Rattle.mt_base.specs.Bounds.{AreWithinBounds}
use Rattle.mt_base.specs.Effect.{changed, cleared_path}
use Rattle.mt_base.specs.Picture.{HaveOwnCalls, State, flight_of, trajectory_of}
use Rattle.mt_base.specs.Tables.{Setup}
use Rattle.mt_base.specs.Trajectory.{Trajectory}
use Rattle.mt_base.specs.WhatIf.{AreHitsOf, HasHit, IsConflicting, IsWhatIf, course_in, course_on, trajectory_cleared}
use Rattle.mt_board.specs.declared.no.No.{No}
use Rattle.mt_board.specs.declared.no.No.TheVariants as nos
use Rattle.mt_probe.specs.Hits.{IsUnprobed}
use Rattle.mt_probe.specs.Prepared.{IsLeftByEntry, IsRefusedOn, judged_aside, path_made}
use Rattle.mt_probe.specs.Shot.{Shot, state_in_shot}
use Rattle.mt_probe.specs.Tests.{WasTriedFor, WasTriedNear}
use Rattle.mt_probe.proofs.Left.{accept_is, found_call, found_changed, planned_there}
use Rattle.mt_probe.proofs.Short.{few_hits, found_in}

-- what holds of a flight's trajectory, once it is cleared, holds of the one that the clearance leaves
module _ (Holds : List ℕ → Trajectory → Type 0) (setup : Setup) (s : State) (call : List ℕ) (clearance : Clearance) (eff : ℕ) (card : Record) (t : Trajectory)
    (left : flight_of (map (changed call (cleared_path setup clearance eff)) s.records) call ≡ Some card)
    (made : Some (trajectory_of setup card.path) ≡ Some t) (are : Holds card.call t) where
  call_is : card.call ≡ call
  call_is = found_call call (map (changed call (cleared_path setup clearance eff)) s.records) card left

  path_is : trajectory_of setup card.path ≡ t
  path_is = cc

  with_flight : (flight : Record) (path : Path) → flight_of s.records call ≡ Some flight → flight.path ≡ path
      → IfSome (course_on path) (λ course. Holds call (trajectory_cleared setup course clearance eff))
  with_flight flight (Outer stretch) is path = tt
  with_flight flight (Planned course) is path =
      let cleared : Some (record { call = flight.call; path = cleared_path setup clearance eff flight.path }) ≡ Some card =
      sym (found_changed call (cleared_path setup clearance eff) s.records flight is) ∙ left in
      let one : record { call = flight.call; path = cleared_path setup clearance eff flight.path } ≡ card = cc in
      let card_path : card.path ≡ cleared_path setup clearance eff (Planned course) =
      sym (ap (λ (r : Record). r.path) one) ∙ ap (cleared_path setup clearance eff) path in
      let same : t ≡ trajectory_cleared setup course clearance eff = sym path_is ∙ ap (trajectory_of setup) card_path in
      subst (λ (u : Trajectory). Holds call u) same (subst (λ (c : List ℕ). Holds c t) call_is are)

  pub cleared_holds : IfSome (course_in (flight_of s.records call)) (λ course. Holds call (trajectory_cleared setup course clearance eff))
  cleared_holds = by_flight (flight_of s.records call) refl where
    by_flight : (at : Option Record) → flight_of s.records call ≡ at
        → IfSome (course_in at) (λ course. Holds call (trajectory_cleared setup course clearance eff))
    by_flight None is = tt
    by_flight (Some flight) is = with_flight flight flight.path is refl

-- what is refused of an acceptance is refused of its clearance
pub unprobed : (shot : Shot) (call : List ℕ) (clearance : Clearance) (eff : Option ℕ) (no : No) → AreWithinBounds shot.setup.rules
    → IsRefusedOn shot 0 (Accept call clearance (unwrap_or eff shot.now) shot.version) no → IsUnprobed shot call clearance eff no
unprobed shot call clearance eff (nos.Refused refusal version) rules refused =
    (sym (accept_is shot.setup (state_in_shot shot) 0 call clearance (unwrap_or eff shot.now) shot.version rules) ∙ refused.0, refused.1)
unprobed shot call clearance eff nos.Memory rules refused = tt

-- what holds of the flight that the acceptance of a clearance leaves holds of the trajectory that the clearance leaves
module _ (Holds : List ℕ → Trajectory → Type 0) (shot : Shot) (call : List ℕ) (clearance : Clearance) (eff : ℕ) (card : Record) (t : Trajectory) where
  pub left_holds : IsLeftByEntry shot.setup (state_in_shot shot) 0 (Accept call clearance eff shot.version) card
      → path_made shot.setup card Actual ≡ Some t → Holds card.call t
      → IfSome (course_in (flight_of (state_in_shot shot).records call)) (λ course. Holds call (trajectory_cleared shot.setup course clearance eff))
  left_holds left made holds = cleared_holds Holds shot.setup (state_in_shot shot) call clearance eff card t left.card_is made holds

-- a clearance of which something would follow, since its trajectory has a hit
pub conflicting : (shot : Shot) (call : List ℕ) (clearance : Clearance) (eff : ℕ) (card : Record) (t : Trajectory) → AreWithinBounds shot.setup.rules
    → IsLeftByEntry shot.setup (state_in_shot shot) 0 (Accept call clearance eff shot.version) card → path_made shot.setup card Actual ≡ Some t
    → HasHit shot.setup (state_in_shot shot) card.call t → IsConflicting shot.setup (state_in_shot shot) call clearance (Some eff)
conflicting shot call clearance eff card t rules left made has = (
  sym (accept_is shot.setup (state_in_shot shot) 0 call clearance eff shot.version rules) ∙ left.passed,
  left_holds (HasHit shot.setup (state_in_shot shot)) shot call clearance eff card t left made has,
)

-- the hits of that trajectory are what would follow from the clearance
pub follows : (shot : Shot) (call : List ℕ) (clearance : Clearance) (eff : ℕ) (card : Record) (t : Trajectory) (hits : List Hit) → AreWithinBounds shot.setup.rules
    → IsLeftByEntry shot.setup (state_in_shot shot) 0 (Accept call clearance eff shot.version) card → path_made shot.setup card Actual ≡ Some t
    → AreHitsOf shot.setup (state_in_shot shot) card.call t hits → IsWhatIf shot.setup (state_in_shot shot) call clearance (Some eff) (Ok hits)
follows shot call clearance eff card t hits rules left made are = (
  sym (accept_is shot.setup (state_in_shot shot) 0 call clearance eff shot.version rules) ∙ left.passed,
  left_holds (λ c u. AreHitsOf shot.setup (state_in_shot shot) c u hits) shot call clearance eff card t left made are,
)

-- and they are few
pub few : (shot : Shot) (call : List ℕ) (clearance : Clearance) (eff : ℕ) (card : Record) (t : Trajectory) (hits : List Hit) → HaveOwnCalls (state_in_shot shot).records
    → length (state_in_shot shot).records ≤ 1024 → IsLeftByEntry shot.setup (state_in_shot shot) 0 (Accept call clearance eff shot.version) card
    → AreHitsOf shot.setup (state_in_shot shot) card.call t hits → length hits ≤ 1023
few shot call clearance eff card t hits own_calls few_records left are = by_flight (flight_of s.records call) refl planned where
  s : State
  s = state_in_shot shot

  planned : is_some (course_in (flight_of s.records call)) ≡ true
  planned = planned_there shot.setup s 0 (Accept call clearance eff shot.version) (tt {0}) left.passed

  own : call ≡ card.call
  own = let named : Some call ≡ Some card.call = left.call_is in cc

  by_flight : (at : Option Record) → flight_of s.records call ≡ at → is_some (course_in at) ≡ true → length hits ≤ 1023
  by_flight None is planned = cc
  by_flight (Some flight) is planned = few_hits shot.setup s card.call t own_calls flight hits (found_in call s.records flight is)
      (found_call call s.records flight is ∙ own) few_records are

-- the tests for the trajectory that is left
pub tried_left : (shot : Shot) (call : List ℕ) (clearance : Clearance) (eff : Option ℕ) (card : Record) (old new : ℕ)
    → IsLeftByEntry shot.setup (state_in_shot shot) 0 (Accept call clearance (unwrap_or eff shot.now) shot.version) card
    → ((t : Trajectory) → path_made shot.setup card Actual ≡ Some t → WasTriedNear shot card.call t old new) → WasTriedFor shot call clearance eff old new
tried_left shot call clearance eff card old new left tried = rw left.card_is (tried (trajectory_of shot.setup card.path) refl)

-- nothing refuses the acceptance of what was tried
pub unrefused : (shot : Shot) (call : List ℕ) (clearance : Clearance) (eff : ℕ) (hits : List Hit) (refusal : Refusal) → AreWithinBounds shot.setup.rules
    → IsWhatIf shot.setup (state_in_shot shot) call clearance (Some eff) (Ok hits)
    → ¬ (judged_aside shot.setup (state_in_shot shot) 0 (Accept call clearance eff shot.version) ≡ Err refusal)
unrefused shot call clearance eff hits refusal rules tried refused =
    let passed = accept_is shot.setup (state_in_shot shot) 0 call clearance eff shot.version rules ∙ tried.0 in
    let both = sym passed ∙ refused in cc

-- the second from which a clearance holds
pub early_from : (eff : Option ℕ) (now : ℕ) → IfSome eff (λ second. second ≤ 10000000) → now ≤ 10000000 → unwrap_or eff now ≤ 10000000
early_from None now given early = early
early_from (Some second) now given early = given
