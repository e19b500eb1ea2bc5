-- A clearance that was free when it was probed, and is stale now.
use Rattle.std.proofs.Common.{◌≡◌, ℕ, ◌<◌, ◌≤◌, ⊎_elim, Bool, true, false, List, [], ◌∷◌, length, take, Contains, Option, Some, None, Err, refl, sym, subst, arith}
use Rattle.std.proofs.lemmas.Bool.{cases_lt}
use Rattle.std.proofs.lemmas.List.{take_all}
use Rattle.std.specs.List.{AllByRecursion}
use Rattle.std.specs.Option.{option_map_or}
use Rattle.std.specs.Prelude.{IfSome, is_some}
use Rattle.mt_base.specs.declared.clearance.Clearance.{Clearance}
use Rattle.mt_base.specs.declared.clearance.Clearance.TheVariants.{Direct, Level}
use Rattle.mt_base.specs.declared.command.Command.{Command}
use Rattle.mt_base.specs.declared.command.Command.TheVariants.{Accept}
use Rattle.mt_base.specs.declared.command.Entry.{Entry}
use Rattle.mt_base.specs.declared.command.Refusal.{Refusal}
use Rattle.mt_base.specs.declared.command.Refusal.TheVariants.{Stale}
use Rattle.mt_base.specs.declared.flight.Course.{Course}
use Rattle.mt_base.specs.declared.flight.Path.TheVariants.{Planned}
use Rattle.mt_base.specs.declared.hit.Hit.{Hit}
use Rattle.mt_base.specs.Checks.{check_answer, judged, next}
use Rattle.mt_base.specs.Cleared.{aim_checks, clearance_checks}
use Rattle.mt_base.specs.Decision.{IsStale, Look, checks, decision_of, look_at}
use Rattle.mt_base.specs.Effect.{state_of}
use Rattle.mt_base.specs.History.{WasFree}
use Rattle.mt_base.specs.Picture.{State, flight_of, trajectory_of}
use Rattle.mt_base.specs.Tables.{Setup, Tables}
use Rattle.mt_base.specs.Trajectory.{Trajectory}
use Rattle.mt_base.specs.WhatIf.{AreHits, AreHitsOf, course_in, trajectory_cleared, what_if_checks}
use Rattle.mt_base.proofs.CheckLemmas.{all_passed}
use Rattle.mt_base.proofs.Members.{Contains-head, Contains-none, both_all}
use Rattle.mt_base.proofs.OneHits.{one_hits}
use Rattle.mt_board.specs.declared.no.No.TheVariants.{Refused}
use Rattle.mt_predict.proofs.Refusing.{check-false, check-true}
use Rattle.mt_picture.specs.Laws.{IsSinceProbe}
use Rattle.mt_picture.specs.Story.{IsCommandRefused, Story}

-- no check refuses as stale
abbrev is_stale : Refusal → Bool
is_stale (Stale hit) = true
is_stale refusal = false

abbrev IsOther : Refusal × Bool → Type 0
IsOther c = is_stale c.0 ≡ false

none_stale : {A : Type 0} (cs : List (Refusal × Bool)) (x : A) (refusal : Refusal) → AllByRecursion IsOther cs → judged cs x ≡ Err refusal
    → is_stale refusal ≡ false
none_stale [] x refusal all is = absurd (cc)
none_stale (c ∷ cs) x refusal all is = by_check c.1 is (none_stale cs x refusal all.1) where
  by_check : (b : Bool) → next (check_answer (c.0, b)) (judged cs x) ≡ Err refusal → (judged cs x ≡ Err refusal → is_stale refusal ≡ false) → is_stale refusal ≡ false
  by_check true e rest = (let h = rw (check-true c.0) at e in rest h)
  by_check false e rest =
      let both = rw (check-false c.0) at e in
      let same : c.0 ≡ refusal = cc in
      subst (λ (r : Refusal). is_stale r ≡ false) same all.0

aims_other : (tables : Tables) (course : Course) (t : Trajectory) (clearance : Clearance) (eff : ℕ) → AllByRecursion IsOther (aim_checks tables course t clearance eff)
aims_other tables course t (Level level) eff = (refl, (refl, tt))
aims_other tables course t (Direct fix) eff = (refl, (refl, (refl, tt)))

clearance_other : (setup : Setup) (course : Option Course) (clearance : Clearance) (eff now : ℕ)
    → AllByRecursion IsOther (option_map_or (λ course. clearance_checks setup.tables course (trajectory_of setup (Planned course)) clearance eff now) course [])
clearance_other setup None clearance eff now = tt
clearance_other setup (Some course) clearance eff now =
    both_all IsOther (aim_checks setup.tables course (trajectory_of setup (Planned course)) clearance eff) _
    (aims_other setup.tables course (trajectory_of setup (Planned course)) clearance eff) (refl, tt)

accept_other : (setup : Setup) (look : Look) (who : ℕ) (call : List ℕ) (clearance : Clearance) (eff probed : ℕ)
    → AllByRecursion IsOther (checks setup look who (Accept call clearance eff probed))
accept_other setup look who call clearance eff probed =
    both_all IsOther (what_if_checks setup look.now look.flight call clearance eff) _
    (refl, (refl, clearance_other setup (course_in look.flight) clearance eff look.now)) (refl, tt)

not_judged : (setup : Setup) (s : State) (who : ℕ) (call : List ℕ) (clearance : Clearance) (eff probed : ℕ) (hit : Hit)
    → decision_of setup s who (Accept call clearance eff probed) ≡ Err (Stale hit) → ⊥
not_judged setup s who call clearance eff probed hit is =
    let command : Command = Accept call clearance eff probed in
    let entry : Entry = record { who = who; command = command } in
    let other : is_stale (Stale hit) ≡ false =
    none_stale {A = Entry} (checks setup (look_at s (Accept call clearance eff probed)) who (Accept call clearance eff probed)) entry (Stale hit)
    (accept_other setup (look_at s (Accept call clearance eff probed)) who call clearance eff probed) is in
    cc

-- the hits of a clearance that passes its checks are one list
one_list : (setup : Setup) (s : State) (call : List ℕ) (clearance : Clearance) (eff : ℕ) (course : Option Course) (hits others : List Hit) → is_some course ≡ true
    → IfSome course (λ course. AreHitsOf setup s call (trajectory_cleared setup course clearance eff) hits)
    → IfSome course (λ course. AreHitsOf setup s call (trajectory_cleared setup course clearance eff) others) → hits ≡ others
one_list setup s call clearance eff None hits others some one other = absurd (cc)
one_list setup s call clearance eff (Some course) hits others some one other =
    one_hits setup s call (trajectory_cleared setup course clearance eff) hits others one other

pub since_probe : (story : Story) (who : ℕ) (call : List ℕ) (clearance : Clearance) (eff probed version : ℕ) (hit : Hit)
    → IsCommandRefused story who (Accept call clearance eff probed) (Refused (Stale hit) version) → probed ≤ length story.history
    → WasFree story.setup story.history (Accept call clearance eff probed)
    → IsSinceProbe story.setup story.history call clearance eff probed version hit
since_probe story who call clearance eff probed version hit refused within free = record { not_then = not_then; later = later } where
  setup : Setup
  setup = story.setup

  s : State
  s = state_of setup (take probed story.history)

  not_then : (hits : List Hit) → AreHits setup s call clearance eff hits → ¬ Contains hits hit
  not_then hits are held =
      let all = all_passed (what_if_checks setup s.now (flight_of s.records call) call clearance eff) (tt {0}) (rw free.0 refl) in
      let none : hits ≡ [] = one_list setup s call clearance eff (course_in (flight_of s.records call)) hits [] all.1.0 are free.1 in
      Contains-none hit (subst (λ (hs : List Hit). Contains hs hit) none held)

  here : State
  here = state_of setup story.history

  stale_since : IsStale setup here who (Accept call clearance eff probed) (Stale hit) → probed < version
  stale_since stale =
      let carried : Stale hit ≡ Stale stale.first = stale.refusal_is in
      let same : stale.first ≡ hit = cc in
      ⊎_elim
      (λ below. let n = refused.1 in omega (arith, below, n))
      (λ whole.
      let now_is : take probed story.history ≡ story.history = take_all probed story.history whole in
      let are : AreHits setup s call clearance eff (stale.first ∷ stale.others) =
      subst (λ (h : List Entry). AreHits setup (state_of setup h) call clearance eff (stale.first ∷ stale.others)) (sym now_is) stale.hits in
      absurd (not_then (stale.first ∷ stale.others) are
      (subst (Contains (stale.first ∷ stale.others)) same (Contains-head stale.first stale.others))))
      (cases_lt probed (length story.history))

  later : probed < version
  later = ⊎_elim (λ (judged_so : decision_of setup here who (Accept call clearance eff probed) ≡ Err (Stale hit)). absurd (not_judged setup here who call clearance eff probed hit judged_so))
      stale_since refused.0
