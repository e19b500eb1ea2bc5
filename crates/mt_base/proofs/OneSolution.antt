-- What is decided of a command, and what would follow from a clearance, is one.
use Rattle.std.proofs.Common.{◌≡◌, ℕ, true, List, [], ◌∷◌, Option, Some, None, Result, Ok, Err, inl, inr, refl, sym, ◌∙◌, ◌++◌, ◌⊎◌, ap, subst}
use Rattle.std.specs.Prelude.{IfSome, is_some, unwrap_or, ⊤}
use Rattle.mt_base.specs.declared.clearance.Clearance.{Clearance}
use Rattle.mt_base.specs.declared.command.Command.{Command}
use Rattle.mt_base.specs.declared.command.Command.TheVariants.{Accept, Renew}
use Rattle.mt_base.specs.declared.command.Entry.{Entry}
use Rattle.mt_base.specs.declared.command.Refusal.{Refusal}
use Rattle.mt_base.specs.declared.command.Refusal.TheVariants.{Stale}
use Rattle.mt_base.specs.declared.flight.Course.{Course}
use Rattle.mt_base.specs.declared.hit.Hit.{Hit}
use Rattle.mt_base.specs.Checks.{judged}
use Rattle.mt_base.specs.Advice.{IsAdvice}
use Rattle.mt_base.specs.Decision.{HasHits, IsDecided, IsStale, checks, decision_of, filled, look_at}
use Rattle.mt_base.specs.Effect.{state_of}
use Rattle.mt_base.specs.Picture.{State, flight_of}
use Rattle.mt_base.specs.Settled.{AreRenewed, IsPassedOver, IsRenewed}
use Rattle.mt_base.specs.Tables.{Setup}
use Rattle.mt_base.specs.WhatIf.{AreHits, AreHitsOf, IsWhatIf, course_in, trajectory_cleared, what_if_checks}
use Rattle.mt_base.proofs.CheckLemmas.{all_passed}
use Rattle.mt_base.proofs.OneAdvice.{one_advice}
use Rattle.mt_base.proofs.OneHits.{one_hits}

-- the hits of a clearance of a planned flight are one list
one_list : (setup : Setup) (s : State) (call : List ℕ) (clearance : Clearance) (eff : ℕ) (hits others : List Hit)
    → is_some (course_in (flight_of s.records call)) ≡ true → AreHits setup s call clearance eff hits → AreHits setup s call clearance eff others
    → hits ≡ others
one_list setup s call clearance eff hits others planned is also = by_course (course_in (flight_of s.records call)) planned is also where
  by_course : (course : Option Course) → is_some course ≡ true
      → IfSome course (λ c. AreHitsOf setup s call (trajectory_cleared setup c clearance eff) hits)
      → IfSome course (λ c. AreHitsOf setup s call (trajectory_cleared setup c clearance eff) others) → hits ≡ others
  by_course (Some c) there is also = one_hits setup s call (trajectory_cleared setup c clearance eff) hits others is also
  by_course None there is also = cc

-- a flight whose checks are passed is planned
pub planned_if : (setup : Setup) (s : State) (call : List ℕ) (clearance : Clearance) (eff : ℕ)
    → judged (what_if_checks setup s.now (flight_of s.records call) call clearance eff) (tt {0}) ≡ Ok (tt {0})
    → is_some (course_in (flight_of s.records call)) ≡ true
planned_if setup s call clearance eff passed =
    (all_passed (what_if_checks setup s.now (flight_of s.records call) call clearance eff) (tt {0}) (rw passed refl)).1.0

planned_of : (setup : Setup) (s : State) (who : ℕ) (call : List ℕ) (clearance : Clearance) (eff probed : ℕ) (e : Entry)
    → decision_of setup s who (Accept call clearance eff probed) ≡ Ok e → is_some (course_in (flight_of s.records call)) ≡ true
planned_of setup s who call clearance eff probed e passed =
    let command : Command = Accept call clearance eff probed in
    let filed : Entry = record { who = who; command = filled s.now command } in
    (all_passed (checks setup (look_at s command) who command) filed (rw passed refl)).1.0

-- the hits of a command that nothing else refuses are one list
one_has : (setup : Setup) (s : State) (who : ℕ) (command : Command) (e : Entry) (hits others : List Hit) → decision_of setup s who command ≡ Ok e
    → HasHits setup s command hits → HasHits setup s command others → hits ≡ others
one_has setup s who (Accept call clearance eff probed) e hits others passed has also =
    one_list setup s call clearance eff hits others (planned_of setup s who call clearance eff probed e passed) has also
one_has setup s who command e hits others passed has also = has ∙ sym also

-- an entry was not stale
not_stale : (setup : Setup) (s : State) (who : ℕ) (command : Command) (e : Entry) (refusal : Refusal) (P : Type 0)
    → IsDecided setup s who command (Ok e) → IsStale setup s who command refusal → P
not_stale setup s who command e refusal P decided stale =
    let none : [] ≡ stale.first ∷ stale.others = one_has setup s who command e [] (stale.first ∷ stale.others) decided.0 decided.1 stale.hits in
    cc

-- what is stale is so by one hit
one_stale : (setup : Setup) (s : State) (who : ℕ) (command : Command) (a b : Refusal) → IsStale setup s who command a → IsStale setup s who command b
    → a ≡ b
one_stale setup s who command a b x y =
    let lists : x.first ∷ x.others ≡ y.first ∷ y.others =
    one_has setup s who command x.entry (x.first ∷ x.others) (y.first ∷ y.others) x.passed x.hits y.hits in
    let same : x.first ≡ y.first = cc in
    x.refusal_is ∙ ap Stale same ∙ sym y.refusal_is

pub one_decision : (setup : Setup) (s : State) (who : ℕ) (command : Command) (a b : Result Entry Refusal) → IsDecided setup s who command a
    → IsDecided setup s who command b → a ≡ b
one_decision setup s who command (Ok e) (Ok f) x y = sym x.0 ∙ y.0
one_decision setup s who command (Ok e) (Err b) x (inl refused) = cc
one_decision setup s who command (Ok e) (Err b) x (inr stale) = not_stale setup s who command e b _ x stale
one_decision setup s who command (Err a) (Ok f) (inl refused) y = cc
one_decision setup s who command (Err a) (Ok f) (inr stale) y = not_stale setup s who command f a _ y stale
one_decision setup s who command (Err a) (Err b) (inl refused) (inl also) = sym refused ∙ also
one_decision setup s who command (Err a) (Err b) (inl refused) (inr stale) = let passed = stale.passed in cc
one_decision setup s who command (Err a) (Err b) (inr stale) (inl refused) = let passed = stale.passed in cc
one_decision setup s who command (Err a) (Err b) (inr stale) (inr also) = ap Err (one_stale setup s who command a b stale also)

pub one_what_if : (setup : Setup) (s : State) (call : List ℕ) (clearance : Clearance) (eff : Option ℕ) (a b : Result (List Hit) Refusal)
    → IsWhatIf setup s call clearance eff a → IsWhatIf setup s call clearance eff b → a ≡ b
one_what_if setup s call clearance eff (Ok hits) (Ok others) x y = ap Ok
    (one_list setup s call clearance (unwrap_or eff s.now) hits others (planned_if setup s call clearance (unwrap_or eff s.now) x.0) x.1 y.1)
one_what_if setup s call clearance eff (Ok hits) (Err b) x y = let passed = x.0 in cc
one_what_if setup s call clearance eff (Err a) (Ok others) x y = let passed = y.0 in cc
one_what_if setup s call clearance eff (Err a) (Err b) x y = let none : Result ⊤ Refusal = Err a in
    let same : none ≡ Err b = sym x ∙ y in cc

-- what is advised is one list
pub one_advised : (setup : Setup) (s : State) (call : List ℕ) (a b : Result (List Clearance) Refusal) → IsAdvice setup s call a → IsAdvice setup s call b → a ≡ b
one_advised setup s call (Ok cs) (Ok ds) x y = ap Ok (one_advice setup s call cs ds x.1 y.1)
one_advised setup s call (Ok cs) (Err b) x y = let passed = x.0 in cc
one_advised setup s call (Err a) (Ok ds) x y = let passed = y.0 in cc
one_advised setup s call (Err a) (Err b) x y = let none : Result ⊤ Refusal = Err a in
    let same : none ≡ Err b = sym x ∙ y in cc

-- and what renewals leave is one history
module _ (setup : Setup) (who : ℕ) where
  abbrev Step : List ℕ → List Entry → List Entry → Type 0
  Step call h next = IsRenewed setup who call h next ⊎ IsPassedOver setup who call h next

  one_step : (call : List ℕ) (h a b : List Entry) → Step call h a → Step call h b → a ≡ b
  one_step call h a b (inl x) (inl y) =
      let same : Ok x.entry ≡ Ok y.entry = one_decision setup (state_of setup h) who (Renew call) (Ok x.entry) (Ok y.entry) x.decided y.decided in
      let entry : x.entry ≡ y.entry = cc in
      x.next_is ∙ ap (λ (e : Entry). h ++ e ∷ []) entry ∙ sym y.next_is
  one_step call h a b (inl x) (inr y) = let same = one_decision setup (state_of setup h) who (Renew call) (Ok x.entry) (Err y.refusal) x.decided y.decided in cc
  one_step call h a b (inr x) (inl y) = let same = one_decision setup (state_of setup h) who (Renew call) (Err x.refusal) (Ok y.entry) x.decided y.decided in cc
  one_step call h a b (inr x) (inr y) = x.next_is ∙ sym y.next_is

  pub one_renewal : (calls : List (List ℕ)) (h a b : List Entry) → AreRenewed setup who calls h a → AreRenewed setup who calls h b → a ≡ b
  one_renewal [] h a b x y = x ∙ sym y
  one_renewal (call ∷ calls) h a b x y =
      one_renewal calls x.0 a b x.2 (subst (λ (between : List Entry). AreRenewed setup who calls between b) (one_step call h y.0 x.0 y.1 x.1) y.2)
