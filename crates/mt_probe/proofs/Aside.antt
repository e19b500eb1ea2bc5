-- A command that is refused with room aside is refused so where room is looked at, since that is looked at last.
use Rattle.std.proofs.Common.{◌≡◌, inl, true, ℕ, pos, List, [], ◌∷◌, ◌++◌, Result, Ok, Err, IsOk, ap}
use Rattle.std.specs.List.{AllByRecursion}
use Rattle.std.specs.Option.{option_map_or}
use Rattle.std.specs.Prelude.{Bool, int_lt, unwrap_or, ⊤}
use Rattle.mt_base.specs.declared.command.Command.{Command}
use Rattle.mt_base.specs.declared.command.Command.TheVariants.{Accept, Clear, Commit, External, Plan, Renew, Tentative}
use Rattle.mt_base.specs.declared.command.Refusal.{Refusal}
use Rattle.mt_base.specs.declared.command.Refusal.TheVariants.{Full, HistoryFull}
use Rattle.mt_base.specs.declared.flight.Path.TheVariants.{Planned}
use Rattle.mt_base.specs.Bounds.{AreWithinBounds}
use Rattle.mt_base.specs.Checks.{check_answer, judged, next}
use Rattle.mt_base.specs.Cleared.{aim_checks}
use Rattle.mt_base.specs.Decision.{IsDecided, checks, filled, look_at, route_checks}
use Rattle.mt_base.specs.Picture.{State, flight_of, trajectory_of}
use Rattle.mt_base.specs.Tables.{Setup}
use Rattle.mt_base.specs.WhatIf.{course_in, what_if_checks}
use Rattle.mt_base.proofs.CheckLemmas.{all_pass}
use Rattle.mt_base.proofs.Cases.{room_for_one}
use Rattle.mt_probe.specs.Prepared.{MakesStrand, judged_aside, roomy}

abbrev Checks : Type 0
Checks = List (Refusal × Bool)

-- What the first checks refuse, the others refuse.
record Carries {A : Type 0} (y : A) (r : Refusal) (cs ds : Checks) : Type 0 where
  carries : judged cs (tt {0}) ≡ Err r → judged ds y ≡ Err r

module _ {A : Type 0} (y : A) (r : Refusal) where
  one : (c : Refusal × Bool) (cs ds : Checks) → Carries y r cs ds → Carries y r (c ∷ cs) (c ∷ ds)
  one c cs ds rest = record { carries = by_check (check_answer c) } where
    by_check : (k : Result ⊤ Refusal) → next k (judged cs (tt {0})) ≡ Err r → next k (judged ds y) ≡ Err r
    by_check (Ok _) e = rest.carries e
    by_check (Err x) e = let same : x ≡ r = cc in ap Err same

  some : (xs cs ds : Checks) → Carries y r cs ds → Carries y r (xs ++ cs) (xs ++ ds)
  some [] cs ds rest = rest
  some (x ∷ xs) cs ds rest = one x (xs ++ cs) (xs ++ ds) (some xs cs ds rest)

  passing : (cs ds : Checks) → AllByRecursion (λ (c : Refusal × Bool). c.1 ≡ true) cs → Carries y r cs ds
  passing cs ds all = record { carries = by_answer (judged cs (tt {0})) (all_pass cs (tt {0}) all) } where
    by_answer : (k : Result ⊤ Refusal) → IsOk k → k ≡ Err r → judged ds y ≡ Err r
    by_answer (Ok _) ok e = cc
    by_answer (Err x) ok e = cc

module _ {A : Type 0} (y : A) (r : Refusal) (setup : Setup) (s : State) (who : ℕ) (rules : AreWithinBounds setup.rules) where
  entry_room : int_lt (pos 0) setup.rules.history ≡ true
  entry_room = room_for_one setup.rules.history rules.history.least

  flight_room : int_lt (pos 0) setup.rules.flights ≡ true
  flight_room = room_for_one setup.rules.flights rules.flights.least

  abbrev Roomy : Checks
  Roomy = (HistoryFull, int_lt (pos 0) setup.rules.history) ∷ []

  last_check : (b : Bool) → Carries y r Roomy ((HistoryFull, b) ∷ [])
  last_check b = passing y r Roomy ((HistoryFull, b) ∷ []) (entry_room, tt)

  last_checks : (a b : Bool) → Carries y r ((Full, int_lt (pos 0) setup.rules.flights) ∷ Roomy) ((Full, a) ∷ (HistoryFull, b) ∷ [])
  last_checks a b = passing y r ((Full, int_lt (pos 0) setup.rules.flights) ∷ Roomy) ((Full, a) ∷ (HistoryFull, b) ∷ []) (flight_room, (entry_room, tt))

  carried : (c : Command) → MakesStrand c → Carries y r (checks setup (roomy s c) who c) (checks setup (look_at s c) who c)
  carried (Plan call kind route at from level rvsm) makes =
      one y r _ _ _ (one y r _ _ _ (some y r (route_checks setup.tables route) _ _
      (one y r _ _ _ (one y r _ _ _ (last_checks _ _)))))
  carried (External call straight) makes = one y r _ _ _ (last_checks _ _)
  carried (Renew call) makes = one y r _ _ _ (one y r _ _ _ (one y r _ _ _ (last_check _)))
  carried (Clear call clearance eff) makes =
      some y r (what_if_checks setup s.now (flight_of s.records call) call clearance (unwrap_or eff s.now)) _ _ (last_check _)
  carried (Accept call clearance eff probed) makes =
      some y r (what_if_checks setup s.now (flight_of s.records call) call clearance eff) _ _ (last_check _)
  carried (Tentative call clearance eff) makes =
      one y r _ _ _ (one y r _ _ _ (some y r (option_map_or (λ course. aim_checks setup.tables course (trajectory_of setup (Planned course)) clearance
      (unwrap_or eff s.now)) (course_in (flight_of s.records call)) []) _ _ (one y r _ _ _ (one y r _ _ _ (last_check _)))))
  carried (Commit call) makes = one y r _ _ _ (one y r _ _ _ (last_check _))
  carried c makes = absurd makes

-- A refusal with room aside is what is decided.
pub aside_refused : (setup : Setup) (s : State) (who : ℕ) (c : Command) (r : Refusal) → AreWithinBounds setup.rules → MakesStrand c
    → judged_aside setup s who c ≡ Err r → IsDecided setup s who c (Err r)
aside_refused setup s who c r rules makes is = inl ((carried (record { who = who; command = filled s.now c }) r setup s who rules c makes).carries is)
