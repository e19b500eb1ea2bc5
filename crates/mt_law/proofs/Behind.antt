-- What is decided and done does not depend on how many entries there are, but for the room for one more, nor on the version that an
-- acceptance names.
use Rattle.std.proofs.Common.{◌≡◌, Bool, true, ℕ, ◌≤◌, List, [], ◌∷◌, length, Option, Ok, refl, sym, ◌∙◌, ap, subst, arith}
use Rattle.std.specs.Option.{option_map_or}
use Rattle.std.specs.Prelude.{option_and_then, unwrap_or, not, is_some, nat_le}
use Rattle.mt_base.specs.declared.command.Command.{Command}
use Rattle.mt_base.specs.declared.command.Command.TheVariants.{Plan, External, Drop, Tick, Renew, Clear, Accept, Tentative, Withdraw, Commit}
use Rattle.mt_base.specs.declared.command.Command.TheVariants as commands
use Rattle.mt_base.specs.declared.command.Entry.{Entry}
use Rattle.mt_base.specs.declared.command.Refusal.{Refusal}
use Rattle.mt_base.specs.declared.command.Refusal.TheVariants.{Ceiling, Full, Future, HistoryFull, TentativeHeld}
use Rattle.mt_base.specs.declared.flight.Path.TheVariants.{Planned}
use Rattle.mt_base.specs.declared.flight.Record.{Record}
use Rattle.mt_base.specs.Checks.{judged}
use Rattle.mt_base.specs.Cleared.{aim_checks, is_below_ceiling}
use Rattle.mt_base.specs.Decision.{HasHits, IsDecided, Look, call_of, checks, decision_of, filled, has_history, has_room, owner_of, route_checks}
use Rattle.mt_base.specs.Effect.{effect, now_after, records_after}
use Rattle.mt_base.specs.Picture.{State, flight_of, trajectory_of}
use Rattle.mt_base.specs.StrikeOut.{AreSameButVersions, entry_renumbered, renumbered}
use Rattle.mt_base.specs.Tables.{Setup}
use Rattle.mt_base.specs.WhatIf.{course_in, mark_in, what_if_checks}
use Rattle.mt_base.proofs.CheckLemmas.{answer_is}
use Rattle.mt_law.proofs.Bare.{look_of}
use Rattle.mt_law.proofs.Hits.{hits_bare}
use Rattle.mt_law.proofs.Passing.{Pass, all_ok, pass_other, passed, room_for_fewer}

module _ (setup : Setup) (who now held m n : ℕ) (flight : Option Record) (fewer : m ≤ n) where
  room : has_history setup.rules (look_of now held n flight) ≡ true → has_history setup.rules (look_of now held m flight) ≡ true
  room is = room_for_fewer m n setup.rules.history fewer is

  last_of : ℕ → List (Refusal × Bool)
  last_of k = (HistoryFull, has_history setup.rules (look_of now held k flight)) ∷ []

  pub pass_fewer : (c : Command) → Pass (checks setup (look_of now held n flight) who c) → Pass (checks setup (look_of now held m flight) who c)
  unfolding last_of
  pass_fewer (Plan call kind route at from level rvsm) h = (
    h.0,
    (
      h.1.0,
      pass_other (route_checks setup.tables route)
          ((Ceiling, is_below_ceiling setup.tables kind from) ∷ (Ceiling, is_below_ceiling setup.tables kind level) ∷
          (Full, has_room setup.rules (look_of now held n flight)) ∷ last_of n)
          ((Ceiling, is_below_ceiling setup.tables kind from) ∷ (Ceiling, is_below_ceiling setup.tables kind level) ∷
          (Full, has_room setup.rules (look_of now held m flight)) ∷ last_of m)
          (λ g. (g.0, (g.1.0, (g.1.1.0, (room g.1.1.1.0, tt))))) h.1.1,
    ),
  )
  pass_fewer (External call straight) h = (h.0, (h.1.0, (room h.1.1.0, tt)))
  pass_fewer (Drop call) h = (h.0, (room h.1.0, tt))
  pass_fewer (Tick next) h = (h.0, (room h.1.0, tt))
  pass_fewer (commands.Report call report) h = (h.0, (h.1.0, (h.1.1.0, (h.1.1.1.0, (room h.1.1.1.1.0, tt)))))
  pass_fewer (Renew call) h = (h.0, (h.1.0, (h.1.1.0, (room h.1.1.1.0, tt))))
  pass_fewer (Clear call clearance eff) h =
      pass_other (what_if_checks setup now flight call clearance (unwrap_or eff now)) (last_of n) (last_of m) (λ g. (room g.0, tt)) h
  pass_fewer (Accept call clearance eff probed) h =
      pass_other (what_if_checks setup now flight call clearance eff) (last_of n) (last_of m) (λ g. (room g.0, tt)) h
  pass_fewer (Tentative call clearance eff) h = (
    h.0,
    (
      h.1.0,
      pass_other
          (option_map_or (λ course. aim_checks setup.tables course (trajectory_of setup (Planned course)) clearance (unwrap_or eff now)) (course_in flight) [])
          ((TentativeHeld (owner_of (mark_in flight)), not (is_some (mark_in flight))) ∷ (Future, nat_le (unwrap_or eff now) now) ∷ last_of n)
          ((TentativeHeld (owner_of (mark_in flight)), not (is_some (mark_in flight))) ∷ (Future, nat_le (unwrap_or eff now) now) ∷ last_of m)
          (λ g. (g.0, (g.1.0, (room g.1.1.0, tt)))) h.1.1,
    ),
  )
  pass_fewer (Withdraw call force) h = (h.0, (h.1.0, (h.1.1.0, (room h.1.1.1.0, tt))))
  pass_fewer (Commit call) h = (h.0, (h.1.0, (room h.1.1.0, tt)))

-- an acceptance that names another version asks for the same
call_named : (lower : ℕ → ℕ) (c : Command) → call_of (renumbered lower c) ≡ call_of c
call_named lower c = by c where
  by : (c : Command) → call_of (renumbered lower c) ≡ call_of c
  by (Accept call clearance eff probed) = refl
  by c = refl

checks_named : (setup : Setup) (look : Look) (who : ℕ) (lower : ℕ → ℕ) (c : Command) → checks setup look who (renumbered lower c) ≡ checks setup look who c
checks_named setup look who lower (Accept call clearance eff probed) = refl
checks_named setup look who lower c = refl

filled_named : (now : ℕ) (lower : ℕ → ℕ) (c : Command) → filled now (renumbered lower c) ≡ renumbered lower (filled now c)
filled_named now lower (Accept call clearance eff probed) = refl
filled_named now lower c = refl

records_named : (setup : Setup) (who : ℕ) (lower : ℕ → ℕ) (c : Command) (rs : List Record) → records_after setup who (renumbered lower c) rs ≡ records_after setup who c rs
records_named setup who lower (Accept call clearance eff probed) rs = refl
records_named setup who lower c rs = refl

now_named : (lower : ℕ → ℕ) (c : Command) (now : ℕ) → now_after (renumbered lower c) now ≡ now_after c now
now_named lower (Accept call clearance eff probed) now = refl
now_named lower c now = refl

judge_named : (setup : Setup) (s : State) (m : ℕ) (lower : ℕ → ℕ) (who : ℕ) (c : Command) (e : Entry) → m ≤ s.version
    → decision_of setup s who c ≡ Ok e → decision_of setup (record s { version = m }) who (renumbered lower c) ≡ Ok (entry_renumbered lower e)
judge_named setup s m lower who c e fewer is =
    ap (λ (o : Option (List ℕ)). judged (checks setup (look_of s.now (length s.records) m (option_and_then (flight_of s.records) o)) who (renumbered lower c)) entry)
    (call_named lower c)
    ∙ ap (λ (cs : List (Refusal × Bool)). judged cs entry) (checks_named setup (look_of s.now (length s.records) m found) who lower c)
    ∙ all_ok (checks setup (look_of s.now (length s.records) m found) who c) entry pass
    ∙ ap Ok (ap (λ (d : Command). record { who = who; command = d }) (filled_named s.now lower c) ∙ ap (entry_renumbered lower) same) where
      found : Option Record
      found = option_and_then (flight_of s.records) (call_of c)

      entry : Entry
      entry = record { who = who; command = filled s.now (renumbered lower c) }

      same : (record { who = who; command = filled s.now c }) ≡ e
      same = answer_is (checks setup (look_of s.now (length s.records) s.version found) who c) (record { who = who; command = filled s.now c }) e is

      pass : Pass (checks setup (look_of s.now (length s.records) m found) who c)
      pass = pass_fewer setup who s.now (length s.records) m s.version found fewer c
          (passed (checks setup (look_of s.now (length s.records) s.version found) who c) (record { who = who; command = filled s.now c }) e is)

hits_named : (setup : Setup) (s : State) (m : ℕ) (lower : ℕ → ℕ) (c : Command) → HasHits setup s c [] → HasHits setup (record s { version = m }) (renumbered lower c) []
hits_named setup s m lower (Accept call clearance eff probed) h =
    (hits_bare setup call (record s { version = m }) 0 call clearance eff []).1 ((hits_bare setup call s 0 call clearance eff []).0 h)
hits_named setup s m lower c h = h

-- Two states are the same, but that the second may have fewer entries.
pub record IsBehind (s t : State) : Type 0 where
  pub same : AreSameButVersions s t
  pub fewer : t.version ≤ s.version

state_is : (s t : State) → AreSameButVersions s t → record s { version = t.version } ≡ t
state_is s t same = ap (λ (now : ℕ). record s { now = now; version = t.version }) same.now
    ∙ ap (λ (rs : List Record). record t { records = rs }) same.records

pub decided_behind : (setup : Setup) (lower : ℕ → ℕ) (s t : State) (e : Entry) → IsBehind s t → IsDecided setup s e.who e.command (Ok e)
    → IsDecided setup t e.who (renumbered lower e.command) (Ok (entry_renumbered lower e))
decided_behind setup lower s t e behind decided =
    subst (λ (u : State). IsDecided setup u e.who (renumbered lower e.command) (Ok (entry_renumbered lower e))) (state_is s t behind.same)
    (judge_named setup s t.version lower e.who e.command e behind.fewer decided.0, hits_named setup s t.version lower e.command decided.1)

pub effect_behind : (setup : Setup) (lower : ℕ → ℕ) (s t : State) (e : Entry) → IsBehind s t → IsBehind (effect setup s e) (effect setup t (entry_renumbered lower e))
effect_behind setup lower s t e behind = record {
  same = record {
    now = ap (now_after e.command) behind.same.now ∙ sym (now_named lower e.command t.now);
    records = ap (records_after setup e.who e.command) behind.same.records ∙ sym (records_named setup e.who lower e.command t.records);
  };
  fewer = let f = behind.fewer in omega arith;
}
