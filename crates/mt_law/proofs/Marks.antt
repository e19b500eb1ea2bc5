-- A flight keeps its tentative clearance until a command of its callsign ends it.
use Rattle.std.proofs.Common.{◌≡◌, ◌≢◌, Bool, true, false, not, ℕ, ◌≤◌, List, [], ◌∷◌, map, Option, Some, None, Ok, is_some, refl, sym, ◌∙◌, ap, subst, if◌then◌else◌}
use Rattle.std.specs.Option.{option_map_or}
use Rattle.std.specs.Prelude.{option_map, unwrap_or, nat_le}
use Rattle.std.specs.Str.{bytes_eq}
use Rattle.mt_base.specs.declared.clearance.Clearance.{Clearance}
use Rattle.mt_base.specs.declared.command.Command.{Command}
use Rattle.mt_base.specs.declared.command.Command.TheVariants.{Plan, External, Drop, Tick, Renew, Clear, Accept, Tentative, Withdraw, Commit}
use Rattle.mt_base.specs.declared.command.Command.TheVariants as commands
use Rattle.mt_base.specs.declared.command.Entry.{Entry}
use Rattle.mt_base.specs.declared.command.Refusal.TheVariants.{Future, HistoryFull, TentativeHeld}
use Rattle.mt_base.specs.declared.flight.Mark.{Mark}
use Rattle.mt_base.specs.declared.flight.Path.{Path}
use Rattle.mt_base.specs.declared.flight.Path.TheVariants.{Planned, Outer}
use Rattle.mt_base.specs.declared.flight.Record.{Record}
use Rattle.mt_base.specs.declared.flight.Report.{Report}
use Rattle.mt_base.specs.Cleared.{aim_checks}
use Rattle.mt_base.specs.Decision.{decision_of, has_history, look_at, owner_of}
use Rattle.mt_base.specs.Effect.{bare_path, changed, cleared_path, committed_path, course_of, marked_path, records_after, renewed_path, reported_path}
use Rattle.mt_base.specs.Picture.{State, flight_of, trajectory_of}
use Rattle.mt_base.specs.StrikeOut.{ended_by, handled_by}
use Rattle.mt_base.specs.Tables.{Setup}
use Rattle.mt_base.specs.WhatIf.{course_in, mark_in, mark_on}
use Rattle.mt_law.proofs.Counts.{changed_back, count_of}
use Rattle.mt_law.proofs.Flights.{HasMark, found_call, found_changed, found_kept, found_other, mark_changed, mark_filed}
use Rattle.mt_law.proofs.Passing.{none_is, pass_behind, passed_by}

-- a flight that is marked as tentative had no tentative clearance
had_none : (setup : Setup) (s : State) (who : ℕ) (own : List ℕ) (clearance : Clearance) (eff : Option ℕ) (e : Entry)
    → decision_of setup s who (Tentative own clearance eff) ≡ Ok e → not (is_some (mark_in (flight_of s.records own))) ≡ true
had_none setup s who own clearance eff e is = (pass_behind
    (option_map_or (λ course. aim_checks setup.tables course (trajectory_of setup (Planned course)) clearance (unwrap_or eff s.now))
    (course_in (flight_of s.records own)) [])
    ((TentativeHeld (owner_of (mark_in (flight_of s.records own))), not (is_some (mark_in (flight_of s.records own)))) ∷
    (Future, nat_le (unwrap_or eff s.now) s.now) ∷
    (HistoryFull, has_history setup.rules (look_at s (Tentative own clearance eff))) ∷ [])
    (passed_by setup s who (Tentative own clearance eff) e is).1.1).0

-- an entry that doesn't end a tentative clearance doesn't handle it either
pub not_handled : (setup : Setup) (s : State) (call : List ℕ) (who : ℕ) (c : Command) (e : Entry) → HasMark call s.records
    → decision_of setup s who c ≡ Ok e → ended_by c ≢ Some call → handled_by c ≢ Some call
not_handled setup s call who (Tentative own clearance eff) e marked is going_on = λ same.
    let own_is : own ≡ call = cc in
    let none = had_none setup s who own clearance eff e is in
    let some : HasMark own s.records = subst (λ (name : List ℕ). HasMark name s.records) (sym own_is) marked in
    let none_there : not true ≡ true = subst (λ (b : Bool). not b ≡ true) some none in
    cc
not_handled setup s call who (Withdraw own force) e marked is going_on = going_on
not_handled setup s call who (Commit own) e marked is going_on = going_on
not_handled setup s call who c e marked is going_on = λ same. (cc)

-- the changes that leave a tentative clearance as it is
cleared_keeps : (setup : Setup) (clearance : Clearance) (eff : ℕ) (p : Path) → mark_on (cleared_path setup clearance eff p) ≡ mark_on p
cleared_keeps setup clearance eff (Planned course) = refl
cleared_keeps setup clearance eff (Outer stretch) = refl

reported_keeps : (setup : Setup) (report : Report) (p : Path) → mark_on (reported_path setup report p) ≡ mark_on p
reported_keeps setup report (Planned course) = refl
reported_keeps setup report (Outer stretch) = refl

renewed_keeps : (setup : Setup) (p : Path) → mark_on (renewed_path setup p) ≡ mark_on p
renewed_keeps setup (Planned course) = refl
renewed_keeps setup (Outer stretch) = refl

other_keeps : (call own : List ℕ) (f : Path → Path) (rs : List Record) → own ≢ call
    → mark_in (flight_of (map (changed own f) rs) call) ≡ mark_in (flight_of rs call)
other_keeps call own f rs apart = ap mark_in (found_changed call own f rs ∙ found_other call own f rs (λ e. apart (sym e)))

-- no command but those that end or handle it touches a tentative clearance
pub mark_kept : (setup : Setup) (call : List ℕ) (who : ℕ) (c : Command) (rs : List Record) → ended_by c ≢ Some call → handled_by c ≢ Some call
    → mark_in (flight_of (records_after setup who c rs) call) ≡ mark_in (flight_of rs call)
mark_kept setup call who (Plan own kind route at from level rvsm) rs going_on apart =
    mark_filed call rs (record { call = own; path = Planned (course_of setup kind route at from level rvsm) }) refl
mark_kept setup call who (External own straight) rs going_on apart = mark_filed call rs (record { call = own; path = Outer straight }) refl
mark_kept setup call who (Drop own) rs going_on apart = ap mark_in (found_kept call own rs (λ e. going_on (ap Some e)))
mark_kept setup call who (Tick now) rs going_on apart = refl
mark_kept setup call who (commands.Report own report) rs going_on apart =
    mark_changed call own (reported_path setup report) rs (reported_keeps setup report)
mark_kept setup call who (Renew own) rs going_on apart = mark_changed call own (renewed_path setup) rs (renewed_keeps setup)
mark_kept setup call who (Clear own clearance eff) rs going_on apart =
    mark_changed call own (cleared_path setup clearance (unwrap_or eff 0)) rs (cleared_keeps setup clearance (unwrap_or eff 0))
mark_kept setup call who (Accept own clearance eff probed) rs going_on apart =
    mark_changed call own (cleared_path setup clearance eff) rs (cleared_keeps setup clearance eff)
mark_kept setup call who (Tentative own clearance eff) rs going_on apart =
    other_keeps call own (marked_path setup who clearance (unwrap_or eff 0)) rs (λ e. apart (ap Some e))
mark_kept setup call who (Withdraw own force) rs going_on apart = other_keeps call own bare_path rs (λ e. apart (ap Some e))
mark_kept setup call who (Commit own) rs going_on apart = other_keeps call own committed_path rs (λ e. apart (ap Some e))

-- Marked and withdrawn, all is as it was.
bare_back : (setup : Setup) (who : ℕ) (clearance : Clearance) (eff : ℕ) (p : Path) → is_some (mark_on p) ≡ false
    → bare_path (marked_path setup who clearance eff p) ≡ p
bare_back setup who clearance eff (Outer stretch) none = refl
bare_back setup who clearance eff (Planned course) none = ap (λ (mark : Option Mark). Planned (record course { mark = mark })) (sym (is_none course.mark none)) where
  is_none : (mark : Option Mark) → is_some mark ≡ false → mark ≡ None
  is_none None none = refl
  is_none (Some mark) none = cc

pub marked_back : (setup : Setup) (s : State) (who : ℕ) (call : List ℕ) (clearance : Clearance) (eff : Option ℕ) (e : Entry)
    → decision_of setup s who (Tentative call clearance eff) ≡ Ok e → count_of call s.records ≤ 1
    → map (changed call bare_path) (records_after setup who (Tentative call clearance eff) s.records) ≡ s.records
marked_back setup s who call clearance eff e is most =
    changed_back call (marked_path setup who clearance (unwrap_or eff 0)) bare_path s.records most
    (λ r there. bare_back setup who clearance (unwrap_or eff 0) r.path (none_is (is_some (mark_on r.path))
    (subst (λ (flight : Option Record). not (is_some (mark_in flight)) ≡ true) there (had_none setup s who call clearance eff e is))))

-- and it is marked
pub is_marked : (setup : Setup) (s : State) (who : ℕ) (call : List ℕ) (clearance : Clearance) (eff : Option ℕ) (e : Entry)
    → decision_of setup s who (Tentative call clearance eff) ≡ Ok e
    → HasMark call (records_after setup who (Tentative call clearance eff) s.records)
is_marked setup s who call clearance eff e is =
    ap (λ (flight : Option Record). is_some (mark_in flight)) (found_changed call call (marked_path setup who clearance (unwrap_or eff 0)) s.records)
    ∙ by_flight (flight_of s.records call) (found_call call s.records) (passed_by setup s who (Tentative call clearance eff) e is).1.0 where
      by_path : (b : Bool) (p : Path) → b ≡ true → is_some (course_in (Some (record { call = call; path = p }))) ≡ true
          → is_some (mark_on (if b then marked_path setup who clearance (unwrap_or eff 0) p else p)) ≡ true
      by_path true (Planned course) e planned = refl
      by_path true (Outer stretch) e planned = cc
      by_path false p e planned = cc

      by_flight : (flight : Option Record) → ((r : Record) → flight ≡ Some r → bytes_eq r.call call ≡ true) → is_some (course_in flight) ≡ true
          → is_some (mark_in (option_map (changed call (marked_path setup who clearance (unwrap_or eff 0))) flight)) ≡ true
      by_flight None found planned = cc
      by_flight (Some r) found planned = by_path (bytes_eq r.call call) r.path (found r refl) planned
