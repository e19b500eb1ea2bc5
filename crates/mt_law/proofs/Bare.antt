-- What is decided and done without the tentative clearance of a flight is the same.
use Rattle.std.proofs.Common.{◌≡◌, ◌≢◌, Bool, true, false, not, ℕ, List, [], ◌∷◌, ◌++◌, length, map, filter, Option, Some, None, refl, sym, ◌∙◌, ap, if◌then◌else◌}
use Rattle.std.proofs.lemmas.List.{length-map, map-append}
use Rattle.std.specs.Prelude.{option_map, option_and_then, unwrap_or, Result}
use Rattle.std.specs.Str.{bytes_eq}
use Rattle.mt_base.specs.declared.clearance.Clearance.{Clearance}
use Rattle.mt_base.specs.declared.clearance.Clearance.TheVariants.{Level, Direct}
use Rattle.mt_base.specs.declared.command.Command.{Command}
use Rattle.mt_base.specs.declared.command.Command.TheVariants.{Plan, External, Drop, Tick, Renew, Clear, Accept, Tentative, Withdraw, Commit}
use Rattle.mt_base.specs.declared.command.Command.TheVariants as commands
use Rattle.mt_base.specs.declared.command.Entry.{Entry}
use Rattle.mt_base.specs.declared.command.Refusal.{Refusal}
use Rattle.mt_base.specs.declared.flight.Path.{Path}
use Rattle.mt_base.specs.declared.flight.Path.TheVariants.{Planned, Outer}
use Rattle.mt_base.specs.declared.flight.Record.{Record}
use Rattle.mt_base.specs.declared.flight.Report.{Report}
use Rattle.mt_base.specs.Checks.{judged}
use Rattle.mt_base.specs.Decision.{Look, call_of, checks, decision_of, filled}
use Rattle.mt_base.specs.Effect.{bare_path, changed, cleared_path, committed_path, course_of, effect, marked_path, records_after, renewed_path, reported_path}
use Rattle.mt_base.specs.Picture.{State, flight_of}
use Rattle.mt_base.specs.StrikeOut.{handled_by, without}
use Rattle.mt_base.specs.Tables.{Setup}
use Rattle.mt_base.specs.WhatIf.{what_if_checks}
use Rattle.mt_law.proofs.Flights.{changed_swap, found_changed, found_other}

-- the checks of a what-if
pub what_if_bare : (setup : Setup) (now : ℕ) (call own : List ℕ) (clearance : Clearance) (eff : ℕ) (flight : Option Record)
    → what_if_checks setup now (option_map (changed call bare_path) flight) own clearance eff ≡ what_if_checks setup now flight own clearance eff
what_if_bare setup now call own clearance eff None = refl
what_if_bare setup now call own clearance eff (Some r) = by_path (bytes_eq r.call call) r.path clearance where
  by_path : (b : Bool) (p : Path) (clearance : Clearance)
      → what_if_checks setup now (Some (record { call = r.call; path = if b then bare_path p else p })) own clearance eff
      ≡ what_if_checks setup now (Some (record { call = r.call; path = p })) own clearance eff
  by_path false p clearance = refl
  by_path true (Outer stretch) clearance = refl
  by_path true (Planned course) (Level level) = refl
  by_path true (Planned course) (Direct fix) = refl

-- the checks of a command that handles no tentative clearance
abbrev pub look_of : ℕ → ℕ → ℕ → Option Record → Look
look_of now held entries flight = record { now = now; held = held; entries = entries; flight = flight }

checks_bare : (setup : Setup) (call : List ℕ) (who now held entries : ℕ) (flight : Option Record) (c : Command) → handled_by c ≡ None
    → checks setup (look_of now held entries (option_map (changed call bare_path) flight)) who c ≡ checks setup (look_of now held entries flight) who c
checks_bare setup call who now held entries None c none = refl
checks_bare setup call who now held entries (Some r) c none = by_path (bytes_eq r.call call) r.path c none where
  by_path : (b : Bool) (p : Path) (c : Command) → handled_by c ≡ None
      → checks setup (look_of now held entries (Some (record { call = r.call; path = if b then bare_path p else p }))) who c
      ≡ checks setup (look_of now held entries (Some (record { call = r.call; path = p }))) who c
  by_path false p c none = refl
  by_path true (Outer stretch) c none = refl
  by_path true (Planned course) (Clear own (Level level) eff) none = refl
  by_path true (Planned course) (Clear own (Direct fix) eff) none = refl
  by_path true (Planned course) (Accept own (Level level) eff probed) none = refl
  by_path true (Planned course) (Accept own (Direct fix) eff probed) none = refl
  by_path true (Planned course) (Tentative own clearance eff) none = cc
  by_path true (Planned course) (Withdraw own force) none = cc
  by_path true (Planned course) (Commit own) none = cc
  by_path true (Planned course) c none = refl

-- what a decision looks at
look_bare : (call : List ℕ) (s : State) (o : Option (List ℕ))
    → look_of s.now (length (map (changed call bare_path) s.records)) s.version (option_and_then (flight_of (map (changed call bare_path) s.records)) o)
    ≡ look_of s.now (length s.records) s.version (option_map (changed call bare_path) (option_and_then (flight_of s.records) o))
look_bare call s None = ap (λ (n : ℕ). look_of s.now n s.version None) (length-map s.records (changed call bare_path))
look_bare call s (Some own) =
    ap (λ (n : ℕ). look_of s.now n s.version (flight_of (map (changed call bare_path) s.records) own)) (length-map s.records (changed call bare_path))
    ∙ ap (λ (flight : Option Record). look_of s.now (length s.records) s.version flight) (found_changed own call bare_path s.records)

look_other : (call own : List ℕ) (s : State) → own ≢ call
    → look_of s.now (length (map (changed call bare_path) s.records)) s.version (flight_of (map (changed call bare_path) s.records) own)
    ≡ look_of s.now (length s.records) s.version (flight_of s.records own)
look_other call own s apart = look_bare call s (Some own)
    ∙ ap (λ (flight : Option Record). look_of s.now (length s.records) s.version flight) (found_other own call bare_path s.records apart)

-- the first refusal, or the entry, is the same, unless the command handles that tentative clearance
abbrev judge_by : Setup → ℕ → Command → ℕ → Look → Result Entry Refusal
judge_by setup who c now look = judged (checks setup look who c) (record { who = who; command = filled now c })

judge_free : (setup : Setup) (call : List ℕ) (s : State) (who : ℕ) (c : Command) → handled_by c ≡ None
    → decision_of setup (without call s) who c ≡ decision_of setup s who c
judge_free setup call s who c none = ap (judge_by setup who c s.now) (look_bare call s (call_of c))
    ∙ ap (λ (cs : List (Refusal × Bool)). judged cs (record { who = who; command = filled s.now c }))
    (checks_bare setup call who s.now (length s.records) s.version (option_and_then (flight_of s.records) (call_of c)) c none)

pub judge_bare : (setup : Setup) (call : List ℕ) (s : State) (who : ℕ) (c : Command) → handled_by c ≢ Some call
    → decision_of setup (without call s) who c ≡ decision_of setup s who c
judge_bare setup call s who (Tentative own clearance eff) apart =
    ap (judge_by setup who (Tentative own clearance eff) s.now) (look_other call own s (λ e. apart (ap Some e)))
judge_bare setup call s who (Withdraw own force) apart =
    ap (judge_by setup who (Withdraw own force) s.now) (look_other call own s (λ e. apart (ap Some e)))
judge_bare setup call s who (Commit own) apart = ap (judge_by setup who (Commit own) s.now) (look_other call own s (λ e. apart (ap Some e)))
judge_bare setup call s who c apart = judge_free setup call s who c refl

-- changes that neither read nor touch a tentative clearance
cleared_swap : (setup : Setup) (clearance : Clearance) (eff : ℕ) (p : Path)
    → cleared_path setup clearance eff (bare_path p) ≡ bare_path (cleared_path setup clearance eff p)
cleared_swap setup (Level level) eff (Planned course) = refl
cleared_swap setup (Direct fix) eff (Planned course) = refl
cleared_swap setup clearance eff (Outer stretch) = refl

reported_swap : (setup : Setup) (report : Report) (p : Path) → reported_path setup report (bare_path p) ≡ bare_path (reported_path setup report p)
reported_swap setup report (Planned course) = refl
reported_swap setup report (Outer stretch) = refl

renewed_swap : (setup : Setup) (p : Path) → renewed_path setup (bare_path p) ≡ bare_path (renewed_path setup p)
renewed_swap setup (Planned course) = refl
renewed_swap setup (Outer stretch) = refl

filed_swap : (call : List ℕ) (r : Record) (rs : List Record) → bare_path r.path ≡ r.path
    → map (changed call bare_path) rs ++ r ∷ [] ≡ map (changed call bare_path) (rs ++ r ∷ [])
filed_swap call r rs bare = sym (map-append (changed call bare_path) rs (r ∷ []) ∙ ap (λ (x : Record). map (changed call bare_path) rs ++ x ∷ []) same) where
  by_test : (b : Bool) → (if b then bare_path r.path else r.path) ≡ r.path
  by_test true = bare
  by_test false = refl

  same : changed call bare_path r ≡ r
  same = ap (λ (p : Path). record r { path = p }) (by_test (bytes_eq r.call call))

dropped_swap : (call own : List ℕ) (rs : List Record)
    → filter (λ flight. not (bytes_eq flight.call own)) (map (changed call bare_path) rs)
    ≡ map (changed call bare_path) (filter (λ flight. not (bytes_eq flight.call own)) rs)
dropped_swap call own [] = refl
dropped_swap call own (r ∷ rs) = step (bytes_eq r.call own) (dropped_swap call own rs) where
  step : (b : Bool) → filter (λ flight. not (bytes_eq flight.call own)) (map (changed call bare_path) rs)
      ≡ map (changed call bare_path) (filter (λ flight. not (bytes_eq flight.call own)) rs)
      → (if not b then changed call bare_path r ∷ filter (λ flight. not (bytes_eq flight.call own)) (map (changed call bare_path) rs)
      else filter (λ flight. not (bytes_eq flight.call own)) (map (changed call bare_path) rs))
      ≡ map (changed call bare_path) (if not b then r ∷ filter (λ flight. not (bytes_eq flight.call own)) rs
      else filter (λ flight. not (bytes_eq flight.call own)) rs)
  step true rest = rest
  step false rest = ap (λ (xs : List Record). changed call bare_path r ∷ xs) rest

-- the records that an entry leaves
records_bare : (setup : Setup) (call : List ℕ) (who : ℕ) (c : Command) (rs : List Record) → handled_by c ≢ Some call
    → records_after setup who c (map (changed call bare_path) rs) ≡ map (changed call bare_path) (records_after setup who c rs)
records_bare setup call who (Plan own kind route at from level rvsm) rs apart =
    filed_swap call (record { call = own; path = Planned (course_of setup kind route at from level rvsm) }) rs refl
records_bare setup call who (External own straight) rs apart = filed_swap call (record { call = own; path = Outer straight }) rs refl
records_bare setup call who (Drop own) rs apart = dropped_swap call own rs
records_bare setup call who (Tick now) rs apart = refl
records_bare setup call who (commands.Report own report) rs apart =
    changed_swap call own (reported_path setup report) bare_path rs (λ same p. reported_swap setup report p)
records_bare setup call who (Renew own) rs apart = changed_swap call own (renewed_path setup) bare_path rs (λ same p. renewed_swap setup p)
records_bare setup call who (Clear own clearance eff) rs apart =
    changed_swap call own (cleared_path setup clearance (unwrap_or eff 0)) bare_path rs (λ same p. cleared_swap setup clearance (unwrap_or eff 0) p)
records_bare setup call who (Accept own clearance eff probed) rs apart =
    changed_swap call own (cleared_path setup clearance eff) bare_path rs (λ same p. cleared_swap setup clearance eff p)
records_bare setup call who (Tentative own clearance eff) rs apart =
    changed_swap call own (marked_path setup who clearance _) bare_path rs (λ same p. absurd (apart (ap Some same)))
records_bare setup call who (Withdraw own force) rs apart = changed_swap call own bare_path bare_path rs (λ same p. refl)
records_bare setup call who (Commit own) rs apart = changed_swap call own committed_path bare_path rs (λ same p. absurd (apart (ap Some same)))

pub effect_bare : (setup : Setup) (call : List ℕ) (s : State) (e : Entry) → handled_by e.command ≢ Some call
    → effect setup (without call s) e ≡ without call (effect setup s e)
effect_bare setup call s e apart = ap (λ (rs : List Record). record (effect setup s e) { records = rs }) (records_bare setup call e.who e.command s.records apart)
