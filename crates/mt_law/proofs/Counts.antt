-- At most one flight has a callsign.
use Rattle.std.proofs.Common.{◌≡◌, Bool, true, false, not, ℕ, ◌+◌, ◌≤◌, List, [], ◌∷◌, ◌++◌, map, filter, Some, Ok, is_some, refl, ◌∙◌, ap, subst, if◌then◌else◌, arith}
use Rattle.std.proofs.lemmas.List.{append-nil, append_assoc}
use Rattle.std.proofs.lemmas.Slice.Eq.{bytes_eq-Decides}
use Rattle.std.specs.Prelude.{unwrap_or}
use Rattle.std.specs.Str.{bytes_eq}
use Rattle.mt_base.specs.declared.command.Command.{Command}
use Rattle.mt_base.specs.declared.command.Command.TheVariants.{Plan, External, Drop, Tick, Renew, Clear, Accept, Tentative, Withdraw, Commit}
use Rattle.mt_base.specs.declared.command.Command.TheVariants as commands
use Rattle.mt_base.specs.declared.command.Entry.{Entry}
use Rattle.mt_base.specs.declared.flight.Path.{Path}
use Rattle.mt_base.specs.declared.flight.Path.TheVariants.{Planned, Outer}
use Rattle.mt_base.specs.declared.flight.Record.{Record}
use Rattle.mt_base.specs.Decision.{decision_of}
use Rattle.mt_base.specs.Effect.{bare_path, changed, cleared_path, committed_path, course_of, marked_path, records_after, renewed_path, reported_path, state_of}
use Rattle.mt_base.specs.History.{IsReplayable}
use Rattle.mt_base.specs.Picture.{State, flight_of}
use Rattle.mt_base.specs.Tables.{Setup}
use Rattle.mt_base.proofs.HistoryLemmas.{state_of-push}
use Rattle.mt_law.proofs.Passing.{none_is, passed_by}
use Rattle.mt_law.proofs.Seam.{decided_at}

-- How many flights have a callsign.
abbrev pub count_of : List ℕ → List Record → ℕ
count_of call [] = 0
count_of call (r ∷ rs) = (if bytes_eq r.call call then 1 else 0) + count_of call rs

pub count_changed : (call own : List ℕ) (f : Path → Path) (rs : List Record) → count_of call (map (changed own f) rs) ≡ count_of call rs
count_changed call own f [] = refl
count_changed call own f (r ∷ rs) = ap (λ (n : ℕ). (if bytes_eq r.call call then 1 else 0) + n) (count_changed call own f rs)

pub count_kept : (call : List ℕ) (test : Record → Bool) (rs : List Record) → count_of call (filter test rs) ≤ count_of call rs
count_kept call test [] = omega arith
count_kept call test (r ∷ rs) = step (test r) (count_kept call test rs) where
  step : (b : Bool) → count_of call (filter test rs) ≤ count_of call rs
      → count_of call (if b then r ∷ filter test rs else filter test rs) ≤ (if bytes_eq r.call call then 1 else 0) + count_of call rs
  step true rest = omega arith
  step false rest = omega arith

pub count_none : (call : List ℕ) (rs : List Record) → is_some (flight_of rs call) ≡ false → count_of call rs ≡ 0
count_none call [] none = refl
count_none call (r ∷ rs) none = step (bytes_eq r.call call) (count_none call rs) none where
  step : (b : Bool) → (is_some (flight_of rs call) ≡ false → count_of call rs ≡ 0) → is_some (if b then Some r else flight_of rs call) ≡ false
      → (if b then 1 else 0) + count_of call rs ≡ 0
  step true rest none = cc
  step false rest none = let zero_is = rest none in omega arith

-- a flight filed after others
pub count_filed : (call : List ℕ) (rs : List Record) (r : Record) → count_of call rs ≤ 1 → is_some (flight_of rs r.call) ≡ false
    → count_of call (rs ++ r ∷ []) ≤ 1
count_filed call rs r most none = step (bytes_eq r.call call) refl where
  sum : (rs : List Record) → count_of call (rs ++ r ∷ []) ≡ count_of call rs + (if bytes_eq r.call call then 1 else 0)
  sum [] = omega arith
  sum (x ∷ xs) = let rest = sum xs in omega arith

  step : (b : Bool) → bytes_eq r.call call ≡ b → count_of call (rs ++ r ∷ []) ≤ 1
  step true e =
      let same = (bytes_eq-Decides r.call call).0 e in
      let zero_is = count_none call rs (subst (λ (c : List ℕ). is_some (flight_of rs c) ≡ false) same none) in
      let all : count_of call (rs ++ r ∷ []) ≡ count_of call rs + 1 = sum rs ∙ rw e refl in
      omega arith
  step false e =
      let all : count_of call (rs ++ r ∷ []) ≡ count_of call rs + 0 = sum rs ∙ rw e refl in
      omega arith

-- where there is one flight at most of a callsign, and the one found is changed by f and back by g, all are as they were
pub changed_back : (call : List ℕ) (f g : Path → Path) (rs : List Record) → count_of call rs ≤ 1
    → ((r : Record) → flight_of rs call ≡ Some r → g (f r.path) ≡ r.path)
    → map (changed call g) (map (changed call f) rs) ≡ rs
changed_back call f g [] most back = refl
changed_back call f g (r ∷ rs) most back = step (bytes_eq r.call call) refl most back (changed_back call f g rs) where
  rest_of : List Record
  rest_of = map (changed call g) (map (changed call f) rs)

  none_there : (rs : List Record) → count_of call rs ≡ 0 → is_some (flight_of rs call) ≡ false
  none_there [] zero_is = refl
  none_there (x ∷ xs) zero_is = at (bytes_eq x.call call) (none_there xs) zero_is where
    at : (b : Bool) → (count_of call xs ≡ 0 → is_some (flight_of xs call) ≡ false) → (if b then 1 else 0) + count_of call xs ≡ 0
        → is_some (if b then Some x else flight_of xs call) ≡ false
    at true rest zero_is = absurd (omega arith)
    at false rest zero_is = rest (omega arith)

  step : (b : Bool) → bytes_eq r.call call ≡ b → (if b then 1 else 0) + count_of call rs ≤ 1
      → ((x : Record) → (if b then Some r else flight_of rs call) ≡ Some x → g (f x.path) ≡ x.path)
      → (count_of call rs ≤ 1 → ((x : Record) → flight_of rs call ≡ Some x → g (f x.path) ≡ x.path) → rest_of ≡ rs)
      → changed call g (changed call f r) ∷ rest_of ≡ r ∷ rs
  step true e most back rest =
      let zero_is : count_of call rs ≡ 0 = omega arith in
      let no_other = none_there rs zero_is in
      let same = rest (omega arith) (λ x is. let there : is_some (flight_of rs call) ≡ true = ap is_some is in cc) in
      rw (e, back r refl, same) refl
  step false e most back rest = let same = rest (omega arith) back in rw (e, same) refl

-- each entry leaves at most one flight of a callsign
pub count_after : (setup : Setup) (call : List ℕ) (s : State) (who : ℕ) (c : Command) (e : Entry) → decision_of setup s who c ≡ Ok e
    → count_of call s.records ≤ 1 → count_of call (records_after setup who c s.records) ≤ 1
count_after setup call s who (Plan own kind route at from level rvsm) e is most =
    count_filed call s.records (record { call = own; path = Planned (course_of setup kind route at from level rvsm) }) most
    (none_is (is_some (flight_of s.records own)) (passed_by setup s who (Plan own kind route at from level rvsm) e is).0)
count_after setup call s who (External own straight) e is most =
    count_filed call s.records (record { call = own; path = Outer straight }) most
    (none_is (is_some (flight_of s.records own)) (passed_by setup s who (External own straight) e is).0)
count_after setup call s who (Drop own) e is most = let kept = count_kept call (λ flight. not (bytes_eq flight.call own)) s.records in omega arith
count_after setup call s who (Tick now) e is most = most
count_after setup call s who (commands.Report own report) e is most = rw (count_changed call own (reported_path setup report) s.records) most
count_after setup call s who (Renew own) e is most = rw (count_changed call own (renewed_path setup) s.records) most
count_after setup call s who (Clear own clearance eff) e is most =
    rw (count_changed call own (cleared_path setup clearance (unwrap_or eff 0)) s.records) most
count_after setup call s who (Accept own clearance eff probed) e is most =
    rw (count_changed call own (cleared_path setup clearance eff) s.records) most
count_after setup call s who (Tentative own clearance eff) e is most =
    rw (count_changed call own (marked_path setup who clearance (unwrap_or eff 0)) s.records) most
count_after setup call s who (Withdraw own force) e is most = rw (count_changed call own bare_path s.records) most
count_after setup call s who (Commit own) e is most = rw (count_changed call own committed_path s.records) most

-- at most one flight has a callsign
pub one_flight : (setup : Setup) (call : List ℕ) (h rest : List Entry) → count_of call (state_of setup h).records ≤ 1 → IsReplayable setup (h ++ rest)
    → count_of call (state_of setup (h ++ rest)).records ≤ 1
one_flight setup call h [] most replayable = rw (append-nil h) most
one_flight setup call h (e ∷ es) most replayable =
    let whole : IsReplayable setup ((h ++ e ∷ []) ++ es) = rw (append_assoc h (e ∷ []) es) replayable in
    let decided = decided_at setup h e es replayable in
    let after : count_of call (state_of setup (h ++ e ∷ [])).records ≤ 1 =
    rw (state_of-push setup h e) (count_after setup call (state_of setup h) e.who e.command e decided.0 most) in
    let rest = one_flight setup call (h ++ e ∷ []) es after whole in
    rw (append_assoc h (e ∷ []) es) at rest
