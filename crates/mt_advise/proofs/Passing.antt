-- No check refuses a candidate, and each is bounded.
use Rattle.std.proofs.Common.{◌≡◌, Bool, true, false, not, ℕ, zero, suc, ◌<◌, ◌≤◌, ◌+◌, ◌-◌, List, [], ◌∷◌, ◌++◌, Option, Some, None, Result, Ok, Err, All, map, take, drop, length, refl, arith, if◌then◌else◌}
use Rattle.std.proofs.lemmas.Bool.Decides.{nat_tests}
use Rattle.std.proofs.lemmas.List.Elements.{All-from_recursion, recursion_from_All}
use Rattle.std.proofs.lemmas.Map.Entries.{All-lookup}
use Rattle.std.proofs.lemmas.Slice.Eq.{bytes_eq-Decides}
use Rattle.std.specs.List.{AllByRecursion, filter, position_or_len}
use Rattle.std.specs.Prelude.{is_some, unwrap_or, nat_le, nat_lt, IfSome, IsOk, ⊤}
use Rattle.std.specs.Str.{bytes_eq}
use Rattle.mt_base.specs.declared.band.Band.{Band}
use Rattle.mt_base.specs.declared.clearance.Clearance.{Clearance}
use Rattle.mt_base.specs.declared.clearance.Clearance.TheVariants.{Level, Direct}
use Rattle.mt_base.specs.declared.command.Refusal.{Refusal}
use Rattle.mt_base.specs.declared.command.Refusal.TheVariants.{UnknownCall, Fixed, Ended}
use Rattle.mt_base.specs.declared.flight.Base.{Base}
use Rattle.mt_base.specs.declared.flight.Course.{Course}
use Rattle.mt_base.specs.declared.flight.Path.TheVariants.{Planned, Outer}
use Rattle.mt_base.specs.declared.flight.Record.{Record}
use Rattle.mt_base.specs.declared.flight.Straight.{Straight}
use Rattle.mt_base.specs.declared.route.RouteNo.{RouteNo}
use Rattle.mt_base.specs.Bounds.{AreBoundedBands, AreBoundedTables, IsBoundedBand, IsBoundedClearance, IsSoundCourse}
use Rattle.mt_base.specs.Checks.{check_answer, judged}
use Rattle.mt_base.specs.Cleared.{place_further_on}
use Rattle.mt_base.specs.Decision.{refusal_of, route_checks}
use Rattle.mt_base.specs.Picture.{State, flight_of}
use Rattle.mt_base.specs.Tables.{Setup, Tables, bands_of, ceiling_of, fix_of, fix_checks, length_checks}
use Rattle.mt_base.specs.WhatIf.{what_if_checks}
use Rattle.mt_base.proofs.CheckLemmas.{all_pass, all_passed}
use Rattle.mt_base.proofs.Members.{both_all}
use Rattle.mt_advise.specs.Trying.{CanBeTried, FliesOn}
use Rattle.mt_base.specs.Advice.{advice_checks, base_now, candidates, candidates_in, each_once, level_up_to, levels_beside, levels_near, names_ahead}

abbrev ceiling_for : Tables → Course → ℕ
ceiling_for tables course = ceiling_of (unwrap_or (bands_of tables course.kind) [])

abbrev IsCandidate : Tables → Course → Base → Clearance → Type 0
IsCandidate tables course base (Level level) = nat_le level (ceiling_for tables course) ≡ true
IsCandidate tables course base (Direct fix) = (is_some (fix_of tables fix) ≡ true) × (is_some (place_further_on course.route base.next fix) ≡ true)

level_is : (tables : Tables) (course : Course) (base : Base) (level : ℕ) → AllByRecursion (IsCandidate tables course base) (level_up_to (ceiling_for tables course) level)
level_is tables course base level = by_test (nat_le level (ceiling_for tables course)) refl where
  by_test : (b : Bool) → nat_le level (ceiling_for tables course) ≡ b → AllByRecursion (IsCandidate tables course base) (if b then Level level ∷ [] else [])
  by_test true e = (e, tt)
  by_test false e = tt

beside_are : (tables : Tables) (course : Course) (base : Base) (level step : ℕ)
    → AllByRecursion (IsCandidate tables course base) (levels_beside (ceiling_for tables course) level step)
beside_are tables course base level step =
    both_all (IsCandidate tables course base) (level_up_to (ceiling_for tables course) (level + step)) _ (level_is tables course base (level + step)) (by_test (nat_le step level)) where
      by_test : (b : Bool) → AllByRecursion (IsCandidate tables course base) (if b then level_up_to (ceiling_for tables course) (level - step) else [])
      by_test true = level_is tables course base (level - step)
      by_test false = tt

levels_are : (tables : Tables) (course : Course) (base : Base) (level : ℕ) → AllByRecursion (IsCandidate tables course base) (levels_near (ceiling_for tables course) level)
levels_are tables course base level =
    let P = IsCandidate tables course base in
    let f = levels_beside (ceiling_for tables course) level in
    both_all P (f 10) _ (beside_are tables course base level 10) (both_all P (f 20) _ (beside_are tables course base level 20)
    (both_all P (f 30) _ (beside_are tables course base level 30) (both_all P (f 40) [] (beside_are tables course base level 40) tt)))

-- what holds of each name holds of some of them
all_filtered : (P : List ℕ → Type 0) (p : List ℕ → Bool) (ns : List (List ℕ)) → AllByRecursion P ns → AllByRecursion P (filter p ns)
all_filtered P p [] all = tt
all_filtered P p (n ∷ ns) all = by_test (p n) (all_filtered P p ns all.1) where
  by_test : (b : Bool) → AllByRecursion P (filter p ns) → AllByRecursion P (if b then n ∷ filter p ns else filter p ns)
  by_test true rest = (all.0, rest)
  by_test false rest = rest

all_once : (P : List ℕ → Type 0) (ns : List (List ℕ)) → AllByRecursion P ns → AllByRecursion P (each_once ns)
all_once P [] all = tt
all_once P (n ∷ ns) all = (all.0, all_filtered P (λ m. not (bytes_eq n m)) (each_once ns) (all_once P ns all.1))

all_taken : (P : List ℕ → Type 0) (k : ℕ) (ns : List (List ℕ)) → AllByRecursion P ns → AllByRecursion P (take k ns)
all_taken P zero ns all = tt
all_taken P (suc k) [] all = tt
all_taken P (suc k) (n ∷ ns) all = (all.0, all_taken P k ns all.1)

all_dropped : (P : List ℕ → Type 0) (k : ℕ) (ns : List (List ℕ)) → AllByRecursion P ns → AllByRecursion P (drop k ns)
all_dropped P zero ns all = all
all_dropped P (suc k) [] all = tt
all_dropped P (suc k) (n ∷ ns) all = all_dropped P k ns all.1

each_known : (tables : Tables) (names : List (List ℕ)) (cs : List (RouteNo × Bool))
    → AllByRecursion (λ (c : Refusal × Bool). c.1 ≡ true) (map (λ c. (refusal_of c.0, c.1)) (fix_checks tables names ++ cs))
    → AllByRecursion (λ n. is_some (fix_of tables n) ≡ true) names
each_known tables [] cs all = tt
each_known tables (n ∷ ns) cs all = (all.0, each_known tables ns cs all.1)

-- each name stands at some place
abbrev StandsIn : List (List ℕ) → List ℕ → Type 0
StandsIn ns n = position_or_len (bytes_eq n) ns < length ns

later : (m : List ℕ) (ns ks : List (List ℕ)) → AllByRecursion (StandsIn ns) ks → AllByRecursion (StandsIn (m ∷ ns)) ks
later m ns [] all = tt
later m ns (k ∷ ks) all = (by_test (bytes_eq k m) (position_or_len (bytes_eq k) ns) all.0, later m ns ks all.1) where
  by_test : (b : Bool) (at : ℕ) → at < length ns → (if not b then 1 + at else 0) < suc (length ns)
  by_test true at below = omega arith
  by_test false at below = omega (arith, below)

each_stands : (ns : List (List ℕ)) → AllByRecursion (StandsIn ns) ns
each_stands [] = tt
each_stands (n ∷ ns) = (by_test (bytes_eq n n) ((bytes_eq-Decides n n).1 refl), later n ns ns (each_stands ns)) where
  by_test : (b : Bool) → b ≡ true → (if not b then 1 + position_or_len (bytes_eq n) ns else 0) < suc (length ns)
  by_test true e = omega arith
  by_test false e = cc

directs : (tables : Tables) (course : Course) (base : Base) (ns : List (List ℕ)) → AllByRecursion (λ n. is_some (fix_of tables n) ≡ true) ns
    → AllByRecursion (StandsIn (drop (suc base.next) course.route)) ns
    → AllByRecursion (IsCandidate tables course base) (map Direct ns)
directs tables course base [] known stand = tt
directs tables course base (n ∷ ns) known stand =
    ((known.0, behind stand.0), directs tables course base ns known.1 stand.1) where
      behind : StandsIn (drop (suc base.next) course.route) n → is_some (place_further_on course.route base.next n) ≡ true
      behind below =
          let e : nat_lt (position_or_len (bytes_eq n) (drop (suc base.next) course.route)) (length (drop (suc base.next) course.route)) ≡ true = grind (arith, nat_tests) in
          rw e refl

candidates_are : (setup : Setup) (course : Course) (base : Base) → IsSoundCourse setup course
    → AllByRecursion (IsCandidate setup.tables course base) (candidates setup.tables course base)
candidates_are setup course base sound =
    let all = all_passed (route_checks setup.tables course.route) (tt {0}) (rw sound.route refl) in
    let known = each_known setup.tables course.route (length_checks course.route) all in
    let K : List ℕ → Type 0 = λ n. is_some (fix_of setup.tables n) ≡ true in
    let behind = drop (suc base.next) course.route in
    let S = StandsIn behind in
    both_all (IsCandidate setup.tables course base) (levels_near (ceiling_for setup.tables course) course.level) (map Direct (names_ahead course.route base.next))
    (levels_are setup.tables course base course.level)
    (directs setup.tables course base (names_ahead course.route base.next)
    (all_once K (take 8 behind) (all_taken K 8 behind (all_dropped K (suc base.next) course.route known)))
    (all_once S (take 8 behind) (all_taken S 8 behind (each_stands behind))))

-- a ceiling is at most 600
top_bounded : (bands : List Band) → AllByRecursion IsBoundedBand bands → ceiling_of bands ≤ 600
top_bounded [] all = omega arith
top_bounded (b ∷ []) all = all.0.top.1
top_bounded (b ∷ c ∷ bs) all = top_bounded (c ∷ bs) all.1

ceiling_bounded : (tables : Tables) (course : Course) → AreBoundedTables tables → ceiling_for tables course ≤ 600
ceiling_bounded tables course kept = by_bands (bands_of tables course.kind) (All-lookup AreBoundedBands _ tables.types kept.types) where
  by_bands : (bands : Option (List Band)) → IfSome bands AreBoundedBands → ceiling_of (unwrap_or bands []) ≤ 600
  by_bands None bounded = omega arith
  by_bands (Some bands) bounded = top_bounded bands (recursion_from_All IsBoundedBand bands bounded.each)

-- each candidate is bounded
one_bounded : (tables : Tables) (course : Course) (base : Base) → AreBoundedTables tables → (c : Clearance) → IsCandidate tables course base c → IsBoundedClearance c
one_bounded tables course base kept (Level level) candidate =
    let most = ceiling_bounded tables course kept in
    let low : level ≤ ceiling_for tables course = grind (arith, nat_tests) in
    omega (arith, low, most)
one_bounded tables course base kept (Direct fix) candidate = tt

-- what is told of a flight that isn't there, of an external one, of one that has ended, and of one that is advised
pub none_there : (setup : Setup) (now : ℕ) (at : Option Record) (call : List ℕ) → at ≡ None
    → judged (advice_checks setup now at call) (tt {0}) ≡ Err (UnknownCall call)
unfolding check_answer
none_there setup now at call none = rw none refl

pub one_outer : (setup : Setup) (now : ℕ) (at : Option Record) (flight : Record) (stretch : Straight) (call : List ℕ) → at ≡ Some flight
    → flight.path ≡ Outer stretch → judged (advice_checks setup now at call) (tt {0}) ≡ Err Fixed
unfolding check_answer
one_outer setup now at flight stretch call is outer = rw (is, outer) refl

pub one_ended : (setup : Setup) (now : ℕ) (at : Option Record) (flight : Record) (course : Course) (call : List ℕ) → at ≡ Some flight
    → flight.path ≡ Planned course → base_now setup now course ≡ None → judged (advice_checks setup now at call) (tt {0}) ≡ Err Ended
unfolding check_answer
one_ended setup now at flight course call is planned none = rw (is, planned, none) refl

pub one_advised : (setup : Setup) (now : ℕ) (at : Option Record) (flight : Record) (course : Course) (base : Base) (call : List ℕ) → at ≡ Some flight
    → flight.path ≡ Planned course → base_now setup now course ≡ Some base → judged (advice_checks setup now at call) (tt {0}) ≡ Ok (tt {0})
unfolding check_answer
one_advised setup now at flight course base call is planned from = rw (is, planned, from) refl

-- the candidates in a state are those of its flight
pub candidates_is : (setup : Setup) (s : State) (flight : Record) (course : Course) (base : Base) (call : List ℕ) → flight_of s.records call ≡ Some flight
    → flight.path ≡ Planned course → base_now setup s.now course ≡ Some base → candidates_in setup s call ≡ candidates setup.tables course base
candidates_is setup s flight course base call is planned from = rw (is, planned, from) refl

-- checks whose tests hold refuse nothing
all_checked : (cs : List (Refusal × Bool)) → AllByRecursion (λ c. c.1 ≡ true) cs → judged cs (tt {0}) ≡ Ok (tt {0})
all_checked cs all = ok_is (judged cs (tt {0})) (all_pass cs (tt {0}) all) where
  ok_is : (r : Result ⊤ Refusal) → IsOk r → r ≡ Ok (tt {0})
  ok_is (Ok _) ok = refl
  ok_is (Err f) ok = cc

one_can : (setup : Setup) (s : State) (course : Course) (base : Base) (call : List ℕ) (c : Clearance) → FliesOn setup s call course base
    → IsCandidate setup.tables course base c → CanBeTried setup s call c
one_can setup s course base call (Level level) flies candidate =
    let same : nat_le s.now s.now ≡ true = grind (arith, nat_tests) in
    record {
      bounded = one_bounded setup.tables course base flies.tables (Level level) candidate;
      passed = all_checked (what_if_checks setup s.now (flight_of s.records call) call (Level level) s.now)
          (rw (flies.there, flies.planned) (refl, (refl, (rw flies.from refl, (candidate, (same, tt))))));
    }
one_can setup s course base call (Direct fix) flies candidate =
    let same : nat_le s.now s.now ≡ true = grind (arith, nat_tests) in
    record {
      bounded = tt;
      passed = all_checked (what_if_checks setup s.now (flight_of s.records call) call (Direct fix) s.now)
          (rw (flies.there, flies.planned) (refl, (refl, (candidate.0, (rw flies.from refl, (rw flies.from candidate.1, (same, tt)))))));
    }

all_can : (setup : Setup) (s : State) (course : Course) (base : Base) (call : List ℕ) → FliesOn setup s call course base → (cs : List Clearance)
    → AllByRecursion (IsCandidate setup.tables course base) cs → AllByRecursion (CanBeTried setup s call) cs
all_can setup s course base call flies [] all = tt
all_can setup s course base call flies (c ∷ cs) all =
    (one_can setup s course base call c flies all.0, all_can setup s course base call flies cs all.1)

-- each candidate can be tried
pub candidates_can : (setup : Setup) (s : State) (course : Course) (base : Base) (call : List ℕ) → FliesOn setup s call course base
    → All (CanBeTried setup s call) (candidates setup.tables course base)
candidates_can setup s course base call flies =
    All-from_recursion (CanBeTried setup s call) (candidates setup.tables course base)
    (all_can setup s course base call flies (candidates setup.tables course base) (candidates_are setup course base flies.sound))
