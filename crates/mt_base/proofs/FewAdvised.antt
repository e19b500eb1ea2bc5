-- How many clearances are tried, and advised, at most.
use Rattle.std.proofs.Common.{Bool, true, false, not, ℕ, zero, suc, ◌≤◌, ◌+◌, ◌-◌, List, [], ◌∷◌, ◌++◌, Option, Some, None, map, take, drop, length, length-append, arith, if◌then◌else◌}
use Rattle.std.proofs.lemmas.List.{length-map}
use Rattle.std.specs.List.{filter}
use Rattle.std.specs.Option.{option_map_or}
use Rattle.std.specs.Prelude.{nat_le, unwrap_or}
use Rattle.std.specs.Str.{bytes_eq}
use Rattle.mt_base.specs.declared.clearance.Clearance.{Clearance}
use Rattle.mt_base.specs.declared.clearance.Clearance.TheVariants.{Level, Direct}
use Rattle.mt_base.specs.declared.flight.Base.{Base}
use Rattle.mt_base.specs.declared.flight.Course.{Course}
use Rattle.mt_base.specs.Picture.{State, flight_of}
use Rattle.mt_base.specs.Tables.{Setup, Tables, bands_of, ceiling_of}
use Rattle.mt_base.specs.WhatIf.{course_in}
use Rattle.mt_base.specs.Advice.{base_now, candidates, candidates_for, candidates_in, each_once, level_up_to, levels_beside, levels_near, names_ahead}

pub few_filtered : {X : Type 0} (p : X → Bool) (xs : List X) → length (filter p xs) ≤ length xs
few_filtered p [] = omega arith
few_filtered p (x ∷ xs) = by_test (p x) (few_filtered p xs) where
  by_test : (b : Bool) → length (filter p xs) ≤ length xs → length (if b then x ∷ filter p xs else filter p xs) ≤ suc (length xs)
  by_test true rest = omega (arith, rest)
  by_test false rest = omega (arith, rest)

few_once : (ns : List (List ℕ)) → length (each_once ns) ≤ length ns
few_once [] = omega arith
few_once (n ∷ ns) =
    let rest = few_once ns in
    let some = few_filtered (λ m. not (bytes_eq n m)) (each_once ns) in
    omega (arith, rest, some)

few_taken : (k : ℕ) (ns : List (List ℕ)) → length (take k ns) ≤ k
few_taken zero ns = omega arith
few_taken (suc k) [] = omega arith
few_taken (suc k) (n ∷ ns) = let rest = few_taken k ns in omega (arith, rest)

one_level : (ceiling level : ℕ) → length (level_up_to ceiling level) ≤ 1
one_level ceiling level = by_test (nat_le level ceiling) where
  by_test : (b : Bool) → length (if b then Level level ∷ [] else []) ≤ 1
  by_test true = omega arith
  by_test false = omega arith

two_levels : (ceiling level step : ℕ) → length (levels_beside ceiling level step) ≤ 2
two_levels ceiling level step = by_test (nat_le step level) where
  by_test : (b : Bool) → length (level_up_to ceiling (level + step) ++ (if b then level_up_to ceiling (level - step) else [])) ≤ 2
  by_test true =
      let a = one_level ceiling (level + step) in
      let b = one_level ceiling (level - step) in
      omega (arith, a, b, length-append (level_up_to ceiling (level + step)) (level_up_to ceiling (level - step)))
  by_test false =
      let a = one_level ceiling (level + step) in
      omega (arith, a, length-append (level_up_to ceiling (level + step)) [])

eight_levels : (ceiling level : ℕ) → length (levels_near ceiling level) ≤ 8
eight_levels ceiling level =
    let f = levels_beside ceiling level in
    let a = two_levels ceiling level 10 in
    let b = two_levels ceiling level 20 in
    let c = two_levels ceiling level 30 in
    let d = two_levels ceiling level 40 in
    let all : length (f 10 ++ (f 20 ++ (f 30 ++ (f 40 ++ [])))) ≤ 8 =
    omega (
      arith,
      a,
      b,
      c,
      d,
      length-append (f 10) (f 20 ++ (f 30 ++ (f 40 ++ []))),
      length-append (f 20) (f 30 ++ (f 40 ++ [])),
      length-append (f 30) (f 40 ++ []),
      length-append (f 40) [],
    ) in
    all

few_candidates : (tables : Tables) (course : Course) (base : Base) → length (candidates tables course base) ≤ 16
few_candidates tables course base =
    let levels : List Clearance = levels_near (ceiling_of (unwrap_or (bands_of tables course.kind) [])) course.level in
    let ahead = take 8 (drop (suc base.next) course.route) in
    let names = names_ahead course.route base.next in
    let a = eight_levels (ceiling_of (unwrap_or (bands_of tables course.kind) [])) course.level in
    let b = few_once ahead in
    let e = few_taken 8 (drop (suc base.next) course.route) in
    let all : length (levels ++ map Direct names) ≤ 16 = omega (arith, a, b, e, length-append levels (map Direct names), length-map {B = Clearance} names Direct) in
    all

pub few_in : (setup : Setup) (s : State) (call : List ℕ) → length (candidates_in setup s call) ≤ 16
few_in setup s call = by_course (course_in (flight_of s.records call)) where
  by_base : (course : Course) (at : Option Base) → length (option_map_or (candidates setup.tables course) at []) ≤ 16
  by_base course None = omega arith
  by_base course (Some base) = few_candidates setup.tables course base

  by_course : (at : Option Course) → length (option_map_or (candidates_for setup s.now) at []) ≤ 16
  by_course None = omega arith
  by_course (Some course) = by_base course (base_now setup s.now course)
