-- The course of a plan that passed its checks.
use Rattle.std.proofs.Common.{◌≡◌, ℕ, ◌≤◌, Bool, true, List, ◌++◌, length, map, refl, arith}
use Rattle.std.proofs.lemmas.Int.{ints}
use Rattle.std.proofs.lemmas.Bool.Decides.{nat_tests}
use Rattle.std.proofs.lemmas.List.{map-append}
use Rattle.std.specs.List.{AllByRecursion}
use Rattle.std.specs.Prelude.{nat_le, is_some}
use Rattle.mt_base.specs.declared.command.Refusal.{Refusal}
use Rattle.mt_base.specs.declared.flight.Course.{Course}
use Rattle.mt_base.specs.declared.route.RouteNo.{RouteNo}
use Rattle.mt_base.specs.Bounds.{AreWithinBounds, IsInPlane, IsSoundCourse}
use Rattle.mt_base.specs.Checks.{judged}
use Rattle.mt_base.specs.Decision.{refusal_of, route_checks}
use Rattle.mt_base.specs.Effect.{course_of, first_of_points}
use Rattle.mt_base.specs.Predictor.{points_of}
use Rattle.mt_base.specs.Tables.{Setup, Tables, bands_of, fix_checks, length_checks}
use Rattle.mt_base.proofs.CheckLemmas.{all_pass, all_passed}
use Rattle.mt_change.proofs.Passed.{halves, ok_is}

-- a route whose checks are passed has 2 to 64 names
names_of_route : (tables : Tables) (route : List (List ℕ)) → AllByRecursion (λ c. c.1 ≡ true) (route_checks tables route)
    → (2 ≤ length route) × (length route ≤ 64)
names_of_route tables route tests =
    let split : AllByRecursion (λ (c : Refusal × Bool). c.1 ≡ true) (map (λ (c : RouteNo × Bool). (refusal_of c.0, c.1)) (fix_checks tables route)
    ++ map (λ (c : RouteNo × Bool). (refusal_of c.0, c.1)) (length_checks route))
    = rw (← map-append {B = Refusal × Bool} (λ c. (refusal_of c.0, c.1)) (fix_checks tables route) (length_checks route)) tests in
    let lengths = (halves (λ (c : Refusal × Bool). c.1 ≡ true) (map (λ (c : RouteNo × Bool). (refusal_of c.0, c.1)) (fix_checks tables route)) _ split).1 in
    let enough : nat_le 2 (length route) ≡ true = lengths.0 in
    let few : nat_le (length route) 64 ≡ true = lengths.1.0 in
    (grind (arith, nat_tests), grind (arith, nat_tests))

-- a sound course has at most 64 names
pub few_names : (setup : Setup) (course : Course) → IsSoundCourse setup course → length course.route ≤ 64
few_names setup course sound =
    (names_of_route setup.tables course.route (all_passed (route_checks setup.tables course.route) (tt {0}) (rw sound.route refl))).1

-- the course of a plan that passed its checks is sound
pub sound_course : (setup : Setup) (kind : List ℕ) (route : List (List ℕ)) (at from level : ℕ) (rvsm : Bool) → AreWithinBounds setup.rules
    → at ≤ 10000000 → from ≤ 600 → level ≤ 600 → IsInPlane (first_of_points (points_of setup.tables route)).x (first_of_points (points_of setup.tables route)).y
    → is_some (bands_of setup.tables kind) ≡ true → AllByRecursion (λ c. c.1 ≡ true) (route_checks setup.tables route)
    → IsSoundCourse setup (course_of setup kind route at from level rvsm)
sound_course setup kind route at from level rvsm rules at_early from_low level_low plane known tests = record {
  kind = known;
  route = ok_is (judged (route_checks setup.tables route) (tt {0})) (all_pass (route_checks setup.tables route) (tt {0}) tests);
  level = level_low;
  base = record {
    early = at_early;
    plane = plane;
    height = record { least = omega (arith, ints); most = omega (arith, ints) };
    r = rules.r0;
    w = rules.w0;
    next = let enough = (names_of_route setup.tables route tests).0 in omega arith;
  };
  mark = tt;
  last = tt;
  due = λ due. cc;
}
