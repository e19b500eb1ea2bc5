-- What a sound course says of its route.
use Rattle.std.proofs.Common.{◌≡◌, ℕ, ◌≤◌, Ok, true, List, [], ◌∷◌, ◌++◌, map, length, Bool, Result, is_ok, ap, sym, ◌∙◌}
use Rattle.std.specs.List.{AllByRecursion}
use Rattle.std.specs.Prelude.{⊤}
use Rattle.mt_base.specs.declared.command.Refusal.{Refusal}
use Rattle.mt_base.specs.declared.route.RouteNo.{RouteNo}
use Rattle.mt_base.specs.Checks.{judged}
use Rattle.mt_base.specs.Decision.{refusal_of, route_checks}
use Rattle.mt_base.specs.Tables.{Tables, fix_checks, length_checks}
use Rattle.mt_base.proofs.CheckLemmas.{all_passed, judged-map, renamed}
use Rattle.mt_predict.proofs.Remains.{enough_from}

passed_behind : (tables : Tables) (names : List (List ℕ)) (cs : List (RouteNo × Bool))
    → AllByRecursion (λ (c : Refusal × Bool). c.1 ≡ true) (map (λ c. (refusal_of c.0, c.1)) (fix_checks tables names ++ cs))
    → AllByRecursion (λ (c : Refusal × Bool). c.1 ≡ true) (map (λ c. (refusal_of c.0, c.1)) cs)
passed_behind tables [] cs all = all
passed_behind tables (n ∷ ns) cs all = passed_behind tables ns cs all.1

-- it has at most 64 names
pub route_short : (tables : Tables) (route : List (List ℕ)) → judged (route_checks tables route) (tt {0}) ≡ Ok (tt {0}) → length route ≤ 64
route_short tables route passes =
    let all = all_passed (route_checks tables route) (tt {0}) (ap (λ (r : Result ⊤ Refusal). is_ok r) passes) in
    let lengths = passed_behind tables route (length_checks route) all in
    enough_from (length route) 64 lengths.1.0

-- a route whose checks are passed
pub route_passes : (tables : Tables) (route : List (List ℕ)) → Ok (tt {0}) ≡ judged (fix_checks tables route ++ length_checks route) (tt {0})
    → judged (route_checks tables route) (tt {0}) ≡ Ok (tt {0})
route_passes tables route passes =
    judged-map refusal_of (fix_checks tables route ++ length_checks route) (tt {0}) ∙ ap (λ (r : Result ⊤ RouteNo). renamed refusal_of r) (sym passes)
