-- The names of a route that are ahead of a place.
use Rattle.std.proofs.Common.{◌≡◌, ℕ, suc, ◌+◌, ◌-◌, List, length, drop, position, Some, None, ap, ◌∙◌, arith, refl, length-drop}
use Rattle.std.specs.List.{slice_range}
use Rattle.std.specs.Str.{bytes_eq}
use Rattle.std.proofs.lemmas.List.{take_all}
use Rattle.mt_base.specs.Cleared.{place_further_on}

rest_is : (names : List (List ℕ)) (at : ℕ) → slice_range names at (length names) ≡ drop at names
rest_is names at = take_all (length names - at) (drop at names) (omega (arith, length-drop at names))

pub behind_is : (names behind : List (List ℕ)) (place : ℕ) → behind ≡ slice_range names (place + 1) (length names) → behind ≡ drop (suc place) names
behind_is names behind place is =
    let e : place + 1 ≡ suc place = omega arith in
    is ∙ rest_is names (place + 1) ∙ ap (λ (k : ℕ). drop k names) e

-- where the fix stands, and where it doesn't
pub place_is : (route behind : List (List ℕ)) (fix : List ℕ) (place further : ℕ) → behind ≡ drop (suc place) route → Some further ≡ position (bytes_eq fix) behind
    → Some (place + 1 + further) ≡ place_further_on route place fix
place_is route behind fix place further is stands =
    let e : place + 1 + further ≡ suc place + further = omega arith in
    let p : Some further ≡ position (bytes_eq fix) (drop (suc place) route) = rw is at stands in
    rw (← p) (ap Some e)

pub none_ahead : (route behind : List (List ℕ)) (fix : List ℕ) (place : ℕ) → behind ≡ drop (suc place) route → None ≡ position (bytes_eq fix) behind
    → None ≡ place_further_on route place fix
none_ahead route behind fix place is none =
    let p : None ≡ position (bytes_eq fix) (drop (suc place) route) = rw is at none in
    rw (← p) refl
