-- Bounds put into the windows of a page.
use Rattle.std.proofs.Common.{◌≡◌, ◌≢◌, ◌<◌, ◌∙◌, ⊎_elim, ℕ, List, None, Option, get_or, ap, sym}
use Rattle.std.proofs.lemmas.Bool.{cases_eq}
use Rattle.mt_meet.specs.Private.Boxing.{bounds_in}
use Rattle.mt_meet.specs.declared.boxes.Boxes.{Boxes}

-- what stays of the other items where those of one item change in a window
pub beside_on : (before now after : List (Option Boxes)) (window place : ℕ)
    → ((r other : ℕ) → other < 64 → other ≢ place → bounds_in (get_or now r None) other ≡ bounds_in (get_or before r None) other)
    → ((other : ℕ) → other < 64 → other ≢ place → bounds_in (get_or after window None) other ≡ bounds_in (get_or now window None) other)
    → ((r : ℕ) → r ≢ window → get_or after r None ≡ get_or now r None)
    → (r other : ℕ) → other < 64 → other ≢ place → bounds_in (get_or after r None) other ≡ bounds_in (get_or before r None) other
beside_on before now after window place so_far beside elsewhere r other within apart = ⊎_elim
    (λ here. ap (λ (m : ℕ). bounds_in (get_or after m None) other) here ∙ beside other within apart
    ∙ sym (ap (λ (m : ℕ). bounds_in (get_or now m None) other) here) ∙ so_far r other within apart)
    (λ there. ap (λ (b : Option Boxes). bounds_in b other) (elsewhere r there) ∙ so_far r other within apart)
    (cases_eq r window)
