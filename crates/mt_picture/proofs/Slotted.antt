-- The places of slots.
use Rattle.std.proofs.Common.{◌≡◌, ℕ, zero, suc, ◌+◌, ◌*◌, ◌/◌, ◌<◌, set, length, ◌⊎◌, inl, inr, ⊎_elim, List, [], ◌∷◌, Option, Some, None, get_or, option_map, refl, sym, ◌∙◌, ap, ap₂, arith}
use Rattle.std.proofs.lemmas.Bool.{cases_lt}
use Rattle.mt_base.specs.declared.conflict.Kind.{Kind}
use Rattle.mt_base.specs.declared.conflict.Kind.TheVariants.{Actual, Tentative}
use Rattle.mt_base.specs.Picture.{NamedTrajectory}
use Rattle.mt_kept.specs.Places.{at}
use Rattle.mt_probe.specs.declared.flight.Flight.{Flight}
use Rattle.mt_probe.specs.Items.{kind_at}
use Rattle.mt_probe.specs.Shot.{made_of}
use Rattle.mt_probe.proofs.Covered.{even_half, even_kind, odd_half, odd_kind}
use Rattle.mt_picture.specs.Private.Places.{all_places, first_of, made_of_kind, other_kind, place_in, place_kind, second_of}

pub length_places : (slots : List (Option Flight)) → length (all_places slots) ≡ 2 * length slots
length_places [] = refl
length_places (s ∷ slots) = let rest = length_places slots in omega arith

at_none : (n : ℕ) → at [] n ≡ None
at_none zero = refl
at_none (suc n) = refl

pub at_first : (slots : List (Option Flight)) (i : ℕ) → at (all_places slots) (2 * i) ≡ first_of (get_or slots i None)
at_first [] zero = refl
at_first [] (suc i) = at_none (2 * suc i)
at_first (s ∷ slots) zero = refl
at_first (s ∷ slots) (suc i) = let e : 2 * suc i ≡ suc (suc (2 * i)) = omega arith in rw e (at_first slots i)

pub at_second : (slots : List (Option Flight)) (i : ℕ) → at (all_places slots) (2 * i + 1) ≡ second_of (get_or slots i None)
at_second [] zero = refl
at_second [] (suc i) = at_none (2 * suc i + 1)
at_second (s ∷ slots) zero = refl
at_second (s ∷ slots) (suc i) = let e : 2 * suc i + 1 ≡ suc (suc (2 * i + 1)) = omega arith in rw e (at_second slots i)

-- ---- a place, by its slot and its kind

halves : (i : ℕ) → (i ≡ 2 * (i / 2)) ⊎ (i ≡ 2 * (i / 2) + 1)
halves i = ⊎_elim (λ below. inl (omega arith)) (λ above. inr (omega arith)) (cases_lt i (2 * (i / 2) + 1))

pub place_back : (i : ℕ) → place_in (i / 2) (kind_at i) ≡ i
place_back i = ⊎_elim
    (λ even. ap (place_in (i / 2)) (ap kind_at even ∙ even_kind (i / 2)) ∙ sym even)
    (λ odd. ap (place_in (i / 2)) (ap kind_at odd ∙ odd_kind (i / 2)) ∙ sym odd)
    (halves i)

pub place_half : (slot : ℕ) (kind : Kind) → place_in slot kind / 2 ≡ slot
place_half slot Actual = even_half slot
place_half slot Tentative = odd_half slot

pub place_kind_is : (slot : ℕ) (kind : Kind) → kind_at (place_in slot kind) ≡ kind
place_kind_is slot Actual = even_kind slot
place_kind_is slot Tentative = odd_kind slot

pub kind_made_of : (f : Flight) (kind : Kind) → place_kind kind (Some f) ≡ option_map (made_of_kind f kind) (made_of f kind)
kind_made_of f Actual = refl
kind_made_of f Tentative = refl

pub place_inside : (slots : List (Option Flight)) (slot : ℕ) (kind : Kind) → slot < length slots → place_in slot kind < length (all_places slots)
place_inside slots slot Actual inside = let n = length_places slots in omega (arith, n, inside)
place_inside slots slot Tentative inside = let n = length_places slots in omega (arith, n, inside)

-- `at_place`, `at_any`: what stands in a place
pub at_place : (slots : List (Option Flight)) (slot : ℕ) (kind : Kind) → at (all_places slots) (place_in slot kind) ≡ place_kind kind (get_or slots slot None)
at_place slots slot Actual = at_first slots slot
at_place slots slot Tentative = at_second slots slot

pub at_any : (slots : List (Option Flight)) (i : ℕ) → at (all_places slots) i ≡ place_kind (kind_at i) (get_or slots (i / 2) None)
at_any slots i = ap (at (all_places slots)) (sym (place_back i)) ∙ at_place slots (i / 2) (kind_at i)

-- ---- the places after a change of one slot

next_place : (i : ℕ) (kind : Kind) → place_in (suc i) kind ≡ suc (suc (place_in i kind))
next_place i Actual = omega arith
next_place i Tentative = omega arith

past_slot : (a b : Option NamedTrajectory) (ps : List (Option NamedTrajectory)) (i : ℕ) (kind : Kind) (c : Option NamedTrajectory)
    → set (a ∷ b ∷ ps) (place_in (suc i) kind) c ≡ a ∷ b ∷ set ps (place_in i kind) c
past_slot a b ps i kind c = ap (λ (j : ℕ). set (a ∷ b ∷ ps) j c) (next_place i kind)

-- `one_set`, `both_set`: where the other place keeps what it has, and where both change
pub one_set : (slots : List (Option Flight)) (i : ℕ) (x : Option Flight) (kind : Kind) → i < length slots
    → place_kind (other_kind kind) x ≡ place_kind (other_kind kind) (get_or slots i None)
    → set (all_places slots) (place_in i kind) (place_kind kind x) ≡ all_places (set slots i x)
one_set [] i x kind below other = absurd (omega arith)
one_set (s ∷ slots) zero x Actual below other = ap (λ (b : Option NamedTrajectory). first_of x ∷ b ∷ all_places slots) (sym other)
one_set (s ∷ slots) zero x Tentative below other = ap (λ (a : Option NamedTrajectory). a ∷ second_of x ∷ all_places slots) (sym other)
one_set (s ∷ slots) (suc i) x kind below other =
    past_slot (first_of s) (second_of s) (all_places slots) i kind (place_kind kind x)
    ∙ ap (λ (ps : List (Option NamedTrajectory)). first_of s ∷ second_of s ∷ ps) (one_set slots i x kind (omega arith) other)

pub both_set : (slots : List (Option Flight)) (i : ℕ) (x : Option Flight) → i < length slots
    → set (set (all_places slots) (place_in i Actual) (first_of x)) (place_in i Tentative) (second_of x) ≡ all_places (set slots i x)
both_set [] i x below = absurd (omega arith)
both_set (s ∷ slots) zero x below = refl
both_set (s ∷ slots) (suc i) x below =
    ap (λ (ps : List (Option NamedTrajectory)). set ps (place_in (suc i) Tentative) (second_of x))
    (past_slot (first_of s) (second_of s) (all_places slots) i Actual (first_of x))
    ∙ past_slot (first_of s) (second_of s) (set (all_places slots) (place_in i Actual) (first_of x)) i Tentative (second_of x)
    ∙ ap (λ (ps : List (Option NamedTrajectory)). first_of s ∷ second_of s ∷ ps) (both_set slots i x (omega arith))

-- a flight that keeps both its trajectories leaves the places as they are
pub places_same : (slots : List (Option Flight)) (i : ℕ) (new : Option Flight) → first_of new ≡ first_of (get_or slots i None)
    → second_of new ≡ second_of (get_or slots i None) → all_places (set slots i new) ≡ all_places slots
places_same [] i new first second = refl
places_same (s ∷ slots) zero new first second = ap₂ (λ (f g : Option NamedTrajectory). f ∷ g ∷ all_places slots) first second
places_same (s ∷ slots) (suc i) new first second =
    ap (λ (ps : List (Option NamedTrajectory)). first_of s ∷ second_of s ∷ ps) (places_same slots i new first second)
