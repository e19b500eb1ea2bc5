-- Who is there, by what a snapshot keeps of it beside its places.
use mir.Val.{bool_byte}
use Rattle.std.proofs.Common.{◌≡◌, ◌≢◌, Bool, true, false, ℕ, zero, suc, ◌+◌, ◌<◌, ◌≤◌, IfSome, List, [], ◌∷◌, Option, Some, None, length, get_or, is_some, nat_eq, option_map, replicate, refl, sym, ◌∙◌, ap, subst, arith, if◌then◌else◌}
use Rattle.std.specs.Prelude.{option_and_then}
use Rattle.std.proofs.Math.ListN.{get_or-map, set}
use Rattle.std.proofs.Math.Seq.{map-set_same}
use Rattle.std.proofs.lemmas.List.{get_or-set_other, get_or-set_same, length-map, map-set}
use Rattle.std.proofs.lemmas.Bool.Decides.{nat_tests}
use Rattle.mt_base.specs.Picture.{flight_of}
use Rattle.mt_base.proofs.Members.{Contains-none}
use Rattle.mt_names.specs.Naming.{AreNamed, IsOnlyAt, IsPlaceOf, IsRenaming}
use Rattle.mt_probe.specs.declared.flight.Flight.{Flight}
use Rattle.mt_probe.specs.Private.Indexed.{AreFilled, CanBeAt, Indexed, IsFirstFree, IsIndexOf, call_at_place, calls_in}
use Rattle.mt_probe.specs.Putting.{Fits}
use Rattle.mt_probe.specs.Shot.{IsFreeIn, Shot, flight_at, flights_in, in_order, records_in}
use Rattle.mt_probe.specs.Standing.{IsSoundShot}
use Rattle.mt_probe.proofs.Placed.{filled_inside, found_nowhere, found_there, none_placed, nothing_at}
use Rattle.mt_probe.proofs.Whole.{length_filed}

-- the callsign at a place
call_at : (slots : List (Option Flight)) (i : ℕ) → get_or (calls_in slots) i None ≡ call_at_place (get_or slots i None)
call_at slots i = get_or-map call_at_place slots i None

-- ---- how many flights there are
abbrev one : Option Flight → ℕ
one x = if is_some (call_at_place x) then 1 else 0

length_ordered : (fs : List Flight) → length (in_order fs) ≡ length fs
length_ordered [] = refl
length_ordered (f ∷ fs) = length_filed f (in_order fs) ∙ ap suc (length_ordered fs)

pub length_records : (slots : List (Option Flight)) → length (records_in slots) ≡ length (flights_in slots)
unfolding records_in
length_records slots = length-map (in_order (flights_in slots)) (λ (f : Flight). f.card) ∙ length_ordered (flights_in slots)

pub few_there : (slots : List (Option Flight)) → length (flights_in slots) ≤ length slots
few_there [] = omega arith
few_there (None ∷ slots) = let rest = few_there slots in omega (arith, rest)
few_there (Some f ∷ slots) = let rest = few_there slots in omega (arith, rest)

all_there : (slots : List (Option Flight)) → AreFilled slots (length slots) → length (flights_in slots) ≡ length slots
all_there [] all = refl
all_there (None ∷ slots) all = absurd (let no = all 0 (omega arith) in cc)
all_there (Some f ∷ slots) all = ap suc (all_there slots (λ i below. all (suc i) (omega (arith, below))))

-- with one place changed
counted_set : (slots : List (Option Flight)) (i : ℕ) (x : Option Flight) → i < length slots
    → length (flights_in (set slots i x)) + one (get_or slots i None) ≡ length (flights_in slots) + one x
counted_set [] i x inside = absurd (omega (arith, inside))
counted_set (None ∷ slots) zero None inside = refl
counted_set (None ∷ slots) zero (Some g) inside = omega arith
counted_set (Some f ∷ slots) zero None inside = omega arith
counted_set (Some f ∷ slots) zero (Some g) inside = refl
counted_set (None ∷ slots) (suc i) x inside = counted_set slots i x (omega (arith, inside))
counted_set (Some f ∷ slots) (suc i) x inside = let rest = counted_set slots i x (omega (arith, inside)) in omega (arith, rest)

pub some_there : (slots : List (Option Flight)) (i : ℕ) → i < length slots → one (get_or slots i None) ≤ length (flights_in slots)
some_there slots i inside = let counted = counted_set slots i None inside in omega (arith, counted)

pub inside_calls : (slots : List (Option Flight)) (i : ℕ) → i < length (calls_in slots) → i < length slots
inside_calls slots i inside = omega (arith, inside, length-map slots call_at_place)

-- whether there is one, as a number
pub called_some : (x : Option Flight) → is_some x ≡ is_some (call_at_place x)
called_some None = refl
called_some (Some f) = refl

pub at_most_one : (b : Bool) → bool_byte b ≤ 1
at_most_one true = omega arith
at_most_one false = omega arith

pub number_of : (b : Bool) (x : Option Flight) → b ≡ is_some (call_at_place x) → bool_byte b ≡ one x
number_of b x same = ap bool_byte same ∙ by_flight x where
  by_flight : (x : Option Flight) → bool_byte (is_some (call_at_place x)) ≡ one x
  by_flight None = refl
  by_flight (Some f) = refl

-- ---- which places are filled
module _ (slots : List (Option Flight)) (i : ℕ) (inside : i < length slots) where
  -- those beside the place stay as they are
  filled_but : (x : Option Flight) (n : ℕ) → AreFilled slots n → ((k : ℕ) → k < n → k ≡ i → is_some x ≡ true) → AreFilled (set slots i x) n
  filled_but x n all own = λ k below. by_test k below (nat_eq k i) refl where
    by_test : (k : ℕ) → k < n → (b : Bool) → nat_eq k i ≡ b → is_some (get_or (set slots i x) k None) ≡ true
    by_test k below true e =
        let same : k ≡ i = grind (arith, nat_tests) in
        subst (λ (j : ℕ). is_some (get_or (set slots i x) j None) ≡ true) (sym same)
        (ap is_some (get_or-set_same slots i x None inside) ∙ own k below same)
    by_test k below false e =
        let other : k ≢ i = grind (arith, nat_tests) in ap is_some (get_or-set_other slots i k x None other) ∙ all k below

  pub filled_same : (x : Option Flight) (n : ℕ) → is_some x ≡ true → AreFilled slots n → AreFilled (set slots i x) n
  filled_same x n some all = filled_but x n all (λ k below same. some)

  pub filled_below : (x : Option Flight) (n : ℕ) → n ≤ i → AreFilled slots n → AreFilled (set slots i x) n
  filled_below x n before all = filled_but x n all (λ k below same. absurd (omega (arith, before, below, same)))

  pub filled_next : (x : Option Flight) → is_some x ≡ true → AreFilled slots i → AreFilled (set slots i x) (i + 1)
  filled_next x some all = λ k below. by_test k below (nat_eq k i) refl where
    by_test : (k : ℕ) → k < i + 1 → (b : Bool) → nat_eq k i ≡ b → is_some (get_or (set slots i x) k None) ≡ true
    by_test k below true e =
        let same : k ≡ i = grind (arith, nat_tests) in
        subst (λ (j : ℕ). is_some (get_or (set slots i x) j None) ≡ true) (sym same) (ap is_some (get_or-set_same slots i x None inside) ∙ some)
    by_test k below false e =
        let other : k ≢ i = grind (arith, nat_tests) in filled_same x i some all k (omega (arith, below, other))

pub free_in : (slots : List (Option Flight)) (x : Option ℕ) → IsFirstFree slots x → IsFreeIn slots x
free_in slots (Some i) is = (is.0, is.1)
free_in slots None is = length_records slots ∙ all_there slots is

-- ---- the whole
pub put_index : (slots : List (Option Flight)) (index after : Indexed) (i : ℕ) (new : Option Flight) → i < length slots → IsIndexOf slots index
    → CanBeAt slots i new → IsRenaming index.names i (call_at_place (get_or slots i None)) (call_at_place new) after.names
    → after.held + one (get_or slots i None) ≡ index.held + one new → AreFilled (set slots i new) after.filled → IsIndexOf (set slots i new) after
put_index slots index after i new inside is can renaming held filled = record {
  names = subst (AreNamed after.names) (sym (map-set call_at_place slots i new)) (renaming (calls_in slots) can is.names);
  held = let counted = counted_set slots i new inside in let before = is.held in omega (arith, counted, before, held);
  filled = filled;
}

-- where the flight at a place keeps its callsign
pub same_index : (slots : List (Option Flight)) (index : Indexed) (i : ℕ) (old new : Flight) → i < length slots → get_or slots i None ≡ Some old
    → new.card.call ≡ old.card.call → IsIndexOf slots index → IsIndexOf (set slots i (Some new)) index
same_index slots index i old new inside at same is = record {
  names = subst (AreNamed index.names) (sym (map-set_same call_at_place slots i (Some new) None (ap Some same ∙ sym (ap call_at_place at)))) is.names;
  held = let counted = rw at at (counted_set slots i (Some new) inside) in let before = is.held in omega (arith, counted, before);
  filled = filled_same slots i inside (Some new) index.filled refl is.filled;
}

-- a flight that fits can be put at its place, and one can be taken out
calls_apart : (shot : Shot) (i j : ℕ) (old : Flight) → IsSoundShot shot → flight_at shot i ≡ Some old → j ≢ i → call_at_place (flight_at shot j) ≢ Some old.card.call
calls_apart shot i j old sound at other = by_flight (flight_at shot j) refl where
  by_flight : (x : Option Flight) → flight_at shot j ≡ x → call_at_place x ≢ Some old.card.call
  by_flight None there is = cc
  by_flight (Some g) there is = (sound.apart j i g old other there at).calls (cc)

pub can_be : (shot : Shot) (i : ℕ) (new : Option Flight) → i < length shot.slots → IsSoundShot shot → IfSome new (λ f. Fits shot i f) → CanBeAt shot.slots i new
can_be shot i new inside sound fits = record {
  inside = omega (arith, inside, length-map shot.slots call_at_place);
  was = call_at shot.slots i;
  old_only = old_only (flight_at shot i) refl;
  new_only = new_only new fits;
} where
  old_only : (x : Option Flight) → flight_at shot i ≡ x → IsOnlyAt (calls_in shot.slots) i (call_at_place x)
  old_only None at = tt
  old_only (Some old) at = λ j other is. calls_apart shot i j old sound at other (sym (call_at shot.slots j) ∙ is)

  new_only : (x : Option Flight) → IfSome x (λ f. Fits shot i f) → IsOnlyAt (calls_in shot.slots) i (call_at_place x)
  new_only None fits = tt
  new_only (Some f) fits = λ j other is. by_flight j other (flight_at shot j) refl (sym (call_at shot.slots j) ∙ is) where
    by_flight : (j : ℕ) → j ≢ i → (x : Option Flight) → flight_at shot j ≡ x → call_at_place x ≢ Some f.card.call
    by_flight j other None there is = cc
    by_flight j other (Some g) there is = fits.own_call j g other there (cc)

-- with empty places alone
pub opening_index : (n : ℕ) → IsIndexOf (replicate n None) (record { names = []; held = 0; filled = 0 })
opening_index n = record {
  names = λ m. (λ held. absurd (Contains-none m held), λ is. absurd (nobody m.slot m.call (sym (call_at (replicate n None) m.slot) ∙ is)));
  held = sym (ap length (none_placed n));
  filled = λ i below. absurd (omega (arith, below));
} where
  nobody : (i : ℕ) (call : List ℕ) → call_at_place (get_or (replicate n None) i None) ≡ Some call → ⊥
  nobody i call is = by_flight (get_or (replicate n None) i None) refl is where
    by_flight : (x : Option Flight) → get_or (replicate n None) i None ≡ x → call_at_place x ≡ Some call → ⊥
    by_flight None there own = cc
    by_flight (Some f) there own = nothing_at n i f there

-- ---- the flight that is found
module _ (shot : Shot) (index : Indexed) (call : List ℕ) (sound : IsSoundShot shot) (is : IsIndexOf shot.slots index) where
  pub found_by : (x : Option ℕ) → IsPlaceOf index.names call x
      → IfSome x (λ slot. is_some (flight_at shot slot) ≡ true)
      × (flight_of (records_in shot.slots) call ≡ option_map (λ f. f.card) (option_and_then (flight_at shot) x))
  found_by None none = (
    tt,
    found_nowhere shot.slots call (λ i f there own.
        none (record { call = call; slot = i }) ((is.names (record { call = call; slot = i })).1 (call_at shot.slots i ∙ ap call_at_place there ∙ ap Some own)) refl),
  )
  found_by (Some slot) listed = by_flight (flight_at shot slot) refl (sym (call_at shot.slots slot) ∙ (is.names (record { call = call; slot = slot })).0 listed) where
    by_flight : (x : Option Flight) → flight_at shot slot ≡ x → call_at_place x ≡ Some call
        → (is_some (flight_at shot slot) ≡ true) × (flight_of (records_in shot.slots) call ≡ option_map (λ f. f.card) (flight_at shot slot))
    by_flight None there own = absurd (cc)
    by_flight (Some f) there own =
        let same : f.card.call ≡ call = cc in
        rw there (refl, found_there shot slot f call sound (filled_inside shot.slots slot f there) there same)
