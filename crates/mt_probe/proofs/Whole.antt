-- The state of a snapshot as a whole.
use Rattle.std.proofs.Common.{◌≡◌, ◌≢◌, Bool, true, false, ℕ, ℤ, pos, ◌≤ℤ◌, suc, ◌<◌, ◌≤◌, List, [], ◌∷◌, Option, Some, None, length, map, get_or, nat_lt, refl, sym, ◌∙◌, ap, if◌then◌else◌, arith}
use Rattle.std.proofs.lemmas.Int.{ints}
use Rattle.std.proofs.lemmas.List.{length-map}
use Rattle.std.proofs.lemmas.List.Elements.{All-from_recursion}
use Rattle.std.proofs.lemmas.List.Kept.{AllPairs-cons}
use Rattle.std.proofs.lemmas.Slice.Eq.{bytes_eq-Decides}
use Rattle.std.specs.List.{AllByRecursion}
use Rattle.std.specs.Str.{bytes_eq}
use Rattle.mt_base.specs.declared.flight.Record.{Record}
use Rattle.mt_base.specs.Bounds.{IsSoundFlight}
use Rattle.mt_base.specs.Picture.{HaveOwnCalls, flight_of}
use Rattle.mt_change.specs.Sound.{IsSoundState}
use Rattle.mt_change.proofs.Changed.{others_apart}
use Rattle.mt_probe.specs.declared.flight.Flight.{Flight}
use Rattle.mt_probe.specs.Putting.{replaced_if}
use Rattle.mt_probe.specs.Shot.{Shot, filed_among, flights_in, in_order, records_in, state_in_shot}
use Rattle.mt_probe.specs.Standing.{IsSoundShot}
use Rattle.mt_probe.proofs.Order.{all_filed, all_ordered, all_placed}

abbrev card_of : Flight → Record
card_of f = f.card

-- each record has another callsign than those after it
abbrev pub Apart : List Record → Type 0
Apart [] = Unit {0}
Apart (r ∷ rs) = AllByRecursion (λ q. r.call ≢ q.call) rs × Apart rs

apart_pairs : (rs : List Record) → Apart rs → HaveOwnCalls rs
apart_pairs [] apart = λ i j d before below. absurd (omega arith)
apart_pairs (r ∷ rs) apart =
    AllPairs-cons (λ f g. f.call ≢ g.call) r rs (All-from_recursion (λ q. r.call ≢ q.call) rs apart.0) (apart_pairs rs apart.1)

all_cards : (P : Record → Type 0) (fs : List Flight) → AllByRecursion (λ f. P f.card) fs → AllByRecursion P (map card_of fs)
all_cards P [] all = tt
all_cards P (f ∷ fs) all = (all.0, all_cards P fs all.1)

filed_apart : (f : Flight) (gs : List Flight) → AllByRecursion (λ g. f.card.call ≢ g.card.call) gs → Apart (map card_of gs) → Apart (map card_of (filed_among f gs))
filed_apart f [] all apart = (tt, tt)
filed_apart f (g ∷ gs) all apart = by_test (nat_lt f.filed g.filed) (filed_apart f gs all.1 apart.1) where
  back : (hs : List Flight) → AllByRecursion (λ q. g.card.call ≢ q.call) (map card_of hs) → AllByRecursion (λ h. g.card.call ≢ h.card.call) hs
  back [] all = tt
  back (h ∷ hs) all = (all.0, back hs all.1)

  by_test : (b : Bool) → Apart (map card_of (filed_among f gs)) → Apart (map card_of (if b then f ∷ g ∷ gs else g ∷ filed_among f gs))
  by_test true rest = ((all.0, all_cards (λ q. f.card.call ≢ q.call) gs all.1), apart)
  by_test false rest = (
    all_cards (λ q. g.card.call ≢ q.call) (filed_among f gs)
        (all_filed (λ h. g.card.call ≢ h.card.call) f gs (λ same. all.0 (sym same)) (back gs apart.0)),
    rest,
  )

ordered_apart : (slots : List (Option Flight)) → ((i j : ℕ) (f g : Flight) → i ≢ j → get_or slots i None ≡ Some f → get_or slots j None ≡ Some g → f.card.call ≢ g.card.call)
    → Apart (map card_of (in_order (flights_in slots)))
ordered_apart [] differ = tt
ordered_apart (None ∷ slots) differ = ordered_apart slots (λ i j f g other f_is g_is. differ (suc i) (suc j) f g (λ same. other (omega (arith, same))) f_is g_is)
ordered_apart (Some f ∷ slots) differ = filed_apart f (in_order (flights_in slots))
    (all_ordered (λ g. f.card.call ≢ g.card.call) (flights_in slots)
    (all_placed (λ g. f.card.call ≢ g.card.call) slots (λ j g is. differ 0 (suc j) f g (λ same. absurd (omega (arith, same))) refl is)))
    (ordered_apart slots (λ i j g h other g_is h_is. differ (suc i) (suc j) g h (λ same. other (omega (arith, same))) g_is h_is))

pub own_calls : (shot : Shot) → IsSoundShot shot → HaveOwnCalls (records_in shot.slots)
unfolding records_in
own_calls shot sound = apart_pairs (map card_of (in_order (flights_in shot.slots)))
    (ordered_apart shot.slots (λ i j f g other f_is g_is. (sound.apart i j f g other f_is g_is).calls))

-- there are no more flights than places
pub length_filed : (f : Flight) (gs : List Flight) → length (filed_among f gs) ≡ suc (length gs)
length_filed f [] = refl
length_filed f (g ∷ gs) = by_test (nat_lt f.filed g.filed) (length_filed f gs) where
  by_test : (b : Bool) → length (filed_among f gs) ≡ suc (length gs) → length (if b then f ∷ g ∷ gs else g ∷ filed_among f gs) ≡ suc (suc (length gs))
  by_test true rest = refl
  by_test false rest = ap suc rest

length_placed : (slots : List (Option Flight)) → length (in_order (flights_in slots)) ≤ length slots
length_placed [] = omega arith
length_placed (None ∷ slots) = let rest = length_placed slots in omega (arith, rest)
length_placed (Some f ∷ slots) = let rest = length_placed slots in omega (arith, rest, length_filed f (in_order (flights_in slots)))

pub few_flights : (shot : Shot) → IsSoundShot shot → length (records_in shot.slots) ≤ 1024
unfolding records_in
few_flights shot sound =
    let places : length shot.slots ≤ 1024 = few (length shot.slots) shot.setup.rules.flights sound.places sound.rules.flights.most in
    omega (arith, places, length_placed shot.slots, length-map (in_order (flights_in shot.slots)) card_of) where
      few : (n : ℕ) (z : ℤ) → pos n ≡ z → z ≤ℤ pos 1024 → n ≤ 1024
      few n z is most = omega (arith, ints)

all_sound : (shot : Shot) → IsSoundShot shot → AllByRecursion (IsSoundFlight shot.setup) (records_in shot.slots)
unfolding records_in
all_sound shot sound = all_cards (IsSoundFlight shot.setup) (in_order (flights_in shot.slots))
    (all_ordered (λ f. IsSoundFlight shot.setup f.card) (flights_in shot.slots)
    (all_placed (λ f. IsSoundFlight shot.setup f.card) shot.slots (λ i f is. (sound.sound i f is).sound)))

-- the state of a snapshot is sound
pub sound_state : (shot : Shot) → IsSoundShot shot → shot.version ≤ 4194304 → IsSoundState shot.setup (state_in_shot shot)
sound_state shot sound counted = record {
  sound = All-from_recursion (IsSoundFlight shot.setup) (records_in shot.slots) (all_sound shot sound);
  own_calls = own_calls shot sound;
  few = few_flights shot sound;
  early = sound.early;
  counted = counted;
}

-- A change that leaves the flights of other callsigns as they are is a replacement of the one of the callsign.
first_apart : (r : Record) (rs : List Record) → HaveOwnCalls (r ∷ rs) → (q : ℕ) (d : Record) → q < length rs → r.call ≢ (get_or rs q d).call
first_apart r rs own q d below = own 0 (suc q) d (omega arith) (omega arith)

untouched : (u : Record → Record) (call : List ℕ) (card : Record) (rs : List Record) → ((r : Record) → r.call ≢ call → u r ≡ r)
    → ((q : ℕ) (d : Record) → q < length rs → call ≢ (get_or rs q d).call) → map (replaced_if call card) rs ≡ map u rs
untouched u call card [] same apart = refl
untouched u call card (r ∷ rs) same apart =
    let other : r.call ≢ call = λ e. apart 0 r (omega arith) (sym e) in
    by_test (bytes_eq r.call call) refl other (untouched u call card rs same (λ q d below. apart (suc q) d (omega arith))) where
      by_test : (b : Bool) → bytes_eq r.call call ≡ b → r.call ≢ call → map (replaced_if call card) rs ≡ map u rs
          → (if b then card else r) ∷ map (replaced_if call card) rs ≡ u r ∷ map u rs
      by_test true e other rest = absurd (other ((bytes_eq-Decides r.call call).0 e))
      by_test false e other rest = rw (same r other, rest) refl

pub replaced_alike : (u : Record → Record) (call : List ℕ) (old : Record) (rs : List Record) → HaveOwnCalls rs → flight_of rs call ≡ Some old
    → ((r : Record) → r.call ≢ call → u r ≡ r) → map (replaced_if call (u old)) rs ≡ map u rs
replaced_alike u call old [] own is same = refl
replaced_alike u call old (r ∷ rs) own is same =
    by_test (bytes_eq r.call call) refl is (replaced_alike u call old rs (others_apart r rs own)) where
      by_test : (b : Bool) → bytes_eq r.call call ≡ b → (if b then Some r else flight_of rs call) ≡ Some old
          → (flight_of rs call ≡ Some old → ((q : Record) → q.call ≢ call → u q ≡ q) → map (replaced_if call (u old)) rs ≡ map u rs)
          → (if b then u old else r) ∷ map (replaced_if call (u old)) rs ≡ u r ∷ map u rs
      by_test true e is rest =
          let here : r ≡ old = cc in
          let named = (bytes_eq-Decides r.call call).0 e in
          let others = untouched u call (u old) rs same (λ q d below found. first_apart r rs own q d below (named ∙ found)) in
          rw (here, others) refl
      by_test false e is rest =
          let other : r.call ≢ call = λ found. (let both = sym e ∙ (bytes_eq-Decides r.call call).1 found in cc) in
          rw (same r other, rest is same) refl
