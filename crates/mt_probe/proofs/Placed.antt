-- The state of a snapshot, by its places.
use Rattle.std.proofs.Common.{◌≡◌, ◌≢◌, Bool, true, false, not, ℕ, zero, suc, ◌<◌, ◌≤◌, ◌⊎◌, inl, inr, ⊎_elim, IfSome, pos, List, [], ◌∷◌, ◌++◌, Option, Some, None, Contains, length, map, filter, get_or, nat_eq, option_map, replicate, refl, sym, ◌∙◌, ap, subst, arith}
use Rattle.std.proofs.Math.ListN.{set}
use Rattle.std.proofs.lemmas.List.{get_or-set_same, get_or-set_other, length-replicate, length-set, map-append, set-get_or, set-set}
use Rattle.std.proofs.lemmas.List.Elements.{All-contains, All-from_recursion, All-map}
use Rattle.std.specs.Str.{bytes_eq}
use Rattle.std.proofs.lemmas.Bool.Decides.{nat_tests}
use Rattle.std.specs.List.{AllByRecursion}
use Rattle.mt_base.specs.declared.flight.Record.{Record}
use Rattle.mt_base.specs.Picture.{flight_of}
use Rattle.mt_base.specs.Bounds.{AreWithinBounds}
use Rattle.mt_base.specs.Tables.{Setup}
use Rattle.mt_probe.specs.declared.flight.Flight.{Flight}
use Rattle.mt_probe.specs.Private.Boxed.{AreLaid}
use Rattle.mt_probe.specs.Putting.{Fits, IsFiledAt, records_put, replaced_if}
use Rattle.mt_probe.specs.Shot.{Shot, filed_among, flight_at, flights_in, in_order, records_in}
use Rattle.mt_probe.specs.Standing.{AreTwoFlights, IsSoundShot}
use Rattle.mt_probe.proofs.Order.{all_ordered, all_placed, filed_last, none_of_call, one_of_call, one_replaced, one_taken, one_there, parted}

-- the flights beside a place, in order
abbrev pub beside : List (Option Flight) → ℕ → List Flight
beside slots i = in_order (flights_in (set slots i None))

-- what holds of those at all other places holds of the flights beside one
pub all_beside : (P : Flight → Type 0) (slots : List (Option Flight)) (i : ℕ) → i < length slots
    → ((j : ℕ) (g : Flight) → j ≢ i → get_or slots j None ≡ Some g → P g) → AllByRecursion P (flights_in (set slots i None))
all_beside P slots i inside at = all_placed P (set slots i None) (λ j g is. by_test j g (nat_eq j i) refl is) where
  by_test : (j : ℕ) (g : Flight) (b : Bool) → nat_eq j i ≡ b → get_or (set slots i None) j None ≡ Some g → P g
  by_test j g true e is =
      let same : j ≡ i = grind (arith, nat_tests) in
      let here = get_or-set_same slots i None None inside in
      let there : get_or (set slots i None) i None ≡ Some g = subst (λ (k : ℕ). get_or (set slots i None) k None ≡ Some g) same is in
      absurd (cc)
  by_test j g false e is =
      let other : j ≢ i = grind (arith, nat_tests) in at j g other (sym (get_or-set_other slots i j None None other) ∙ is)

-- the records of some places, by what is at one of them
module _ (slots : List (Option Flight)) (i : ℕ) (inside : i < length slots) where
  pub records_without : get_or slots i None ≡ None → records_in slots ≡ map (λ f. f.card) (beside slots i)
  unfolding records_in
  records_without none =
      let same : set slots i None ≡ slots = ap (set slots i) (sym none) ∙ set-get_or slots i None in
      ap (λ (ss : List (Option Flight)). map (λ f. f.card) (in_order (flights_in ss))) (sym same)

  pub records_with : (f : Flight) → get_or slots i None ≡ Some f → AllByRecursion (λ g. g.filed ≢ f.filed) (flights_in (set slots i None))
      → records_in slots ≡ map (λ f. f.card) (filed_among f (beside slots i))
  unfolding records_in
  records_with f is apart = ap (map (λ f. f.card)) (parted slots i f is apart)

-- after a change of one place
module _ (shot : Shot) (i : ℕ) (inside : i < length shot.slots) (sound : IsSoundShot shot) where
  set_inside : (x : Option Flight) → i < length (set shot.slots i x)
  set_inside x = omega (arith, length-set shot.slots i x)

  set_beside : (x : Option Flight) → set (set shot.slots i x) i None ≡ set shot.slots i None
  set_beside x = set-set shot.slots i x None

  beside_is : (x : Option Flight) → beside (set shot.slots i x) i ≡ beside shot.slots i
  beside_is x = ap (λ (ss : List (Option Flight)). in_order (flights_in ss)) (set_beside x)

  -- what the flight at the place has not in common with the others
  apart_by : (f : Flight) → flight_at shot i ≡ Some f → AllByRecursion (λ g. g.filed ≢ f.filed) (flights_in (set shot.slots i None))
  apart_by f is = all_beside (λ g. g.filed ≢ f.filed) shot.slots i inside (λ j g other at. (sound.apart j i g f other at is).filings)

  pub calls_apart : (f : Flight) → flight_at shot i ≡ Some f → AllByRecursion (λ g. g.card.call ≢ f.card.call) (beside shot.slots i)
  calls_apart f is = all_ordered (λ g. g.card.call ≢ f.card.call) (flights_in (set shot.slots i None))
      (all_beside (λ g. g.card.call ≢ f.card.call) shot.slots i inside (λ j g other at. (sound.apart j i g f other at is).calls))

  pub old_records : (f : Flight) → flight_at shot i ≡ Some f → records_in shot.slots ≡ map (λ f. f.card) (filed_among f (beside shot.slots i))
  old_records f is = records_with shot.slots i inside f is (apart_by f is)

  new_records : (f : Flight) → AllByRecursion (λ g. g.filed ≢ f.filed) (flights_in (set shot.slots i None))
      → records_in (set shot.slots i (Some f)) ≡ map (λ f. f.card) (filed_among f (beside shot.slots i))
  new_records f apart =
      records_with (set shot.slots i (Some f)) i (set_inside (Some f)) f (get_or-set_same shot.slots i (Some f) None inside)
      (subst (λ (ss : List (Option Flight)). AllByRecursion (λ g. g.filed ≢ f.filed) (flights_in ss)) (sym (set_beside (Some f))) apart)
      ∙ ap (λ (gs : List Flight). map (λ f. f.card) (filed_among f gs)) (beside_is (Some f))

  emptied_records : records_in (set shot.slots i None) ≡ map (λ f. f.card) (beside shot.slots i)
  emptied_records = records_without (set shot.slots i None) i (set_inside None) (get_or-set_same shot.slots i None None inside)
      ∙ ap (map (λ f. f.card)) (beside_is None)

  -- the records with a flight put there, or taken out
  pub put_records : (old new : Option Flight) → flight_at shot i ≡ old → IfSome new (λ f. Fits shot i f)
      → records_in (set shot.slots i new) ≡ records_put old new (records_in shot.slots)
  put_records None None at fits = emptied_records ∙ sym (records_without shot.slots i inside at)
  put_records None (Some f) at fits =
      let after : (j : ℕ) (g : Flight) → flight_at shot j ≡ Some g → g.filed < f.filed = subst (IsFiledAt shot i f) at fits.filed in
      let all = all_beside (λ g. g.filed < f.filed) shot.slots i inside (λ j g other is. after j g is) in
      let apart = all_beside (λ g. g.filed ≢ f.filed) shot.slots i inside (λ j g other is. (let earlier = after j g is in omega (arith, earlier))) in
      new_records f apart
      ∙ ap (map (λ f. f.card)) (filed_last f (beside shot.slots i) (all_ordered (λ g. g.filed < f.filed) (flights_in (set shot.slots i None)) all))
      ∙ map-append (λ f. f.card) (beside shot.slots i) (f ∷ [])
      ∙ ap (λ (rs : List Record). rs ++ f.card ∷ []) (sym (records_without shot.slots i inside at))
  put_records (Some old) None at fits =
      emptied_records ∙ one_taken old (beside shot.slots i) (calls_apart old at)
      ∙ ap (filter (λ (r : Record). not (bytes_eq r.call old.card.call))) (sym (old_records old at))
  put_records (Some old) (Some f) at fits =
      let same : f.filed ≡ old.filed = subst (IsFiledAt shot i f) at fits.filed in
      let apart = subst (λ (n : ℕ). AllByRecursion (λ g. g.filed ≢ n) (flights_in (set shot.slots i None))) (sym same) (apart_by old at) in
      new_records f apart
      ∙ one_replaced old f (beside shot.slots i) (calls_apart old at) same
      ∙ ap (map (replaced_if old.card.call f.card)) (sym (old_records old at))

  -- what is at a place after it: what was put there, or what was at another place
  pub at_new : (new : Option Flight) (j : ℕ) (f : Flight) → get_or (set shot.slots i new) j None ≡ Some f
      → ((j ≡ i) × (new ≡ Some f)) ⊎ ((j ≢ i) × (flight_at shot j ≡ Some f))
  at_new new j f is = by_test (nat_eq j i) refl where
    by_test : (b : Bool) → nat_eq j i ≡ b → ((j ≡ i) × (new ≡ Some f)) ⊎ ((j ≢ i) × (flight_at shot j ≡ Some f))
    by_test true e =
        let same : j ≡ i = grind (arith, nat_tests) in
        let there : get_or (set shot.slots i new) i None ≡ Some f = subst (λ (k : ℕ). get_or (set shot.slots i new) k None ≡ Some f) same is in
        inl (same, sym (get_or-set_same shot.slots i new None inside) ∙ there)
    by_test false e =
        let other : j ≢ i = grind (arith, nat_tests) in inr (other, sym (get_or-set_other shot.slots i j new None other) ∙ is)

  fits_one : (new : Option Flight) (f : Flight) → IfSome new (λ f. Fits shot i f) → new ≡ Some f → Fits shot i f
  fits_one None f fits is = absurd (cc)
  fits_one (Some g) f fits is = let same : g ≡ f = cc in subst (λ (h : Flight). Fits shot i h) same fits

  -- one that fits is apart from those at other places
  fits_apart : (f : Flight) → Fits shot i f → (j : ℕ) (g : Flight) → j ≢ i → flight_at shot j ≡ Some g → AreTwoFlights f g
  fits_apart f fits j g other is = record {
    calls = λ same. fits.own_call j g other is (sym same);
    filings = by_old (flight_at shot i) refl fits.filed;
  } where
    by_old : (old : Option Flight) → flight_at shot i ≡ old → IsFiledAt shot i f old → f.filed ≢ g.filed
    by_old None at after = let earlier = after j g is in omega (arith, earlier)
    by_old (Some old) at filed = let apart = (sound.apart j i g old other is at).filings in omega (arith, apart, filed)

  -- the snapshot is sound after it
  laid_one : (new : Option Flight) (f : Flight) → IfSome new AreLaid → new ≡ Some f → AreLaid f
  laid_one None f laid is = absurd (cc)
  laid_one (Some g) f laid is = let same : g ≡ f = cc in subst AreLaid same laid

  pub put_sound : (new : Option Flight) (version : ℕ) → IfSome new (λ f. Fits shot i f) → IfSome new AreLaid
      → IsSoundShot (record shot { version = version; slots = set shot.slots i new })
  put_sound new version fits laid = record {
    rules = sound.rules;
    places = ap pos (length-set shot.slots i new) ∙ sound.places;
    sound = λ j f is. ⊎_elim (λ here. (fits_one new f fits here.1).entry) (λ there. sound.sound j f there.1) (at_new new j f is);
    laid = λ j f t is held. ⊎_elim (λ here. laid_one new f laid here.1 t held) (λ there. sound.laid j f t there.1 held) (at_new new j f is);
    apart = λ j k f g differ f_is g_is. ⊎_elim
        (λ here. ⊎_elim
        (λ also. absurd (differ (here.0 ∙ sym also.0)))
        (λ there. fits_apart f (fits_one new f fits here.1) k g there.0 there.1) (at_new new k g g_is))
        (λ there. ⊎_elim
        (λ here. apart_back (fits_apart g (fits_one new g fits here.1) j f there.0 there.1))
        (λ also. sound.apart j k f g differ there.1 also.1) (at_new new k g g_is))
        (at_new new j f f_is);
    early = sound.early;
  } where
    apart_back : {f g : Flight} → AreTwoFlights f g → AreTwoFlights g f
    apart_back apart = record { calls = λ same. apart.calls (sym same); filings = λ same. apart.filings (sym same) }

-- the flight that is found
pub found_there : (shot : Shot) (i : ℕ) (f : Flight) (call : List ℕ) → IsSoundShot shot → i < length shot.slots → flight_at shot i ≡ Some f → f.card.call ≡ call
    → flight_of (records_in shot.slots) call ≡ Some f.card
found_there shot i f call sound inside is same =
    ap (λ (rs : List Record). flight_of rs call) (old_records shot i inside sound f is)
    ∙ subst (λ (c : List ℕ). flight_of (map (λ f. f.card) (filed_among f (beside shot.slots i))) c ≡ Some f.card) same
    (one_of_call f (beside shot.slots i) (calls_apart shot i inside sound f is))

pub found_nowhere : (slots : List (Option Flight)) (call : List ℕ) → ((i : ℕ) (f : Flight) → get_or slots i None ≡ Some f → f.card.call ≢ call)
    → flight_of (records_in slots) call ≡ None
unfolding records_in
found_nowhere slots call none =
    none_of_call call (in_order (flights_in slots)) (all_ordered (λ f. f.card.call ≢ call) (flights_in slots) (all_placed (λ f. f.card.call ≢ call) slots none))

-- a record of the state is that of the flight at some place, and the other way round
pub record_there : (shot : Shot) (i : ℕ) (f : Flight) → IsSoundShot shot → i < length shot.slots → flight_at shot i ≡ Some f → Contains (records_in shot.slots) f.card
record_there shot i f sound inside is =
    subst (λ (rs : List Record). Contains rs f.card) (sym (old_records shot i inside sound f is)) (one_there f (beside shot.slots i))

pub record IsAtSome (slots : List (Option Flight)) (r : Record) : Type 0 where
  pub place : ℕ
  pub flight : Flight
  pub at : get_or slots place None ≡ Some flight
  pub card_is : flight.card ≡ r

pub record_placed : (slots : List (Option Flight)) (r : Record) → Contains (records_in slots) r → IsAtSome slots r
unfolding records_in
record_placed slots r held =
    All-contains (IsAtSome slots) (map (λ f. f.card) (in_order (flights_in slots))) r
    (All-map (IsAtSome slots) (λ (f : Flight). f.card) (in_order (flights_in slots)) (All-from_recursion (λ f. IsAtSome slots f.card) (in_order (flights_in slots))
    (all_ordered (λ f. IsAtSome slots f.card) (flights_in slots) (all_placed (λ f. IsAtSome slots f.card) slots
    (λ i f is. record { place = i; flight = f; at = is; card_is = refl }))))) held

-- at another moment
pub moved_sound : (shot : Shot) (version now : ℕ) → IsSoundShot shot → now ≤ 10000000 → IsSoundShot (record shot { version = version; now = now })
moved_sound shot version now sound early = record { rules = sound.rules; places = sound.places; sound = sound.sound; laid = sound.laid; apart = sound.apart; early = early }

-- with empty places alone
pub nothing_at : (n i : ℕ) (f : Flight) → get_or (replicate n None) i None ≡ Some f → ⊥
nothing_at zero i f is = cc
nothing_at (suc n) zero f is = cc
nothing_at (suc n) (suc i) f is = nothing_at n i f is

pub opening_sound : (setup : Setup) (n version : ℕ) → AreWithinBounds setup.rules → pos n ≡ setup.rules.flights
    → IsSoundShot (record { setup = setup; version = version; now = 0; slots = replicate n None })
opening_sound setup n version rules places = record {
  rules = rules;
  places = ap pos (length-replicate n None) ∙ places;
  sound = λ i f is. absurd (nothing_at n i f is);
  laid = λ i f t is held. absurd (nothing_at n i f is);
  apart = λ i j f g differ f_is g_is. absurd (nothing_at n i f f_is);
  early = omega arith;
}

pub none_placed : (n : ℕ) → flights_in (replicate n None) ≡ []
none_placed zero = refl
none_placed (suc n) = none_placed n

pub opening_records : (n : ℕ) → records_in (replicate n None) ≡ []
unfolding records_in
opening_records n = rw (none_placed n) refl

-- a place that is filled is one of the places
pub filled_inside : (slots : List (Option Flight)) (i : ℕ) (f : Flight) → get_or slots i None ≡ Some f → i < length slots
filled_inside [] i f is = absurd (cc)
filled_inside (s ∷ slots) zero f is = omega arith
filled_inside (s ∷ slots) (suc i) f is = let below = filled_inside slots i f is in omega (arith, below)

-- the flight at a place of which the record is known
pub record IsPlaced (at : Option Flight) (card : Record) : Type 0 where
  pub flight : Flight
  pub at_is : at ≡ Some flight
  pub card_is : flight.card ≡ card

pub placed : (at : Option Flight) (card : Record) → Some card ≡ option_map (λ f. f.card) at → IsPlaced at card
placed None card is = absurd (cc)
placed (Some f) card is = record { flight = f; at_is = refl; card_is = (cc) }
