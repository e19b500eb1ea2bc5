-- Flights in the order of filing: what putting one at a place, or taking one out, makes of them.
use Rattle.std.proofs.Common.{◌≡◌, ◌≢◌, Bool, true, false, not, ℕ, zero, suc, ◌<◌, List, [], ◌∷◌, ◌++◌, Option, Some, None, Contains, map, filter, get_or, nat_lt, refl, sym, ◌∙◌, ap, true≢false, if◌then◌else◌, arith}
use Rattle.std.proofs.Math.ListN.{set}
use Rattle.std.proofs.lemmas.Bool.Decides.{nat_tests}
use Rattle.std.proofs.lemmas.List.Elements.{Contains-append_right}
use Rattle.std.proofs.lemmas.Slice.Eq.{bytes_eq-Decides}
use Rattle.std.specs.List.{AllByRecursion}
use Rattle.std.specs.Str.{bytes_eq}
use Rattle.mt_base.specs.declared.flight.Record.{Record}
use Rattle.mt_base.specs.Picture.{flight_of}
use Rattle.mt_probe.specs.declared.flight.Flight.{Flight}
use Rattle.mt_probe.specs.Putting.{replaced_if}
use Rattle.mt_probe.specs.Shot.{filed_among, flights_in, in_order}

-- of two that were filed at different versions, either may be put first
swap : (f g : Flight) (hs : List Flight) → f.filed ≢ g.filed → filed_among f (filed_among g hs) ≡ filed_among g (filed_among f hs)
swap f g [] apart = by_test (nat_lt f.filed g.filed) (nat_lt g.filed f.filed) refl refl where
  by_test : (a b : Bool) → nat_lt f.filed g.filed ≡ a → nat_lt g.filed f.filed ≡ b
      → (if a then f ∷ g ∷ [] else g ∷ f ∷ []) ≡ (if b then g ∷ f ∷ [] else f ∷ g ∷ [])
  by_test true true e d = absurd (grind (arith, nat_tests))
  by_test true false e d = refl
  by_test false true e d = refl
  by_test false false e d = absurd (grind (arith, nat_tests))
swap f g (h ∷ hs) apart = by_test (nat_lt f.filed h.filed) (nat_lt g.filed h.filed) (nat_lt f.filed g.filed) (nat_lt g.filed f.filed) refl refl refl refl (swap f g hs apart) where
  by_test : (a b c d : Bool) → nat_lt f.filed h.filed ≡ a → nat_lt g.filed h.filed ≡ b → nat_lt f.filed g.filed ≡ c → nat_lt g.filed f.filed ≡ d
      → filed_among f (filed_among g hs) ≡ filed_among g (filed_among f hs)
      → filed_among f (if b then g ∷ h ∷ hs else h ∷ filed_among g hs) ≡ filed_among g (if a then f ∷ h ∷ hs else h ∷ filed_among f hs)
  by_test true true true true ea eb ec ed rest = absurd (grind (arith, nat_tests))
  by_test true true true false ea eb ec ed rest = rw (ec, ed, eb) refl
  by_test true true false true ea eb ec ed rest = rw (ec, ed, ea) refl
  by_test true true false false ea eb ec ed rest = absurd (grind (arith, nat_tests))
  by_test true false c true ea eb ec ed rest = absurd (grind (arith, nat_tests))
  by_test true false c false ea eb ec ed rest = rw (ea, ed, eb) refl
  by_test false true true d ea eb ec ed rest = absurd (grind (arith, nat_tests))
  by_test false true false d ea eb ec ed rest = rw (ec, ea, eb) refl
  by_test false false c d ea eb ec ed rest = rw (ea, eb) (ap (λ (ks : List Flight). h ∷ ks) rest)

-- what holds of the flights of some places holds of them in order
pub all_filed : (P : Flight → Type 0) (f : Flight) (gs : List Flight) → P f → AllByRecursion P gs → AllByRecursion P (filed_among f gs)
all_filed P f [] is all = (is, tt)
all_filed P f (g ∷ gs) is all = by_test (nat_lt f.filed g.filed) (all_filed P f gs is all.1) where
  by_test : (b : Bool) → AllByRecursion P (filed_among f gs) → AllByRecursion P (if b then f ∷ g ∷ gs else g ∷ filed_among f gs)
  by_test true rest = (is, (all.0, all.1))
  by_test false rest = (all.0, rest)

pub all_ordered : (P : Flight → Type 0) (fs : List Flight) → AllByRecursion P fs → AllByRecursion P (in_order fs)
all_ordered P [] all = tt
all_ordered P (f ∷ fs) all = all_filed P f (in_order fs) all.0 (all_ordered P fs all.1)

pub all_placed : (P : Flight → Type 0) (slots : List (Option Flight)) → ((i : ℕ) (f : Flight) → get_or slots i None ≡ Some f → P f)
    → AllByRecursion P (flights_in slots)
all_placed P [] at = tt
all_placed P (None ∷ slots) at = all_placed P slots (λ i f is. at (suc i) f is)
all_placed P (Some f ∷ slots) at = (at 0 f refl, all_placed P slots (λ i g is. at (suc i) g is))

-- the flight at a place, and the others in order
pub parted : (slots : List (Option Flight)) (i : ℕ) (f : Flight) → get_or slots i None ≡ Some f
    → AllByRecursion (λ g. g.filed ≢ f.filed) (flights_in (set slots i None))
    → in_order (flights_in slots) ≡ filed_among f (in_order (flights_in (set slots i None)))
parted [] i f is apart = absurd (cc)
parted (None ∷ slots) zero f is apart = absurd (cc)
parted (Some g ∷ slots) zero f is apart = let same : g ≡ f = cc in ap (λ (h : Flight). filed_among h (in_order (flights_in slots))) same
parted (None ∷ slots) (suc i) f is apart = parted slots i f is apart
parted (Some g ∷ slots) (suc i) f is apart =
    ap (filed_among g) (parted slots i f is apart.1) ∙ swap g f (in_order (flights_in (set slots i None))) apart.0

-- one that was filed after all others is the last
pub filed_last : (f : Flight) (gs : List Flight) → AllByRecursion (λ g. g.filed < f.filed) gs → filed_among f gs ≡ gs ++ f ∷ []
filed_last f [] all = refl
filed_last f (g ∷ gs) all = by_test (nat_lt f.filed g.filed) refl (filed_last f gs all.1) where
  by_test : (b : Bool) → nat_lt f.filed g.filed ≡ b → filed_among f gs ≡ gs ++ f ∷ [] → (if b then f ∷ g ∷ gs else g ∷ filed_among f gs) ≡ g ∷ (gs ++ f ∷ [])
  by_test true e rest = let later : g.filed < f.filed = all.0 in absurd (grind (arith, nat_tests))
  by_test false e rest = ap (λ (ks : List Flight). g ∷ ks) rest

abbrev card_of : Flight → Record
card_of f = f.card

other_is : (call : List ℕ) (f : Flight) → f.card.call ≢ call → bytes_eq f.card.call call ≡ false
other_is call f other = by_test (bytes_eq f.card.call call) refl where
  by_test : (b : Bool) → bytes_eq f.card.call call ≡ b → bytes_eq f.card.call call ≡ false
  by_test true e = absurd (other ((bytes_eq-Decides f.card.call call).0 e))
  by_test false e = e

own_is : (call : List ℕ) (f : Flight) → f.card.call ≡ call → bytes_eq f.card.call call ≡ true
own_is call f own = (bytes_eq-Decides f.card.call call).1 own

-- none of a callsign: nothing is found, replaced or taken out
pub none_of_call : (call : List ℕ) (gs : List Flight) → AllByRecursion (λ g. g.card.call ≢ call) gs → flight_of (map card_of gs) call ≡ None
none_of_call call [] others = refl
none_of_call call (g ∷ gs) others = rw (other_is call g others.0) (none_of_call call gs others.1)

none_replaced : (call : List ℕ) (card : Record) (gs : List Flight) → AllByRecursion (λ g. g.card.call ≢ call) gs
    → map (replaced_if call card) (map card_of gs) ≡ map card_of gs
none_replaced call card [] others = refl
none_replaced call card (g ∷ gs) others =
    rw (other_is call g others.0) (ap (λ (rs : List Record). g.card ∷ rs) (none_replaced call card gs others.1))

none_taken : (call : List ℕ) (gs : List Flight) → AllByRecursion (λ g. g.card.call ≢ call) gs
    → filter (λ (r : Record). not (bytes_eq r.call call)) (map card_of gs) ≡ map card_of gs
none_taken call [] others = refl
none_taken call (g ∷ gs) others = rw (other_is call g others.0) (ap (λ (rs : List Record). g.card ∷ rs) (none_taken call gs others.1))

-- the one of a callsign is found, replaced by one of the same filing, or taken out
pub one_of_call : (f : Flight) (gs : List Flight) → AllByRecursion (λ g. g.card.call ≢ f.card.call) gs
    → flight_of (map card_of (filed_among f gs)) f.card.call ≡ Some f.card
one_of_call f [] others = rw (own_is f.card.call f refl) refl
one_of_call f (g ∷ gs) others = by_test (nat_lt f.filed g.filed) (one_of_call f gs others.1) where
  by_test : (b : Bool) → flight_of (map card_of (filed_among f gs)) f.card.call ≡ Some f.card
      → flight_of (map card_of (if b then f ∷ g ∷ gs else g ∷ filed_among f gs)) f.card.call ≡ Some f.card
  by_test true rest = rw (own_is f.card.call f refl) refl
  by_test false rest = rw (other_is f.card.call g others.0) rest

pub one_replaced : (old f : Flight) (gs : List Flight) → AllByRecursion (λ g. g.card.call ≢ old.card.call) gs → f.filed ≡ old.filed
    → map card_of (filed_among f gs) ≡ map (replaced_if old.card.call f.card) (map card_of (filed_among old gs))
one_replaced old f [] others filed = rw (own_is old.card.call old refl) refl
one_replaced old f (g ∷ gs) others filed =
    by_test (nat_lt f.filed g.filed) (nat_lt old.filed g.filed) (ap (λ (n : ℕ). nat_lt n g.filed) filed) (one_replaced old f gs others.1 filed) where
      by_test : (a b : Bool) → a ≡ b → map card_of (filed_among f gs) ≡ map (replaced_if old.card.call f.card) (map card_of (filed_among old gs))
          → map card_of (if a then f ∷ g ∷ gs else g ∷ filed_among f gs)
          ≡ map (replaced_if old.card.call f.card) (map card_of (if b then old ∷ g ∷ gs else g ∷ filed_among old gs))
      by_test true true same rest = rw (own_is old.card.call old refl, other_is old.card.call g others.0)
          (ap (λ (rs : List Record). f.card ∷ g.card ∷ rs) (sym (none_replaced old.card.call f.card gs others.1)))
      by_test false false same rest = rw (other_is old.card.call g others.0) (ap (λ (rs : List Record). g.card ∷ rs) rest)
      by_test true false same rest = absurd (true≢false same)
      by_test false true same rest = absurd (true≢false (sym same))

pub one_taken : (old : Flight) (gs : List Flight) → AllByRecursion (λ g. g.card.call ≢ old.card.call) gs
    → map card_of gs ≡ filter (λ (r : Record). not (bytes_eq r.call old.card.call)) (map card_of (filed_among old gs))
one_taken old [] others = rw (own_is old.card.call old refl) refl
one_taken old (g ∷ gs) others = by_test (nat_lt old.filed g.filed) (one_taken old gs others.1) where
  by_test : (b : Bool) → map card_of gs ≡ filter (λ (r : Record). not (bytes_eq r.call old.card.call)) (map card_of (filed_among old gs))
      → g.card ∷ map card_of gs ≡ filter (λ (r : Record). not (bytes_eq r.call old.card.call)) (map card_of (if b then old ∷ g ∷ gs else g ∷ filed_among old gs))
  by_test true rest = rw (own_is old.card.call old refl, other_is old.card.call g others.0)
      (ap (λ (rs : List Record). g.card ∷ rs) (sym (none_taken old.card.call gs others.1)))
  by_test false rest = rw (other_is old.card.call g others.0) (ap (λ (rs : List Record). g.card ∷ rs) rest)

-- it is there
pub one_there : (f : Flight) (gs : List Flight) → Contains (map card_of (filed_among f gs)) f.card
one_there f [] = (0, omega arith, refl)
one_there f (g ∷ gs) = by_test (nat_lt f.filed g.filed) (one_there f gs) where
  by_test : (b : Bool) → Contains (map card_of (filed_among f gs)) f.card → Contains (map card_of (if b then f ∷ g ∷ gs else g ∷ filed_among f gs)) f.card
  by_test true rest = (0, omega arith, refl)
  by_test false rest = Contains-append_right (g.card ∷ []) (map card_of (filed_among f gs)) f.card rest
