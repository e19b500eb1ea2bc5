-- Filled places in their order are the flights of the snapshot's state.
use Rattle.std.proofs.Common.{◌≡◌, ⊎_elim, Bool, true, false, ℕ, zero, suc, ◌<◌, List, [], ◌∷◌, Option, Some, None, Contains, map, get_or, nat_lt, refl, sym, ◌∙◌, ap, subst, arith}
use Rattle.std.proofs.lemmas.Bool.Decides.{nat_tests}
use Rattle.std.proofs.lemmas.List.Elements.{Contains-append_right}
use Rattle.std.specs.List.{AllByRecursion}
use Rattle.std.specs.List.Sorted.{IsStrictlySortedBy}
use Rattle.std.specs.FinMap.{nat_cmp-IsAntisymmetric}
use Rattle.std.specs.Ordering.{nat_cmp, ordering_then}
use Rattle.std.specs.declared.cmp.Ordering.{Ordering}
use Rattle.std.specs.declared.cmp.Ordering.TheVariants.{Less, Equal, Greater}
use Rattle.mt_base.specs.declared.flight.Record.{Record}
use Rattle.mt_probe.specs.declared.flight.Flight.{Flight}
use Rattle.mt_probe.specs.Filing.{AreFiled, filed_cmp}
use Rattle.mt_probe.specs.Shot.{Shot, flight_at, flights_in}
use Rattle.mt_probe.specs.Standing.{IsSoundShot}
use Rattle.mt_probe.proofs.Filing.{filing_order}
use Rattle.mt_base.proofs.Members.{Contains-cases, Contains-head, Contains-none}
use Rattle.mt_snapshot.specs.declared.order.Filed.{Filed}
use Rattle.mt_snapshot.specs.Private.Order.{ArePlaced, IsFilledPlace, card_at}
use Rattle.mt_snapshot.proofs.FiledOrder.{place_cmp}

-- each of some places is filled
abbrev pub AreFilled : Shot → List Filed → Type 0
AreFilled shot [] = Unit {0}
AreFilled shot (x ∷ xs) = IsFilledPlace shot x × AreFilled shot xs

pub are_filled : (shot : Shot) (xs : List Filed) → ((x : Filed) → Contains xs x → IsFilledPlace shot x) → AreFilled shot xs
are_filled shot [] each = tt
are_filled shot (x ∷ xs) each = (each x (Contains-head x xs), are_filled shot xs (λ y held. each y (Contains-append_right (x ∷ []) xs y held)))

-- the flights there
abbrev flights : (shot : Shot) (xs : List Filed) → AreFilled shot xs → List Flight
flights shot [] filled = []
flights shot (x ∷ xs) filled = filled.0.flight ∷ flights shot xs filled.1

cards : (shot : Shot) (xs : List Filed) (filled : AreFilled shot xs) → map (card_at shot) xs ≡ map Some (map (λ (f : Flight). f.card) (flights shot xs filled))
cards shot [] filled = refl
cards shot (x ∷ xs) filled = rw filled.0.there (ap (λ (cs : List (Option Record)). Some filled.0.flight.card ∷ cs) (cards shot xs filled.1))

-- a place is among the first of these, or another one
has_flight : (shot : Shot) (xs : List Filed) (filled : AreFilled shot xs) (x : Filed) (f : Flight) → Contains xs x → flight_at shot x.place ≡ Some f
    → Contains (flights shot xs filled) f
has_flight shot [] filled x f held is = absurd (Contains-none x held)
has_flight shot (y ∷ ys) filled x f held is = ⊎_elim
    (λ same. let is_same : filled.0.flight ≡ f = (cc) in
    subst (λ (g : Flight). Contains (flights shot (y ∷ ys) filled) g) is_same (Contains-head filled.0.flight (flights shot ys filled.1)))
    (λ later. Contains-append_right (filled.0.flight ∷ []) (flights shot ys filled.1) f (has_flight shot ys filled.1 x f later is))
    (Contains-cases y ys x held)

-- each of the flights is that of a place
record IsOfPlace (shot : Shot) (xs : List Filed) (f : Flight) : Type 0 where
  place : Filed
  held : Contains xs place
  there : flight_at shot place.place ≡ Some f

of_place : (shot : Shot) (xs : List Filed) (filled : AreFilled shot xs) (f : Flight) → Contains (flights shot xs filled) f → IsOfPlace shot xs f
of_place shot [] filled f held = absurd (Contains-none f held)
of_place shot (x ∷ xs) filled f held = ⊎_elim
    (λ same. record { place = x; held = Contains-head x xs; there = subst (λ (g : Flight). flight_at shot x.place ≡ Some g) same filled.0.there })
    (λ later. let rest = of_place shot xs filled.1 f later in
    record { place = rest.place; held = Contains-append_right (x ∷ []) xs rest.place rest.held; there = rest.there })
    (Contains-cases filled.0.flight (flights shot xs filled.1) f held)

-- a flight at a place is one of the flights, and each of the flights is at a place
in_flights : (slots : List (Option Flight)) (i : ℕ) (f : Flight) → get_or slots i None ≡ Some f → Contains (flights_in slots) f
in_flights [] i f is = absurd (cc)
in_flights (None ∷ slots) zero f is = absurd (cc)
in_flights (Some g ∷ slots) zero f is = let same : g ≡ f = cc in subst (λ (h : Flight). Contains (g ∷ flights_in slots) h) same (Contains-head g (flights_in slots))
in_flights (None ∷ slots) (suc i) f is = in_flights slots i f is
in_flights (Some g ∷ slots) (suc i) f is = Contains-append_right (g ∷ []) (flights_in slots) f (in_flights slots i f is)

record IsAt (slots : List (Option Flight)) (f : Flight) : Type 0 where
  place : ℕ
  is : get_or slots place None ≡ Some f

at_place : (slots : List (Option Flight)) (f : Flight) → Contains (flights_in slots) f → IsAt slots f
at_place [] f held = absurd (Contains-none f held)
at_place (None ∷ slots) f held = let rest = at_place slots f held in record { place = suc rest.place; is = rest.is }
at_place (Some g ∷ slots) f held = ⊎_elim
    (λ same. record { place = 0; is = ap Some same })
    (λ later. let rest = at_place slots f later in record { place = suc rest.place; is = rest.is })
    (Contains-cases g (flights_in slots) f held)

-- of two filled places, the one before has the flight that was filed before
filed_before : (shot : Shot) (x y : Filed) → IsSoundShot shot → (p : IsFilledPlace shot x) (q : IsFilledPlace shot y) → place_cmp x y ≡ Less
    → filed_cmp p.flight q.flight ≡ Less
filed_before shot x y sound p q less = by_cmp (nat_cmp x.at y.at) refl less where
  by_cmp : (o : Ordering) → nat_cmp x.at y.at ≡ o → ordering_then o (nat_cmp x.place y.place) ≡ Less → filed_cmp p.flight q.flight ≡ Less
  by_cmp Less is less = rw (← p.at_is) (rw (← q.at_is) is)
  by_cmp Greater is less = absurd (cc)
  by_cmp Equal is less =
      let before : x.place < y.place = by_test (nat_lt x.place y.place) refl less in
      let one : x.at ≡ y.at = nat_cmp-IsAntisymmetric x.at y.at is in
      absurd ((sound.apart x.place y.place p.flight q.flight (λ same. omega (arith, before, same)) p.there q.there).filings
      (sym p.at_is ∙ one ∙ q.at_is)) where
        by_test : (b : Bool) → nat_lt x.place y.place ≡ b → nat_cmp x.place y.place ≡ Less → x.place < y.place
        by_test true e less = grind (arith, nat_tests)
        by_test false e less = absurd (grind (arith, nat_tests))

all_later : (shot : Shot) (x : Filed) (ys : List Filed) → IsSoundShot shot → (p : IsFilledPlace shot x) (filled : AreFilled shot ys)
    → AllByRecursion (λ y. place_cmp x y ≡ Less) ys → AllByRecursion (λ g. filed_cmp p.flight g ≡ Less) (flights shot ys filled)
all_later shot x [] sound p filled up = tt
all_later shot x (y ∷ ys) sound p filled up = (filed_before shot x y sound p filled.0 up.0, all_later shot x ys sound p filled.1 up.1)

rising : (shot : Shot) (xs : List Filed) → IsSoundShot shot → (filled : AreFilled shot xs) → IsStrictlySortedBy place_cmp xs
    → IsStrictlySortedBy filed_cmp (flights shot xs filled)
unfolding IsStrictlySortedBy
rising shot [] sound filled up = tt
rising shot (x ∷ xs) sound filled up = (all_later shot x xs sound filled.0 filled.1 up.0, rising shot xs sound filled.1 up.1)

-- Filled places, each once, in their order, and no other, are those of the state's flights in its order.
pub placing : (shot : Shot) (xs : List Filed) → IsSoundShot shot → IsStrictlySortedBy place_cmp xs
    → ((x : Filed) → Contains xs x → IsFilledPlace shot x) → ((x : Filed) → IsFilledPlace shot x → Contains xs x) → ArePlaced shot xs
placing shot xs sound up each all =
    let filled = are_filled shot xs each in
    let filed : AreFiled shot.slots (flights shot xs filled) = record {
      sorted = rising shot xs sound filled up;
      members = λ f. (
        λ held. let at = of_place shot xs filled f held in in_flights shot.slots at.place.place f at.there,
        λ held. let at = at_place shot.slots f held in
            let x : Filed = record { at = f.filed; place = at.place } in
            has_flight shot xs filled x f (all x (record { flight = f; there = at.is; at_is = refl })) at.is,
      );
    } in
    cards shot xs filled ∙ ap (map Some) (filing_order shot (flights shot xs filled) sound filed)
