-- The places that hold a flight, found one place after the other.
use Rattle.std.proofs.Common.{◌≡◌, ◌↔◌, ⊎_elim, Bool, true, false, ℕ, ◌<◌, ◌≤◌, ◌+◌, List, [], ◌∷◌, ◌++◌, Option, Some, None, Contains, length, nat_eq, refl, sym, ◌∙◌, ap, subst, arith}
use Rattle.std.proofs.lemmas.Bool.Decides.{nat_tests}
use Rattle.std.proofs.lemmas.List.Elements.{Contains-append_left, Contains-append_right, Contains-push_cases}
use Rattle.std.specs.Prelude.{option_map}
use Rattle.mt_probe.specs.declared.flight.Flight.{Flight}
use Rattle.mt_probe.specs.Shot.{Shot, flight_at}
use Rattle.mt_base.proofs.Members.{Contains-head}
use Rattle.mt_probe.proofs.Placed.{filled_inside}
use Rattle.mt_snapshot.specs.declared.order.Filed.{Filed}
use Rattle.mt_snapshot.specs.Private.Order.{IsFilledPlace}

-- these are the filled places below one
abbrev pub AreBelow : Shot → List Filed → ℕ → Type 0
AreBelow shot xs place = (x : Filed) → Contains xs x ↔ (IsFilledPlace shot x × (x.place < place))

-- the version of the flight at a place
filing_is : (at : Option Flight) (f : Flight) (filing : Option ℕ) → at ≡ Some f → filing ≡ option_map (λ g. g.filed) at → filing ≡ Some f.filed
filing_is at f filing at_is is = is ∙ ap (option_map (λ g. g.filed)) at_is

record IsFiling (at : Option Flight) (filing : ℕ) : Type 0 where
  flight : Flight
  there : at ≡ Some flight
  is : filing ≡ flight.filed

flight_of_filing : (at : Option Flight) (filing : ℕ) → Some filing ≡ option_map (λ g. g.filed) at → IsFiling at filing
flight_of_filing None filing is = absurd (cc)
flight_of_filing (Some f) filing is = record { flight = f; there = refl; is = (cc) }

-- of each place, it is this one or another
below_or_here : (n m : ℕ) {P : Type 0} → n < m + 1 → (n < m → P) → (n ≡ m → P) → P
below_or_here n m {P = P} below less same = by_test (nat_eq n m) refl where
  by_test : (b : Bool) → nat_eq n m ≡ b → P
  by_test true e = same (grind (arith, nat_tests))
  by_test false e = less (grind (arith, nat_tests))

-- a filled place more
pub one_more : (shot : Shot) (xs : List Filed) (place filing : ℕ) → AreBelow shot xs place → Some filing ≡ option_map (λ g. g.filed) (flight_at shot place)
    → AreBelow shot (xs ++ record { at = filing; place = place } ∷ []) (place + 1)
one_more shot xs place filing below is x =
    let it = flight_of_filing (flight_at shot place) filing is in
    let new : Filed = record { at = filing; place = place } in
    let there : IsFilledPlace shot new × (new.place < place + 1) = (record { flight = it.flight; there = it.there; at_is = it.is }, omega arith) in (
      λ held. ⊎_elim
          (λ old. let before = (below x).0 old in (before.0, omega (arith, before.1)))
          (λ same. subst (λ (y : Filed). IsFilledPlace shot y × (y.place < place + 1)) same there)
          (Contains-push_cases xs new x held),
      λ filled. below_or_here x.place place filled.1
          (λ less. Contains-append_left xs (new ∷ []) x ((below x).1 (filled.0, less)))
          (λ same. let own = filing_is (flight_at shot place) filled.0.flight (Some filing) (ap (flight_at shot) (sym same) ∙ filled.0.there) is in
          let filing_same : filing ≡ filled.0.flight.filed = cc in
          let at_same : filing ≡ x.at = filing_same ∙ sym filled.0.at_is in
          let one : new ≡ x = λ i. record { at = at_same i; place = sym same i } in
          subst (λ (y : Filed). Contains (xs ++ new ∷ []) y) one (Contains-append_right xs (new ∷ []) new (Contains-head new []))),
    )

-- an empty one
pub none_more : (shot : Shot) (xs : List Filed) (place : ℕ) → AreBelow shot xs place → None ≡ option_map (λ g. g.filed) (flight_at shot place)
    → AreBelow shot xs (place + 1)
none_more shot xs place below is x = (
  λ held. let before = (below x).0 held in (before.0, omega (arith, before.1)),
  λ filled. below_or_here x.place place filled.1
      (λ less. (below x).1 (filled.0, less))
      (λ same. let own = filing_is (flight_at shot place) filled.0.flight None (ap (flight_at shot) (sym same) ∙ filled.0.there) is in absurd (cc)),
)

-- below the number of places they are all
pub all_filled : (shot : Shot) (xs : List Filed) (place : ℕ) → AreBelow shot xs place → length shot.slots ≤ place → (x : Filed) → Contains xs x ↔ IsFilledPlace shot x
all_filled shot xs place below past x = (
  λ held. ((below x).0 held).0,
  λ filled. let inside = filled_inside shot.slots x.place filled.flight filled.there in (below x).1 (filled, omega (arith, inside)),
)
