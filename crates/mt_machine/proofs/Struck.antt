-- The hits of a trajectory, one flight more at a time.
use Rattle.std.proofs.Common.{◌≡◌, ◌≢◌, Bool, true, false, ℕ, ◌+◌, ◌<◌, ◌≤◌, ◌⊎◌, inl, inr, ⊎_elim, ◌↔◌, List, [], ◌∷◌, ◌++◌, Some, None, Contains, length, take, get_or, refl, sym, ◌∙◌, ap, subst, if◌then◌else◌, arith}
use Rattle.std.proofs.lemmas.List.{length-append, take_all, take_more}
use Rattle.std.proofs.lemmas.List.Elements.{All-contains_itself, Contains-append_left, Contains-append_right, Contains-push, Contains-push_cases}
use Rattle.std.proofs.lemmas.Slice.Eq.{bytes_eq-Decides}
use Rattle.std.specs.List.Sorted.{IsStrictlySortedBy}
use Rattle.std.specs.Prelude.{is_some}
use Rattle.std.specs.Str.{bytes_eq}
use Rattle.mt_base.specs.declared.flight.Record.{Record}
use Rattle.mt_base.specs.declared.hit.Hit.{Hit}
use Rattle.mt_base.specs.Conflict.{IsConflict}
use Rattle.mt_base.specs.Name.{is_name}
use Rattle.mt_base.specs.Picture.{State, flight_of, trajectory_of, window_end}
use Rattle.mt_base.specs.Tables.{Setup}
use Rattle.mt_base.specs.Trajectory.{Trajectory}
use Rattle.mt_base.specs.WhatIf.{AreHitsOf, hit_cmp}
use Rattle.mt_machine.specs.Private.Hits.{IsHitWith}
use Rattle.mt_board.specs.Short.{AreShortHits}

-- the pair test found nothing, or this hit and no other
pub no_hit : (setup : Setup) (now : ℕ) (t : Trajectory) (flight : Record) → IsConflict setup.rules t (trajectory_of setup flight.path) now (window_end now) None
    → (hit : Hit) → ¬ IsHitWith setup now t flight hit
no_hit setup now t flight none hit is =
    none hit.first is.span.inside.0 (omega (arith, is.span.inside.1, is.span.inside.2)) is.span.first_is

pub one_hit : (setup : Setup) (now : ℕ) (t : Trajectory) (flight : Record) (hit other : Hit) → IsHitWith setup now t flight hit
    → IsHitWith setup now t flight other → hit ≡ other
one_hit setup now t flight hit other is also =
    let s = is.span in
    let o = also.span in
    let hit_first = o.none_outside hit.first s.inside.0 (omega (arith, s.inside.1, s.inside.2)) s.first_is in
    let other_first = s.none_outside other.first o.inside.0 (omega (arith, o.inside.1, o.inside.2)) o.first_is in
    let hit_last = o.none_outside hit.last (omega (arith, s.inside.0, s.inside.1)) s.inside.2 s.last_is in
    let other_last = s.none_outside other.last (omega (arith, o.inside.0, o.inside.1)) o.inside.2 o.last_is in
    let first : hit.first ≡ other.first = omega (arith, hit_first.0, other_first.0) in
    let last : hit.last ≡ other.last = omega (arith, hit_last.1, other_last.1) in
    λ i. record { first = first i; with = (is.with_is ∙ sym also.with_is) i; last = last i }

-- it has this conflict with one of these flights that has another callsign
pub record IsHitAmong (setup : Setup) (now : ℕ) (flights : List Record) (call : List ℕ) (t : Trajectory) (hit : Hit) : Type 0 where
  pub flight : Record
  pub flies : Contains flights flight
  pub other : flight.call ≢ call
  pub is : IsHitWith setup now t flight hit

-- What is kept over some flights: their hits are found, at most one for each, and one fewer where one of them has the callsign itself.
pub record AreFoundAmong (setup : Setup) (now : ℕ) (flights : List Record) (call : List ℕ) (t : Trajectory) (hits : List Hit) : Type 0 where
  pub exact : (hit : Hit) → Contains hits hit ↔ IsHitAmong setup now flights call t hit
  pub each : length hits ≤ length flights
  pub own : (f : Record) → Contains flights f → f.call ≡ call → length hits < length flights
  pub named : (hit : Hit) → Contains hits hit → is_name 1 7 hit.with ≡ true

-- a flight of a callsign that is found is there
pub there : (call : List ℕ) (flights : List Record) → is_some (flight_of flights call) ≡ true → (f : Record) × Contains flights f × (f.call ≡ call)
there call [] some = cc
there call (f ∷ fs) some = step (bytes_eq f.call call) refl (there call fs) some where
  step : (b : Bool) → bytes_eq f.call call ≡ b → (is_some (flight_of fs call) ≡ true → (g : Record) × Contains fs g × (g.call ≡ call))
      → is_some (if b then Some f else flight_of fs call) ≡ true → (g : Record) × Contains (f ∷ fs) g × (g.call ≡ call)
  step true e rest is = (f, (0, omega arith, refl), (bytes_eq-Decides f.call call).0 e)
  step false e rest is = let found = rest is in (found.0, Contains-append_right (f ∷ []) fs found.0 found.1, found.2)

-- with one flight more
IsHitAmong-push : (setup : Setup) (now : ℕ) (flights : List Record) (f : Record) (call : List ℕ) (t : Trajectory) (hit : Hit)
    → IsHitAmong setup now (flights ++ f ∷ []) call t hit ↔ (IsHitAmong setup now flights call t hit ⊎ ((f.call ≢ call) × IsHitWith setup now t f hit))
IsHitAmong-push setup now flights f call t hit = (
  (λ some. ⊎_elim
      (λ before. inl (record { flight = some.flight; flies = before; other = some.other; is = some.is }))
      (λ e. inr (subst (λ (g : Record). (g.call ≢ call) × IsHitWith setup now t g hit) (sym e) (some.other, some.is)))
      (Contains-push_cases flights f some.flight some.flies)),
  (λ either. ⊎_elim
      (λ some. record { flight = some.flight; flies = Contains-append_left flights (f ∷ []) some.flight some.flies; other = some.other; is = some.is })
      (λ last. record { flight = f; flies = Contains-push flights f; other = last.0; is = last.1 }) either),
)

take_push : (flights : List Record) (i : ℕ) (f : Record) → i < length flights → f ≡ get_or flights i f → take (i + 1) flights ≡ take i flights ++ f ∷ []
take_push flights i f below is = take_more flights i f below ∙ ap (λ (g : Record). take i flights ++ g ∷ []) (sym is)

-- a flight that has no hit: it has the callsign itself, or nothing was found with it
none_more : (setup : Setup) (now : ℕ) (flights : List Record) (f : Record) (call : List ℕ) (t : Trajectory) (hits : List Hit)
    → AreFoundAmong setup now flights call t hits → ((hit : Hit) → ¬ ((f.call ≢ call) × IsHitWith setup now t f hit))
    → AreFoundAmong setup now (flights ++ f ∷ []) call t hits
none_more setup now flights f call t hits found none = record {
  exact = λ hit. (
    (λ held. (IsHitAmong-push setup now flights f call t hit).1 (inl ((found.exact hit).0 held))),
    (λ some. ⊎_elim (λ before. (found.exact hit).1 before) (λ last. absurd (none hit last)) ((IsHitAmong-push setup now flights f call t hit).0 some)),
  );
  each = omega (arith, found.each, length-append flights (f ∷ []));
  own = λ g held same. omega (arith, found.each, length-append flights (f ∷ []));
  named = found.named;
}

pub own_more : (setup : Setup) (now : ℕ) (flights : List Record) (i : ℕ) (f : Record) (call : List ℕ) (t : Trajectory) (hits : List Hit)
    → i < length flights → f ≡ get_or flights i f → AreFoundAmong setup now (take i flights) call t hits → f.call ≡ call
    → AreFoundAmong setup now (take (i + 1) flights) call t hits
own_more setup now flights i f call t hits below is found same = rw (take_push flights i f below is)
    (none_more setup now (take i flights) f call t hits found (λ hit last. last.0 same))

pub other_more : (setup : Setup) (now : ℕ) (flights : List Record) (i : ℕ) (f : Record) (call : List ℕ) (t : Trajectory) (hits : List Hit)
    → i < length flights → f ≡ get_or flights i f → AreFoundAmong setup now (take i flights) call t hits
    → ((hit : Hit) → (None ≡ Some hit) ↔ IsHitWith setup now t f hit)
    → AreFoundAmong setup now (take (i + 1) flights) call t hits
other_more setup now flights i f call t hits below is found none = rw (take_push flights i f below is)
    (none_more setup now (take i flights) f call t hits found (λ hit last. let e = (none hit).1 last.1 in cc))

-- a flight that has this hit
pub hit_more : (setup : Setup) (now : ℕ) (flights : List Record) (i : ℕ) (f : Record) (call : List ℕ) (t : Trajectory) (hits : List Hit) (one : Hit)
    → i < length flights → f ≡ get_or flights i f → AreFoundAmong setup now (take i flights) call t hits → f.call ≢ call
    → ((hit : Hit) → (Some one ≡ Some hit) ↔ IsHitWith setup now t f hit) → is_name 1 7 f.call ≡ true
    → AreFoundAmong setup now (take (i + 1) flights) call t (hits ++ one ∷ [])
hit_more setup now flights i f call t hits one below is found other only named =
    let before = take i flights in
    rw (take_push flights i f below is) (record {
      exact = λ hit. (
        (λ held. (IsHitAmong-push setup now before f call t hit).1 (⊎_elim
            (λ was. inl ((found.exact hit).0 was))
            (λ e. inr (other, (only hit).0 (ap Some e))) (Contains-push_cases hits one hit held))),
        (λ some. ⊎_elim
            (λ among. Contains-append_left hits (one ∷ []) hit ((found.exact hit).1 among))
            (λ last. let e : one ≡ hit = let eq = (only hit).1 last.1 in cc in subst (Contains (hits ++ one ∷ [])) e (Contains-push hits one))
            ((IsHitAmong-push setup now before f call t hit).0 some)),
      );
      each = omega (arith, found.each, length-append hits (one ∷ []), length-append before (f ∷ []));
      own = λ g held same. ⊎_elim
          (λ earlier. let fewer = found.own g earlier same in omega (arith, length-append hits (one ∷ []), length-append before (f ∷ [])))
          (λ e. absurd (other (ap (λ (r : Record). r.call) e ∙ same))) (Contains-push_cases before f g held);
      named = λ hit held. ⊎_elim
          (λ was. found.named hit was)
          (λ e. ap (is_name 1 7) ((only hit).0 (ap Some e)).with_is ∙ named) (Contains-push_cases hits one hit held);
    })

-- all flights of a state, after the order was made
pub hits_are : (setup : Setup) (s : State) (now : ℕ) (flights : List Record) (i : ℕ) (call : List ℕ) (t : Trajectory) (found ordered : List Hit)
    → s.now ≡ now → s.records ≡ flights → length flights ≤ i → AreFoundAmong setup now (take i flights) call t found
    → ((hit : Hit) → Contains ordered hit ↔ Contains found hit) → IsStrictlySortedBy hit_cmp ordered → AreHitsOf setup s call t ordered
hits_are setup s now flights i call t found ordered now_is records_are all are same sorted =
    let whole = rw (take_all i flights all, ← now_is, ← records_are) at are in record {
      exact = λ hit. (
        (λ held. let among = (whole.exact hit).0 ((same hit).0 held) in
            record { flight = among.flight; flies = among.flies; other = among.other; with_is = among.is.with_is; span = among.is.span }),
        (λ is. (same hit).1 ((whole.exact hit).1 (record { flight = is.flight; flies = is.flies; other = is.other; is = record { with_is = is.with_is; span = is.span } }))),
      );
      sorted = sorted;
    }

pub hits_short : (setup : Setup) (s : State) (now : ℕ) (flights : List Record) (i : ℕ) (call : List ℕ) (t : Trajectory) (found ordered : List Hit)
    → s.records ≡ flights → length s.records ≤ 1024 → is_some (flight_of s.records call) ≡ true → length flights ≤ i
    → AreFoundAmong setup now (take i flights) call t found → ((hit : Hit) → Contains ordered hit ↔ Contains found hit)
    → length ordered ≤ length found → AreShortHits ordered
hits_short setup s now flights i call t found ordered records_are few flies all are same fewer =
    let whole = rw (take_all i flights all, ← records_are) at are in
    let own = there call s.records flies in
    let less = whole.own own.0 own.1 own.2 in
    record {
      few = omega arith;
      named = λ k d below. whole.named (get_or ordered k d) ((same (get_or ordered k d)).0 (All-contains_itself ordered k d below));
    }
