-- Flights of which the one with some callsign has another path.
use Rattle.std.proofs.Common.{◌≡◌, ◌≢◌, ℕ, ◌+◌, ◌<◌, suc, Bool, true, false, List, [], ◌∷◌, ◌++◌, length, map, take, drop, get_or, Some, refl, sym, ◌∙◌, ap, subst, if◌then◌else◌, arith, append_assoc}
use Rattle.std.proofs.Math.Seq.{drop-cons, get_or-append_seam, set-append_seam}
use Rattle.std.proofs.lemmas.List.{get_or-map, length-map, length-take, map-append, take_more}
use Rattle.std.proofs.lemmas.List.Elements.{All-from_recursion, recursion_from_All}
use Rattle.std.proofs.lemmas.Slice.Eq.{bytes_eq-Decides}
use Rattle.std.specs.List.{AllByRecursion}
use Rattle.std.specs.Prelude.{slice_set}
use Rattle.std.specs.Str.{bytes_eq}
use Rattle.mt_base.specs.declared.flight.Path.{Path}
use Rattle.mt_base.specs.declared.flight.Record.{Record}
use Rattle.mt_base.specs.Bounds.{IsSoundFlight, IsSoundPath}
use Rattle.mt_base.specs.Effect.{changed}
use Rattle.mt_base.specs.Picture.{HaveOwnCalls, State, flight_of}
use Rattle.mt_base.specs.Tables.{Setup}
use Rattle.mt_change.specs.Sound.{IsSoundState}

-- a list of which the elements before a place are changed, parted at that place
module _ {X : Type 0} (f : X → X) (now old : List X) (i : ℕ) (d : X) (below : i < length old) (is : now ≡ map f (take i old) ++ drop i old) where
  before : length (map f (take i old)) ≡ i
  before = length-map (take i old) f ∙ length-take i old ∙ omega arith

  parted : now ≡ map f (take i old) ++ get_or old i d ∷ drop (i + 1) old
  parted =
      let e : suc i ≡ i + 1 = omega arith in
      let rest : drop i old ≡ get_or old i d ∷ drop (i + 1) old = subst (λ (k : ℕ). drop i old ≡ get_or old i d ∷ drop k old) e (drop-cons old i d below) in
      is ∙ ap (λ (l : List X). map f (take i old) ++ l) rest

  one_more : map f (take (i + 1) old) ++ drop (i + 1) old ≡ map f (take i old) ++ f (get_or old i d) ∷ drop (i + 1) old
  one_more =
      let more : map f (take (i + 1) old) ≡ map f (take i old) ++ f (get_or old i d) ∷ [] =
      ap (map f) (take_more old i d below) ∙ map-append f (take i old) (get_or old i d ∷ []) in
      rw more (append_assoc (map f (take i old)) (f (get_or old i d) ∷ []) (drop (i + 1) old))

  -- the element at that place is as it was
  pub element_is : get_or now i d ≡ get_or old i d
  element_is = rw parted (subst (λ (k : ℕ). get_or (map f (take i old) ++ get_or old i d ∷ drop (i + 1) old) k d ≡ get_or old i d) before
      (get_or-append_seam (map f (take i old)) (get_or old i d) (drop (i + 1) old) d))

  -- it is changed
  pub one_changed : (x : X) → x ≡ f (get_or old i d) → slice_set now i x ≡ map f (take (i + 1) old) ++ drop (i + 1) old
  one_changed x x_is = rw parted (subst (λ (k : ℕ). slice_set (map f (take i old) ++ get_or old i d ∷ drop (i + 1) old) k x
      ≡ map f (take i old) ++ x ∷ drop (i + 1) old) before (set-append_seam (map f (take i old)) (get_or old i d) (drop (i + 1) old) x)
      ∙ ap (λ (y : X). map f (take i old) ++ y ∷ drop (i + 1) old) x_is ∙ sym one_more)

-- a flight of the callsign, and one of another
pub changed_one : (call : List ℕ) (change : Path → Path) (f : Record) → bytes_eq f.call call ≡ true → record f { path = change f.path } ≡ changed call change f
changed_one call change f is = rw is refl

pub changed_other : (call : List ℕ) (change : Path → Path) (f : Record) → bytes_eq f.call call ≡ false → changed call change f ≡ f
changed_other call change f is = rw is refl

own_kept : (call : List ℕ) (other : Path → Path) (fs : List Record) → HaveOwnCalls fs → HaveOwnCalls (map (changed call other) fs)
own_kept call other fs own = λ i j d before below same.
    let inside : j < length fs = omega (arith, length-map fs (changed call other)) in
    let earlier : i < length fs = omega arith in
    let left = ap (λ (f : Record). f.call) (get_or-map (changed call other) fs i d d earlier) in
    let right = ap (λ (f : Record). f.call) (get_or-map (changed call other) fs j d d inside) in
    own i j d before inside (sym left ∙ same ∙ right)

first_apart : (f : Record) (fs : List Record) → HaveOwnCalls (f ∷ fs) → AllByRecursion (λ g. f.call ≢ g.call) fs
first_apart f fs own = recursion_from_All (λ g. f.call ≢ g.call) fs (λ k d below. own 0 (suc k) d (omega arith) (omega arith))

pub others_apart : (f : Record) (fs : List Record) → HaveOwnCalls (f ∷ fs) → HaveOwnCalls fs
others_apart f fs own = λ i j d before below. own (suc i) (suc j) d (omega arith) (omega arith)

-- no flight of the callsign, no change
unchanged : (call own : List ℕ) (other : Path → Path) (fs : List Record) → own ≡ call → AllByRecursion (λ g. own ≢ g.call) fs
    → map (changed call other) fs ≡ fs
unchanged call own other [] is apart = refl
unchanged call own other (f ∷ fs) is apart = step (bytes_eq f.call call) refl (unchanged call own other fs is apart.1) where
  step : (b : Bool) → bytes_eq f.call call ≡ b → map (changed call other) fs ≡ fs
      → record f { path = if b then other f.path else f.path } ∷ map (changed call other) fs ≡ f ∷ fs
  step true e rest = absurd (apart.0 (is ∙ sym ((bytes_eq-Decides f.call call).0 e)))
  step false e rest = ap (λ (gs : List Record). f ∷ gs) rest

-- two changes that agree on the flight that is found
pub changed_alike : (call : List ℕ) (one other : Path → Path) (flight : Record) (fs : List Record) → HaveOwnCalls fs → flight_of fs call ≡ Some flight
    → one flight.path ≡ other flight.path → map (changed call one) fs ≡ map (changed call other) fs
changed_alike call one other flight [] own is alike = refl
changed_alike call one other flight (f ∷ fs) own is alike =
    step (bytes_eq f.call call) refl (changed_alike call one other flight fs (others_apart f fs own)) is where
      step : (b : Bool) → bytes_eq f.call call ≡ b
          → (flight_of fs call ≡ Some flight → one flight.path ≡ other flight.path → map (changed call one) fs ≡ map (changed call other) fs)
          → (if b then Some f else flight_of fs call) ≡ Some flight
          → record f { path = if b then one f.path else f.path } ∷ map (changed call one) fs
          ≡ record f { path = if b then other f.path else f.path } ∷ map (changed call other) fs
      step true e rest found =
          let same : f ≡ flight = cc in
          let here = (bytes_eq-Decides f.call call).0 e in
          let paths : one f.path ≡ other f.path = subst (λ (g : Record). one g.path ≡ other g.path) (sym same) alike in
          rw (unchanged call f.call one fs here (first_apart f fs own), unchanged call f.call other fs here (first_apart f fs own), paths) refl
      step false e rest found = ap (λ (gs : List Record). f ∷ gs) (rest found alike)

-- what holds of all flights, and of the one that is found once it has another path
pub all_changed : (P : Record → Type 0) (call : List ℕ) (other : Path → Path) (flight : Record) (fs : List Record) → AllByRecursion P fs → HaveOwnCalls fs
    → flight_of fs call ≡ Some flight → P (record flight { path = other flight.path }) → AllByRecursion P (map (changed call other) fs)
all_changed P call other flight [] all own is holds = tt
all_changed P call other flight (f ∷ fs) all own is holds =
    step (bytes_eq f.call call) refl (all_changed P call other flight fs all.1 (others_apart f fs own)) is where
      step : (b : Bool) → bytes_eq f.call call ≡ b
          → (flight_of fs call ≡ Some flight → P (record flight { path = other flight.path }) → AllByRecursion P (map (changed call other) fs))
          → (if b then Some f else flight_of fs call) ≡ Some flight
          → P record f { path = if b then other f.path else f.path } × AllByRecursion P (map (changed call other) fs)
      step true e rest found =
          let same : f ≡ flight = cc in
          let here = (bytes_eq-Decides f.call call).0 e in (
            subst (λ (g : Record). P (record g { path = other g.path })) (sym same) holds,
            subst (AllByRecursion P) (sym (unchanged call f.call other fs here (first_apart f fs own))) all.1,
          )
      step false e rest found = (all.0, rest found holds)

-- the state with the flight of a callsign changed
pub changed_state : (setup : Setup) (s : State) (call : List ℕ) (change : Path → Path) (flight : Record) → IsSoundState setup s
    → flight_of s.records call ≡ Some flight → IsSoundPath setup (change flight.path)
    → IsSoundState setup (record s { records = map (changed call change) s.records })
changed_state setup s call change flight sound is within = record {
  sound = All-from_recursion (IsSoundFlight setup) (map (changed call change) s.records)
      (all_changed (IsSoundFlight setup) call change flight s.records (recursion_from_All (IsSoundFlight setup) s.records sound.sound)
      sound.own_calls is within);
  own_calls = own_kept call change s.records sound.own_calls;
  few = rw (length-map s.records (changed call change)) sound.few;
  early = sound.early;
  counted = sound.counted;
}
