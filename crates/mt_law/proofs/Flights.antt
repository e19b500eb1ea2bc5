-- Flights of which those of a callsign have another path.
use Rattle.std.proofs.Common.{◌≡◌, ◌≢◌, Bool, true, false, not, ℕ, List, [], ◌∷◌, ◌++◌, map, filter, Option, Some, None, is_some, refl, sym, ◌∙◌, ap, subst, if◌then◌else◌}
use Rattle.std.proofs.lemmas.Slice.Eq.{bytes_eq-Decides}
use Rattle.std.specs.Prelude.{option_map}
use Rattle.std.specs.Str.{bytes_eq}
use Rattle.mt_base.specs.declared.flight.Path.{Path}
use Rattle.mt_base.specs.declared.flight.Record.{Record}
use Rattle.mt_base.specs.Effect.{changed}
use Rattle.mt_base.specs.Picture.{flight_of}
use Rattle.mt_base.specs.WhatIf.{mark_in, mark_on}

-- the flight that is found has that callsign
pub found_call : (call : List ℕ) (rs : List Record) (r : Record) → flight_of rs call ≡ Some r → bytes_eq r.call call ≡ true
found_call call [] r there = cc
found_call call (x ∷ xs) r there = step (bytes_eq x.call call) refl (found_call call xs) there where
  step : (b : Bool) → bytes_eq x.call call ≡ b → ((r : Record) → flight_of xs call ≡ Some r → bytes_eq r.call call ≡ true)
      → (if b then Some x else flight_of xs call) ≡ Some r → bytes_eq r.call call ≡ true
  step true e rest there = let same : x ≡ r = cc in subst (λ (y : Record). bytes_eq y.call call ≡ true) same e
  step false e rest there = rest r there

-- the flight that is found among flights of which some are changed
pub found_changed : (call own : List ℕ) (f : Path → Path) (rs : List Record)
    → flight_of (map (changed own f) rs) call ≡ option_map (changed own f) (flight_of rs call)
found_changed call own f [] = refl
found_changed call own f (r ∷ rs) = step (bytes_eq r.call call) (found_changed call own f rs) where
  step : (b : Bool) → flight_of (map (changed own f) rs) call ≡ option_map (changed own f) (flight_of rs call)
      → (if b then Some (changed own f r) else flight_of (map (changed own f) rs) call) ≡ option_map (changed own f) (if b then Some r else flight_of rs call)
  step true rest = refl
  step false rest = rest

-- one of another callsign is as it was
pub found_other : (call own : List ℕ) (f : Path → Path) (rs : List Record) → call ≢ own → option_map (changed own f) (flight_of rs call) ≡ flight_of rs call
found_other call own f [] apart = refl
found_other call own f (r ∷ rs) apart = step (bytes_eq r.call call) refl (bytes_eq r.call own) refl (found_other call own f rs apart) where
  step : (b : Bool) → bytes_eq r.call call ≡ b → (c : Bool) → bytes_eq r.call own ≡ c
      → option_map (changed own f) (flight_of rs call) ≡ flight_of rs call
      → option_map (changed own f) (if b then Some r else flight_of rs call) ≡ (if b then Some r else flight_of rs call)
  step true e true d rest = absurd (apart (sym ((bytes_eq-Decides r.call call).0 e) ∙ (bytes_eq-Decides r.call own).0 d))
  step true e false d rest = rw d refl
  step false e c d rest = rest

-- the flight of that callsign has a tentative clearance
abbrev pub HasMark : List ℕ → List Record → Type 0
HasMark call rs = is_some (mark_in (flight_of rs call)) ≡ true

-- A flight keeps its tentative clearance: where one that has none is filed after it,
pub mark_filed : (call : List ℕ) (rs : List Record) (x : Record) → mark_on x.path ≡ None
    → mark_in (flight_of (rs ++ x ∷ []) call) ≡ mark_in (flight_of rs call)
mark_filed call [] x none = step (bytes_eq x.call call) where
  step : (b : Bool) → mark_in (if b then Some x else None) ≡ None
  step true = none
  step false = refl
mark_filed call (r ∷ rs) x none = step (bytes_eq r.call call) (mark_filed call rs x none) where
  step : (b : Bool) → mark_in (flight_of (rs ++ x ∷ []) call) ≡ mark_in (flight_of rs call)
      → mark_in (if b then Some r else flight_of (rs ++ x ∷ []) call) ≡ mark_in (if b then Some r else flight_of rs call)
  step true rest = refl
  step false rest = rest

-- where another is taken out,
pub found_kept : (call own : List ℕ) (rs : List Record) → own ≢ call → flight_of (filter (λ flight. not (bytes_eq flight.call own)) rs) call ≡ flight_of rs call
found_kept call own [] apart = refl
found_kept call own (r ∷ rs) apart = step (bytes_eq r.call call) refl (bytes_eq r.call own) refl (found_kept call own rs apart) where
  kept : List Record
  kept = filter (λ flight. not (bytes_eq flight.call own)) rs

  step : (b : Bool) → bytes_eq r.call call ≡ b → (c : Bool) → bytes_eq r.call own ≡ c → flight_of kept call ≡ flight_of rs call
      → flight_of (if not c then r ∷ kept else kept) call ≡ (if b then Some r else flight_of rs call)
  step true e true d rest = absurd (apart (sym ((bytes_eq-Decides r.call own).0 d) ∙ (bytes_eq-Decides r.call call).0 e))
  step true e false d rest = rw e refl
  step false e true d rest = rest
  step false e false d rest = rw e rest

-- and where a path is changed that keeps it
pub mark_changed : (call own : List ℕ) (f : Path → Path) (rs : List Record) → ((p : Path) → mark_on (f p) ≡ mark_on p)
    → mark_in (flight_of (map (changed own f) rs) call) ≡ mark_in (flight_of rs call)
mark_changed call own f rs keeps = ap mark_in (found_changed call own f rs) ∙ on_flight (flight_of rs call) where
  on_path : (b : Bool) (p : Path) → mark_on (if b then f p else p) ≡ mark_on p
  on_path true p = keeps p
  on_path false p = refl

  on_flight : (flight : Option Record) → mark_in (option_map (changed own f) flight) ≡ mark_in flight
  on_flight None = refl
  on_flight (Some r) = on_path (bytes_eq r.call own) r.path

-- two changes in either order
pub changed_swap : (call own : List ℕ) (f g : Path → Path) (rs : List Record) → (own ≡ call → (p : Path) → f (g p) ≡ g (f p))
    → map (changed own f) (map (changed call g) rs) ≡ map (changed call g) (map (changed own f) rs)
changed_swap call own f g [] swap = refl
changed_swap call own f g (r ∷ rs) swap =
    let here : changed own f (changed call g r) ≡ changed call g (changed own f r) =
    ap (λ (p : Path). record r { path = p }) (two (bytes_eq r.call own) refl (bytes_eq r.call call) refl r.path) in
    let rest = changed_swap call own f g rs swap in
    cc where
      two : (b : Bool) → bytes_eq r.call own ≡ b → (c : Bool) → bytes_eq r.call call ≡ c → (p : Path)
          → (if b then f (if c then g p else p) else (if c then g p else p)) ≡ (if c then g (if b then f p else p) else (if b then f p else p))
      two true d true e p = swap (sym ((bytes_eq-Decides r.call own).0 d) ∙ (bytes_eq-Decides r.call call).0 e) p
      two true d false e p = refl
      two false d true e p = refl
      two false d false e p = refl
