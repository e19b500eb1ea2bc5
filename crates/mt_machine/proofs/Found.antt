use Rattle.std.proofs.Common.{◌≡◌, ◌≢◌, Bool, true, false, not, ℕ, List, [], ◌∷◌, Some, refl, sym, ◌∙◌, subst, true≢false, if◌then◌else◌}
use Rattle.std.proofs.lemmas.List.Elements.{recursion_from_All}
use Rattle.std.proofs.lemmas.Slice.Eq.{bytes_eq-Decides}
use Rattle.std.specs.List.{All, AllByRecursion, find}
use Rattle.std.specs.Prelude.{is_some}
use Rattle.std.specs.Str.{bytes_eq}
use Rattle.mt_base.specs.declared.flight.Record.{Record}
use Rattle.mt_base.specs.Picture.{flight_of}

-- where no flight of a callsign is found, each has another
pub none_found : (call : List ℕ) (flights : List Record) → not (is_some (flight_of flights call)) ≡ true → AllByRecursion (λ f. f.call ≢ call) flights
none_found call [] none = tt
none_found call (f ∷ fs) none = step (bytes_eq f.call call) refl (none_found call fs) none where
  step : (b : Bool) → bytes_eq f.call call ≡ b → (not (is_some (flight_of fs call)) ≡ true → AllByRecursion (λ g. g.call ≢ call) fs)
      → not (is_some (if b then Some f else flight_of fs call)) ≡ true → (f.call ≢ call) × AllByRecursion (λ g. g.call ≢ call) fs
  step true e rest none = cc
  step false e rest none = ((λ same. absurd (true≢false (sym ((bytes_eq-Decides f.call call).1 same) ∙ e))), rest none)

-- what holds of each element holds of the one that is found
found_by : {X : Type 0} (P : X → Type 0) (test : X → Bool) (xs : List X) (x : X) → AllByRecursion P xs → find test xs ≡ Some x → P x
found_by P test [] x all e = cc
found_by {X = X} P test (y ∷ ys) x all e = step (test y) (found_by P test ys x all.1) e where
  step : (b : Bool) → (find test ys ≡ Some x → P x) → (if b then Some y else find test ys) ≡ Some x → P x
  step true rest e = let same : y ≡ x = cc in subst P same all.0
  step false rest e = rest e

pub found : {X : Type 0} (P : X → Type 0) (test : X → Bool) (xs : List X) (x : X) → All P xs → find test xs ≡ Some x → P x
found P test xs x all e = found_by P test xs x (recursion_from_All P xs all) e
