-- What is found with the trajectories near a new one is what is found with all.
use Rattle.std.proofs.Common.{◌≡◌, ◌≢◌, ℕ, suc, ◌+◌, ◌*◌, ◌/◌, ⊎_elim, List, [], ◌∷◌, Option, Some, None, Contains, get_or, option_map, Bool, true, false, refl, sym, ◌∙◌, ap, subst, true≢false, if◌then◌else◌, arith}
use Rattle.std.proofs.lemmas.Slice.Eq.{bytes_eq-Decides}
use Rattle.std.specs.Arc.{arc_value}
use Rattle.std.specs.Prelude.{option_and_then}
use Rattle.std.specs.Str.{bytes_eq}
use Rattle.mt_base.specs.declared.conflict.Kind.{Kind}
use Rattle.mt_base.specs.declared.conflict.Kind.TheVariants.{Actual, Tentative}
use Rattle.mt_base.specs.declared.flight.Record.{Record}
use Rattle.mt_base.specs.declared.rules.Rules.{Rules}
use Rattle.mt_base.specs.Bounds.{AreWithinBounds}
use Rattle.mt_base.specs.Conflict.{IsLossSecond}
use Rattle.mt_base.specs.Picture.{NamedTrajectory}
use Rattle.mt_base.specs.Trajectory.{Trajectory}
use Rattle.mt_cover.specs.declared.stays.Stay.{Stay}
use Rattle.mt_cover.specs.Cells.{cover_of}
use Rattle.mt_cover.specs.Sliced.{slices_of}
use Rattle.mt_cover.proofs.Law.{misses_none}
use Rattle.mt_track.specs.Laid.{IsStrand}
use Rattle.mt_probe.specs.declared.flight.Flight.{Flight}
use Rattle.mt_probe.specs.Meeting.{slices_at, slices_by}
use Rattle.mt_probe.specs.Items.{IsNearItem, kind_at, other_at, other_of, path_of, stays_at, stays_by, stays_of_item}
use Rattle.mt_probe.specs.Shot.{Shot, kept_of, made_named}
use Rattle.mt_probe.proofs.Boxes.{slices_even, slices_odd}
use Rattle.mt_probe.proofs.Covered.{at_even, at_odd, even_half, even_kind, odd_half, odd_kind}
use Rattle.mt_base.proofs.Members.{Contains-cases, Contains-head, Contains-none}

-- what an item names of another flight is kept of that flight
pub record IsOther (slots : List (Option Flight)) (call : List ℕ) (item : ℕ) (other : NamedTrajectory) : Type 0 where
  pub flight : Flight
  pub at : get_or slots (item / 2) None ≡ Some flight
  pub apart : flight.card.call ≢ call
  pub kept : Contains (kept_of flight) other

pub kept_by : (f : Flight) (kind : Kind) (other : NamedTrajectory) → Contains (made_named f.card.call kind (path_of kind f)) other → Contains (kept_of f) other
kept_by f Actual other held =
    let actual : NamedTrajectory = record { call = f.card.call; kind = Actual; path = arc_value f.actual.strand } in
    ⊎_elim (λ same. subst (λ (o : NamedTrajectory). Contains (kept_of f) o) same (Contains-head actual (made_named f.card.call Tentative (path_of Tentative f))))
    (λ none. absurd (Contains-none other none)) (Contains-cases actual [] other held)
kept_by f Tentative other held = (suc held.0, omega (arith, held.1), held.2)

pub other_is : (slots : List (Option Flight)) (call : List ℕ) (item : ℕ) (other : NamedTrajectory) → Contains (other_at call slots item) other
    → IsOther slots call item other
other_is slots call item other held = by_flight (get_or slots (item / 2) None) refl held where
  by_call : (f : Flight) → get_or slots (item / 2) None ≡ Some f → (b : Bool) → bytes_eq f.card.call call ≡ b
      → Contains (if b then [] else made_named f.card.call (kind_at item) (path_of (kind_at item) f)) other → IsOther slots call item other
  by_call f at true e held = absurd (Contains-none other held)
  by_call f at false e held = record {
    flight = f;
    at = at;
    apart = λ same. true≢false (sym ((bytes_eq-Decides f.card.call call).1 same) ∙ e);
    kept = kept_by f (kind_at item) other held;
  }

  by_flight : (at : Option Flight) → get_or slots (item / 2) None ≡ at → Contains (other_of call (kind_at item) at) other → IsOther slots call item other
  by_flight None is held = absurd (Contains-none other held)
  by_flight (Some f) is held = by_call f is (bytes_eq f.card.call call) refl held

-- and each trajectory that is kept of a flight of another callsign is named by an item of its place
pub record IsNamed (rules : Rules) (slots : List (Option Flight)) (call : List ℕ) (other : NamedTrajectory) : Type 0 where
  pub item : ℕ
  pub among : Contains (other_at call slots item) other
  pub stays : stays_at rules slots item ≡ cover_of rules other.path
  pub slices : slices_at rules slots item ≡ Some (slices_of rules other.path)

other_by : (call : List ℕ) (kind : Kind) (f : Flight) → f.card.call ≢ call → other_of call kind (Some f) ≡ made_named f.card.call kind (path_of kind f)
other_by call kind f apart = by_test (bytes_eq f.card.call call) refl where
  by_test : (b : Bool) → bytes_eq f.card.call call ≡ b
      → (if b then [] else made_named f.card.call kind (path_of kind f)) ≡ made_named f.card.call kind (path_of kind f)
  by_test true e = absurd (apart ((bytes_eq-Decides f.card.call call).0 e))
  by_test false e = refl

module _ (rules : Rules) (slots : List (Option Flight)) (call : List ℕ) (i : ℕ) (f : Flight) (at : get_or slots i None ≡ Some f) (apart : f.card.call ≢ call) where
  even_other : other_at call slots (2 * i) ≡ made_named f.card.call Actual (path_of Actual f)
  even_other = ap (λ (kind : Kind). other_of call kind (get_or slots ((2 * i) / 2) None)) (even_kind i)
      ∙ ap (λ (j : ℕ). other_of call Actual (get_or slots j None)) (even_half i) ∙ ap (other_of call Actual) at ∙ other_by call Actual f apart

  odd_other : other_at call slots (2 * i + 1) ≡ made_named f.card.call Tentative (path_of Tentative f)
  odd_other = ap (λ (kind : Kind). other_of call kind (get_or slots ((2 * i + 1) / 2) None)) (odd_kind i)
      ∙ ap (λ (j : ℕ). other_of call Tentative (get_or slots j None)) (odd_half i) ∙ ap (other_of call Tentative) at ∙ other_by call Tentative f apart

  path_named : (kind : Kind) (path : Option Trajectory) (other : NamedTrajectory) → Contains (made_named f.card.call kind path) other
      → stays_of_item rules path ≡ cover_of rules other.path
  path_named kind None other held = absurd (Contains-none other held)
  path_named kind (Some t) other held = ⊎_elim
      (λ same. ap (λ (o : NamedTrajectory). cover_of rules o.path) same) (λ none. absurd (Contains-none other none))
      (Contains-cases (record { call = f.card.call; kind = kind; path = t }) [] other held)

  path_sliced : (kind : Kind) (path : Option Trajectory) (other : NamedTrajectory) → Contains (made_named f.card.call kind path) other
      → option_map (slices_of rules) path ≡ Some (slices_of rules other.path)
  path_sliced kind None other held = absurd (Contains-none other held)
  path_sliced kind (Some t) other held = ⊎_elim
      (λ same. ap (λ (o : NamedTrajectory). Some (slices_of rules o.path)) same) (λ none. absurd (Contains-none other none))
      (Contains-cases (record { call = f.card.call; kind = kind; path = t }) [] other held)

  pub named_by : (other : NamedTrajectory) → Contains (kept_of f) other → IsNamed rules slots call other
  named_by other kept = ⊎_elim
      (λ same.
      let held : Contains (made_named f.card.call Actual (path_of Actual f)) other =
      subst (Contains (made_named f.card.call Actual (path_of Actual f))) same
      (Contains-head (record { call = f.card.call; kind = Actual; path = arc_value f.actual.strand }) []) in
      record {
        item = 2 * i;
        among = subst (λ (os : List NamedTrajectory). Contains os other) (sym even_other) held;
        stays = at_even rules slots i ∙ ap (stays_by rules Actual) at ∙ path_named Actual (path_of Actual f) other held;
        slices = slices_even rules slots i ∙ ap (slices_by rules Actual) at ∙ path_sliced Actual (path_of Actual f) other held;
      })
      (λ held. record {
        item = 2 * i + 1;
        among = subst (λ (os : List NamedTrajectory). Contains os other) (sym odd_other) held;
        stays = at_odd rules slots i ∙ ap (stays_by rules Tentative) at ∙ path_named Tentative (path_of Tentative f) other held;
        slices = slices_odd rules slots i ∙ ap (slices_by rules Tentative) at ∙ path_sliced Tentative (path_of Tentative f) other held;
      })
      (Contains-cases (record { call = f.card.call; kind = Actual; path = arc_value f.actual.strand })
      (made_named f.card.call Tentative (path_of Tentative f)) other kept)

-- a trajectory that has a loss second with another is near it
pub near_by_loss : (shot : Shot) (t other : Trajectory) (item k : ℕ) → AreWithinBounds shot.setup.rules → IsStrand t → IsStrand other
    → IsLossSecond shot.setup.rules t other k → stays_at shot.setup.rules shot.slots item ≡ cover_of shot.setup.rules other
    → IsNearItem shot (cover_of shot.setup.rules t) item
near_by_loss shot t other item k rules mine theirs loss stays =
    let share = misses_none shot.setup.rules t other k rules mine theirs loss in
    record {
      mine = share.left.stay;
      of = share.left.of;
      theirs = share.right.stay;
      there = subst (λ (list : List Stay). Contains list share.right.stay) (sym stays) share.right.of;
      meet = record {
        cell = share.right.there ∙ sym share.left.there;
        common = record { second = k; left = (share.left.begun, share.left.within); right = (share.right.begun, share.right.within) };
      };
    }

-- an item of an empty place names none, nor does one of the flight itself, nor one of a trajectory that isn't there
pub other_nowhere : (slots : List (Option Flight)) (call : List ℕ) (item : ℕ) → None ≡ option_map (λ f. f.card) (get_or slots (item / 2) None)
    → other_at call slots item ≡ []
other_nowhere slots call item is = by_flight (get_or slots (item / 2) None) is where
  by_flight : (at : Option Flight) → None ≡ option_map (λ f. f.card) at → other_of call (kind_at item) at ≡ []
  by_flight None is = refl
  by_flight (Some f) is = absurd (cc)

pub other_own : (slots : List (Option Flight)) (call : List ℕ) (item : ℕ) (card : Record)
    → Some card ≡ option_map (λ f. f.card) (get_or slots (item / 2) None) → bytes_eq card.call call ≡ true → other_at call slots item ≡ []
other_own slots call item card is own = by_flight (get_or slots (item / 2) None) is where
  by_flight : (at : Option Flight) → Some card ≡ option_map (λ f. f.card) at → other_of call (kind_at item) at ≡ []
  by_flight None is = refl
  by_flight (Some f) is =
      let same : card ≡ f.card = cc in
      let test : bytes_eq f.card.call call ≡ true = subst (λ (r : Record). bytes_eq r.call call ≡ true) same own in
      rw test refl

pub other_pathless : (slots : List (Option Flight)) (call : List ℕ) (item : ℕ) (kind : Kind) → kind ≡ kind_at item
    → None ≡ option_and_then (path_of kind) (get_or slots (item / 2) None) → other_at call slots item ≡ []
other_pathless slots call item kind kind_is is =
    ap (λ (k : Kind). other_of call k (get_or slots (item / 2) None)) (sym kind_is) ∙ by_flight (get_or slots (item / 2) None) is where
      by_test : (others : List NamedTrajectory) (b : Bool) → others ≡ [] → (if b then [] else others) ≡ []
      by_test others true none = refl
      by_test others false none = none

      by_path : (f : Flight) (found : Option Trajectory) → None ≡ found → (if bytes_eq f.card.call call then [] else made_named f.card.call kind found) ≡ []
      by_path f None is = by_test [] (bytes_eq f.card.call call) refl
      by_path f (Some t) is = absurd (cc)

      by_flight : (at : Option Flight) → None ≡ option_and_then (path_of kind) at → other_of call kind at ≡ []
      by_flight None is = refl
      by_flight (Some f) is = by_path f (path_of kind f) is

-- an item of another flight names one trajectory
pub other_one : (slots : List (Option Flight)) (call : List ℕ) (item : ℕ) (kind : Kind) (card : Record) (path : Trajectory) → kind ≡ kind_at item
    → Some card ≡ option_map (λ f. f.card) (get_or slots (item / 2) None) → bytes_eq card.call call ≡ false
    → Some path ≡ option_and_then (path_of kind) (get_or slots (item / 2) None)
    → other_at call slots item ≡ record { call = card.call; kind = kind; path = path } ∷ []
other_one slots call item kind card path kind_is card_is apart path_is =
    ap (λ (k : Kind). other_of call k (get_or slots (item / 2) None)) (sym kind_is) ∙ by_flight (get_or slots (item / 2) None) card_is path_is where
      by_path : (f : Flight) → card ≡ f.card → (found : Option Trajectory) → Some path ≡ found
          → (if bytes_eq f.card.call call then [] else made_named f.card.call kind found) ≡ record { call = card.call; kind = kind; path = path } ∷ []
      by_path f same None is = absurd (cc)
      by_path f same (Some t) is =
          let one : path ≡ t = cc in
          let test : bytes_eq f.card.call call ≡ false = subst (λ (r : Record). bytes_eq r.call call ≡ false) same apart in
          rw (test, ← one, ← same) refl

      by_flight : (at : Option Flight) → Some card ≡ option_map (λ f. f.card) at → Some path ≡ option_and_then (path_of kind) at
          → other_of call kind at ≡ record { call = card.call; kind = kind; path = path } ∷ []
      by_flight None is found = absurd (cc)
      by_flight (Some f) is found = let same : card ≡ f.card = cc in by_path f same (path_of kind f) found
