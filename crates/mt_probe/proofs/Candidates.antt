-- The trajectories whose slices meet those of a new one: each is near, and what loses separation is among them.
use Rattle.std.proofs.Common.{◌≡◌, ◌≢◌, ℕ, zero, suc, min, max, ◌+◌, ◌*◌, ◌/◌, ◌<◌, ◌≤◌, ⊎_elim, List, [], ◌∷◌, ◌++◌, Option, Some, None, Contains, length, get_or, take, option_map, Bool, true, false, refl, sym, ◌∙◌, ap, subst, if◌then◌else◌, length-append, arith}
use Rattle.std.proofs.lemmas.Bool.{cases_eq}
use Rattle.std.proofs.lemmas.List.{flat_map_more, take_more}
use Rattle.std.proofs.lemmas.List.Elements.{All-contains}
use Rattle.std.proofs.lemmas.List.Kept.{AllPairs-from_increasing}
use Rattle.std.specs.List.{All, AllPairs, flat_map}
use Rattle.std.specs.Prelude.{option_and_then}
use Rattle.std.specs.Str.{bytes_eq}
use Rattle.mt_base.specs.declared.conflict.Kind.{Kind}
use Rattle.mt_base.specs.declared.rules.Rules.{Rules}
use Rattle.mt_base.specs.Conflict.{IsConflict, IsLossSecond}
use Rattle.mt_base.specs.Picture.{NamedTrajectory}
use Rattle.mt_base.specs.Trajectory.{Trajectory}
use Rattle.mt_base.proofs.Members.{Contains-cases, Contains-head, Contains-none}
use Rattle.mt_cover.specs.declared.stays.Stay.{Stay}
use Rattle.mt_cover.specs.Cells.{cover_of}
use Rattle.mt_cover.specs.Sliced.{Sliced, slices_of}
use Rattle.mt_meet.specs.declared.table.Met.{Met}
use Rattle.mt_meet.specs.Meeting.{MeetAt}
use Rattle.mt_meet.proofs.Meetings.{losing_meet, meeting_is_near}
use Rattle.mt_track.specs.Laid.{IsStrand}
use Rattle.mt_probe.specs.declared.flight.Flight.{Flight}
use Rattle.mt_probe.specs.Meeting.{AreMetItems, IsMetOf, slices_at, slices_by}
use Rattle.mt_probe.specs.Items.{AreNearItems, IsNearItem, kind_at, other_at, other_of, others_among, path_of, stays_at, stays_by, stays_of_item}
use Rattle.mt_base.specs.Trajectory.{horizon}
use Rattle.mt_probe.specs.Shot.{Shot, made_named}
use Rattle.mt_probe.specs.Standing.{IsSoundShot}
use Rattle.mt_probe.proofs.Nearby.{kept_by}
use Rattle.mt_probe.proofs.Placed.{filled_inside}

-- the trajectory whose slices these are
record IsPathAt (rules : Rules) (kind : Kind) (at : Option Flight) (theirs : Sliced) : Type 0 where
  flight : Flight
  at_is : at ≡ Some flight
  path : Trajectory
  path_is : path_of kind flight ≡ Some path
  slices : theirs ≡ slices_of rules path

path_at : (rules : Rules) (kind : Kind) (at : Option Flight) (theirs : Sliced) → slices_by rules kind at ≡ Some theirs → IsPathAt rules kind at theirs
path_at rules kind None theirs is = absurd (cc)
path_at rules kind (Some f) theirs is = by_path (path_of kind f) refl is where
  by_path : (p : Option Trajectory) → path_of kind f ≡ p → option_map (slices_of rules) p ≡ Some theirs → IsPathAt rules kind (Some f) theirs
  by_path None e is = absurd (cc)
  by_path (Some path) e is = let same : slices_of rules path ≡ theirs = cc in
      record { flight = f; at_is = refl; path = path; path_is = e; slices = sym same }

-- it is the only one that an item names
others_path : (call : List ℕ) (kind : Kind) (f : Flight) (path : Trajectory) (other : NamedTrajectory) → path_of kind f ≡ Some path
    → Contains (other_of call kind (Some f)) other → other.path ≡ path
others_path call kind f path other is held = by_call (bytes_eq f.card.call call) held where
  by_path : (p : Option Trajectory) → p ≡ Some path → Contains (made_named f.card.call kind p) other → other.path ≡ path
  by_path None e held = absurd (Contains-none other held)
  by_path (Some t) e held = let same : t ≡ path = cc in ⊎_elim
      (λ own. sym (ap (λ (o : NamedTrajectory). o.path) own) ∙ same) (λ none. absurd (Contains-none other none))
      (Contains-cases (record { call = f.card.call; kind = kind; path = t }) [] other held)

  by_call : (b : Bool) → Contains (if b then [] else made_named f.card.call kind (path_of kind f)) other → other.path ≡ path
  by_call true held = absurd (Contains-none other held)
  by_call false held = by_path (path_of kind f) is held

-- what is known of the trajectory that an item names, which has these slices
pub record IsMetPath (shot : Shot) (item : ℕ) (theirs : Sliced) : Type 0 where
  pub path : Trajectory
  pub path_is : option_and_then (path_of (kind_at item)) (get_or shot.slots (item / 2) None) ≡ Some path
  pub slices : theirs ≡ slices_of shot.setup.rules path
  pub stays : stays_at shot.setup.rules shot.slots item ≡ cover_of shot.setup.rules path
  pub laid : IsStrand path
  pub others : (call : List ℕ) (other : NamedTrajectory) → Contains (other_at call shot.slots item) other → other.path ≡ path

pub met_path : (shot : Shot) (item : ℕ) (theirs : Sliced) → IsSoundShot shot → slices_at shot.setup.rules shot.slots item ≡ Some theirs → IsMetPath shot item theirs
met_path shot item theirs sound is =
    let rules = shot.setup.rules in
    let kind = kind_at item in
    let it = path_at rules kind (get_or shot.slots (item / 2) None) theirs is in
    let named : NamedTrajectory = record { call = it.flight.card.call; kind = kind; path = it.path } in
    let held : Contains (made_named it.flight.card.call kind (path_of kind it.flight)) named =
    subst (λ (p : Option Trajectory). Contains (made_named it.flight.card.call kind p) named) (sym it.path_is) (Contains-head named []) in
    record {
      path = it.path;
      path_is = ap (option_and_then (path_of kind)) it.at_is ∙ it.path_is;
      slices = it.slices;
      stays = ap (stays_by rules kind) it.at_is ∙ ap (stays_of_item rules) it.path_is;
      laid = sound.laid (item / 2) it.flight named it.at_is (kept_by it.flight kind named held);
      others = λ call other among. others_path call kind it.flight it.path other it.path_is
          (subst (λ (at : Option Flight). Contains (other_of call kind at) other) it.at_is among);
    }

-- what meets is near
pub near_by_meeting : (shot : Shot) (t : Trajectory) (item : ℕ) (theirs : Sliced) (k : ℕ) → IsSoundShot shot → IsStrand t
    → slices_at shot.setup.rules shot.slots item ≡ Some theirs → MeetAt shot.setup.rules (slices_of shot.setup.rules t) theirs k
    → IsNearItem shot (cover_of shot.setup.rules t) item
near_by_meeting shot t item theirs k sound laid is meet =
    let rules = shot.setup.rules in
    let it = met_path shot item theirs sound is in
    let share = meeting_is_near rules t it.path k sound.rules laid it.laid (subst (λ (s : Sliced). MeetAt rules (slices_of rules t) s k) it.slices meet) in
    record {
      mine = share.left.stay;
      of = share.left.of;
      theirs = share.right.stay;
      there = subst (λ (list : List Stay). Contains list share.right.stay) (sym it.stays) share.right.of;
      meet = record {
        cell = share.right.there ∙ sym share.left.there;
        common = record { second = k; left = (share.left.begun, share.left.within); right = (share.right.begun, share.right.within) };
      };
    }

-- what an item names loses separation only in the seconds in which its slices meet
pub lost_within : (shot : Shot) (t : Trajectory) (met : Met) (call : List ℕ) (other : NamedTrajectory) (k : ℕ) → IsSoundShot shot → IsStrand t
    → IsMetOf shot (slices_of shot.setup.rules t) met → Contains (other_at call shot.slots met.item) other → IsLossSecond shot.setup.rules t other.path k
    → (met.first ≤ k) × (k ≤ met.last)
lost_within shot t met call other k sound laid is held loss =
    let rules = shot.setup.rules in
    let it = met_path shot met.item is.theirs sound is.there in
    let path = it.others call other held in
    let meet = losing_meet rules t it.path k sound.rules laid it.laid (subst (λ (p : Trajectory). IsLossSecond rules t p k) path loss) in
    is.hull.none_outside k (subst (λ (s : Sliced). MeetAt rules (slices_of rules t) s k) (sym it.slices) meet)

pub early : (shot : Shot) (t : Trajectory) (met : Met) → IsStrand t → IsMetOf shot (slices_of shot.setup.rules t) met → met.last < horizon
early shot t met laid is = let within = is.hull.last_is.left.within in omega (arith, within, laid.early)

-- what is met is at a place
pub met_inside : (shot : Shot) (mine : Sliced) (met : Met) → IsMetOf shot mine met → met.item < 2 * length shot.slots
met_inside shot mine met is =
    let it = path_at shot.setup.rules (kind_at met.item) (get_or shot.slots (met.item / 2) None) is.theirs is.there in
    let inside = filled_inside shot.slots (met.item / 2) it.flight it.at_is in
    omega (arith, inside)

-- the conflict in those seconds of a range is the conflict in the range
pub part_by_hull : (rules : Rules) (a b : Trajectory) (first last from to begin end : ℕ) (r : Option (ℕ × ℕ)) → begin ≡ max from first → end ≡ min to (last + 1)
    → ((k : ℕ) → from ≤ k → k < to → IsLossSecond rules a b k → (first ≤ k) × (k ≤ last)) → IsConflict rules a b begin end r → IsConflict rules a b from to r
part_by_hull rules a b first last from to begin end None begin_is end_is inside none = λ k low high loss.
    let between = inside k low high loss in none k (omega (arith, between.0, low, begin_is)) (omega (arith, between.1, high, end_is)) loss
part_by_hull rules a b first last from to begin end (Some span) begin_is end_is inside some = record {
  inside = (omega (arith, some.inside.0, begin_is), some.inside.1, omega (arith, some.inside.2, end_is));
  first_is = some.first_is;
  last_is = some.last_is;
  none_outside = λ k low high loss. let between = inside k low high loss in
      some.none_outside k (omega (arith, between.0, low, begin_is)) (omega (arith, between.1, high, end_is)) loss;
}

-- the conflict in these seconds is the whole conflict
pub whole_by_hull : (rules : Rules) (a b : Trajectory) (first last : ℕ) (r : Option (ℕ × ℕ)) → ((k : ℕ) → IsLossSecond rules a b k → (first ≤ k) × (k ≤ last))
    → last < horizon → IsConflict rules a b first (last + 1) r → IsConflict rules a b 0 horizon r
whole_by_hull rules a b first last None inside ends none = λ k low high loss.
    let between = inside k loss in none k between.0 (omega (arith, between.1)) loss
whole_by_hull rules a b first last (Some span) inside ends some = record {
  inside = (omega arith, some.inside.1, omega (arith, some.inside.2, ends));
  first_is = some.first_is;
  last_is = some.last_is;
  none_outside = λ k low high loss. let between = inside k loss in some.none_outside k between.0 (omega (arith, between.1)) loss;
}

-- the trajectories of flights of other callsigns among those that were met
abbrev pub others_met : List ℕ → List (Option Flight) → List Met → List NamedTrajectory
others_met call slots list = flat_map (λ (met : Met). other_at call slots met.item) list

pub one_met_more : (call : List ℕ) (slots : List (Option Flight)) (list : List Met) (i : ℕ) (met : Met) → i < length list → met ≡ get_or list i met
    → others_met call slots (take (i + 1) list) ≡ others_met call slots (take i list) ++ other_at call slots met.item
one_met_more call slots list i met below is =
    ap (others_met call slots) (take_more list i met below ∙ ap (λ (m : Met). take i list ++ m ∷ []) (sym is))
    ∙ sym (flat_map_more (λ (m : Met). other_at call slots m.item) [] (take i list) met)

-- the first ones name no more than all
pub fewer : {X Y : Type 0} (f : X → List Y) (n : ℕ) (xs : List X) → length (flat_map f (take n xs)) ≤ length (flat_map f xs)
fewer f zero xs = omega arith
fewer f (suc n) [] = omega arith
fewer f (suc n) (x ∷ xs) = let rest = fewer f n xs in omega (arith, rest, length-append (f x) (flat_map f (take n xs)), length-append (f x) (flat_map f xs))

-- rising items among others name no more than these
module _ {X Y : Type 0} (item : X → ℕ) (f : ℕ → List Y) where
  rest : (x : X) (xs : List X) → AllPairs (λ (a b : X). item a < item b) (x ∷ xs) → AllPairs (λ (a b : X). item a < item b) xs
  rest x xs all = λ i j d before below. all (suc i) (suc j) d (omega arith) (omega arith)

  later : (x z : X) (xs : List X) → AllPairs (λ (a b : X). item a < item b) (x ∷ xs) → Contains xs z → item x < item z
  later x z xs all held =
      let heads : All (λ (b : X). item x < item b) xs = λ k d below. all 0 (suc k) d (omega arith) (omega arith) in
      All-contains (λ (b : X). item x < item b) xs z heads held

  rest_of : (y : ℕ) (ys : List ℕ) → AllPairs (λ (a b : ℕ). a < b) (y ∷ ys) → AllPairs (λ (a b : ℕ). a < b) ys
  rest_of y ys all = λ i j d before below. all (suc i) (suc j) d (omega arith) (omega arith)

  least : (y z : ℕ) (ys : List ℕ) → AllPairs (λ (a b : ℕ). a < b) (y ∷ ys) → Contains ys z → y < z
  least y z ys all held =
      let heads : All (λ (b : ℕ). y < b) ys = λ k d below. all 0 (suc k) d (omega arith) (omega arith) in
      All-contains (λ (b : ℕ). y < b) ys z heads held

  not_first : (y z : ℕ) (ys : List ℕ) → Contains (y ∷ ys) z → y ≢ z → Contains ys z
  not_first y z ys held apart = ⊎_elim (λ same. absurd (apart same)) (λ more. more) (Contains-cases y ys z held)

  pub fewer_among : (xs : List X) (ys : List ℕ) → AllPairs (λ (a b : X). item a < item b) xs → AllPairs (λ (a b : ℕ). a < b) ys
      → ((x : X) → Contains xs x → Contains ys (item x)) → length (flat_map (λ (x : X). f (item x)) xs) ≤ length (flat_map f ys)
  fewer_among [] ys xs_rise ys_rise all = omega arith
  fewer_among (x ∷ xs) [] xs_rise ys_rise all = absurd (Contains-none (item x) (all x (Contains-head x xs)))
  fewer_among (x ∷ xs) (y ∷ ys) xs_rise ys_rise all = ⊎_elim
      (λ same. let more = fewer_among xs ys (rest x xs xs_rise) (rest_of y ys ys_rise)
      (λ z held. not_first y (item z) ys (all z (suc held.0, omega (arith, held.1), held.2)) (λ e. let h = later x z xs xs_rise held in omega (arith, e, same, h))) in
      let one : length (f (item x)) ≡ length (f y) = ap (λ (n : ℕ). length (f n)) (sym same) in
      omega (arith, more, one, length-append (f (item x)) (flat_map (λ (z : X). f (item z)) xs), length-append (f y) (flat_map f ys)))
      (λ apart. let there = not_first y (item x) ys (all x (Contains-head x xs)) apart in
      let more = fewer_among (x ∷ xs) ys xs_rise (rest_of y ys ys_rise)
      (λ z held. not_first y (item z) ys (all z held) (λ e. ⊎_elim
      (λ own. apart (e ∙ ap item (sym own)))
      (λ behind. let h = later x z xs xs_rise behind in let g = least y (item x) ys ys_rise there in omega (arith, e, h, g))
      (Contains-cases x xs z held))) in
      omega (arith, more, length-append (f y) (flat_map f ys)))
      (cases_eq y (item x))

-- what some of those that were met name is no more than what those that are near name
pub few_by : (f : ℕ → List NamedTrajectory) (shot : Shot) (t : Trajectory) (list : List Met) (items : List ℕ) → IsSoundShot shot → IsStrand t
    → AllPairs (λ (m n : Met). m.item < n.item) list → ((met : Met) → Contains list met → IsMetOf shot (slices_of shot.setup.rules t) met)
    → AreNearItems shot (cover_of shot.setup.rules t) items → length (flat_map (λ (m : Met). f m.item) list) ≤ length (flat_map f items)
few_by f shot t list items sound laid rising exact near = fewer_among (λ (m : Met). m.item) f list items rising
    (AllPairs-from_increasing items near.rising)
    (λ m held. let is = exact m held in
    (near.same m.item).1 (near_by_meeting shot t m.item is.theirs m.first sound laid is.there is.hull.first_is))

pub few_met : (shot : Shot) (call : List ℕ) (t : Trajectory) (list : List Met) (items : List ℕ) → IsSoundShot shot → IsStrand t
    → AreMetItems shot (slices_of shot.setup.rules t) list → AreNearItems shot (cover_of shot.setup.rules t) items
    → length (others_met call shot.slots list) ≤ length (others_among call shot.slots items)
few_met shot call t list items sound laid met near = few_by (other_at call shot.slots) shot t list items sound laid met.rising met.exact near
