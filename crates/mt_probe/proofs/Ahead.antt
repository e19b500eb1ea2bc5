-- What the slices of a new trajectory meet in the look-ahead, and the tests of what is flown of it.
use Rattle.std.proofs.Common.{◌≡◌, ◌∙◌, ◌≤◌, ◌<◌, ◌+◌, ◌/◌, ⊎_elim, Some, Bool, true, false, ℕ, nat_lt, List, [], ◌∷◌, Contains, length, length-append, refl, sym, ap, subst, if◌then◌else◌, arith}
use Rattle.std.proofs.lemmas.Bool.{cases_eq}
use Rattle.std.proofs.lemmas.Bool.Decides.{nat_tests}
use Rattle.std.specs.List.{flat_map}
use Rattle.std.specs.Prelude.{option_and_then}
use Rattle.mt_base.specs.Conflict.{IsLossSecond}
use Rattle.mt_base.specs.Picture.{window_end}
use Rattle.mt_base.specs.Trajectory.{Trajectory, horizon}
use Rattle.mt_base.proofs.Members.{Contains-cases, Contains-none}
use Rattle.mt_cover.specs.Cells.{cover_of}
use Rattle.mt_cover.specs.Sliced.{Sliced, slices_of}
use Rattle.mt_meet.specs.declared.table.Met.{Met}
use Rattle.mt_meet.specs.Meeting.{MeetAt}
use Rattle.mt_meet.proofs.Meetings.{losing_meet}
use Rattle.mt_track.specs.Laid.{IsStrand}
use Rattle.mt_probe.specs.Items.{AreNearItems, IsNearItem, kind_at, path_of}
use Rattle.mt_probe.specs.Private.Ahead.{AreAhead, IsMetAhead, items_below}
use Rattle.mt_probe.specs.Private.Boxed.{IsFirstMetOf}
use Rattle.mt_probe.specs.Shot.{Shot, flight_at}
use Rattle.mt_probe.specs.Standing.{IsSoundShot}
use Rattle.mt_probe.specs.Tests.{WasTriedNear, flown_at}
use Rattle.mt_probe.proofs.Candidates.{met_path, near_by_meeting}

module _ (shot : Shot) (t : Trajectory) (mine : Sliced) (ahead : AreAhead shot t mine) where
  -- what these slices meet all of the trajectory meet
  pub met_whole : (theirs : Sliced) (k : ℕ) → MeetAt shot.setup.rules mine theirs k → MeetAt shot.setup.rules (slices_of shot.setup.rules t) theirs k
  met_whole theirs k meet =
      let same = ahead.same k meet.left in
      record { left = same.0; right = meet.right; meet = rw (ahead.rvsm_is, same.1) at meet.meet }

  -- what all of them meet in the look-ahead these meet
  pub met_ahead : (theirs : Sliced) (k : ℕ) → shot.now ≤ k → k < window_end shot.now → MeetAt shot.setup.rules (slices_of shot.setup.rules t) theirs k
      → MeetAt shot.setup.rules mine theirs k
  met_ahead theirs k low high meet =
      let left = ahead.whole k meet.left high in
      record { left = left; right = meet.right; meet = rw (← ahead.rvsm_is, ← (ahead.same k left).1) at meet.meet }

-- what an item names loses separation in the look-ahead only in the seconds in which its slices meet
pub lost_ahead : (shot : Shot) (t : Trajectory) (met : Met) (other : Trajectory) (k : ℕ) → IsSoundShot shot → IsStrand t → IsMetAhead shot t met
    → Some other ≡ option_and_then (path_of (kind_at met.item)) (flight_at shot (met.item / 2)) → shot.now ≤ k → k < window_end shot.now
    → IsLossSecond shot.setup.rules t other k → (met.first ≤ k) × (k ≤ met.last)
lost_ahead shot t met other k sound laid it other_is low high loss =
    let rules = shot.setup.rules in
    let theirs = met_path shot met.item it.is.theirs sound it.is.there in
    let path : other ≡ theirs.path = (let both = other_is ∙ theirs.path_is in cc) in
    let meet = losing_meet rules t theirs.path k sound.rules laid theirs.laid (subst (λ (p : Trajectory). IsLossSecond rules t p k) path loss) in
    it.is.hull.none_outside k (met_ahead shot t it.mine it.ahead it.is.theirs k low high
    (subst (λ (s : Sliced). MeetAt rules (slices_of rules t) s k) (sym theirs.slices) meet))

pub early_ahead : (shot : Shot) (t : Trajectory) (met : Met) → IsStrand t → IsMetAhead shot t met → met.last < horizon
early_ahead shot t met laid it =
    let within = (it.ahead.same met.last it.is.hull.last_is.left).0.within in omega (arith, within, laid.early)

-- what they meet is near
near_ahead : (shot : Shot) (t : Trajectory) (met : Met) → IsSoundShot shot → IsStrand t → IsMetAhead shot t met
    → IsNearItem shot (cover_of shot.setup.rules t) met.item
near_ahead shot t met sound laid it = near_by_meeting shot t met.item it.is.theirs met.first sound laid it.is.there
    (met_whole shot t it.mine it.ahead it.is.theirs met.first it.is.hull.first_is)

-- what the items below a number name
module _ {X : Type 0} (f : ℕ → List X) where
  grows : (n m : ℕ) (items : List ℕ) → n ≤ m → length (flat_map f (items_below n items)) ≤ length (flat_map f (items_below m items))
  grows n m [] below = omega arith
  grows n m (x ∷ xs) below = by_test (grows n m xs below) (nat_lt x n) (nat_lt x m) refl refl where
    by_test : length (flat_map f (items_below n xs)) ≤ length (flat_map f (items_below m xs)) → (a b : Bool) → nat_lt x n ≡ a → nat_lt x m ≡ b
        → length (flat_map f (if a then x ∷ items_below n xs else items_below n xs))
        ≤ length (flat_map f (if b then x ∷ items_below m xs else items_below m xs))
    by_test rest true true e d = omega (arith, rest, length-append (f x) (flat_map f (items_below n xs)), length-append (f x) (flat_map f (items_below m xs)))
    by_test rest true false e d = absurd (grind (arith, nat_tests))
    by_test rest false true e d = omega (arith, rest, length-append (f x) (flat_map f (items_below m xs)))
    by_test rest false false e d = rest

  -- one more is among them
  one_more : (n item : ℕ) (items : List ℕ) → n ≤ item → Contains items item
      → length (flat_map f (items_below n items)) + length (f item) ≤ length (flat_map f (items_below (item + 1) items))
  one_more n item [] below held = absurd (Contains-none item held)
  one_more n item (x ∷ xs) below held = ⊎_elim
      (λ same. own same (nat_lt x n) (nat_lt x (item + 1)) refl refl)
      (λ apart. other (one_more n item xs below (⊎_elim (λ same. absurd (apart same)) (λ more. more) (Contains-cases x xs item held)))
      (nat_lt x n) (nat_lt x (item + 1)) refl refl)
      (cases_eq x item) where
        own : x ≡ item → (a b : Bool) → nat_lt x n ≡ a → nat_lt x (item + 1) ≡ b
            → length (flat_map f (if a then x ∷ items_below n xs else items_below n xs)) + length (f item)
            ≤ length (flat_map f (if b then x ∷ items_below (item + 1) xs else items_below (item + 1) xs))
        own same true b e d = absurd (grind (arith, nat_tests))
        own same false true e d = omega (
          arith,
          grows n (item + 1) xs (omega (arith, below)),
          ap (λ (i : ℕ). length (f i)) same,
          length-append (f x) (flat_map f (items_below (item + 1) xs)),
        )
        own same false false e d = absurd (grind (arith, nat_tests))

        other : length (flat_map f (items_below n xs)) + length (f item) ≤ length (flat_map f (items_below (item + 1) xs)) → (a b : Bool) → nat_lt x n ≡ a
            → nat_lt x (item + 1) ≡ b → length (flat_map f (if a then x ∷ items_below n xs else items_below n xs)) + length (f item)
            ≤ length (flat_map f (if b then x ∷ items_below (item + 1) xs else items_below (item + 1) xs))
        other rest true true e d = omega (
          arith,
          rest,
          length-append (f x) (flat_map f (items_below n xs)),
          length-append (f x) (flat_map f (items_below (item + 1) xs)),
        )
        other rest true false e d = absurd (grind (arith, nat_tests))
        other rest false true e d = omega (arith, rest, length-append (f x) (flat_map f (items_below (item + 1) xs)))
        other rest false false e d = rest

  all_below : (n : ℕ) (items : List ℕ) → length (flat_map f (items_below n items)) ≤ length (flat_map f items)
  all_below n [] = omega arith
  all_below n (x ∷ xs) = by_test (all_below n xs) (nat_lt x n) where
    by_test : length (flat_map f (items_below n xs)) ≤ length (flat_map f xs) → (a : Bool)
        → length (flat_map f (if a then x ∷ items_below n xs else items_below n xs)) ≤ length (flat_map f (x ∷ xs))
    by_test rest true = omega (arith, rest, length-append (f x) (flat_map f (items_below n xs)), length-append (f x) (flat_map f xs))
    by_test rest false = omega (arith, rest, length-append (f x) (flat_map f xs))

-- at most one test for each trajectory that another flight flies near this one, of the items below a number
abbrev pub WasTriedBelow : Shot → List ℕ → Trajectory → ℕ → ℕ → ℕ → Type 0
WasTriedBelow shot call t n old new = (items : List ℕ) → AreNearItems shot (cover_of shot.setup.rules t) items
    → new ≤ old + length (flat_map (flown_at call shot.slots) (items_below n items))

module _ (shot : Shot) (call : List ℕ) (t : Trajectory) (sound : IsSoundShot shot) (laid : IsStrand t) where
  pub tried_more : (mine : Sliced) (from : ℕ) (met : Met) (old mid new : ℕ) → AreAhead shot t mine → IsFirstMetOf shot mine from met
      → WasTriedBelow shot call t from old mid → new ≤ mid + length (flown_at call shot.slots met.item) → WasTriedBelow shot call t (met.item + 1) old new
  tried_more mine from met old mid new ahead first so_far here items near =
      let held = (near.same met.item).1 (near_ahead shot t met sound laid (record { mine = mine; ahead = ahead; is = first.is })) in
      omega (arith, so_far items near, here, one_more (flown_at call shot.slots) from met.item items first.begun held)

  pub tried_all : (n old new : ℕ) → WasTriedBelow shot call t n old new → WasTriedNear shot call t old new
  tried_all n old new so_far items near = omega (arith, so_far items near, all_below (flown_at call shot.slots) n items)
