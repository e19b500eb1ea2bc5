-- Whether the trajectory that an item names is near a cover, by its own cover.
use Rattle.std.proofs.Common.{◌≡◌, ◌↔◌, ⊎_elim, ℕ, ◌+◌, ◌*◌, ◌/◌, ◌<◌, ◌≤◌, List, [], ◌∷◌, ◌++◌, Option, Some, None, Contains, get_or, length, refl, sym, ap, subst, arith}
use Rattle.std.proofs.lemmas.Bool.{cases_lt}
use Rattle.std.proofs.lemmas.List.Elements.{Contains-append_left, Contains-get_or, Contains-push, Contains-push_cases}
use Rattle.std.proofs.lemmas.List.{get_or_append_left, get_or_push, length_push}
use Rattle.std.specs.List.Sorted.{IsStrictlyIncreasing}
use Rattle.std.specs.Prelude.{option_and_then}
use Rattle.std.specs.List.{Any}
use Rattle.mt_base.specs.declared.conflict.Kind.{Kind}
use Rattle.mt_base.specs.declared.rules.Rules.{Rules}
use Rattle.mt_base.specs.Trajectory.{Trajectory}
use Rattle.mt_cover.specs.declared.stays.Stay.{Stay}
use Rattle.mt_cover.specs.Cells.{cover_of}
use Rattle.mt_probe.specs.declared.flight.Flight.{Flight}
use Rattle.mt_probe.specs.Items.{AreNearItems, IsNearItem, Meet, kind_at, path_of, stays_at, stays_by, stays_of_item}
use Rattle.mt_probe.specs.Shot.{Shot}
use Rattle.mt_base.proofs.Members.{Contains-none}
use Rattle.mt_probe.proofs.Placed.{filled_inside}

-- its own cover
pub stays_found : (rules : Rules) (kind : Kind) (slot : Option Flight) (path : Trajectory) → Some path ≡ option_and_then (path_of kind) slot
    → stays_by rules kind slot ≡ cover_of rules path
stays_found rules kind None path is = absurd (cc)
stays_found rules kind (Some f) path is = sym (ap (stays_of_item rules) is)

pub stays_nowhere : (rules : Rules) (kind : Kind) (slot : Option Flight) → None ≡ option_and_then (path_of kind) slot → stays_by rules kind slot ≡ []
stays_nowhere rules kind None is = refl
stays_nowhere rules kind (Some f) is = sym (ap (stays_of_item rules) is)

module _ (shot : Shot) (cover : List Stay) (place : ℕ) where
  -- some stay meets one of what stands in the place
  pub near_met : (theirs : List Stay) → stays_at shot.setup.rules shot.slots place ≡ theirs → Any (λ stay. Any (Meet stay) theirs) cover → IsNearItem shot cover place
  near_met theirs is any = record {
    mine = any.1;
    of = (any.0, any.2, any.3);
    theirs = any.4.1;
    there = subst (λ (stays : List Stay). Contains stays any.4.1) (sym is) (any.4.0, any.4.2, any.4.3);
    meet = any.4.4;
  }

  pub met_near : (theirs : List Stay) → stays_at shot.setup.rules shot.slots place ≡ theirs → IsNearItem shot cover place → Any (λ stay. Any (Meet stay) theirs) cover
  met_near theirs is near =
      let there : Contains theirs near.theirs = subst (λ (stays : List Stay). Contains stays near.theirs) is near.there in
      (near.of.0, near.mine, near.of.1, near.of.2, (there.0, near.theirs, there.1, there.2, near.meet))

-- rising numbers and a greater one
rising_push : (numbers : List ℕ) (n : ℕ) → IsStrictlyIncreasing numbers → ((k : ℕ) → Contains numbers k → k < n) → IsStrictlyIncreasing (numbers ++ n ∷ [])
rising_push numbers n rising less k below = ⊎_elim inside last (cases_lt (k + 1) (length numbers)) where
  long : length (numbers ++ n ∷ []) ≡ length numbers + 1
  long = length_push numbers n

  inside : k + 1 < length numbers → get_or (numbers ++ n ∷ []) k 0 < get_or (numbers ++ n ∷ []) (k + 1) 0
  inside h =
      let a = get_or_append_left numbers (n ∷ []) 0 k (omega arith) in
      let b = get_or_append_left numbers (n ∷ []) 0 (k + 1) h in
      let r = rising k h in
      omega (arith, a, b, r)

  last : length numbers ≤ k + 1 → get_or (numbers ++ n ∷ []) k 0 < get_or (numbers ++ n ∷ []) (k + 1) 0
  last h =
      let a = get_or_append_left numbers (n ∷ []) 0 k (omega (arith, below, long)) in
      let b = get_or_push numbers n 0 (k + 1) (omega (arith, below, long)) in
      let r = less _ (Contains-get_or numbers k 0 (omega (arith, below, long))) in
      omega (arith, a, b, r)

-- the near ones of the first n items
pub record AreNearBefore (shot : Shot) (cover : List Stay) (n : ℕ) (items : List ℕ) : Type 0 where
  pub rising : IsStrictlyIncreasing items
  pub same : (item : ℕ) → Contains items item ↔ ((item < n) × IsNearItem shot cover item)

module _ (shot : Shot) (cover : List Stay) where
  pub near_none : AreNearBefore shot cover 0 []
  near_none = record {
    rising = λ k below. absurd (omega arith);
    same = λ item. ((λ held. absurd (Contains-none item held)), (λ is. absurd (omega (arith, is.0))));
  }

  pub near_no_more : (n : ℕ) (items : List ℕ) → ¬ IsNearItem shot cover n → AreNearBefore shot cover n items → AreNearBefore shot cover (n + 1) items
  near_no_more n items far so_far = record {
    rising = so_far.rising;
    same = λ item. (
      (λ held. let is = (so_far.same item).0 held in (omega (arith, is.0), is.1)),
      (λ is. ⊎_elim
          (λ early. (so_far.same item).1 (early, is.1))
          (λ late. let own : item ≡ n = omega (arith, late, is.0) in absurd (far (subst (IsNearItem shot cover) own is.1)))
          (cases_lt item n)),
    );
  }

  pub near_one_more : (n : ℕ) (items : List ℕ) → IsNearItem shot cover n → AreNearBefore shot cover n items → AreNearBefore shot cover (n + 1) (items ++ n ∷ [])
  near_one_more n items near so_far = record {
    rising = rising_push items n so_far.rising (λ k held. ((so_far.same k).0 held).0);
    same = λ item. (
      (λ held. ⊎_elim
          (λ old. let is = (so_far.same item).0 old in (omega (arith, is.0), is.1))
          (λ own. (omega (arith, own), subst (IsNearItem shot cover) own near)) (Contains-push_cases items n item held)),
      (λ is. ⊎_elim
          (λ early. Contains-append_left items (n ∷ []) item ((so_far.same item).1 (early, is.1)))
          (λ late. let own : n ≡ item = omega (arith, late, is.0) in subst (Contains (items ++ n ∷ [])) own (Contains-push items n))
          (cases_lt item n)),
    );
  }

  -- what is near is an item of a place
  pub near_all : (n : ℕ) (items : List ℕ) → n ≡ 2 * length shot.slots → AreNearBefore shot cover n items → AreNearItems shot cover items
  near_all n items all so_far = record {
    rising = so_far.rising;
    same = λ item. (
      (λ held. ((so_far.same item).0 held).1),
      (λ near. (so_far.same item).1 (omega (arith, all, in_place item near), near)),
    );
  } where
    in_place : (item : ℕ) → IsNearItem shot cover item → item / 2 < length shot.slots
    in_place item near = inside shot.slots (item / 2) (get_or shot.slots (item / 2) None) refl near.there where
      inside : (slots : List (Option Flight)) (i : ℕ) (at : Option Flight) → get_or slots i None ≡ at → Contains (stays_by shot.setup.rules (kind_at item) at) near.theirs
          → i < length slots
      inside slots i None is held = absurd (Contains-none near.theirs held)
      inside slots i (Some f) is held = filled_inside slots i f is
