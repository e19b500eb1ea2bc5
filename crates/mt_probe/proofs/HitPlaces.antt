-- The hits of a new trajectory, place by place.
use Rattle.std.proofs.Common.{◌≡◌, ◌↔◌, ◌+◌, ◌*◌, ◌/◌, ◌%◌, ⊎_elim, Bool, true, false, ℕ, nat_eq, List, [], ◌∷◌, ◌++◌, Option, Some, None, Contains, refl, subst, if◌then◌else◌, arith}
use Rattle.std.proofs.lemmas.Bool.{cases_lt}
use Rattle.std.proofs.lemmas.Bool.Decides.{nat_tests}
use Rattle.std.proofs.lemmas.List.Elements.{Contains-append_left, Contains-push, Contains-push_cases}
use Rattle.std.specs.List.Sorted.{IsStrictlySortedBy}
use Rattle.std.specs.Prelude.{IfSome, is_some}
use Rattle.mt_base.specs.declared.conflict.Kind.TheVariants.{Actual, Tentative}
use Rattle.mt_base.specs.declared.hit.Hit.{Hit}
use Rattle.mt_base.specs.Picture.{State}
use Rattle.mt_base.specs.Tables.{Setup}
use Rattle.mt_base.specs.Trajectory.{Trajectory}
use Rattle.mt_base.specs.WhatIf.{AreHitsOf, HasHit, hit_cmp}
use Rattle.mt_base.proofs.Members.{Contains-none}
use Rattle.mt_cover.specs.Sliced.{Sliced}
use Rattle.mt_meet.specs.declared.table.Met.{Met}
use Rattle.mt_track.specs.Laid.{IsStrand}
use Rattle.mt_probe.specs.Items.{kind_at}
use Rattle.mt_probe.specs.Private.Ahead.{AreAhead}
use Rattle.mt_probe.specs.Private.Boxed.{IsFirstMetOf, IsNextMetOf}
use Rattle.mt_probe.specs.Private.Clear.{IsClearAt, IsHitAt, IsHitBelow}
use Rattle.mt_probe.specs.Shot.{Shot, state_in_shot}
use Rattle.mt_probe.specs.Standing.{IsSoundShot}
use Rattle.mt_probe.proofs.Clearing.{clear_behind, clear_between, clear_of_unmet, hit_is, hit_placed, not_clear, one_hit}

-- an item that names what is flown is twice its place
even_item : (item : ℕ) → kind_at item ≡ Actual → 2 * (item / 2) ≡ item
even_item item is = by_test (nat_eq (item % 2) 0) refl is where
  by_test : (b : Bool) → nat_eq (item % 2) 0 ≡ b → (if b then Actual else Tentative) ≡ Actual → 2 * (item / 2) ≡ item
  by_test true e is = let zero : item % 2 ≡ 0 = grind (arith, nat_tests) in omega (arith, zero)
  by_test false e is = absurd (cc)

-- the listed hits are those at places before a number
abbrev pub AreHitsBelow : Shot → List ℕ → Trajectory → ℕ → List Hit → Type 0
AreHitsBelow shot call t n hits = (hit : Hit) → Contains hits hit ↔ IsHitBelow shot call t n hit

module _ (shot : Shot) (call : List ℕ) (t : Trajectory) where
  pub none_below : AreHitsBelow shot call t 0 []
  none_below hit = ((λ held. absurd (Contains-none hit held)), (λ is. absurd (let below = is.below in omega (arith, below))))

  module _ (mine : Sliced) (ahead : AreAhead shot t mine) (sound : IsSoundShot shot) (laid : IsStrand t) where
    -- with the hit with what is met next
    pub hit_more : (from : ℕ) (met : Met) (hits : List Hit) (one : Hit) → IsFirstMetOf shot mine from met → kind_at met.item ≡ Actual
        → IsHitAt shot call t (met.item / 2) one → AreHitsBelow shot call t from hits → AreHitsBelow shot call t (met.item + 1) (hits ++ one ∷ [])
    hit_more from met hits one first flown is so_far hit = (to, back) where
      even : 2 * (met.item / 2) ≡ met.item
      even = even_item met.item flown

      to : Contains (hits ++ one ∷ []) hit → IsHitBelow shot call t (met.item + 1) hit
      to held = ⊎_elim
          (λ old. let it = (so_far hit).0 old in let below = it.below in
          record { slot = it.slot; below = omega (arith, below, first.begun); is = it.is })
          (λ same. record { slot = met.item / 2; below = omega (arith, even); is = subst (IsHitAt shot call t (met.item / 2)) same is })
          (Contains-push_cases hits one hit held)

      back : IsHitBelow shot call t (met.item + 1) hit → Contains (hits ++ one ∷ []) hit
      back it = ⊎_elim
          (λ early. Contains-append_left hits (one ∷ []) hit ((so_far hit).1 (record { slot = it.slot; below = early; is = it.is })))
          (λ late. ⊎_elim
          (λ between. absurd (not_clear shot call t it.slot hit it.is
          (clear_of_unmet shot call t mine ahead sound laid it.slot (first.none_before (2 * it.slot) late between))))
          (λ last. let below = it.below in
          let same : it.slot ≡ met.item / 2 = omega (arith, even, below, last) in
          subst (Contains (hits ++ one ∷ [])) (one_hit shot call t (met.item / 2) one hit is (subst (λ (s : ℕ). IsHitAt shot call t s hit) same it.is))
          (Contains-push hits one))
          (cases_lt (2 * it.slot) met.item))
          (cases_lt (2 * it.slot) from)

    -- what is met next is no hit
    pub hit_no_more : (from : ℕ) (met : Met) (hits : List Hit) → IsFirstMetOf shot mine from met
        → (kind_at met.item ≡ Actual → IsClearAt shot call t (met.item / 2)) → AreHitsBelow shot call t from hits
        → AreHitsBelow shot call t (met.item + 1) hits
    hit_no_more from met hits first clear so_far hit = (
      (λ held. let it = (so_far hit).0 held in let below = it.below in
          record { slot = it.slot; below = omega (arith, below, first.begun); is = it.is }),
      (λ it. ⊎_elim
          (λ early. (so_far hit).1 (record { slot = it.slot; below = early; is = it.is }))
          (λ late. absurd (not_clear shot call t it.slot hit it.is (clear_between shot call t mine ahead sound laid from met first clear it.slot late it.below)))
          (cases_lt (2 * it.slot) from)),
    )

    -- nothing behind is met
    pub all_hits : (from : ℕ) (hits ordered : List Hit) → IsNextMetOf shot mine from None → AreHitsBelow shot call t from hits
        → ((hit : Hit) → Contains ordered hit ↔ Contains hits hit) → IsStrictlySortedBy hit_cmp ordered
        → AreHitsOf shot.setup (state_in_shot shot) call t ordered
    all_hits from hits ordered none so_far same sorted = record {
      exact = λ hit. (
        (λ held. let it = (so_far hit).0 ((same hit).0 held) in hit_is shot call t it.slot hit sound it.is),
        (λ is. let it = hit_placed shot call t hit is in (same hit).1 (⊎_elim
            (λ early. (so_far hit).1 (record { slot = it.slot; below = early; is = it.is }))
            (λ late. absurd (not_clear shot call t it.slot hit it.is (clear_behind shot call t mine ahead sound laid from none it.slot late)))
            (cases_lt (2 * it.slot) from))),
      );
      sorted = sorted;
    }

    pub no_hit : (from : ℕ) → IsNextMetOf shot mine from None → AreHitsBelow shot call t from [] → ¬ HasHit shot.setup (state_in_shot shot) call t
    no_hit from none so_far has =
        let it = hit_placed shot call t has.hit has.is in
        ⊎_elim
        (λ early. Contains-none has.hit ((so_far has.hit).1 (record { slot = it.slot; below = early; is = it.is })))
        (λ late. not_clear shot call t it.slot has.hit it.is (clear_behind shot call t mine ahead sound laid from none it.slot late))
        (cases_lt (2 * it.slot) from)

-- what isn't some is none
pub not_some : (found : Option Hit) → is_some found ≡ false → found ≡ None
not_some None none = refl
not_some (Some hit) none = cc

-- a trajectory with a hit at a place has one
pub has_one : (shot : Shot) (call : List ℕ) (t : Trajectory) (slot : ℕ) (found : Option Hit) → IsSoundShot shot → IfSome found (IsHitAt shot call t slot)
    → is_some found ≡ true → HasHit shot.setup (state_in_shot shot) call t
has_one shot call t slot None sound at some = absurd (cc)
has_one shot call t slot (Some hit) sound at some = record { hit = hit; is = hit_is shot call t slot hit sound at }

-- a trajectory without a hit has none listed
pub none_listed : (setup : Setup) (s : State) (call : List ℕ) (t : Trajectory) → ¬ HasHit setup s call t → AreHitsOf setup s call t []
unfolding IsStrictlySortedBy
none_listed setup s call t none = record {
  exact = λ hit. ((λ held. absurd (Contains-none hit held)), (λ is. absurd (none (record { hit = hit; is = is }))));
  sorted = tt;
}
