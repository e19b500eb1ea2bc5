-- A flight that is put again, with the trajectories that it had.
use Rattle.std.proofs.Common.{◌≡◌, ◌≢◌, Bool, true, false, ℕ, ◌/◌, ◌<◌, List, [], ◌∷◌, Option, Some, None, Contains, length, get_or, nat_eq, option_map, refl, sym, ◌∙◌, ap, subst, length-set, ◌*◌, arith}
use Rattle.std.proofs.Math.ListN.{set}
use Rattle.std.proofs.lemmas.Bool.Decides.{nat_tests}
use Rattle.std.proofs.lemmas.List.{get_or-set_other, get_or-set_same}
use Rattle.std.specs.Arc.{arc_value}
use Rattle.mt_base.specs.declared.conflict.Kind.{Kind}
use Rattle.mt_base.specs.declared.conflict.Kind.TheVariants.{Actual, Tentative}
use Rattle.mt_base.specs.declared.rules.Rules.{Rules}
use Rattle.mt_base.specs.Picture.{NamedTrajectory}
use Rattle.mt_base.specs.Trajectory.{Trajectory}
use Rattle.mt_cover.specs.Sliced.{Sliced, slices_of}
use Rattle.mt_probe.specs.declared.flight.Flight.{Flight}
use Rattle.mt_probe.specs.Meeting.{slices_at, slices_by}
use Rattle.mt_probe.specs.Private.Boxed.{AreLaid, HoldsSlices}
use Rattle.mt_probe.specs.Items.{kind_at, path_of}
use Rattle.mt_probe.specs.Shot.{Shot, flight_at, kept_of, made_named}
use Rattle.mt_probe.specs.Standing.{IsSoundShot}

-- the flight whose trajectories are those of another
pub record IsOldOf (at : Option Flight) (new : Flight) : Type 0 where
  pub old : Flight
  pub there : at ≡ Some old
  pub kept : kept_of new ≡ kept_of old

pub old_of : (at : Option Flight) (new : Flight) → option_map kept_of at ≡ Some (kept_of new) → IsOldOf at new
old_of None new same = absurd (cc)
old_of (Some old) new same = record { old = old; there = refl; kept = cc }

-- the trajectory that a flight flies, with its name
abbrev flown_named : Flight → NamedTrajectory
flown_named f = record { call = f.card.call; kind = Actual; path = arc_value f.actual.strand }

-- two lists of a trajectory that may be there
abbrev named : List ℕ → Trajectory → NamedTrajectory
named call path = record { call = call; kind = Tentative; path = path }

marked_alike : (c d : List ℕ) (x y : Option Trajectory) → made_named c Tentative x ≡ made_named d Tentative y → x ≡ y
marked_alike c d None None same = refl
marked_alike c d None (Some t) same = absurd (cc)
marked_alike c d (Some t) None same = absurd (cc)
marked_alike c d (Some s) (Some t) same = ap (λ (n : NamedTrajectory). Some n.path) (one same) where
  one : named c s ∷ [] ≡ named d t ∷ [] → named c s ≡ named d t
  one e = cc

module _ (old new : Flight) (kept : kept_of new ≡ kept_of old) where
  same_flown : flown_named new ≡ flown_named old
  same_flown = cc

  pub same_call : new.card.call ≡ old.card.call
  same_call = ap (λ (t : NamedTrajectory). t.call) same_flown

  same_marked : made_named new.card.call Tentative (path_of Tentative new) ≡ made_named old.card.call Tentative (path_of Tentative old)
  same_marked = cc

  same_path : (kind : Kind) → path_of kind new ≡ path_of kind old
  same_path Actual = ap (λ (t : NamedTrajectory). Some t.path) same_flown
  same_path Tentative = marked_alike new.card.call old.card.call (path_of Tentative new) (path_of Tentative old) same_marked

  module _ (rules : Rules) (slots : List (Option Flight)) (i : ℕ) (inside : i < length slots) (at : get_or slots i None ≡ Some old) where
    same_slices : (k : ℕ) → slices_at rules slots k ≡ slices_at rules (set slots i (Some new)) k
    same_slices k = by_test (nat_eq (k / 2) i) refl where
      by_test : (b : Bool) → nat_eq (k / 2) i ≡ b → slices_at rules slots k ≡ slices_at rules (set slots i (Some new)) k
      by_test true e =
          let here : k / 2 ≡ i = grind (arith, nat_tests) in
          ap (λ (j : ℕ). slices_by rules (kind_at k) (get_or slots j None)) here
          ∙ ap (slices_by rules (kind_at k)) at
          ∙ sym (ap (option_map (slices_of rules)) (same_path (kind_at k)))
          ∙ sym (ap (slices_by rules (kind_at k)) (get_or-set_same slots i (Some new) None inside))
          ∙ sym (ap (λ (j : ℕ). slices_by rules (kind_at k) (get_or (set slots i (Some new)) j None)) here)
      by_test false e =
          let other : k / 2 ≢ i = grind (arith, nat_tests) in sym (ap (slices_by rules (kind_at k)) (get_or-set_other slots i (k / 2) (Some new) None other))

    pub same_holds : (table : List (Option Sliced)) → HoldsSlices rules slots table → HoldsSlices rules (set slots i (Some new)) table
    same_holds table holds = record {
      items = holds.items ∙ ap (λ (n : ℕ). 2 * n) (sym (length-set slots i (Some new)));
      held = λ k. holds.held k ∙ same_slices k;
    }

  pub same_laid : (shot : Shot) (i : ℕ) → IsSoundShot shot → flight_at shot i ≡ Some old → AreLaid new
  same_laid shot i sound at = λ t held. sound.laid i old t at (subst (λ (ts : List NamedTrajectory). Contains ts t) kept held)
