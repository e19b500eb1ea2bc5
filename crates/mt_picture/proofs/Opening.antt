-- The opening picture.
use Rattle.std.proofs.Common.{◌≡◌, ℕ, zero, suc, ◌*◌, List, [], ◌∷◌, replicate, Option, None, refl, sym, ◌∙◌, ap, arith}
use Rattle.mt_base.specs.Picture.{NamedTrajectory, opening}
use Rattle.mt_base.specs.Tables.{Setup}
use Rattle.mt_kept.specs.Kept.{Watched}
use Rattle.mt_probe.specs.Shot.{Shot}
use Rattle.mt_probe.specs.Shot.{state_in_shot as state_in}
use Rattle.mt_probe.proofs.Placed.{nothing_at}
use Rattle.mt_picture.specs.Private.Places.{all_places}
use Rattle.mt_picture.specs.Private.Stamps.{IsPicture}

empty_places : (n : ℕ) → replicate (2 * n) None ≡ all_places (replicate n None)
empty_places zero = refl
empty_places (suc n) = let e : 2 * suc n ≡ suc (suc (2 * n)) = omega arith in rw e (ap (λ (ps : List (Option NamedTrajectory)). None ∷ None ∷ ps) (empty_places n))

pub picture_opening : (setup : Setup) (shot : Shot) (kept : Watched) (n : ℕ) → shot ≡ record { setup = setup; version = 0; now = 0; slots = replicate n None }
    → state_in shot ≡ opening → kept ≡ record { rules = setup.rules; moment = 0; places = replicate (2 * n) None; published = [] } → IsPicture shot [] kept
picture_opening setup shot kept n shot_is state_is kept_is =
    let slots_are : shot.slots ≡ replicate n None = ap (λ (s : Shot). s.slots) shot_is in
    record {
      stands = state_is;
      stamped = λ i f kind made at_is made_is. absurd (nothing_at n i f (rw slots_are at at_is));
      complete = λ k d below. absurd (omega arith);
      filed = λ i f at_is. absurd (nothing_at n i f (rw slots_are at at_is));
      named = λ i f at_is. absurd (nothing_at n i f (rw slots_are at at_is));
      rules_are = ap (λ (k : Watched). k.rules) kept_is ∙ ap (λ (s : Shot). s.setup.rules) (sym shot_is);
      moment_is = ap (λ (k : Watched). k.moment) kept_is ∙ ap (λ (s : Shot). s.now) (sym shot_is);
      places_are = ap (λ (k : Watched). k.places) kept_is ∙ empty_places n ∙ ap all_places (sym slots_are);
    }
