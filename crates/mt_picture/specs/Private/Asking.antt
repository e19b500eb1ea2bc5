-- No public contract names these: they are of private steps and of proofs.
-- What a change of the kept conflicts costs, by its candidates.
use Rattle.std.specs.Prelude.{◌≡◌, ◌⊎◌, ℕ, List, Bool, Some}
use Rattle.std.specs.List.{sum_by}
use Rattle.mt_base.specs.Picture.{NamedTrajectory}
use Rattle.mt_kept.specs.declared.finds.Candidate.{Candidate}
use Rattle.mt_kept.specs.Finds.{cost}
use Rattle.mt_base.specs.Tally.{RoseUpTo}
use Rattle.mt_probe.specs.Prepared.{Prepared, left_made}
use Rattle.mt_probe.specs.Shot.{Shot, state_in_shot}
use Rattle.mt_picture.specs.declared.entering.Entering.{Entering}
use Rattle.mt_picture.specs.Private.Places.{all_places}
use Rattle.mt_picture.specs.Private.Known.{AreNearCandidates}

-- the candidates of a new trajectory in a place were asked for
pub record AreCandidatesAsked (shot : Shot) (p : Prepared) (known : Bool) (place : ℕ) (mine : NamedTrajectory) (old new : ℕ) : Type 0 where
  pub xs : List Candidate
  pub near : AreNearCandidates shot mine.path p known xs
  pub rose : RoseUpTo (sum_by (cost (all_places shot.slots) place mine.call shot.now) xs) old new

-- the candidates were asked for, or nothing was
abbrev pub WasAsked : Shot → Prepared → Bool → ℕ → NamedTrajectory → ℕ → ℕ → Type 0
WasAsked shot p known place mine old new = (new ≡ old) ⊎ AreCandidatesAsked shot p known place mine old new

-- the candidates were asked for in some place
pub record WasAskedOf (shot : Shot) (p : Prepared) (known : Bool) (mine : NamedTrajectory) (old new : ℕ) : Type 0 where
  pub place : ℕ
  pub was : WasAsked shot p known place mine old new

-- the candidates of what a command makes of a flight were asked for
abbrev pub WasAskedFor : Shot → Entering → ℕ → ℕ → Type 0
WasAskedFor shot e old new =
    (mine : NamedTrajectory) → left_made shot.setup (state_in_shot shot) e.who e.command.now ≡ Some mine
    → WasAskedOf shot e.prep.now e.known mine old new
