-- No public contract names these: they are of private steps and of proofs.
-- What a preparation says of the trajectories of a snapshot.
use Rattle.std.specs.Prelude.{◌≡◌, ◌≢◌, ◌<◌, ◌≤◌, ◌/◌, ℕ, List, Bool, true, Option, Some, None, AllPairs, Contains, get_or, map}
use Rattle.mt_base.specs.declared.conflict.Kind.{Kind}
use Rattle.mt_base.specs.Conflict.{IsLossSecond}
use Rattle.mt_base.specs.Picture.{NamedTrajectory}
use Rattle.mt_base.specs.Trajectory.{Trajectory}
use Rattle.mt_cover.specs.Cells.{cover_of}
use Rattle.mt_kept.specs.declared.finds.Candidate.{Candidate}
use Rattle.mt_kept.specs.declared.finds.Knowledge.{Knowledge}
use Rattle.mt_kept.specs.declared.finds.Knowledge.TheVariants.{Known}
use Rattle.mt_kept.specs.Finds.{IsRight, candidate_place, is_unknown}
use Rattle.mt_kept.specs.Places.{at}
use Rattle.mt_base.specs.Trajectory.{horizon}
use Rattle.mt_probe.specs.declared.flight.Flight.{Flight}
use Rattle.mt_probe.specs.declared.flight.Made.{Made}
use Rattle.mt_probe.specs.Items.{IsNearItem, kind_at}
use Rattle.mt_probe.specs.Prepared.{Prepared}
use Rattle.mt_probe.specs.Shot.{Shot, made_of}
use Rattle.mt_picture.specs.Private.Places.{all_places, made_of_kind}

-- a new trajectory is the preparation's, where that is known to be of use
abbrev pub IsPreps : Prepared → Bool → Trajectory → Type 0
IsPreps p known mine = known ≡ true → mine ≡ p.strand

-- what is known of a new trajectory and that of a kind of the flight at a place is right
abbrev pub IsRightAt : Prepared → Trajectory → Option Flight → Kind → Knowledge → Type 0
IsRightAt p t slot kind knowledge = (f : Flight) (made : Made) (mine : NamedTrajectory) → slot ≡ Some f → made_of f kind ≡ Some made
    → f.card.call ≢ p.card.call → mine.path ≡ t → IsRight p.setup.rules mine (made_of_kind f kind made) knowledge

-- that trajectory was made after the preparation
abbrev pub IsLaterAt : Prepared → Option Flight → Kind → Type 0
IsLaterAt p slot kind = (f : Flight) (made : Made) → slot ≡ Some f → made_of f kind ≡ Some made → p.state.version < made.stamp

-- that trajectory was made before it
abbrev pub IsEarlierAt : Prepared → Option Flight → Kind → Type 0
IsEarlierAt p slot kind = (f : Flight) (made : Made) → slot ≡ Some f → made_of f kind ≡ Some made → made.stamp ≤ p.state.version

-- what is known of a candidate is right. Where that is their conflict, it was made before the preparation; where it isn't though the preparation is of
-- use, it was made after.
pub record IsKnown (p : Prepared) (known : Bool) (t : Trajectory) (slots : List (Option Flight)) (x : Candidate) : Type 0 where
  pub right : IsRightAt p t (get_or slots (x.place / 2) None) (kind_at x.place) x.knowledge
  pub earlier : (span : Option (ℕ × ℕ)) (solid : Bool) → x.knowledge ≡ Known span solid → IsEarlierAt p (get_or slots (x.place / 2) None) (kind_at x.place)
  pub later : known ≡ true → is_unknown x.knowledge ≡ true → IsLaterAt p (get_or slots (x.place / 2) None) (kind_at x.place)

-- the candidates of a trajectory, each near it, listed once, with what is known of it. What stands of another flight and has a loss second with it is
-- one.
pub record AreNearCandidates (shot : Shot) (t : Trajectory) (p : Prepared) (known : Bool) (xs : List Candidate) : Type 0 where
  pub near : (x : Candidate) → Contains xs x → IsNearItem shot (cover_of shot.setup.rules t) x.place
  pub known_is : (x : Candidate) → Contains xs x → IsKnown p known t shot.slots x
  pub complete : (j k : ℕ) (other : NamedTrajectory) → at (all_places shot.slots) j ≡ Some other → other.call ≢ p.card.call → k < horizon
      → IsLossSecond shot.setup.rules t other.path k → Contains (map candidate_place xs) j
  pub once : AllPairs (λ x y. x.place ≢ y.place) xs
