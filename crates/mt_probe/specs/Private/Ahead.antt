-- No public contract names these: they are of private steps and of proofs.
-- What the slices of a new trajectory meet in the look-ahead.
use Rattle.std.specs.Prelude.{◌≡◌, ℕ, List, [], ◌∷◌, nat_lt, if◌then◌else◌}
use Rattle.mt_base.specs.Picture.{window_end}
use Rattle.mt_base.specs.Trajectory.{Trajectory}
use Rattle.mt_cover.specs.Sliced.{AreFrontUntil, Sliced, slices_of}
use Rattle.mt_meet.specs.Meeting.{Asked}
use Rattle.mt_meet.specs.declared.table.Met.{Met}
use Rattle.mt_probe.specs.Meeting.{IsMetOf}
use Rattle.mt_probe.specs.Shot.{Shot}

-- these are slices of the trajectory for the look-ahead
abbrev pub AreAhead : Shot → Trajectory → Sliced → Type 0
AreAhead shot t mine = AreFrontUntil (slices_of shot.setup.rules t) (window_end shot.now) mine

-- such slices are looked up by the snapshot's rules
pub record IsAskedAhead (shot : Shot) (t : Trajectory) (asked : Asked) : Type 0 where
  pub rules_is : asked.rules ≡ shot.setup.rules
  pub ahead : AreAhead shot t asked.sliced

-- such slices meet those of an item, in a first and a last second
pub record IsMetAhead (shot : Shot) (t : Trajectory) (met : Met) : Type 0 where
  pub mine : Sliced
  pub ahead : AreAhead shot t mine
  pub is : IsMetOf shot mine met

-- those of some items that are below a number
abbrev pub items_below : ℕ → List ℕ → List ℕ
items_below n [] = []
items_below n (item ∷ items) = if nat_lt item n then item ∷ items_below n items else items_below n items
