-- No public contract names these: they are of private steps and of proofs.
use Rattle.std.specs.Prelude.{◌≡◌, false, Option, Some, None, unwrap_or}
use Rattle.mt_picture.specs.Story.{Story}
use Rattle.mt_standby.specs.Standby.{standby_world}
use Rattle.mt_world.specs.World.{World, opening_world}

-- the world of a script whose picture hasn't begun, or of the standby
abbrev pub world_shown : Option World → Option Story → World
world_shown script (Some story) = standby_world story
world_shown script None = unwrap_or script opening_world

-- a script whose picture hasn't begun, or a standby
abbrev pub IsOneOf : Option World → Option Story → Type 0
IsOneOf script (Some story) = script ≡ None
IsOneOf None None = ⊥
IsOneOf (Some w) None = w.begun ≡ false
