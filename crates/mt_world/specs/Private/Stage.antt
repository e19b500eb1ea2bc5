-- No public contract names these: they are of private steps and of proofs.
-- A script before its picture has begun, and after.
use Rattle.std.specs.Prelude.{⊤}
use Rattle.std.specs.Arc.{arc_value}
use Rattle.mt_world.specs.declared.script.Stage.{Stage}
use Rattle.mt_world.specs.declared.script.Stage.TheVariants as stages
use Rattle.mt_world.specs.Private.Kept.{IsBegunWith}
use Rattle.mt_world.specs.World.{World}

-- the world of a stage
abbrev pub stage_world : Stage → World
stage_world (stages.Setting setting) = setting
stage_world (stages.Begun tables world) = world.world

-- the tables that a begun script shares are those of its world
abbrev pub IsStageSound : Stage → Type 0
IsStageSound (stages.Setting setting) = ⊤
IsStageSound (stages.Begun tables world) = IsBegunWith (arc_value tables) world.world
