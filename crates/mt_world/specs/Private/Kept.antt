-- No public contract names these: they are of private steps and of proofs.
-- What requests leave of a world once its picture has begun.
use Rattle.std.specs.Prelude.{◌≡◌, true}
use Rattle.mt_base.specs.Tables.{Tables}
use Rattle.mt_world.specs.World.{World}

-- the rules and the tables stand as they were set up, and the picture has begun in both or in none
pub record IsSetupKept (before after : World) : Type 0 where
  pub rules_are : after.rules ≡ before.rules
  pub tables_are : after.tables ≡ before.tables
  pub begun_is : after.begun ≡ before.begun

-- a world has begun, with these tables
pub record IsBegunWith (tables : Tables) (w : World) : Type 0 where
  pub begun_is : w.begun ≡ true
  pub tables_are : w.tables ≡ tables
