-- How much the picture of a history holds.
use Rattle.std.specs.Prelude.{◌≡◌, ℕ, List, length}
use Rattle.mt_base.specs.declared.command.Entry.{Entry}
use Rattle.mt_base.specs.declared.conflict.Conflict.{Conflict}
use Rattle.mt_base.specs.Effect.{state_of}
use Rattle.mt_base.specs.Picture.{IsPublished}
use Rattle.mt_base.specs.Tables.{Setup}
use Rattle.mt_picture.specs.declared.sizes.Sizes.{Sizes}

-- how many conflicts a history publishes
pub record IsPublishedCount (setup : Setup) (history : List Entry) (n : ℕ) : Type 0 where
  pub conflicts : List Conflict
  pub published : IsPublished setup (state_of setup history) conflicts
  pub count : n ≡ length conflicts

-- a history's conflicts, entries and flights, counted
pub record AreSizes (setup : Setup) (history : List Entry) (s : Sizes) : Type 0 where
  pub conflicts : IsPublishedCount setup history s.conflicts
  pub entries : s.entries ≡ length history
  pub flights : s.flights ≡ length (state_of setup history).records
