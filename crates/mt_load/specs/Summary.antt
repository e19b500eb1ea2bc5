-- The summary of a load run, and its line.
use Rattle.std.specs.Prelude.{◌≡◌, ℕ, pos, List, [], ◌∷◌, ◌++◌, length, codes}
use Rattle.serde_json.specs.Data.{Data, object, no_members, member}
use Rattle.serde_json.specs.Written.{compact_text}
use Rattle.mt_base.specs.declared.command.Entry.{Entry}
use Rattle.mt_base.specs.Tables.{Setup}
use Rattle.mt_history.specs.Printed.{AreReadAsEntries, printed}
use Rattle.mt_io.specs.Lines.{lines_of}
use Rattle.mt_load.specs.declared.summary.Summary.{Summary}
use Rattle.mt_load.specs.Load.{IsLoadRun}
use Rattle.mt_picture.specs.Sizes.{IsPublishedCount}
use Rattle.mt_write.specs.Entry.{whole}
use Rattle.mt_world.specs.World.{World, picture_of, setup_of}

-- the conflicts of the history printed and read back
pub record IsCountedAgain (setup : Setup) (history : List Entry) (n : ℕ) : Type 0 where
  pub entries : List Entry
  pub read : AreReadAsEntries (lines_of (printed history)) entries
  pub counted : IsPublishedCount setup entries n

-- a world's counts; rebuilding the printed history counts the same conflicts. How many conflicts are published of its history, and again of the
-- history printed, read back and rebuilt, which is the same number; how many entries there are, and how many flights. No clause says how many pairs
-- were tested.
pub record IsSummary (w : World) (s : Summary) : Type 0 where
  pub conflicts : IsPublishedCount (setup_of w) w.history s.conflicts
  pub again : IsCountedAgain (setup_of w) w.history s.again
  pub same : s.again ≡ s.conflicts
  pub entries : s.entries ≡ length w.history
  pub flights : s.flights ≡ length (picture_of w).records

-- the summary of a load run
pub record IsLoaded (flights number : ℕ) (s : Summary) : Type 0 where
  pub end : World
  pub run : IsLoadRun flights number end
  pub summed : IsSummary end s

-- the summary as an object, keys in byte order
abbrev pub summary_value : Summary → Data
summary_value s = object (
    member (codes "again") (whole (pos s.again)) (
    member (codes "conflicts") (whole (pos s.conflicts)) (
    member (codes "entries") (whole (pos s.entries)) (
    member (codes "flights") (whole (pos s.flights)) (
    member (codes "tests") (whole (pos s.tests)) no_members)))))

-- the summary's compact line
abbrev pub summary_text : Summary → List ℕ
summary_text s = compact_text (summary_value s) ++ 10 ∷ []
