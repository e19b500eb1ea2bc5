-- No public contract names these: they are of private steps and of proofs.
use Rattle.std.specs.Prelude.{◌≡◌, ◌<◌, ℕ, ◌^◌, List, length}
use Rattle.std.specs.declared.option.Option.{Option}
use Rattle.std.specs.Io.KnownBytes.{Consumes, IsAtEnd}
use Rattle.mt_io.specs.Lines.{lines_of, whole_lines_of}
use Rattle.mt_io.specs.Reading.{Reading}

-- the source ended: these are all its bytes, and the lines given are their lines
pub record HasReadAll (before after : Option (List ℕ)) (lines : List (List ℕ)) : Type 0 where
  pub taken : List ℕ
  pub from : Consumes before after taken
  pub lines_are : lines_of taken ≡ lines
  pub end : IsAtEnd after
  pub few : length taken < 2 ^ 32

-- the reader stopped at a fault: the lines given are the whole lines of the bytes taken
pub record HasReadPart (before after : Option (List ℕ)) (reader : Reading) (lines : List (List ℕ)) : Type 0 where
  pub taken : List ℕ
  pub from : Consumes before after taken
  pub lines_are : whole_lines_of taken ≡ lines
  pub size : reader.store.taken ≡ length taken
