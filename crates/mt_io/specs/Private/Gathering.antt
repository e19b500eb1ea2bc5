-- No public contract names these: they are of private steps and of proofs.
use Rattle.std.specs.Prelude.{◌≡◌, ◌≢◌, ◌<◌, ◌≤◌, ℕ, ◌+◌, ◌-◌, ◌^◌, Bool, true, false, List, [], ◌++◌, length, slice_index, Some, None, MatchResult}
use Rattle.std.specs.Io.KnownBytes.{Keeps, Consumes, IsAtEnd}
use Rattle.std.specs.declared.option.Option.{Option}
use Rattle.mt_io.specs.Lines.{IsPart}
use Rattle.std.specs.declared.result.Result.{Result}
use Rattle.mt_io.specs.Reading.{Store, Reading, PassesBytes, IsFaultAt, TakesLine, IsAllGiven, IsStopped}
use Rattle.mt_io.specs.Private.Reading.{IsReaderSound}
use Rattle.mt_io.specs.declared.line.Step.{Step}
use Rattle.mt_io.specs.declared.line.Step.TheVariants.{Short, Skipped, Finished}
use Rattle.mt_io.specs.declared.line.LineFault.{LineFault}
use Rattle.mt_io.specs.declared.line.LineFault.TheVariants.{ReadFault, Spent}
use Rattle.mt_io.specs.Gathering.{ending_of}

-- `whole` is right after the last 0x0A ahead, if any. Of a buffer's bytes, those from `at` to `end` are ahead.
pub record EndsWhole (bytes : List ℕ) (at whole end : ℕ) : Type 0 where
  pub within : whole ≤ end
  pub last : at < whole → slice_index bytes (whole - 1) ≡ 10
  pub none : (k : ℕ) → whole ≤ k → k < end → slice_index bytes k ≢ 10

-- the buffer was empty, and what was read is ahead now. Where there was no more, the source has ended.
pub record Fills (old new : Store) (before after : Option (List ℕ)) (more : Bool) : Type 0 where
  pub from : Consumes before after new.ahead
  pub count : new.taken ≡ old.taken + length new.ahead
  pub limit : new.taken ≤ 2 ^ 32
  pub some : more ≡ true → (0 < length new.ahead) × (new.ended ≡ false)
  pub none : more ≡ false → (new.ahead ≡ []) × (new.ended ≡ true) × IsAtEnd after × (new.taken < 2 ^ 32)

-- nothing is read at the limit; a failed read keeps the bytes
abbrev pub IsUnread : LineFault → Option (List ℕ) → Option (List ℕ) → Type 0
IsUnread Spent before after = after ≡ before
IsUnread ReadFault before after = Keeps before after

-- the buffer was empty, and nothing could be read
pub record StopsFill (old new : Store) (before after : Option (List ℕ)) (fault : LineFault) : Type 0 where
  pub unread : IsUnread fault before after
  pub place : IsFaultAt fault new.taken
  pub empty : new.ahead ≡ []
  pub same : new.taken ≡ old.taken
  pub going : new.ended ≡ false

-- what is kept of a line: all of it, or that it is too long
pub record IsGathered (kept : List ℕ) (is_long : Bool) (line : List ℕ) : Type 0 where
  pub short : is_long ≡ false → (kept ≡ line) × (length line ≤ 65536)
  pub long : is_long ≡ true → 65536 < length line

-- a piece goes from the bytes ahead to the line. Up to a 0x0A, which goes too, or all.
pub record Moves (old new : Store) (kept : List ℕ) (was_long : Bool) (kept_now : List ℕ) (is_long : Bool) (whole : Bool) : Type 0 where
  pub piece : List ℕ
  pub is_part : IsPart piece
  pub bytes : old.ahead ≡ (piece ++ ending_of whole) ++ new.ahead
  pub adds : (line : List ℕ) → IsGathered kept was_long line → IsGathered kept_now is_long (line ++ piece)
  pub all : whole ≡ false → new.ahead ≡ []
  pub taken : new.taken ≡ old.taken
  pub ended : new.ended ≡ old.ended

-- a line was gathered, up to its 0x0A or to the end of the source
pub record Gathers (old new : Store) (before after : Option (List ℕ)) (kept : List ℕ) (is_long : Bool) (whole : Bool) : Type 0 where
  pub line : List ℕ
  pub part : IsPart line
  pub gathered : IsGathered kept is_long line
  pub passes : PassesBytes old new before after (line ++ ending_of whole)
  pub more : whole ≡ true → new.ended ≡ false
  pub over : whole ≡ false → (new.ended ≡ true) × (new.ahead ≡ []) × IsAtEnd after × (new.taken < 2 ^ 32)

-- a fault was met: all that was taken went, and held no further line
pub record StopsLine (old new : Store) (before after : Option (List ℕ)) (fault : LineFault) : Type 0 where
  pub part : List ℕ
  pub is_part : IsPart part
  pub passes : PassesBytes old new before after part
  pub empty : new.ahead ≡ []
  pub going : new.ended ≡ false
  pub place : IsFaultAt fault new.taken

-- a line is counted where it has its 0x0A or a byte
abbrev pub CountsLine : Bool → List ℕ → List ℕ → ℕ → ℕ → Step → Type 0
CountsLine whole kept bytes given given_now Short = (given_now ≡ given + 1) × (whole ≡ false → 0 < length bytes) × (kept ≡ bytes) × (length bytes ≤ 65536)
CountsLine whole kept bytes given given_now Skipped = (given_now ≡ given + 1) × (whole ≡ false → 0 < length bytes) × (65536 < length bytes)
CountsLine whole kept bytes given given_now Finished = (given_now ≡ given) × (whole ≡ false) × (bytes ≡ [])

-- the answer of `advance`: a line of at most 65,536 bytes, a longer one, or the end
abbrev pub GivesStep : Reading → Reading → Option (List ℕ) → Option (List ℕ) → Step → Type 0
GivesStep old new before after Short = (length new.text ≤ 65536) × TakesLine old new before after new.text
GivesStep old new before after Skipped = (line : List ℕ) × (65536 < length line) × TakesLine old new before after line
GivesStep old new before after Finished = IsAllGiven old new before after

-- a reader by its parts
abbrev pub reading : Store → ℕ → Option LineFault → List ℕ → Reading
reading store given fault text = record { store = store; given = given; fault = fault; text = text }

-- one call on a reader without a fault
pub record Advances (old new : Store) (given given_now : ℕ) (text text_now : List ℕ) (before after : Option (List ℕ)) (result : Result Step LineFault) : Type 0 where
  pub step : MatchResult result
      (GivesStep (reading old given None text) (reading new given_now None text_now) before after)
      (λ fault. IsStopped (reading old given None text) (reading new given_now (Some fault) text_now) before after fault)
  pub sound : MatchResult result (λ step. IsReaderSound new given_now None) (λ fault. IsReaderSound new given_now (Some fault))
