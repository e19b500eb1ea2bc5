-- What a reader of lines is, and what a call of `next` does to it and to its source.
-- `before` and `after` are the bytes that the source has left, where it tells them.
use Rattle.std.specs.Prelude.{◌≡◌, ◌<◌, ◌≤◌, ◌⊎◌, ℕ, ◌+◌, ◌^◌, Bool, true, false, List, [], ◌∷◌, ◌++◌, length, Some, None, MatchResult}
use Rattle.std.specs.Io.KnownBytes.{Consumes, IsAtEnd}
use Rattle.std.specs.declared.option.Option.{Option}
use Rattle.std.specs.declared.result.Result.{Result}
use Rattle.mt_io.specs.Lines.{IsPart}
use Rattle.mt_io.specs.declared.line.Line.{Line}
use Rattle.mt_io.specs.declared.line.Line.TheVariants.{Text, Long, End}
use Rattle.mt_io.specs.declared.line.LineFault.{LineFault}
use Rattle.mt_io.specs.declared.line.LineFault.TheVariants.{ReadFault, Spent}

-- a reader's bytes ahead, bytes taken, and whether input ended
pub record Store : Type 0 where
  pub ahead : List ℕ
  pub taken : ℕ
  pub ended : Bool

-- a reader: store, lines given, fault met, last line's bytes
pub record Reading : Type 0 where
  pub store : Store
  pub given : ℕ
  pub fault : Option LineFault
  pub text : List ℕ

-- a reader before its first byte
abbrev pub fresh : Reading
fresh = record { store = record { ahead = []; taken = 0; ended = false }; given = 0; fault = None; text = [] }

-- `Spent` comes at 2^32 bytes taken, `ReadFault` below
abbrev pub IsFaultAt : LineFault → ℕ → Type 0
IsFaultAt Spent taken = taken ≡ 2 ^ 32
IsFaultAt ReadFault taken = taken < 2 ^ 32

-- the reader passed these bytes. First those that were ahead, then those that were read now.
pub record PassesBytes (old new : Store) (before after : Option (List ℕ)) (front : List ℕ) : Type 0 where
  pub read : List ℕ
  pub from : Consumes before after read
  pub count : new.taken ≡ old.taken + length read
  pub bytes : old.ahead ++ read ≡ front ++ new.ahead
  pub limit : new.taken ≤ 2 ^ 32

-- a line ends with its 0x0A, or the source. With the source only where it has a byte.
abbrev pub Ends : Store → Option (List ℕ) → List ℕ → List ℕ → Type 0
Ends new after line ending =
    ((ending ≡ 10 ∷ []) × (new.ended ≡ false))
    ⊎ ((ending ≡ []) × (0 < length line) × (new.ended ≡ true) × (new.ahead ≡ []) × IsAtEnd after × (new.taken < 2 ^ 32))

-- exactly one more line was taken, with its ending
pub record TakesLine (old new : Reading) (before after : Option (List ℕ)) (line : List ℕ) : Type 0 where
  pub going : old.store.ended ≡ false
  pub was_sound : old.fault ≡ None
  pub sound : new.fault ≡ None
  pub one_more : new.given ≡ old.given + 1
  pub bound : new.given ≤ 2 ^ 32
  pub part : IsPart line
  pub ending : List ℕ
  pub ends : Ends new.store after line ending
  pub passes : PassesBytes old.store new.store before after (line ++ ending)

-- the source ended, and every byte was given. It has fewer than 2^32 bytes.
pub record IsAllGiven (old new : Reading) (before after : Option (List ℕ)) : Type 0 where
  pub was_sound : old.fault ≡ None
  pub sound : new.fault ≡ None
  pub same : new.given ≡ old.given
  pub ended : new.store.ended ≡ true
  pub empty : new.store.ahead ≡ []
  pub few : new.store.taken < 2 ^ 32
  pub passes : PassesBytes old.store new.store before after []
  -- the end is met now, or was met before, and then nothing is read
  pub met : old.store.ended ≡ false → IsAtEnd after
  pub still : old.store.ended ≡ true → after ≡ before

-- a fault: no further line stood in the bytes taken. An earlier fault comes again, and changes nothing.
pub record IsStopped (old new : Reading) (before after : Option (List ℕ)) (fault : LineFault) : Type 0 where
  pub kept : new.fault ≡ Some fault
  pub same : new.given ≡ old.given
  pub place : IsFaultAt fault new.store.taken
  pub again : (earlier : LineFault) → old.fault ≡ Some earlier → (fault ≡ earlier) × (new ≡ old) × (after ≡ before)
  pub part : List ℕ
  pub is_part : IsPart part
  pub passes : PassesBytes old.store new.store before after part
  pub empty : new.store.ahead ≡ []
  pub going : old.store.ended ≡ false
  pub not_ended : new.store.ended ≡ false

-- `GivesLine`, `Next`: a line up to 65,536 bytes, a longer one, the end; or a fault
abbrev pub GivesLine : Reading → Reading → Option (List ℕ) → Option (List ℕ) → Line → Type 0
GivesLine old new before after (Text line) = (length line.now ≤ 65536) × TakesLine old new before after line.now
GivesLine old new before after Long = (line : List ℕ) × (65536 < length line) × TakesLine old new before after line
GivesLine old new before after End = IsAllGiven old new before after

abbrev pub Next : Reading → Reading → Option (List ℕ) → Option (List ℕ) → Result Line LineFault → Type 0
Next old new before after result = MatchResult result (GivesLine old new before after) (IsStopped old new before after)
