-- What a reader has read so far, over all its calls: which bytes of its source, and which lines they are.
use Rattle.std.specs.Prelude.{◌≡◌, ◌<◌, ◌≤◌, ◌⊎◌, ℕ, ◌^◌, true, false, List, [], ◌++◌, length, None, IfSome}
use Rattle.std.specs.Io.KnownBytes.{Consumes, IsAtEnd}
use Rattle.std.specs.declared.option.Option.{Option}
use Rattle.mt_io.specs.Lines.{lines_of, whole_lines_of}
use Rattle.mt_io.specs.Reading.{Reading}

-- known bytes are these
abbrev pub Tells : Option (List ℕ) → List ℕ → Type 0
Tells known bytes = IfSome known (λ xs. xs ≡ bytes)

-- these bytes are these lines, each with its 0x0A
pub record AreLines (bytes : List ℕ) (lines : List (List ℕ)) : Type 0 where
  pub each : (more : List ℕ) → lines_of (bytes ++ more) ≡ lines ++ lines_of more
  pub whole : (more : List ℕ) → whole_lines_of (bytes ++ more) ≡ lines ++ whole_lines_of more

-- these lines were read of the input, of which so much is left. The bytes that were taken are those of the lines, and what was taken beyond them. A
-- last line without a 0x0A ends with the input.
pub record AreRead (input left : List ℕ) (lines : List (List ℕ)) : Type 0 where
  pub gone : List ℕ
  pub beyond : List ℕ
  pub input_is : input ≡ (gone ++ beyond) ++ left
  pub limit : length (gone ++ beyond) ≤ 2 ^ 32
  pub lines_are : AreLines gone lines ⊎ ((lines_of gone ≡ lines) × (beyond ≡ []) × (left ≡ []))

-- the reader took these bytes and gave these lines, without a fault. `before` is what the source had left at first.
pub record HasRead (before now : Option (List ℕ)) (reader : Reading) (lines : List (List ℕ)) (taken : List ℕ) : Type 0 where
  pub from : Consumes before now taken
  pub gone : List ℕ
  pub split : taken ≡ gone ++ reader.store.ahead
  pub size : reader.store.taken ≡ length taken
  pub sound : reader.fault ≡ None
  pub going : reader.store.ended ≡ false → AreLines gone lines
  pub over : reader.store.ended ≡ true → (lines_of taken ≡ lines) × IsAtEnd now × (length taken < 2 ^ 32)
