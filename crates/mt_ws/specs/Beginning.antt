-- What a connection is, by the first bytes that come of it. A browser's request begins with a request line: a method, a target and a version of HTTP. A
-- page chooses the method, and by TLS even bytes of the greeting.
use Rattle.std.specs.Prelude.{◌≡◌, ◌≢◌, ◌<◌, ◌≤◌, ◌⊎◌, ℕ, Bool, true, false, List, [], ◌∷◌, ◌++◌, length, take, Option, MatchOption, codes}
use Rattle.std.specs.Io.KnownBytes.{Consumes, IsAtEnd}
use Rattle.mt_io.specs.Lines.{IsPart}
use Rattle.mt_ws.specs.declared.beginning.Start.{Start}
use Rattle.mt_ws.specs.declared.beginning.Start.TheVariants.{Lines, Web, Foreign}

-- `IsDigit`, `IsNoText`: an ASCII digit; a control byte other than tab, line feed and carriage return
abbrev pub IsDigit : ℕ → Type 0
IsDigit byte = (48 ≤ byte) × (byte ≤ 57)

abbrev pub IsNoText : ℕ → Type 0
IsNoText byte = (byte ≡ 127) ⊎ ((byte < 32) × (byte ≢ 9) × (byte ≢ 10) × (byte ≢ 13))

-- `IsVersionNumber`, `IsVersion`: a digit, a point and a digit; a blank, the name of HTTP and its number
pub record IsVersionNumber (text : List ℕ) : Type 0 where
  pub major : ℕ
  pub minor : ℕ
  pub text_is : text ≡ major ∷ 46 ∷ minor ∷ []
  pub digits : IsDigit major × IsDigit minor

abbrev pub IsVersion : List ℕ → Type 0
IsVersion text = (number : List ℕ) × (text ≡ codes " HTTP/" ++ number) × IsVersionNumber number

-- `IsRequestLine`, `EndsAsRequest`: a line that ends with a version of HTTP; the same, perhaps before a carriage return
abbrev pub IsRequestLine : List ℕ → Type 0
IsRequestLine line = (target : List ℕ) × (version : List ℕ) × (line ≡ target ++ version) × IsVersion version

abbrev pub EndsAsRequest : List ℕ → Type 0
EndsAsRequest line = IsRequestLine line ⊎ ((text : List ℕ) × (line ≡ text ++ 13 ∷ []) × IsRequestLine text)

-- the first byte leaves open what it is: it is no `{`, no `G`, and text
pub record BeginsPlainly (head : List ℕ) : Type 0 where
  pub first : ℕ
  pub rest : List ℕ
  pub some : head ≡ first ∷ rest
  pub no_brace : first ≢ 123
  pub no_g : first ≢ 71
  pub is_text : ¬ IsNoText first

-- the first line, ended by 0x0A, or by the end where no more comes
pub record HasFirstLine (head : List ℕ) (ended : Bool) (line : List ℕ) : Type 0 where
  pub is_part : IsPart line
  pub is_first : ((rest : List ℕ) × (head ≡ line ++ 10 ∷ rest)) ⊎ ((ended ≡ true) × (head ≡ line))

-- what a connection is: lines, by `{` or by a first line that is no request's; a WebSocket, by `G`; or neither. Neither is what begins with no text, what
-- has a request's first line, and what has no 0x0A in 8,192 bytes.
abbrev pub IsStart : List ℕ → Bool → Start → Type 0
IsStart head ended Lines = ((rest : List ℕ) × (head ≡ 123 ∷ rest))
    ⊎ (BeginsPlainly head × ((line : List ℕ) × HasFirstLine head ended line × (¬ EndsAsRequest line)))
IsStart head ended Web = (rest : List ℕ) × (head ≡ 71 ∷ rest)
IsStart head ended Foreign = ((first : ℕ) × (rest : List ℕ) × (head ≡ first ∷ rest) × IsNoText first)
    ⊎ (BeginsPlainly head × ((IsPart head × (8192 ≤ length head)) ⊎ ((line : List ℕ) × HasFirstLine head ended line × EndsAsRequest line)))

-- more bytes are needed to tell: none came, or a part of a first line that leaves it open
abbrev pub NeedsMore : List ℕ → Bool → Type 0
NeedsMore head ended = (head ≡ []) ⊎ ((ended ≡ false) × BeginsPlainly head × IsPart head × (length head < 8192))

-- what was read of a stream to see what it is: these bytes, and perhaps its end. The last read was needed, since what had come `before` it left open what
-- the stream is. It says nothing only where no byte came.
pub record ReadsHead (left left_after : Option (List ℕ)) (head : List ℕ) (start : Option Start) : Type 0 where
  pub read : Consumes left left_after head
  pub ended : Bool
  pub at_end : ended ≡ true → IsAtEnd left_after
  pub before : ℕ
  pub last : (before < length head) ⊎ (ended ≡ true)
  pub needed : NeedsMore (take before head) false
  pub start_is : MatchOption start ((head ≡ []) × (ended ≡ true)) (IsStart head ended)
