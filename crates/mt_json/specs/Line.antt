-- The line that is written of an object.
use Rattle.std.specs.Prelude.{◌≡◌, ◌<◌, ◌≤◌, ℕ, List, [], ◌∷◌, ◌++◌, All, Some, false, IsUtf8, ⊤}
use Rattle.json.specs.Lex.{tokens}
use Rattle.json.specs.Print.{print}
use Rattle.serde_json.specs.Data.{Data, Members, no_members, member, object, depth}
use Rattle.serde_json.specs.Read.{read, max_depth}
use Rattle.serde_json.specs.Written.{has_float, compact_text, IsInOrder}

-- an object's compact text and 0x0A. No float stands in it.
abbrev pub line_of : Members → List ℕ
line_of ms = compact_text (object ms) ++ 10 ∷ []

-- a value without floats that fits in an object
abbrev pub IsPlain : Data → Type 0
IsPlain d = (has_float d ≡ false) × (depth d < max_depth)

-- each value of the object is plain
abbrev pub ArePlain : Members → Type 0
ArePlain no_members = ⊤
ArePlain (member k d ms) = IsPlain d × ArePlain ms

-- no byte is below a space, as 0x0A is
abbrev pub IsOneLine : List ℕ → Type 0
IsOneLine text = All (λ byte. 32 ≤ byte) text

-- a plain object's compact line, read back as that object
pub record IsPlainLine (ms : Members) (bytes : List ℕ) : Type 0 where
  pub exact : bytes ≡ line_of ms
  pub one_line : IsOneLine (compact_text (object ms))
  pub reads_back : read (compact_text (object ms)) ≡ Some (object ms)

-- any object's compact line, read back unless it nests too deep. The text has the object's pairs, each once and in their order, and its whole numbers
-- in decimal.
pub record IsLine (ms : Members) (bytes : List ℕ) : Type 0 where
  pub text : List ℕ
  pub ends : bytes ≡ text ++ 10 ∷ []
  pub utf8 : IsUtf8 text
  pub compact : text ≡ print (tokens text)
  pub order : IsInOrder text (object ms)
  pub reads_back : depth (object ms) ≤ max_depth → read text ≡ Some (object ms)
