-- Bytes that serde_json reads, or refuses.
use Rattle.std.proofs.Common.{◌≡◌, ℕ, Bool, true, false, cond, List, Some, None, IsUtf8, refl}
use Rattle.std.specs.Str.{is_utf8}
use Rattle.std.proofs.lemmas.Str.{is_utf8-from_IsUtf8, IsUtf8-from_is_utf8}
use Rattle.serde_json.specs.Data.{Data}
use Rattle.serde_json.specs.Read.{read}
use Rattle.mt_read.specs.Line.{decoded}

pub decoded_some : (bytes : List ℕ) (d : Data) → IsUtf8 bytes → read bytes ≡ Some d → decoded bytes ≡ Some d
decoded_some bytes d utf8 e = rw (is_utf8-from_IsUtf8 bytes utf8) e

unread : (bytes : List ℕ) (b : Bool) → (b ≡ true → read bytes ≡ None) → cond b (read bytes) None ≡ None
unread bytes true h = h refl
unread bytes false h = refl

pub decoded_none : (bytes : List ℕ) → (IsUtf8 bytes → read bytes ≡ None) → decoded bytes ≡ None
decoded_none bytes h = unread bytes (is_utf8 bytes) (λ e. h (IsUtf8-from_is_utf8 bytes e))
