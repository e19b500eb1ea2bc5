-- What a line is cut from, and which message it is.
use Rattle.std.proofs.Common.{◌≡◌, ◌≢◌, ◌<◌, ◌≤◌, ℕ, ◌+◌, Bool, true, false, List, [], ◌∷◌, length, take, drop, refl, sym, ◌∙◌, ap, arith, append-nil, length-append, get_or, IsUtf8}
use Rattle.std.proofs.lemmas.List.{append_assoc}
use Rattle.std.specs.Str.{is_utf8}
use Rattle.std.proofs.lemmas.Str.{IsUtf8-from_is_utf8, is_utf8-from_IsUtf8}
use Rattle.tungstenite.specs.Content.{text, binary}
use Rattle.mt_io.proofs.Pieces.{IsPart-by_index, IsPart-take, split_at_byte}
use Rattle.mt_ws.specs.Messages.{line_content}
use Rattle.mt_ws.specs.Linking.{Cuts}

pub cuts_at : (piece : List ℕ) (place : ℕ) → place < length piece → get_or piece place 0 ≡ 10 → ((k : ℕ) → k < place → get_or piece k 0 ≢ 10)
    → Cuts piece (take place piece) true
cuts_at piece place lt here before = record {
  is_part = IsPart-take piece place before (omega arith);
  rest = drop (place + 1) piece;
  piece_is = split_at_byte piece place 10 lt here ∙ append_assoc (take place piece) (10 ∷ []) (drop (place + 1) piece);
  all = λ e. cc;
}

pub cuts_none : (piece : List ℕ) → ((k : ℕ) → k < length piece → get_or piece k 0 ≢ 10) → Cuts piece piece false
cuts_none piece none = record {
  is_part = IsPart-by_index piece none;
  rest = [];
  piece_is = sym (append-nil piece);
  all = λ e. refl;
}

-- a part in which no line ends is the whole piece
pub cut_none : (piece part : List ℕ) → Cuts piece part false → length part ≡ length piece
cut_none piece part cut = omega (arith, ap length cut.piece_is, ap length (cut.all refl), length-append part cut.rest)

-- the 0x0A of a line is one of the piece's bytes
pub cut_one : (piece part : List ℕ) → Cuts piece part true → length part + 1 ≤ length piece
cut_one piece part cut = omega (arith, ap length cut.piece_is, length-append part (10 ∷ cut.rest))

-- the message of a line
pub text_line : (bytes : List ℕ) → IsUtf8 bytes → line_content bytes ≡ text bytes
text_line bytes is = rw (is_utf8-from_IsUtf8 bytes is) refl

pub not_true : (b : Bool) → (b ≡ true → ⊥) → b ≡ false
not_true true none = absurd (none refl)
not_true false none = refl

pub binary_line : (bytes : List ℕ) → ¬ (IsUtf8 bytes) → line_content bytes ≡ binary bytes
binary_line bytes none = rw (not_true (is_utf8 bytes) (λ is. none (IsUtf8-from_is_utf8 bytes is))) refl
