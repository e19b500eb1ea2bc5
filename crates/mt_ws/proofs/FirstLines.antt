-- First lines of connections.
use Rattle.std.proofs.Common.{◌≡◌, ◌≤◌, ◌⊎◌, ℕ, ◌-◌, Bool, true, false, List, [], ◌∷◌, ◌++◌, length, take, drop, get_or, refl, sym, ◌∙◌, ap, inl, inr, arith, append-nil, length-append, codes}
use Rattle.std.proofs.lemmas.List.{append_cancel_right, take-append-drop}
use Rattle.std.proofs.Math.Seq.{drop-append_seam}
use Rattle.mt_ws.specs.declared.beginning.Start.{Start}
use Rattle.mt_ws.specs.declared.beginning.Start.TheVariants as starts
use Rattle.mt_ws.specs.Beginning.{BeginsPlainly, HasFirstLine, IsDigit, IsRequestLine, IsStart, IsVersion, IsVersionNumber}
use Rattle.mt_ws.specs.Linking.{Cuts}
use Rattle.mt_ws.specs.Private.Opening.{IsStartOfLine}

-- three bytes, seen one by one
pub number_of : (text : List ℕ) → length text ≡ 3 → IsDigit (get_or text 0 0) → get_or text 1 0 ≡ 46 → IsDigit (get_or text 2 0) → IsVersionNumber text
number_of [] three major point minor = absurd (omega arith)
number_of (a ∷ []) three major point minor = absurd (omega arith)
number_of (a ∷ b ∷ []) three major point minor = absurd (omega arith)
number_of (a ∷ b ∷ c ∷ []) three major point minor = record { major = a; minor = c; text_is = ap (λ n. a ∷ n ∷ c ∷ []) point; digits = (major, minor) }
number_of (a ∷ b ∷ c ∷ d ∷ text) three major point minor = absurd (omega arith)

-- a version has nine bytes
version_length : (text : List ℕ) → IsVersion text → length text ≡ 9
version_length text is = ap length is.1 ∙ ap (λ l. length (codes " HTTP/" ++ l)) is.2.text_is

-- a version at the end of a line is its last nine bytes
pub version_at_end : (line : List ℕ) → 9 ≤ length line → IsRequestLine line → IsVersion (drop (length line - 9) line)
version_at_end line long is =
    let target = is.0 in
    let version = is.1 in
    let whole = ap length is.2 ∙ length-append target version in
    let ahead : length line - 9 ≡ length target = omega (arith, version_length version is.3) in
    rw (ahead, is.2, drop-append_seam target version) is.3

pub request_by_end : (line : List ℕ) → IsVersion (drop (length line - 9) line) → IsRequestLine line
request_by_end line is = (take (length line - 9) line, drop (length line - 9) line, sym (take-append-drop (length line - 9) line), is)

pub request_is_long : (line : List ℕ) → IsRequestLine line → 9 ≤ length line
request_is_long line is = omega (arith, ap length is.2 ∙ length-append is.0 is.1, version_length is.1 is.3)

-- before one carriage return there is one text
pub same_before_return : (line text other : List ℕ) → line ≡ text ++ 13 ∷ [] → line ≡ other ++ 13 ∷ [] → other ≡ text
same_before_return line text other is other_is = append_cancel_right other text (13 ∷ []) (sym other_is ∙ is)

-- a piece that was cut at its 0x0A, or has ended, begins with that line
pub first_line : (head line : List ℕ) (whole ended : Bool) → Cuts head line whole → (whole ≡ true) ⊎ (ended ≡ true) → HasFirstLine head ended line
first_line head line true ended cuts told = record { is_part = cuts.is_part; is_first = inl (cuts.rest, cuts.piece_is) }
first_line head line false ended cuts (inl whole) = cc
first_line head line false ended cuts (inr over) =
    record { is_part = cuts.is_part; is_first = inr (over, cuts.piece_is ∙ (rw (cuts.all refl) (append-nil line))) }

-- what the first line says, the connection is
pub start_by_line : (head line : List ℕ) (ended : Bool) (start : Start) → BeginsPlainly head → HasFirstLine head ended line → IsStartOfLine line start
    → IsStart head ended start
start_by_line head line ended starts.Lines plain first says = inr (plain, (line, first, says))
start_by_line head line ended starts.Web plain first says = absurd says
start_by_line head line ended starts.Foreign plain first says = inr (plain, inr (line, first, says))
