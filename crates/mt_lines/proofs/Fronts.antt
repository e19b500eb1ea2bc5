-- Bytes whose first lines are known, cut after these.
use Rattle.std.proofs.Common.{◌≡◌, ◌<◌, ◌==◌, ◌⊎◌, ℕ, Bool, true, false, List, [], ◌∷◌, ◌++◌, length, refl, sym, ◌∙◌, ap, inl, arith, append_assoc, append-nil, length-append, if◌then◌else◌, ⊎_elim}
use Rattle.std.proofs.lemmas.Bool.Decides.{nat_tests}
use Rattle.std.specs.List.{onto_first}
use Rattle.mt_io.specs.HasRead.{AreLines, AreRead}
use Rattle.mt_io.specs.Lines.{IsPart, lines_of}
use Rattle.mt_io.proofs.HasRead.{lines_none}
use Rattle.mt_io.proofs.Lines.{lines_of-first, whole_lines_of-first}

-- a line with its 0x0A stands first
record StandsFirst (bytes line : List ℕ) (others : List (List ℕ)) : Type 0 where
  beyond : List ℕ
  part : IsPart line
  bytes_are : bytes ≡ line ++ 10 ∷ beyond
  others_are : lines_of beyond ≡ others

is_break : (b : ℕ) → (b == 10) ≡ true → b ≡ 10
is_break b is = grind (arith, nat_tests)

no_break : (b : ℕ) → (b == 10) ≡ false → b ≡ 10 → ⊥
no_break b isnt is = grind (arith, nat_tests)

abbrev Stand : List ℕ → Type 0
Stand bytes = (line : List ℕ) (others : List (List ℕ)) → lines_of bytes ≡ line ∷ others → 0 < length others → StandsFirst bytes line others

-- the first line has its 0x0A where others follow
stands_first : (bytes : List ℕ) → Stand bytes
stands_first [] line others are some = cc
stands_first (b ∷ bytes) line others are some = by_break (λ first lines is more. stands_first bytes first lines is more) (b == 10) refl are where
  behind : Stand bytes → (lines : List (List ℕ)) → lines_of bytes ≡ lines → (b == 10) ≡ false → onto_first b lines ≡ line ∷ others → StandsFirst (b ∷ bytes) line others
  behind stand [] is isnt onto = absurd (omega (arith, some, ap length onto))
  behind stand (first ∷ lines) is isnt onto =
      let others_is : lines ≡ others = cc in
      let line_is : b ∷ first ≡ line = cc in
      let next = stand first lines is (rw others_is some) in
      rw (← line_is, ← others_is) (record {
        beyond = next.beyond;
        part = (no_break b isnt, next.part);
        bytes_are = ap (λ bs. b ∷ bs) next.bytes_are;
        others_are = next.others_are;
      })

  by_break : Stand bytes → (test : Bool) → (b == 10) ≡ test → (if test then [] ∷ lines_of bytes else onto_first b (lines_of bytes)) ≡ line ∷ others → StandsFirst (b ∷ bytes) line others
  by_break stand true is first =
      let others_is : lines_of bytes ≡ others = cc in
      let line_is : [] ≡ line = cc in
      rw (← line_is) (record { beyond = bytes; part = tt; bytes_are = ap (λ c. c ∷ bytes) (is_break b is); others_are = others_is })
  by_break stand false isnt onto = behind stand (lines_of bytes) refl isnt onto

-- one line more in front, with its 0x0A
lines_before : (line bytes : List ℕ) (lines : List (List ℕ)) → IsPart line → AreLines bytes lines → AreLines ((line ++ 10 ∷ []) ++ bytes) (line ∷ lines)
lines_before line bytes lines part are = record {
  each = λ more. simp append_assoc (lines_of-first line (bytes ++ more) part ∙ ap (λ ls. line ∷ ls) (are.each more));
  whole = λ more. simp append_assoc (whole_lines_of-first line (bytes ++ more) part ∙ ap (λ ls. line ∷ ls) (are.whole more));
}

-- the bytes of these lines, of which others follow, and the bytes beyond them
record IsCut (bytes : List ℕ) (lines : List (List ℕ)) : Type 0 where
  gone : List ℕ
  beyond : List ℕ
  bytes_are : bytes ≡ gone ++ beyond
  lines_are : AreLines gone lines

cut_behind : (bytes : List ℕ) (lines more : List (List ℕ)) → lines_of bytes ≡ lines ++ more → 0 < length more → IsCut bytes lines
cut_behind bytes [] more are some = record { gone = []; beyond = bytes; bytes_are = refl; lines_are = lines_none }
cut_behind bytes (line ∷ lines) more are some =
    let first = stands_first bytes line (lines ++ more) are (omega (arith, some, length-append lines more)) in
    let next = cut_behind first.beyond lines more first.others_are some in
    record {
      gone = (line ++ 10 ∷ []) ++ next.gone;
      beyond = next.beyond;
      bytes_are = first.bytes_are ∙ ap (λ bs. line ++ 10 ∷ bs) next.bytes_are ∙ sym (append_assoc line (10 ∷ []) (next.gone ++ next.beyond))
          ∙ sym (append_assoc (line ++ 10 ∷ []) next.gone next.beyond);
      lines_are = lines_before line next.gone lines first.part next.lines_are;
    }

all_lines : (input left gone beyond : List ℕ) (lines : List (List ℕ)) → AreLines gone lines ⊎ ((lines_of gone ≡ lines) × (beyond ≡ []) × (left ≡ [])) → lines_of gone ≡ lines
all_lines input left gone beyond lines are = ⊎_elim
    (λ whole. ap lines_of (sym (append-nil gone)) ∙ whole.each [] ∙ append-nil lines)
    (λ last. last.0)
    are

-- the first of the lines that were read were read
pub first_read : (input left : List ℕ) (lines more : List (List ℕ)) → AreRead input left (lines ++ more) → AreRead input left lines
first_read input left lines [] read = rw append-nil at read
first_read input left lines (line ∷ more) read =
    let some : 0 < length (line ∷ more) = omega arith in
    let cut = cut_behind read.gone lines (line ∷ more) (all_lines input left read.gone read.beyond (lines ++ line ∷ more) read.lines_are) some in
    let is : read.gone ++ read.beyond ≡ cut.gone ++ (cut.beyond ++ read.beyond) = ap (λ bs. bs ++ read.beyond) cut.bytes_are ∙ append_assoc cut.gone cut.beyond read.beyond in
    record {
      gone = cut.gone;
      beyond = cut.beyond ++ read.beyond;
      input_is = read.input_is ∙ ap (λ bs. bs ++ left) is;
      limit = omega (arith, read.limit, ap length is);
      lines_are = inl cut.lines_are;
    }
