-- Lines read as entries, one more at a time.
use Rattle.std.proofs.Common.{◌≡◌, ℕ, zero, suc, List, [], ◌∷◌, ◌++◌, length, map, take, Some, Ok, Err, refl, sym, ◌∙◌, ap, subst, arith, append_assoc}
use Rattle.std.specs.Prelude.{Result, slice_get}
use Rattle.std.proofs.lemmas.List.{length-map, map-append, take_at}
use Rattle.mt_base.specs.declared.command.Entry.{Entry}
use Rattle.mt_io.specs.Lines.{lines_of}
use Rattle.mt_read.specs.declared.request.LineNo.{LineNo}
use Rattle.mt_read.specs.Entry.{entry}
use Rattle.mt_history.specs.declared.reading.BadHistory.{BadHistory}
use Rattle.mt_history.specs.declared.reading.BadHistory.TheVariants.{Line, Memory}
use Rattle.mt_history.specs.Printed.{AreReadAsEntries, IsBad, IsFirstBad}
use Rattle.mt_history.specs.Private.Printed.{IsBadLine}

abbrev Answer : Type 0
Answer = Result Entry LineNo

abbrev read_as : Entry → Answer
read_as e = Ok e

pub read_none : AreReadAsEntries [] []
unfolding AreReadAsEntries
read_none = refl

pub read_first : (line : List ℕ) (e : Entry) (lines : List (List ℕ)) (entries : List Entry) → entry line ≡ Ok e → AreReadAsEntries lines entries
    → AreReadAsEntries (line ∷ lines) (e ∷ entries)
unfolding AreReadAsEntries
read_first line e lines entries is read = λ i. is i ∷ read i

read_push : (lines : List (List ℕ)) (entries : List Entry) (line : List ℕ) (e : Entry) → AreReadAsEntries lines entries → entry line ≡ Ok e
    → AreReadAsEntries (lines ++ line ∷ []) (entries ++ e ∷ [])
unfolding AreReadAsEntries
read_push lines entries line e read is =
    let both : map entry lines ++ entry line ∷ [] ≡ map read_as entries ++ read_as e ∷ [] = λ i. read i ++ is i ∷ [] in
    map-append entry lines (line ∷ []) ∙ both ∙ sym (map-append read_as entries (e ∷ []))

read_length : (lines : List (List ℕ)) (entries : List Entry) → AreReadAsEntries lines entries → length lines ≡ length entries
unfolding AreReadAsEntries
read_length lines entries read = sym (length-map lines entry) ∙ ap length read ∙ length-map entries read_as

ok_is : (a b : Entry) → read_as a ≡ read_as b → a ≡ b
ok_is a b e = cc

same_entries : (some others : List Entry) → map read_as some ≡ map read_as others → some ≡ others
same_entries [] [] e = refl
same_entries [] (b ∷ others) e = cc
same_entries (a ∷ some) [] e = cc
same_entries (a ∷ some) (b ∷ others) e =
    let first : read_as a ≡ read_as b = cc in
    let rest : map read_as some ≡ map read_as others = cc in
    let head = ok_is a b first in
    let tail = same_entries some others rest in
    λ i. head i ∷ tail i

pub one_reading : (lines : List (List ℕ)) (some others : List Entry) → AreReadAsEntries lines some → AreReadAsEntries lines others → some ≡ others
unfolding AreReadAsEntries
one_reading lines some others read also = same_entries some others (sym read ∙ also)

pub slice_get_at : {X : Type 0} (xs : List X) (y : X) (ys : List X) (n : ℕ) → length xs ≡ n → slice_get (xs ++ y ∷ ys) n ≡ Some y
slice_get_at [] y ys zero e = refl
slice_get_at [] y ys (suc n) e = absurd (omega arith)
slice_get_at (x ∷ xs) y ys zero e = absurd (omega arith)
slice_get_at (x ∷ xs) y ys (suc n) e = slice_get_at xs y ys n (omega arith)

-- The lines of bytes are some that were read, and those of the rest.
pub record IsReadUpTo (bytes rest : List ℕ) (entries : List Entry) : Type 0 where
  pub done : List (List ℕ)
  pub lines_are : lines_of bytes ≡ done ++ lines_of rest
  pub read : AreReadAsEntries done entries

pub up_to_none : (bytes : List ℕ) → IsReadUpTo bytes bytes []
up_to_none bytes = record { done = []; lines_are = refl; read = read_none }

pub up_to_more : (bytes rest line others : List ℕ) (entries : List Entry) (e : Entry) → IsReadUpTo bytes rest entries
    → lines_of rest ≡ line ∷ lines_of others → entry line ≡ Ok e → IsReadUpTo bytes others (entries ++ e ∷ [])
up_to_more bytes rest line others entries e up cut is = record {
  done = up.done ++ line ∷ [];
  lines_are = up.lines_are ∙ ap (λ (lines : List (List ℕ)). up.done ++ lines) cut ∙ sym (append_assoc up.done (line ∷ []) (lines_of others));
  read = read_push up.done entries line e up.read is;
}

pub first_bad : (bytes rest line others : List ℕ) (entries : List Entry) (place : ℕ) (refusal : LineNo) → IsReadUpTo bytes rest entries
    → lines_of rest ≡ line ∷ lines_of others → place ≡ length entries → entry line ≡ Err refusal → IsFirstBad bytes place
first_bad bytes rest line others entries place refusal up cut at refused =
    let lines_are : lines_of bytes ≡ up.done ++ line ∷ lines_of others =
    up.lines_are ∙ ap (λ (lines : List (List ℕ)). up.done ++ lines) cut in
    let counted : length up.done ≡ place = read_length up.done entries up.read ∙ sym at in
    record {
      line = line;
      is = ap (λ (lines : List (List ℕ)). slice_get lines place) lines_are ∙ slice_get_at up.done line (lines_of others) place counted;
      refusal = refusal;
      refused = refused;
      before = entries;
      read = subst (λ (lines : List (List ℕ)). AreReadAsEntries lines entries)
          (sym (ap (λ (lines : List (List ℕ)). take place lines) lines_are ∙ take_at up.done (line ∷ lines_of others) place counted)) up.read;
    }

pub bad_is : (bytes rest line others : List ℕ) (entries : List Entry) (place : ℕ) (bad : BadHistory) → IsReadUpTo bytes rest entries
    → lines_of rest ≡ line ∷ lines_of others → place ≡ length entries → IsBadLine line place bad → IsBad bytes bad
bad_is bytes rest line others entries place (Line named) up cut at is =
    first_bad bytes rest line others entries named is.1.0 up cut (is.0 ∙ at) is.1.1
bad_is bytes rest line others entries place Memory up cut at is = tt

-- ---- a line of those that are read is read, so no such line is bad

line_read : (lines : List (List ℕ)) (entries : List Entry) (place : ℕ) (line : List ℕ) → map entry lines ≡ map read_as entries
    → slice_get lines place ≡ Some line → (e : Entry) × (entry line ≡ Ok e)
line_read [] entries place line read is = cc
line_read (l ∷ lines) [] place line read is = cc
line_read (l ∷ lines) (e ∷ entries) zero line read is =
    let first : entry l ≡ read_as e = cc in
    let same : l ≡ line = cc in
    (e, subst (λ (x : List ℕ). entry x ≡ read_as e) same first)
line_read (l ∷ lines) (e ∷ entries) (suc place) line read is =
    let rest : map entry lines ≡ map read_as entries = cc in
    line_read lines entries place line rest is

read_at : (lines : List (List ℕ)) (entries : List Entry) (place : ℕ) (line : List ℕ) → AreReadAsEntries lines entries → slice_get lines place ≡ Some line
    → (e : Entry) × (entry line ≡ Ok e)
unfolding AreReadAsEntries
read_at lines entries place line read is = line_read lines entries place line read is

none_bad : (bytes : List ℕ) (entries : List Entry) (place : ℕ) → AreReadAsEntries (lines_of bytes) entries → IsFirstBad bytes place → ⊥
none_bad bytes entries place read bad =
    let (e, is) = read_at (lines_of bytes) entries place bad.line read bad.is in
    let both : Ok e ≡ Err bad.refusal = sym is ∙ bad.refused in
    cc

pub never_bad : (bytes : List ℕ) (entries : List Entry) (bad : BadHistory) → AreReadAsEntries (lines_of bytes) entries → IsBad bytes bad → bad ≡ Memory
never_bad bytes entries (Line place) read bad = absurd (none_bad bytes entries place read bad)
never_bad bytes entries Memory read bad = refl
