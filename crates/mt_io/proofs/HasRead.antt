-- Over all calls of a reader: each line that it gives is the next of its source, and none is left out at the end.
use Rattle.std.proofs.Common.{◌≡◌, ◌<◌, ◌≤◌, ℕ, ◌^◌, Bool, true, false, List, [], ◌∷◌, ◌++◌, length, None, Some, refl, sym, ◌∙◌, ap, inl, inr, arith, append_assoc, append-nil, length-append}
use Rattle.std.specs.declared.option.Option.{Option}
use Rattle.std.specs.Io.KnownBytes.{Consumes, IsAtEnd}
use Rattle.mt_io.specs.Lines.{lines_of, whole_lines_of, IsPart}
use Rattle.mt_io.specs.Reading.{Reading, Store, PassesBytes, Ends, TakesLine, IsAllGiven, IsStopped, fresh}
use Rattle.mt_io.specs.HasRead.{AreLines, AreRead, HasRead, Tells}
use Rattle.mt_io.specs.Private.HasRead.{HasReadAll, HasReadPart}
use Rattle.mt_io.specs.declared.line.LineFault.{LineFault}
use Rattle.mt_io.proofs.Known.{consumes_none, consumes_on}
use Rattle.mt_io.proofs.Lines.{lines_of-first, lines_of-last, whole_lines_of-first, whole_lines_of-last}

-- what is left after the bytes that were taken
pub told : (before after : Option (List ℕ)) (taken : List ℕ) → Consumes before after taken
    → (left : List ℕ) × Tells before (taken ++ left) × Tells after left × (IsAtEnd after → left ≡ [])
told None None taken from = ([], tt, tt, λ _. refl)
told None (Some ys) taken from = (ys, tt, refl, λ end. end)
told (Some xs) None taken from = absurd from
told (Some xs) (Some ys) taken from = (ys, from, refl, λ end. end)

pub lines_none : AreLines [] []
lines_none = record { each = λ more. refl; whole = λ more. refl }

-- a line more, with its 0x0A
pub lines_push : (bytes : List ℕ) (lines : List (List ℕ)) (line : List ℕ) → AreLines bytes lines → IsPart line
    → AreLines (bytes ++ (line ++ 10 ∷ [])) (lines ++ line ∷ [])
lines_push bytes lines line are part = record {
  each = λ more. simp append_assoc (are.each (line ++ 10 ∷ more) ∙ ap (λ ls. lines ++ ls) (lines_of-first line more part));
  whole = λ more. simp append_assoc (are.whole (line ++ 10 ∷ more) ∙ ap (λ ls. lines ++ ls) (whole_lines_of-first line more part));
}

-- a new reader has read nothing
pub read_none : (before : Option (List ℕ)) → HasRead before before fresh [] []
read_none before = record {
  from = consumes_none before;
  gone = [];
  split = refl;
  size = refl;
  sound = refl;
  going = λ _. lines_none;
  over = λ ended. cc;
}

-- the bytes that went, with those of one call more
went : (old new : Store) (before after : Option (List ℕ)) (taken gone front : List ℕ) → taken ≡ gone ++ old.ahead → (p : PassesBytes old new before after front)
    → taken ++ p.read ≡ (gone ++ front) ++ new.ahead
went old new before after taken gone front split p =
    ap (λ xs. xs ++ p.read) split ∙ append_assoc gone old.ahead p.read ∙ ap (λ xs. gone ++ xs) p.bytes ∙ sym (append_assoc gone front new.ahead)

going_on : (gone : List ℕ) (lines : List (List ℕ)) (new : Store) (after : Option (List ℕ)) (line ending : List ℕ) → AreLines gone lines → IsPart line
    → Ends new after line ending → new.ended ≡ false → AreLines (gone ++ (line ++ ending)) (lines ++ line ∷ [])
going_on gone lines new after line ending are part ends going =
    elim ends [
      | inl whole ↦ rw whole.0 (lines_push gone lines line are part)
      | inr last ↦ let ended : new.ended ≡ true = last.2 in cc
    ]

over_now : (gone all : List ℕ) (lines : List (List ℕ)) (new : Store) (after : Option (List ℕ)) (line ending : List ℕ) → AreLines gone lines → IsPart line
    → all ≡ (gone ++ (line ++ ending)) ++ new.ahead → new.taken ≡ length all → Ends new after line ending → new.ended ≡ true
    → (lines_of all ≡ lines ++ line ∷ []) × IsAtEnd after × (length all < 2 ^ 32)
over_now gone all lines new after line ending are part split size ends ended =
    elim ends [
      | inl whole ↦ let going : new.ended ≡ false = whole.1 in cc
      | inr last ↦
          let is : all ≡ gone ++ line = rw (split, last.0, last.3, append-nil line, append-nil (gone ++ line)) refl in
          (ap lines_of is ∙ are.each line ∙ ap (λ ls. lines ++ ls) (lines_of-last line part last.1), last.4, omega (arith, last.5, size))
    ]

-- one line more
pub read_more : (before now after : Option (List ℕ)) (reader new : Reading) (lines : List (List ℕ)) (taken line : List ℕ)
    → HasRead before now reader lines taken → (t : TakesLine reader new now after line) → HasRead before after new (lines ++ line ∷ []) (taken ++ t.passes.read)
read_more before now after reader new lines taken line so_far t =
    let are = so_far.going t.going in
    let split : taken ++ t.passes.read ≡ (so_far.gone ++ (line ++ t.ending)) ++ new.store.ahead =
    went reader.store new.store now after taken so_far.gone (line ++ t.ending) so_far.split t.passes in
    let size : new.store.taken ≡ length (taken ++ t.passes.read) = omega (arith, so_far.size, t.passes.count, length-append taken t.passes.read) in
    record {
      from = consumes_on before now after taken t.passes.read so_far.from t.passes.from;
      gone = so_far.gone ++ (line ++ t.ending);
      split = split;
      size = size;
      sound = t.sound;
      going = going_on so_far.gone lines new.store after line t.ending are t.part t.ends;
      over = over_now so_far.gone (taken ++ t.passes.read) lines new.store after line t.ending are t.part split size t.ends;
    }

read_all_at : (before now after : Option (List ℕ)) (reader new : Reading) (lines : List (List ℕ)) (taken : List ℕ) (was_ended : Bool) → reader.store.ended ≡ was_ended
    → HasRead before now reader lines taken → IsAllGiven reader new now after → HasReadAll before after lines
read_all_at before now after reader new lines taken true ended so_far done =
    let over = so_far.over ended in
    let still : after ≡ now = done.still ended in
    record {
      taken = taken;
      from = rw still so_far.from;
      lines_are = over.0;
      end = rw still over.1;
      few = over.2;
    }
read_all_at before now after reader new lines taken false going so_far done =
    let p = done.passes in
    let split : taken ++ p.read ≡ (so_far.gone ++ []) ++ new.store.ahead = went reader.store new.store now after taken so_far.gone [] so_far.split p in
    let is : taken ++ p.read ≡ so_far.gone ++ [] = split ∙ ap (λ xs. (so_far.gone ++ []) ++ xs) done.empty ∙ append-nil (so_far.gone ++ []) in
    let are = so_far.going going in
    record {
      taken = taken ++ p.read;
      from = consumes_on before now after taken p.read so_far.from p.from;
      lines_are = ap lines_of is ∙ are.each [] ∙ append-nil lines;
      end = done.met going;
      few = omega (arith, done.few, so_far.size, p.count, length-append taken p.read);
    }

-- at the end every line was given
pub read_all : (before now after : Option (List ℕ)) (reader new : Reading) (lines : List (List ℕ)) (taken : List ℕ)
    → HasRead before now reader lines taken → IsAllGiven reader new now after → HasReadAll before after lines
read_all before now after reader new lines taken so_far done = read_all_at before now after reader new lines taken reader.store.ended refl so_far done

-- at a fault every whole line was given
pub read_part : (before now after : Option (List ℕ)) (reader new : Reading) (lines : List (List ℕ)) (taken : List ℕ) (fault : LineFault)
    → HasRead before now reader lines taken → IsStopped reader new now after fault → HasReadPart before after new lines
read_part before now after reader new lines taken fault so_far stopped =
    let p = stopped.passes in
    let split : taken ++ p.read ≡ (so_far.gone ++ stopped.part) ++ new.store.ahead = went reader.store new.store now after taken so_far.gone stopped.part so_far.split p in
    let is : taken ++ p.read ≡ so_far.gone ++ stopped.part = split ∙ ap (λ xs. (so_far.gone ++ stopped.part) ++ xs) stopped.empty ∙ append-nil (so_far.gone ++ stopped.part) in
    let are = so_far.going stopped.going in
    record {
      taken = taken ++ p.read;
      from = consumes_on before now after taken p.read so_far.from p.from;
      lines_are = ap whole_lines_of is ∙ are.whole stopped.part ∙ ap (λ ls. lines ++ ls) (whole_lines_of-last stopped.part stopped.is_part) ∙ append-nil lines;
      size = omega (arith, so_far.size, p.count, length-append taken p.read);
    }

are_read_at : (before now : Option (List ℕ)) (reader : Reading) (lines : List (List ℕ)) (taken left : List ℕ) (has_ended : Bool) → reader.store.ended ≡ has_ended
    → HasRead before now reader lines taken → reader.store.taken ≤ 2 ^ 32 → (IsAtEnd now → left ≡ []) → AreRead (taken ++ left) left lines
are_read_at before now reader lines taken left true ended so_far few end =
    let over = so_far.over ended in
    let is : taken ++ [] ≡ taken = append-nil taken in
    record {
      gone = taken;
      beyond = [];
      input_is = ap (λ xs. xs ++ left) (sym is);
      limit = omega (arith, few, so_far.size, ap length is);
      lines_are = inr (over.0, refl, end over.1);
    }
are_read_at before now reader lines taken left false going so_far few end = record {
  gone = so_far.gone;
  beyond = reader.store.ahead;
  input_is = ap (λ xs. xs ++ left) so_far.split;
  limit = omega (arith, few, so_far.size, ap length so_far.split);
  lines_are = inl (so_far.going going);
}

-- whatever is left, the lines given were read of it all
pub are_read : (before now : Option (List ℕ)) (reader : Reading) (lines : List (List ℕ)) (taken left : List ℕ) → HasRead before now reader lines taken
    → reader.store.taken ≤ 2 ^ 32 → (IsAtEnd now → left ≡ []) → AreRead (taken ++ left) left lines
are_read before now reader lines taken left so_far few end = are_read_at before now reader lines taken left reader.store.ended refl so_far few end
