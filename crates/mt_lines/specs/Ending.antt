-- How lines that are answered one by one end, and what of their replies was written then. The parameters are those of a run of lines.
use Rattle.std.specs.Prelude.{◌≡◌, ◌<◌, ◌^◌, ◌⊎◌, ◌++◌, ℕ, Bool, true, false, List, [], ◌∷◌, length, Option, Some, None, Result, Ok, Err}
use Rattle.std.specs.Io.KnownBytes.{Appends}
use Rattle.mt_io.specs.HasRead.{AreRead}
use Rattle.mt_io.specs.Reading.{Reading}
use Rattle.mt_io.specs.declared.line.LineFault.{LineFault}
use Rattle.mt_io.specs.declared.line.LineFault.TheVariants as faults
use Rattle.mt_io.specs.declared.whole_write.WriteFault.{WriteFault as Failed}
use Rattle.mt_lines.specs.Answering.{AnswersAll, AnswersToLast, AnswersWhole, AreRepliedWithin, Explains, SoFar}
use Rattle.mt_lines.specs.declared.ending.Ending.{Ending}
use Rattle.mt_lines.specs.declared.ending.Ending.TheVariants.{End, Last, ReadFault, WriteFault, Spent}

-- the ending at a reader's fault
abbrev pub fault_ending : LineFault → Ending
fault_ending faults.ReadFault = ReadFault
fault_ending faults.Spent = Spent

-- the ending once a reply was given, if lines end then. The output failed; the reply was the last one; or the lines are over then.
abbrev pub ending_after : Result Bool Failed → Bool → Option Ending
ending_after (Err failed) is_over = Some WriteFault
ending_after (Ok true) is_over = Some Last
ending_after (Ok false) true = Some Last
ending_after (Ok false) false = None

module _ {W R : Type 0} (text : R → List ℕ) (is_last : R → Bool) (IsReplied : W → List ℕ → R → W → Type 0) (IsFollowed : W → List ℕ → R → W → W → Type 0) where
  -- lines were read, and these bytes, of which the first were written, answer them, in order, each once
  pub record AnswersRead (start : W) (input left written lost : List ℕ) (end : W) : Type 0 where
    pub lines : List (List ℕ)
    pub read : AreRead input left lines
    pub some : 0 < length (written ++ lost)
    pub replied : AreRepliedWithin text is_last IsReplied IsFollowed (length written) start lines (written ++ lost) end

  -- the same, but that what follows the last reply was not done
  pub record AnswersUnfollowed (start : W) (input left written lost : List ℕ) (end : W) : Type 0 where
    pub lines : List (List ℕ)
    pub line : List ℕ
    pub read : AreRead input left (lines ++ line ∷ [])
    pub others : List ℕ
    pub middle : W
    pub replied : AreRepliedWithin text is_last IsReplied IsFollowed (length written) start lines others middle
    pub reply : R
    pub last : IsReplied middle line reply end
    pub bytes_are : written ++ lost ≡ others ++ text reply

  -- the lines up to the one that ends the run are answered, and of the replies so many bytes were written
  pub record AnswersToLastWithin (written : ℕ) (start : W) (input left bytes : List ℕ) (end : W) : Type 0 where
    pub lines : List (List ℕ)
    pub line : List ℕ
    pub read : AreRead input left (lines ++ line ∷ [])
    pub others : List ℕ
    pub middle : W
    pub replied : AreRepliedWithin text is_last IsReplied IsFollowed written start lines others middle
    pub reply : R
    pub last : IsReplied middle line reply end
    pub ends : is_last reply ≡ true
    pub bytes_are : bytes ≡ others ++ text reply

  -- of the bytes that answer the lines read a front was written, and the rest is lost: the end of a reply, and replies that waited. No line was
  -- followed whose text isn't written whole.
  pub record LosesReplies (start : W) (input left written : List ℕ) (end : W) : Type 0 where
    pub lost : List ℕ
    pub answers : AnswersRead start input left written lost end ⊎ AnswersUnfollowed start input left written lost end

  -- what an ending says: which lines the bytes written answer. By the state at first and at last, of the whole input, of what was left of it, and of
  -- what was written.
  abbrev pub EndsSo : W → W → Ending → List ℕ → List ℕ → List ℕ → Type 0
  EndsSo start end End input left written = AnswersAll text is_last IsReplied IsFollowed start input left written end
  EndsSo start end Last input left written = AnswersToLast text is_last IsReplied IsFollowed start input left written end
  EndsSo start end ReadFault input left written = (taken : List ℕ) × AnswersWhole text is_last IsReplied IsFollowed start input left taken written end
  EndsSo start end Spent input left written = (taken : List ℕ) × (length taken ≡ 2 ^ 32)
      × AnswersWhole text is_last IsReplied IsFollowed start input left taken written end
  EndsSo start end WriteFault input left written = LosesReplies start input left written end

  -- the lines that were read are answered by the bytes written and those that wait. What follows a line was done only once its text was written.
  abbrev pub HasRun : W → Option (List ℕ) → Option (List ℕ) → List ℕ → List ℕ → Reading → W → Type 0
  HasRun start before now written waiting reader w =
      SoFar text is_last IsReplied IsFollowed (length written) start before now (written ++ waiting) reader w

  -- no more lines will be answered. What the ending says is true of the bytes that were written, and none waits; or the last line was answered, and
  -- some replies wait.
  abbrev pub HasEnded : W → Ending → Option (List ℕ) → Option (List ℕ) → List ℕ → List ℕ → W → Type 0
  HasEnded start ending before now written waiting w =
      ((waiting ≡ []) × Explains (EndsSo start w ending) before now (Some []) (Some written))
      ⊎ ((ending ≡ Last) × Explains (λ input left bytes. AnswersToLastWithin (length written) start input left bytes w) before now (Some []) (Some (written ++ waiting)))

  -- more lines are to be answered, or no more
  abbrev pub GoesOnOrEnds : W → Option Ending → Option (List ℕ) → Option (List ℕ) → List ℕ → List ℕ → Reading → W → Type 0
  GoesOnOrEnds start None before now written waiting reader w = HasRun start before now written waiting reader w
  GoesOnOrEnds start (Some ending) before now written waiting reader w = HasEnded start ending before now written waiting w

  -- what a turn of the loop over lines leaves, before which these bytes were sent. It wrote more, and others wait.
  pub record Turned (start : W) (result : Option Ending) (before now : Option (List ℕ)) (sent : List ℕ) (held held_now : Option (List ℕ)) (waiting : List ℕ) (reader : Reading) (w : W) : Type 0 where
    pub more : List ℕ
    pub written : Appends held held_now more
    pub leaves : GoesOnOrEnds start result before now (sent ++ more) waiting reader w
