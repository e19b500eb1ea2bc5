-- What lines that ended mean for a whole script, and for lines that set a picture up.
use Rattle.std.proofs.Common.{◌≡◌, inl, inr, ℕ, true, false, All, List, Some, Result, Err, refl, sym, ap, ◌∙◌, true≢false}
use Rattle.std.specs.declared.option.Option.{Option}
use Rattle.mt_base.specs.Complete.{IsComplete}
use Rattle.mt_lines.specs.Answering.{Explains}
use Rattle.mt_lines.specs.Given.{is_farewell}
use Rattle.mt_lines.specs.declared.ending.Ending.{Ending}
use Rattle.mt_lines.specs.declared.ending.Ending.TheVariants as endings
use Rattle.mt_lines.proofs.Answering as steps
use Rattle.mt_lines.proofs.Cutting.{front_of_lost}
use Rattle.mt_picture.specs.Story.{Story}
use Rattle.mt_write.specs.declared.reply.Reply.{Reply}
use Rattle.mt_write.specs.Reply.{reply_text}
use Rattle.mt_top.specs.Private.Lines.{IsSettingUp, LinesEnd}
use Rattle.mt_top.specs.Lines.{ends_opening}
use Rattle.mt_top.specs.Opening.{BeginsPicture, EndsUnbegun, OpeningMeans}
use Rattle.mt_top.specs.Run.{AnswersMean}
use Rattle.mt_top.specs.Script.{IsReplied, NothingFollows}
use Rattle.mt_top.specs.Private.Status.{is_done, status_of}
use Rattle.mt_top.specs.declared.status.Status.{Status}
use Rattle.mt_top.specs.declared.status.Status.TheVariants.{Setup, ReadFault, WriteFault, Memory}
use Rattle.mt_world.specs.World.{World, opening_world, setup_of}

-- memory was wanted before the first line
pub wanted : (HasReply : World → List ℕ → Reply → World → Type 0) (before held : Option (List ℕ)) → Explains (AnswersMean HasReply Memory) before before held held
wanted HasReply before held =
    steps.explained_as _ (AnswersMean HasReply Memory) before before held held (λ input left written none. none) (steps.nothing before held)

pub unopened : (before held : Option (List ℕ)) → Explains (OpeningMeans Memory) before before held held
unopened before held = steps.explained_as _ (OpeningMeans Memory) before before held held (λ input left written none. none) (steps.nothing before held)

module _ (before after held held_after : Option (List ℕ)) (w : World) where
  -- the lines are all that there are
  whole : (HasReply : World → List ℕ → Reply → World → Type 0) → All IsComplete w.history → (ending : Ending) (input left written : List ℕ)
      → LinesEnd HasReply false w ending input left written → AnswersMean HasReply (status_of ending) input left written
  whole HasReply complete endings.End input left written all = inl (w, all, complete)
  whole HasReply complete endings.Last input left written to = inr (w, to, complete)
  whole HasReply complete endings.ReadFault input left written (taken, answers) = (taken, (w, answers, complete))
  whole HasReply complete endings.Spent input left written (taken, all, answers) = (taken, all, (w, answers, complete))
  whole HasReply complete endings.WriteFault input left written loses = front_of_lost reply_text is_farewell HasReply NothingFollows opening_world input left written w loses

  pub replayed : (HasReply : World → List ℕ → Reply → World → Type 0) → All IsComplete w.history → (ending : Ending)
      → Explains (LinesEnd HasReply false w ending) before after held held_after → Explains (AnswersMean HasReply (status_of ending)) before after held held_after
  replayed HasReply complete ending explained =
      steps.explained_as (LinesEnd HasReply false w ending) (AnswersMean HasReply (status_of ending)) before after held held_after (whole HasReply complete ending) explained

  -- they set a picture up, and it has begun
  begun_by : (picture : Story) → picture ≡ record { setup = setup_of w; history = w.history } → w.begun ≡ true → (ending : Ending) → is_done (status_of ending) ≡ true
      → IsSettingUp true (Some ending) w → (input left written : List ℕ) → LinesEnd IsReplied true w ending input left written → BeginsPicture input left written picture
  begun_by picture is begun endings.End done setting input left written all = absurd (true≢false (sym begun ∙ setting.unbegun refl (inr refl)))
  begun_by picture is begun endings.Last done setting input left written to = record {
    end = w;
    answers = to;
    begun = begun;
    picture_is = is ∙ ap (λ entries. record { setup = setup_of w; history = entries }) (setting.empty refl begun);
  }
  begun_by picture is begun endings.ReadFault done setting input left written answers = absurd (true≢false (sym done))
  begun_by picture is begun endings.Spent done setting input left written answers = absurd (true≢false (sym done))
  begun_by picture is begun endings.WriteFault done setting input left written answers = absurd (true≢false (sym done))

  pub begins : (picture : Story) → picture ≡ record { setup = setup_of w; history = w.history } → w.begun ≡ true → (ending : Ending) → is_done (status_of ending) ≡ true
      → IsSettingUp true (Some ending) w → Explains (LinesEnd IsReplied true w ending) before after held held_after
      → Explains (λ input left written. BeginsPicture input left written picture) before after held held_after
  begins picture is begun ending done setting explained =
      steps.explained_as (LinesEnd IsReplied true w ending) (λ input left written. BeginsPicture input left written picture) before after held held_after
      (begun_by picture is begun ending done setting) explained

  -- they were to, and it hasn't
  unbegun_by : w.begun ≡ false → (ending : Ending) → is_done (status_of ending) ≡ true → (input left written : List ℕ) → LinesEnd IsReplied true w ending input left written
      → EndsUnbegun input left written
  unbegun_by isnt endings.End done input left written all = record { end = w; answers = inl all; unbegun = isnt }
  unbegun_by isnt endings.Last done input left written to = record { end = w; answers = inr to; unbegun = isnt }
  unbegun_by isnt endings.ReadFault done input left written answers = absurd (true≢false (sym done))
  unbegun_by isnt endings.Spent done input left written answers = absurd (true≢false (sym done))
  unbegun_by isnt endings.WriteFault done input left written answers = absurd (true≢false (sym done))

  pub unbegun : w.begun ≡ false → (ending : Ending) → is_done (status_of ending) ≡ true → Explains (LinesEnd IsReplied true w ending) before after held held_after
      → Explains (OpeningMeans Setup) before after held held_after
  unbegun isnt ending done explained =
      steps.explained_as (LinesEnd IsReplied true w ending) (OpeningMeans Setup) before after held held_after (unbegun_by isnt ending done) explained

  -- the input or the output failed
  failed : (ending : Ending) → is_done (status_of ending) ≡ false → (input left written : List ℕ) → LinesEnd IsReplied true w ending input left written
      → OpeningMeans (status_of ending) input left written
  failed endings.End other input left written answers = absurd (true≢false other)
  failed endings.Last other input left written answers = absurd (true≢false other)
  failed endings.ReadFault other input left written (taken, answers) = (w, taken, answers)
  failed endings.Spent other input left written (taken, all, answers) = (w, taken, all, answers)
  failed endings.WriteFault other input left written loses = front_of_lost reply_text ends_opening IsReplied NothingFollows opening_world input left written w loses

  pub over : (ending : Ending) → is_done (status_of ending) ≡ false → Explains (LinesEnd IsReplied true w ending) before after held held_after
      → Explains (OpeningMeans (status_of ending)) before after held held_after
  over ending other explained =
      steps.explained_as (LinesEnd IsReplied true w ending) (OpeningMeans (status_of ending)) before after held held_after (failed ending other) explained

-- a fault is the status only where it is the ending
pub read_ends : (ending : Ending) → status_of ending ≡ ReadFault → ending ≡ endings.ReadFault
read_ends endings.End is = cc
read_ends endings.Last is = cc
read_ends endings.ReadFault is = refl
read_ends endings.WriteFault is = cc
read_ends endings.Spent is = cc

pub write_ends : (ending : Ending) → status_of ending ≡ WriteFault → ending ≡ endings.WriteFault
write_ends endings.End is = cc
write_ends endings.Last is = cc
write_ends endings.ReadFault is = cc
write_ends endings.WriteFault is = refl
write_ends endings.Spent is = cc

pub same_error : {T : Type 0} {a b : Status} → ◌≡◌ {A = Result T Status} (Err a) (Err b) → a ≡ b
same_error is = cc
