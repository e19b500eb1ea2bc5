-- What lines mean once all that waited was written.
use Rattle.std.proofs.Common.{◌≡◌, ◌<◌, ◌++◌, inr, ℕ, Bool, List, [], Some, None, length, sym, ap, ◌∙◌, arith, append_assoc, append-nil, length-append, ⊎_elim}
use Rattle.std.specs.declared.option.Option.{Option}
use Rattle.std.specs.Io.KnownBytes.{Appends}
use Rattle.mt_io.specs.Reading.{Reading}
use Rattle.mt_io.specs.Writing.{AppendsFront}
use Rattle.mt_io.proofs.Known.{appends_on}
use Rattle.mt_lines.specs.Answering.{Explains}
use Rattle.mt_lines.specs.Ending.{AnswersToLastWithin, EndsSo, HasRun, Turned}
use Rattle.mt_lines.specs.declared.ending.Ending.{Ending}
use Rattle.mt_lines.specs.declared.ending.Ending.TheVariants.{Last, WriteFault}
use Rattle.mt_lines.proofs.Answering.{explained_as, replied_more, to_last}

-- what is told of bytes is told of an output to which they were appended
told_of : (M : List ℕ → List ℕ → List ℕ → Type 0) (before now held held_now : Option (List ℕ)) (all : List ℕ)
    → Explains M before now (Some []) (Some all) → Appends held held_now all → Explains M before now held held_now
told_of M before now held held_now all e written =
    let is : e.written ≡ all = sym e.appended in
    record {
      input = e.input;
      left = e.left;
      written = all;
      told = e.told;
      told_after = e.told_after;
      appended = written;
      means = rw is at e.means;
    }

module _ {W R : Type 0} (text : R → List ℕ) (is_last : R → Bool) (IsReplied : W → List ℕ → R → W → Type 0) (IsFollowed : W → List ℕ → R → W → W → Type 0) where
  abbrev Ends : W → W → Ending → List ℕ → List ℕ → List ℕ → Type 0
  Ends start end ending input left written = EndsSo text is_last IsReplied IsFollowed start end ending input left written

  abbrev Runs : W → Option (List ℕ) → Option (List ℕ) → List ℕ → List ℕ → Reading → W → Type 0
  Runs start before now written waiting reader w = HasRun text is_last IsReplied IsFollowed start before now written waiting reader w

  abbrev Turns : W → Option Ending → Option (List ℕ) → Option (List ℕ) → List ℕ → Option (List ℕ) → Option (List ℕ) → List ℕ → Reading → W → Type 0
  Turns start result before now sent held held_now waiting reader w = Turned text is_last IsReplied IsFollowed start result before now sent held held_now waiting reader w

  -- more lines are to be answered
  pub stays_open : (start : W) (before old now held held_now held_after : Option (List ℕ)) (waited waiting : List ℕ) (reader new : Reading) (w v : W)
      → ((sent : List ℕ) × Appends held held_now sent × Runs start before old sent waited reader w)
      → ((before : Option (List ℕ)) (sent : List ℕ) → Runs start before old sent waited reader w → Turns start None before now sent held_now held_after waiting new v)
      → (sent : List ℕ) × Appends held held_after sent × Runs start before now sent waiting new v
  stays_open start before old now held held_now held_after waited waiting reader new w v (sent, first, so_far) turn =
      let t = turn before sent so_far in
      (sent ++ t.more, appends_on held held_now held_after sent t.more first t.written, t.leaves)

  module _ (start : W) (before now held held_now held_after held_last : Option (List ℕ)) (sent waiting : List ℕ) (reader : Reading) (w : W) (ending : Ending) where
    -- all that waited was written
    pub closed : Appends held held_now sent → Turns start (Some ending) before now sent held_now held_after waiting reader w
        → Appends held_after held_last waiting → Explains (Ends start w ending) before now held held_last
    closed first turn last =
        let so_far = appends_on held held_now held_after sent turn.more first turn.written in
        let all = appends_on held held_after held_last (sent ++ turn.more) waiting so_far last in
        ⊎_elim
        (λ (none, e). told_of _ before now held held_last (sent ++ turn.more) e (rw (none, append-nil (sent ++ turn.more)) at all))
        (λ (done, e). rw done (told_of (Ends start w Last) before now held held_last ((sent ++ turn.more) ++ waiting)
        (explained_as _ (Ends start w Last) before now (Some []) _ (λ input left bytes to. to_last text is_last IsReplied IsFollowed _ start input left bytes w to) e) all))
        turn.leaves

    -- the output failed before all that waited was written
    pub closed_short : Appends held held_now sent → Turns start (Some ending) before now sent held_now held_after waiting reader w
        → (0 < length waiting) × AppendsFront held_after held_last waiting → Explains (Ends start w WriteFault) before now held held_last
    closed_short first turn (some, (front, rest, is, last)) =
        let so_far = appends_on held held_now held_after sent turn.more first turn.written in
        let all = appends_on held held_after held_last (sent ++ turn.more) front so_far last in
        ⊎_elim
        (λ (none, e). absurd (omega (arith, some, ap length none)))
        (λ (done, e). cut e all)
        turn.leaves where
          cut : Explains (λ input left bytes. AnswersToLastWithin text is_last IsReplied IsFollowed (length (sent ++ turn.more)) start input left bytes w) before now (Some [])
              (Some ((sent ++ turn.more) ++ waiting)) → Appends held held_last ((sent ++ turn.more) ++ front)
              → Explains (Ends start w WriteFault) before now held held_last
          cut e all =
              let to = e.means in
              record {
                input = e.input;
                left = e.left;
                written = (sent ++ turn.more) ++ front;
                told = e.told;
                told_after = e.told_after;
                appended = all;
                means = record {
                  lost = rest;
                  answers = inr (record {
                    lines = to.lines;
                    line = to.line;
                    read = to.read;
                    others = to.others;
                    middle = to.middle;
                    replied = replied_more text is_last IsReplied IsFollowed (length (sent ++ turn.more)) (length ((sent ++ turn.more) ++ front)) start to.lines to.others to.middle
                        (omega (arith, length-append (sent ++ turn.more) front)) to.replied;
                    reply = to.reply;
                    last = to.last;
                    bytes_are = append_assoc (sent ++ turn.more) front rest ∙ ap (λ bs. (sent ++ turn.more) ++ bs) (sym is) ∙ e.appended ∙ to.bytes_are;
                  });
                };
              }
