-- One turn of the loop over lines: what its ending means.
use Rattle.std.proofs.Common.{◌≡◌, ◌<◌, ◌≤◌, ◌⊎◌, ⊎_elim, inl, inr, ℕ, Bool, true, false, List, [], ◌∷◌, ◌++◌, ◌||◌, ◌+◌, length, Option, Some, None, Result, Ok, Err, refl, sym, ap, subst, ◌∙◌, ◌^◌, arith, append_assoc, append-nil, length-append}
use Rattle.std.specs.Prelude.{Contains, IfNone, MatchOption, OnErr}
use Rattle.std.specs.Io.KnownBytes.{Appends}
use Rattle.mt_io.specs.Reading.{Reading, TakesLine, IsAllGiven, IsStopped, IsFaultAt, fresh}
use Rattle.mt_io.specs.Writing.{AppendsFront}
use Rattle.mt_io.specs.declared.line.LineFault.{LineFault}
use Rattle.mt_io.specs.declared.line.LineFault.TheVariants as faults
use Rattle.mt_io.specs.declared.whole_write.WriteFault.{WriteFault as Failed}
use Rattle.mt_io.proofs.HasRead.{are_read, read_more, told}
use Rattle.mt_io.proofs.Known.{appends_none, appends_on}
use Rattle.mt_write.specs.declared.reply.Reply.{Reply}
use Rattle.mt_write.specs.Reply.{reply_text}
use Rattle.mt_lines.specs.Answering.{AnswersWhole, Explains, SoFar}
use Rattle.mt_lines.specs.Ending as ends
use Rattle.mt_lines.specs.Ending.{ending_after, fault_ending}
use Rattle.mt_lines.specs.declared.ending.Ending.{Ending}
use Rattle.mt_lines.specs.declared.ending.Ending.TheVariants.{End, Last, WriteFault}
use Rattle.mt_lines.specs.Given.{IsGivenFor, is_farewell}
use Rattle.mt_lines.specs.Waiting.{GivesAfter, LeavesWaiting}
use Rattle.mt_lines.proofs.Answering as steps
use Rattle.mt_lines.proofs.Idle.{none_at_end, none_at_fault}

module _ {W : Type 0} (is_last : Reply → Bool) (IsReplied : W → List ℕ → Reply → W → Type 0) (IsFollowed : W → List ℕ → Reply → W → W → Type 0) where
  abbrev EndsSo : W → W → Ending → List ℕ → List ℕ → List ℕ → Type 0
  EndsSo start end ending input left written = ends.EndsSo reply_text is_last IsReplied IsFollowed start end ending input left written

  abbrev HasRun : W → Option (List ℕ) → Option (List ℕ) → List ℕ → List ℕ → Reading → W → Type 0
  HasRun start before now written waiting reader w = ends.HasRun reply_text is_last IsReplied IsFollowed start before now written waiting reader w

  abbrev Runs : ℕ → W → Option (List ℕ) → Option (List ℕ) → List ℕ → Reading → W → Type 0
  Runs written start before now bytes reader w = SoFar reply_text is_last IsReplied IsFollowed written start before now bytes reader w

  abbrev GoesOnOrEnds : W → Option Ending → Option (List ℕ) → Option (List ℕ) → List ℕ → List ℕ → Reading → W → Type 0
  GoesOnOrEnds start result before now written waiting reader w = ends.GoesOnOrEnds reply_text is_last IsReplied IsFollowed start result before now written waiting reader w

  abbrev Turned : W → Option Ending → Option (List ℕ) → Option (List ℕ) → List ℕ → Option (List ℕ) → Option (List ℕ) → List ℕ → Reading → W → Type 0
  Turned start result before now sent held held_now waiting reader w =
      ends.Turned reply_text is_last IsReplied IsFollowed start result before now sent held held_now waiting reader w

  -- before the first line
  pub begins : (start : W) (before : Option (List ℕ)) → HasRun start before before [] [] fresh start
  begins start before = steps.starts reply_text is_last IsReplied IsFollowed start before

  module _ (start : W) (before now after : Option (List ℕ)) (sent : List ℕ) (reader new : Reading) (w : W) where
    -- bytes were written before a turn
    joined : (held held_now held_after : Option (List ℕ)) (front waits : List ℕ) (result : Option Ending) (v : W) → Appends held held_now front
        → Turned start result before after (sent ++ front) held_now held_after waits new v → Turned start result before after sent held held_after waits new v
    joined held held_now held_after front waits result v written t = record {
      more = front ++ t.more;
      written = appends_on held held_now held_after front t.more written t.written;
      leaves = subst (λ (all : List ℕ). GoesOnOrEnds start result before after all waits new v) (append_assoc sent front t.more) t.leaves;
    }

    -- a front of what waited was written
    written_by : (front all : List ℕ) → Runs (length sent) start before now all reader w → Runs (length (sent ++ front)) start before now all reader w
    written_by front all so_far = steps.written_on reply_text is_last IsReplied IsFollowed (length sent) (length (sent ++ front)) start before now all reader w
        (omega (arith, length-append sent front)) so_far

    -- what waited was written in part, and the rest waits
    pub behind_ready : (held held_now held_after : Option (List ℕ)) (waited waiting waits : List ℕ) (result : Option Ending) (v : W)
        → LeavesWaiting held held_now waited waiting
        → ((before : Option (List ℕ)) (sent : List ℕ) → HasRun start before now sent waiting reader w
        → Turned start result before after sent held_now held_after waits new v)
        → HasRun start before now sent waited reader w → Turned start result before after sent held held_after waits new v
    behind_ready held held_now held_after waited waiting waits result v (front, is, written) turn so_far =
        let same : sent ++ waited ≡ (sent ++ front) ++ waiting = ap (λ bs. sent ++ bs) is ∙ sym (append_assoc sent front waiting) in
        joined held held_now held_after front waits result v written
        (turn before (sent ++ front) (subst (λ (all : List ℕ). Runs (length (sent ++ front)) start before now all reader w) same (written_by front (sent ++ waited) so_far)))

    -- the output failed before the next line was read
    lost_so_far : (written rest : List ℕ) → Runs (length written) start before now (written ++ rest) reader w → reader.store.taken ≤ 2 ^ 32 → 0 < length (written ++ rest)
        → Explains (EndsSo start w WriteFault) before now (Some []) (Some written)
    lost_so_far written rest so_far few some =
        let (left, tells, tells_after, at_end) = told before now so_far.taken so_far.read.from in
        let read = are_read before now reader so_far.lines so_far.taken left so_far.read few at_end in
        record {
          input = so_far.taken ++ left;
          left = left;
          written = written;
          told = tells;
          told_after = tells_after;
          appended = refl;
          means = record {
            lost = rest;
            answers = inl (record { lines = so_far.lines; read = read; some = some; replied = so_far.replied });
          };
        }

    pub cut_ready : (held held_now : Option (List ℕ)) (waited waiting : List ℕ) → (0 < length waited) × AppendsFront held held_now waited → waiting ≡ []
        → reader.store.taken ≤ 2 ^ 32 → HasRun start before now sent waited reader w
        → Turned start (Some WriteFault) before now sent held held_now waiting reader w
    cut_ready held held_now waited waiting (some, (front, rest, is, written)) none few so_far =
        let same : sent ++ waited ≡ (sent ++ front) ++ rest = ap (λ bs. sent ++ bs) is ∙ sym (append_assoc sent front rest) in
        record {
          more = front;
          written = written;
          leaves = inl (
            none,
            lost_so_far (sent ++ front) rest (subst (λ (all : List ℕ). Runs (length (sent ++ front)) start before now all reader w) same (written_by front (sent ++ waited) so_far)) few
                (omega (arith, some, ap length same, length-append sent waited)),
          );
        }

    -- a line was read and answered, and its reply, or what is given in its place, was given
    module _ (held held_after : Option (List ℕ)) (waited waiting : List ℕ) (line : List ℕ) (reply : Reply) (middle : W) (so_far : HasRun start before now sent waited reader w)
        (takes : TakesLine reader new now after line) (replied : (other : Reply) → IsGivenFor reply other → IsReplied w line other middle) where
      one : (given : Result Bool Failed) (gives : GivesAfter reply given waited waiting held held_after) → IsReplied w line gives.given middle
      one given gives = replied gives.given gives.given_for

      -- the text stands after what waited
      stands : (front text : List ℕ) → waited ++ text ≡ front ++ waiting → (sent ++ front) ++ waiting ≡ (sent ++ waited) ++ text
      stands front text is = append_assoc sent front waiting ∙ ap (λ bs. sent ++ bs) (sym is) ∙ sym (append_assoc sent waited text)

      -- a front of what waited and of the text was written
      so_far_with : (front : List ℕ) → Runs (length (sent ++ front)) start before now (sent ++ waited) reader w
      so_far_with front = written_by front (sent ++ waited) so_far

      at_last : (given : Result Bool Failed) (gives : GivesAfter reply given waited waiting held held_after) → is_last gives.given ≡ true
          → LeavesWaiting held held_after (waited ++ reply_text gives.given) waiting → Turned start (Some Last) before after sent held held_after waiting new middle
      at_last given gives is (front, bytes_are, written) = record {
        more = front;
        written = written;
        leaves = inr (
          refl,
          subst (λ (all : List ℕ). Explains (λ input left bytes.
              ends.AnswersToLastWithin reply_text is_last IsReplied IsFollowed (length (sent ++ front)) start input left bytes middle) before after (Some []) (Some all))
              (sym (stands front (reply_text gives.given) bytes_are))
              (steps.ends_at reply_text is_last IsReplied IsFollowed (length (sent ++ front)) start before now after (sent ++ waited) reader new w middle line gives.given
              (so_far_with front) takes (one given gives) is),
        );
      }

      at_line : (next : W) (gives : GivesAfter reply (Ok false) waited waiting held held_after) → is_last gives.given ≡ false
          → LeavesWaiting held held_after (waited ++ reply_text gives.given) waiting → IsFollowed w line gives.given middle next → (next ≡ middle) ⊎ (waiting ≡ [])
          → Turned start None before after sent held held_after waiting new next
      at_line next gives isnt (front, bytes_are, written) followed settled =
          let same = stands front (reply_text gives.given) bytes_are in
          let within : (next ≡ middle) ⊎ (length ((sent ++ waited) ++ reply_text gives.given) ≤ length (sent ++ front)) = ⊎_elim
          (λ is. inl is)
          (λ none. inr (omega (arith, ap length same, ap length none, length-append (sent ++ front) waiting)))
          settled in
          record {
            more = front;
            written = written;
            leaves = subst (λ (all : List ℕ). Runs (length (sent ++ front)) start before after all new next) (sym same)
                (steps.goes_on reply_text is_last IsReplied IsFollowed (length (sent ++ front)) start before now after (sent ++ waited) reader new w middle line gives.given next
                (so_far_with front) takes (one (Ok false) gives) isnt followed within);
          }

      -- the output failed when the line had been answered
      lost_behind : (given : Reply) (front rest : List ℕ) → IsReplied w line given middle → (sent ++ waited) ++ reply_text given ≡ (sent ++ front) ++ rest
          → Explains (EndsSo start middle WriteFault) before after (Some []) (Some (sent ++ front))
      lost_behind given front rest answers is =
          let run = so_far_with front in
          let read = read_more before now after reader new run.lines run.taken line run.read takes in
          let taken = run.taken ++ takes.passes.read in
          let (left, tells, tells_after, at_end) = told before after taken read.from in
          let are = are_read before after new (run.lines ++ line ∷ []) taken left read takes.passes.limit at_end in
          record {
            input = taken ++ left;
            left = left;
            written = sent ++ front;
            told = tells;
            told_after = tells_after;
            appended = refl;
            means = record {
              lost = rest;
              answers = inr (record {
                lines = run.lines;
                line = line;
                read = are;
                others = sent ++ waited;
                middle = w;
                replied = run.replied;
                reply = given;
                last = answers;
                bytes_are = sym is;
              });
            };
          }

      at_cut : (fault : Failed) (gives : GivesAfter reply (Err fault) waited waiting held held_after) → waiting ≡ []
          → AppendsFront held held_after (waited ++ reply_text gives.given) → Turned start (Some WriteFault) before after sent held held_after waiting new middle
      at_cut fault gives none (front, rest, is, written) = record {
        more = front;
        written = written;
        leaves = inl (
          none,
          lost_behind gives.given front rest (one (Err fault) gives)
              (append_assoc sent waited (reply_text gives.given) ∙ ap (λ bs. sent ++ bs) is ∙ sym (append_assoc sent front rest)),
        );
      }

      pub at_given : (given : Result Bool Failed) (is_over : Bool) (next : W) → GivesAfter reply given waited waiting held held_after → OnErr given (waiting ≡ [])
          → ((other : Reply) → IsGivenFor reply other → is_last other ≡ is_farewell other || is_over)
          → ((other : Reply) → IsGivenFor reply other → MatchOption (ending_after given is_over) (IsFollowed w line other middle next) (λ _. next ≡ middle))
          → IfNone (ending_after given is_over) ((next ≡ middle) ⊎ (waiting ≡ []))
          → Turned start (ending_after given is_over) before after sent held held_after waiting new next
      at_given (Ok true) is_over next gives lost last followed settled =
          rw (followed gives.given gives.given_for) (at_last (Ok true) gives (last gives.given gives.given_for ∙ ap (λ b. b || is_over) gives.sent.1) gives.sent.0)
      at_given (Ok false) true next gives lost last followed settled =
          rw (followed gives.given gives.given_for) (at_last (Ok false) gives (last gives.given gives.given_for ∙ ap (λ b. b || true) gives.sent.1) gives.sent.0)
      at_given (Ok false) false next gives lost last followed settled =
          at_line next gives (last gives.given gives.given_for ∙ ap (λ b. b || false) gives.sent.1) gives.sent.0 (followed gives.given gives.given_for) settled
      at_given (Err fault) is_over next gives lost last followed settled = rw (followed gives.given gives.given_for) (at_cut fault gives lost gives.sent)

    -- no line was read, and nothing waits
    over : (held : Option (List ℕ)) (waiting : List ℕ) (ending : Ending) → waiting ≡ []
        → (Runs (length sent) start before now sent reader w → Explains (EndsSo start w ending) before after (Some []) (Some sent))
        → HasRun start before now sent waiting reader w → Turned start (Some ending) before after sent held held waiting new w
    over held waiting ending none explains so_far =
        let all : sent ++ waiting ≡ sent = ap (λ bs. sent ++ bs) none ∙ append-nil sent in
        record {
          more = [];
          written = appends_none held;
          leaves = inl (none, rw (append-nil sent) (explains (rw all at so_far)));
        }

    -- the input ended
    pub at_end : (held : Option (List ℕ)) (waiting : List ℕ) → (¬ Contains reader.store.ahead 10 → waiting ≡ [])
        → HasRun start before now sent waiting reader w → IsAllGiven reader new now after
        → Turned start (Some End) before after sent held held waiting new w
    at_end held waiting idle so_far done = over held waiting End (idle (none_at_end reader new now after done))
        (λ answered. steps.ended reply_text is_last IsReplied IsFollowed (length sent) start before now after sent reader new w answered done)
        so_far

    whole : (fault : LineFault) (input left written : List ℕ)
        → (taken : List ℕ) × IsFaultAt fault (length taken) × AnswersWhole reply_text is_last IsReplied IsFollowed start input left taken written w
        → EndsSo start w (fault_ending fault) input left written
    whole faults.ReadFault input left written (taken, fewer, answers) = (taken, answers)
    whole faults.Spent input left written (taken, all, answers) = (taken, all, answers)

    -- the reader stopped at a fault
    pub at_fault : (held : Option (List ℕ)) (waiting : List ℕ) (fault : LineFault) → (¬ Contains reader.store.ahead 10 → waiting ≡ [])
        → HasRun start before now sent waiting reader w → IsStopped reader new now after fault
        → Turned start (Some (fault_ending fault)) before after sent held held waiting new w
    at_fault held waiting fault idle so_far stop = over held waiting (fault_ending fault) (idle (none_at_fault reader new now after fault stop))
        (λ answered. steps.explained_as _ (EndsSo start w (fault_ending fault)) before after (Some []) (Some sent) (whole fault)
        (steps.stopped reply_text is_last IsReplied IsFollowed (length sent) start before now after sent reader new w fault answered stop))
        so_far

-- a reader that took a line has given one more
pub one_more : {old new : Reading} {before after : Option (List ℕ)} {line : List ℕ} (ending : Option Ending) → TakesLine old new before after line
    → IfNone ending ((new.given ≡ old.given + 1) × (new.given ≤ 2 ^ 32) × (new.fault ≡ None))
one_more None takes = (takes.one_more, takes.bound, takes.sound)
one_more (Some ending) takes = tt
