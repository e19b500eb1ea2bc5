-- A standby that is given what sets a primary up, and the beginning of its history, catches up.
use Rattle.std.proofs.Common.{◌≡◌, ◌≤◌, ◌∙◌, ⊎_elim, ℕ, Bool, true, false, cond, List, [], ◌∷◌, ◌++◌, length, map, take, refl, sym, ap, subst, append_assoc, append-nil, true≢false}
use Rattle.std.proofs.lemmas.List.Elements.{All-take}
use Rattle.mt_base.specs.declared.command.Entry.{Entry}
use Rattle.mt_base.specs.Complete.{IsComplete}
use Rattle.mt_base.specs.Tables.{Setup}
use Rattle.mt_io.specs.Lines.{lines_of}
use Rattle.mt_lines.specs.Answering.{AnswersToLast}
use Rattle.mt_lines.specs.Given.{is_farewell}
use Rattle.mt_picture.specs.Story.{Story}
use Rattle.mt_standby.proofs.CaughtUp.{caught_up}
use Rattle.mt_standby.specs.Law.{HasCaughtUp}
use Rattle.mt_standby.specs.Standby.{standby_world}
use Rattle.mt_world.specs.World.{World, opening_world, setup_of}
use Rattle.mt_write.proofs.EntryLengths.{each_short}
use Rattle.mt_write.specs.declared.reply.Reply.{Reply}
use Rattle.mt_write.specs.Entry.{entry_text}
use Rattle.mt_write.specs.Reply.{reply_text}
use Rattle.mt_top.specs.declared.status.Status.TheVariants.{Done}
use Rattle.mt_top.specs.Following.{AreStoodBy, EndsCaughtUp, FollowsPrimary, IsNeverMemory, SetsUp, entry_line}
use Rattle.mt_top.specs.Lines.{ends_opening}
use Rattle.mt_top.specs.Run.{StandbyMeans}
use Rattle.mt_top.specs.Script.{IsReplied, NothingFollows}
use Rattle.mt_top.specs.Standby.{IsStoodBy, opened}
use Rattle.mt_top.proofs.EntriesFed.{AreFit, fed_all, read_lines, short_lines}
use Rattle.mt_top.proofs.NeverBye.{first_lines, no_farewell}
use Rattle.mt_top.proofs.NeverMemory.{HasOther, not_memory, others}
use Rattle.mt_top.proofs.OpeningPassed.{Opens, Stands, passed}
use Rattle.mt_top.proofs.Stood.{opened_begun, opened_history}

-- the setup stays that of the script
setup_still : (b : Bool) (m : World) → setup_of (cond b (standby_world (record { setup = setup_of m; history = m.history })) m) ≡ setup_of m
setup_still true m = refl
setup_still false m = refl

-- the lines that set a picture up, none answered by `memory`
record IsOpening (setup : Setup) (before : List (List ℕ)) (last : List ℕ) : Type 0 where
  middle : World
  begun : World
  reply : Reply
  bytes : List ℕ
  opens : Opens opening_world before bytes middle
  begins : HasOther IsReplied middle last reply begun
  has_begun : begun.begun ≡ true
  setup_is : setup_of begun ≡ setup

opening_of : (setup : Setup) (lines : List (List ℕ)) (up : SetsUp setup lines) → IsOpening setup up.begins.answers.lines up.begins.answers.line
opening_of setup lines up =
    let a = up.begins.answers in
    let all : IsNeverMemory (a.bytes ++ reply_text a.reply) = subst IsNeverMemory a.written_is up.never in
    let (opens, last) = others ends_opening IsReplied NothingFollows opening_world a.lines a.bytes (reply_text a.reply) a.replied.middle a.replied.replied all in
    record {
      middle = a.replied.middle;
      begun = up.begins.end;
      reply = a.reply;
      bytes = a.bytes;
      opens = opens;
      begins = (a.replied.last, not_memory a.reply [] (subst IsNeverMemory (sym (append-nil (reply_text a.reply))) last));
      has_begun = up.begins.begun;
      setup_is = sym (ap (λ (s : Story). s.setup) up.begins.picture_is);
    }

-- where no line of the bytes is `memory`, no reply of a standby is
stands_all : (lines : List (List ℕ)) (bytes : List ℕ) (end : World) → AreStoodBy lines bytes end → IsNeverMemory bytes → Stands opening_world lines bytes end
stands_all lines bytes end stood never =
    (others is_farewell IsStoodBy NothingFollows opening_world lines bytes [] end stood (subst IsNeverMemory (sym (append-nil bytes)) never)).0

module _ (primary : Story) (n : ℕ) where
  abbrev entries : List Entry
  entries = take n primary.history

  abbrev texts : List (List ℕ)
  texts = map entry_line entries

  -- the first entries are complete and short
  fit : (lines : List (List ℕ)) (written : List ℕ) → FollowsPrimary primary n lines written → AreFit entries
  fit lines written f = record {
    complete = All-take IsComplete n primary.history f.complete;
    short = All-take (λ e. length (entry_text e) ≤ 65536) n primary.history (each_short primary.setup primary.history f.complete f.replayable);
  }

  lines_of_run : (lines : List (List ℕ)) (written : List ℕ) (f : FollowsPrimary primary n lines written)
      → lines ≡ f.sets_up.begins.answers.lines ++ f.sets_up.begins.answers.line ∷ texts
  lines_of_run lines written f =
      let a = f.sets_up.begins.answers in
      f.lines_are ∙ ap (λ (ls : List (List ℕ)). ls ++ texts) f.sets_up.lines_are ∙ append_assoc a.lines (a.line ∷ []) texts

  pub run_caught_up : (lines : List (List ℕ)) (bytes : List ℕ) (end : World) → FollowsPrimary primary n lines bytes → AreStoodBy lines bytes end
      → HasCaughtUp primary.setup primary.history n end
  run_caught_up lines bytes end f stood =
      let a = f.sets_up.begins.answers in
      let o = opening_of primary.setup f.opening f.sets_up in
      let stands : Stands opening_world (a.lines ++ a.line ∷ texts) bytes end =
      subst (λ (ls : List (List ℕ)). Stands opening_world ls bytes end) (lines_of_run lines bytes f) (stands_all lines bytes end stood f.never) in
      let p = passed a.lines a.line texts opening_world o.middle o.begun end o.bytes bytes o.reply refl refl o.opens o.begins stands in
      let begun : (opened o.begun).begun ≡ true = opened_begun o.begun ∙ o.has_begun in
      caught_up primary.setup primary.history n (opened o.begun) texts p.rest end (record {
        begun = begun;
        setup_is = setup_still o.begun.begun o.begun ∙ o.setup_is;
        none = opened_history o.begun ∙ p.none;
        replayable = f.replayable;
        read = read_lines entries (fit lines bytes f);
        short = short_lines entries (fit lines bytes f);
        answered = fed_all entries (opened o.begun) p.rest end begun (fit lines bytes f) p.stands;
      })

  -- no line of such an input is answered with a farewell
  unended : (input left written : List ℕ) (end : World) → FollowsPrimary primary n (lines_of input) written
      → AnswersToLast reply_text is_farewell IsStoodBy NothingFollows opening_world input left written end → ⊥
  unended input left written end f last =
      let a = f.sets_up.begins.answers in
      let o = opening_of primary.setup f.opening f.sets_up in
      let (more, are) = first_lines input left (last.lines ++ last.line ∷ []) last.read in
      let lines_are : a.lines ++ a.line ∷ texts ≡ last.lines ++ last.line ∷ more =
      sym (lines_of_run (lines_of input) written f) ∙ are ∙ append_assoc last.lines (last.line ∷ []) more in
      let (stands, behind) = others is_farewell IsStoodBy NothingFollows opening_world last.lines last.bytes (reply_text last.reply) last.replied.middle
      last.replied.replied (subst IsNeverMemory last.written_is f.never) in
      let other = not_memory last.reply [] (subst IsNeverMemory (sym (append-nil (reply_text last.reply))) behind) in
      let none = no_farewell entries (fit (lines_of input) written f) a.line o.begun o.has_begun o.reply last.line more end last.reply a.lines last.lines
      opening_world o.middle last.replied.middle o.bytes last.bytes refl refl lines_are o.opens o.begins stands (last.replied.last, other) in
      true≢false (sym last.ends ∙ none)

  pub done_caught_up : (input left written : List ℕ) → FollowsPrimary primary n (lines_of input) written → StandbyMeans Done input left written
      → EndsCaughtUp primary n input left written
  done_caught_up input left written f means = ⊎_elim
      (λ (end, all, complete). record { end = end; answers = all; caught_up = run_caught_up (lines_of input) written end f all.replied })
      (λ (end, last, complete). absurd (unended input left written end f last))
      means
