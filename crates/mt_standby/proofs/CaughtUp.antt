-- A standby that follows the beginning of a history has it.
use Rattle.std.proofs.Common.{◌≡◌, ◌≤◌, ◌∙◌, ⊎_elim, ℕ, false, List, [], ◌∷◌, ◌++◌, length, map, take, drop, nat_lt, Result, Ok, Err, refl, sym, ap, subst, append_assoc, append-nil, arith}
use Rattle.std.specs.Prelude.{All}
use Rattle.std.proofs.Math.Seq.{take-append_seam}
use Rattle.std.proofs.lemmas.Bool.Decides.{nat_tests}
use Rattle.std.proofs.lemmas.List.{take-append-drop}
use Rattle.std.proofs.lemmas.List.Elements.{All-head, All-tail}
use Rattle.mt_base.specs.declared.command.Entry.{Entry}
use Rattle.mt_base.specs.declared.command.Refusal.{Refusal}
use Rattle.mt_base.specs.Decision.{IsDecided}
use Rattle.mt_base.specs.Effect.{state_of}
use Rattle.mt_base.specs.History.{IsInTime, IsReplayable}
use Rattle.mt_base.specs.Picture.{IsPublished}
use Rattle.mt_base.specs.Tables.{Setup}
use Rattle.mt_history.proofs.LinesRead.{slice_get_at}
use Rattle.mt_history.specs.Printed.{AreReadAsEntries}
use Rattle.mt_read.specs.declared.following.FeedLine.{FeedLine}
use Rattle.mt_read.specs.declared.following.FeedLine.TheVariants.{Followed}
use Rattle.mt_read.specs.declared.request.LineNo.{LineNo}
use Rattle.mt_read.specs.Entry.{entry}
use Rattle.mt_write.specs.declared.reply.Reply.{Reply}
use Rattle.mt_standby.specs.Law.{AreAnswered, FollowFirst, HasCaughtUp}
use Rattle.mt_standby.specs.Standby.{IsFeedAnswered, IsEntryAnswered, fed_line}
use Rattle.mt_read.proofs.FeedEntries.{entry_followed}
use Rattle.mt_world.specs.World.{World, picture_of, setup_of}
use Rattle.mt_base.proofs.OneSolution.{one_decision}

abbrev read_as : Entry → Result Entry LineNo
read_as e = Ok e

-- what the line of an entry asks for
asked_for : (line : List ℕ) (e : Entry) → entry line ≡ Ok e → length line ≤ 65536 → fed_line line ≡ Ok (Followed e)
asked_for line e is short =
    let fits : nat_lt 65536 (length line) ≡ false = grind (arith, nat_tests) in
    rw (fits, entry_followed line e is) refl

-- an entry that is decided so, and comes in time, is put after the history
put_behind : (w : World) (e : Entry) (reply : Reply) (next : World) → IsInTime (length w.history) e.command
    → IsDecided (setup_of w) (picture_of w) e.who e.command (Ok e) → IsEntryAnswered w e reply next → next ≡ record w { history = w.history ++ e ∷ [] }
put_behind w e reply next in_time decided followed = ⊎_elim
    (λ late. absurd (late.ahead in_time))
    (λ rest. ⊎_elim
    (λ illegal. absurd (one_refusal illegal.refusal illegal.decided))
    (λ put. put.given.next_is)
    rest)
    followed where
      one_refusal : (refusal : Refusal) → IsDecided (setup_of w) (picture_of w) e.who e.command (Err refusal) → ⊥
      one_refusal refusal refused =
          let same : Ok e ≡ Err refusal = one_decision (setup_of w) (picture_of w) e.who e.command (Ok e) (Err refusal) decided refused in
          cc

-- the next entry of a history that can be replayed
stepped : (setup : Setup) (before later : List Entry) (e : Entry) (w : World) (line : List ℕ) (reply : Reply) (next : World) → setup_of w ≡ setup
    → w.history ≡ before → IsReplayable setup (before ++ e ∷ later) → entry line ≡ Ok e → length line ≤ 65536 → IsFeedAnswered w (fed_line line) reply next
    → next ≡ record w { history = before ++ e ∷ [] }
stepped setup before later e w line reply next same history replayable is short answered =
    let place = replayable (length before) e (slice_get_at before e later (length before) refl) in
    let front : take (length before) (before ++ e ∷ later) ≡ w.history = take-append_seam before (e ∷ later) ∙ sym history in
    let decided : IsDecided (setup_of w) (picture_of w) e.who e.command (Ok e) =
    subst (λ (s : Setup). IsDecided s (state_of s w.history) e.who e.command (Ok e)) (sym same)
    (subst (λ (h : List Entry). IsDecided setup (state_of setup h) e.who e.command (Ok e)) front place.0) in
    let in_time : IsInTime (length w.history) e.command = subst (λ (h : List Entry). IsInTime (length h) e.command) (sym history) place.1 in
    let followed : IsEntryAnswered w e reply next = subst (λ (a : Result FeedLine Reply). IsFeedAnswered w a reply next) (asked_for line e is short) answered in
    put_behind w e reply next in_time decided followed ∙ ap (λ (h : List Entry). record w { history = h ++ e ∷ [] }) history

-- a standby that has some entries, and follows some more
record HasThem (setup : Setup) (entries : List Entry) (end : World) : Type 0 where
  setup_is : setup_of end ≡ setup
  history : end.history ≡ entries

follow_on : (setup : Setup) (before es later : List Entry) (w : World) (lines : List (List ℕ)) (bytes : List ℕ) (end : World) → setup_of w ≡ setup
    → w.history ≡ before → IsReplayable setup (before ++ (es ++ later)) → map entry lines ≡ map read_as es → All (λ line. length line ≤ 65536) lines
    → AreAnswered w lines bytes end → HasThem setup (before ++ es) end
follow_on setup before [] later w [] bytes end same history replayable read short (none, ended) =
    record { setup_is = rw ended same; history = rw ended (history ∙ sym (append-nil before)) }
follow_on setup before [] later w (line ∷ lines) bytes end same history replayable read short answered = cc
follow_on setup before (e ∷ es) later w [] bytes end same history replayable read short answered = cc
follow_on setup before (e ∷ es) later w (line ∷ lines) bytes end same history replayable read short (reply, more, middle, next, answered, goes, after, bytes_are, others) =
    let first : entry line ≡ read_as e = cc in
    let rest : map entry lines ≡ map read_as es = cc in
    let is : next ≡ record w { history = before ++ e ∷ [] } =
    after ∙ stepped setup before (es ++ later) e w line reply middle same history replayable first
    (All-head (λ line. length line ≤ 65536) line lines short) answered in
    let has = follow_on setup (before ++ e ∷ []) es later next lines more end (ap setup_of is ∙ same) (ap (λ (v : World). v.history) is)
    (subst (λ (h : List Entry). IsReplayable setup h) (sym (append_assoc before (e ∷ []) (es ++ later))) replayable) rest
    (All-tail (λ line. length line ≤ 65536) line lines short) others in
    record { setup_is = has.setup_is; history = has.history ∙ append_assoc before (e ∷ []) es }

of_read : (setup : Setup) (primary : List Entry) (n : ℕ) (w : World) (lines : List (List ℕ)) (bytes : List ℕ) (end : World)
    → FollowFirst setup primary n w lines bytes end → map entry lines ≡ map read_as (take n primary) → HasThem setup (take n primary) end
of_read setup primary n w lines bytes end f read =
    follow_on setup [] (take n primary) (drop n primary) w lines bytes end f.setup_is f.none
    (subst (λ (h : List Entry). IsReplayable setup h) (sym (take-append-drop n primary)) f.replayable) read f.short f.answered

them : (setup : Setup) (primary : List Entry) (n : ℕ) (w : World) (lines : List (List ℕ)) (bytes : List ℕ) (end : World)
    → FollowFirst setup primary n w lines bytes end → HasThem setup (take n primary) end
unfolding AreReadAsEntries
them setup primary n w lines bytes end f = of_read setup primary n w lines bytes end f f.read

pub caught_up : (setup : Setup) (primary : List Entry) (n : ℕ) (w : World) (lines : List (List ℕ)) (bytes : List ℕ) (end : World)
    → FollowFirst setup primary n w lines bytes end → HasCaughtUp setup primary n end
caught_up setup primary n w lines bytes end f =
    let has = them setup primary n w lines bytes end f in
    record {
      setup_is = has.setup_is;
      history = has.history;
      published = λ conflicts published. subst (λ (s : Setup). IsPublished s (state_of s end.history) conflicts) (sym has.setup_is)
          (subst (λ (h : List Entry). IsPublished setup (state_of setup h) conflicts) (sym has.history) published);
    }
