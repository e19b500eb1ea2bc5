-- What is answered, as the reply of a standby's world.
use Rattle.std.proofs.Common.{◌≡◌, ◌≤◌, inl, inr, ⊎_elim, ℕ, false, List, length, nat_lt, Result, Ok, Err, refl, sym, ap, subst, arith}
use Rattle.std.specs.Prelude.{◌⊎◌, IfErr, IfOk, OnErr, OnOk}
use Rattle.std.proofs.lemmas.Bool.Decides.{nat_tests}
use Rattle.mt_base.specs.declared.command.Entered.{Entered}
use Rattle.mt_base.specs.declared.command.Entry.{Entry}
use Rattle.mt_base.specs.History.{IsReplayable}
use Rattle.mt_board.specs.declared.ask.Ask.{Ask}
use Rattle.mt_history.specs.declared.following.FollowNo.{FollowNo}
use Rattle.mt_history.specs.declared.following.FollowNo.TheVariants as follow
use Rattle.mt_history.specs.Followed.{HasFollowed, IsNotFollowed}
use Rattle.mt_picture.specs.Story.{Story}
use Rattle.mt_read.specs.declared.following.FeedLine.{FeedLine}
use Rattle.mt_read.specs.declared.following.FeedLine.TheVariants.{Followed, Asked}
use Rattle.mt_read.specs.declared.request.Request.TheVariants as requests
use Rattle.mt_read.specs.Following.{feed}
use Rattle.mt_write.specs.declared.reply.Reply.{Reply}
use Rattle.mt_write.specs.declared.reply.Reply.TheVariants as replies
use Rattle.mt_standby.specs.Private.Following.{follow_reply}
use Rattle.mt_standby.specs.Standby.{IsEntryAnswered, IsStandbyReplied, fed_line, standby_world}
use Rattle.mt_world.specs.World.{IsRefused, IsServed, World}

-- ---- entries

followed_told : (before after : Story) (e : Entry) (entered : Entered) → HasFollowed before e after entered
    → IsEntryAnswered (standby_world before) e (replies.Entered entered) (standby_world after)
followed_told before after e entered has = inr (inr (record {
  in_time = has.in_time;
  decided = has.decided;
  given = record { reply_is = ap replies.Entered has.answered; next_is = ap standby_world has.after_is };
}))

pub follow_told : (before after : Story) (e : Entry) (r : Result Entered FollowNo) → IfOk r (HasFollowed before e after) → IfErr r (IsNotFollowed before e)
    → OnErr r (after ≡ before) → IsEntryAnswered (standby_world before) e (follow_reply r) (standby_world after)
    ⊎ IsRefused (standby_world before) replies.Memory (follow_reply r) (standby_world after)
follow_told before after e (Ok entered) has why same = inl (followed_told before after e entered has)
follow_told before after e (Err (follow.Late version)) has why same =
    inl (inl (record { ahead = why.1; refused = record { reply_is = ap replies.Late why.0; same = ap standby_world same } }))
follow_told before after e (Err (follow.Illegal version refusal)) has why same = inl (inr (inl (record {
  in_time = why.1;
  refusal = refusal;
  decided = why.2;
  refused = record { reply_is = ap (λ (n : ℕ). replies.Illegal n refusal) why.0; same = ap standby_world same };
})))
follow_told before after e (Err follow.Memory) has why same = inr (record { reply_is = refl; same = ap standby_world same })

-- a history that can be replayed stays so
abbrev pub Replays : Story → Type 0
Replays story = IsReplayable story.setup story.history

pub still_replays : (r : Result Entered FollowNo) (before after : Story) → OnOk r (Replays before → Replays after) → OnErr r (after ≡ before) → Replays before
    → Replays after
still_replays (Ok entered) before after more same replays = more replays
still_replays (Err why) before after more same replays = subst Replays (sym same) replays

-- ---- lines

-- what a line that isn't too long asks for
asked_is : (line : List ℕ) (l : FeedLine) → length line ≤ 65536 → Ok l ≡ feed line → fed_line line ≡ Ok l
asked_is line l short is =
    let fits : nat_lt 65536 (length line) ≡ false = grind (arith, nat_tests) in
    rw (fits, ← is) refl

pub entry_replied : (w next : World) (line : List ℕ) (e : Entry) (reply : Reply) → length line ≤ 65536 → Ok (Followed e) ≡ feed line
    → IsEntryAnswered w e reply next ⊎ IsRefused w replies.Memory reply next → IsStandbyReplied w line reply next
entry_replied w next line e reply short is answered = ⊎_elim
    (λ followed. inl (rw (asked_is line (Followed e) short is) followed))
    (λ wants. inr (record { short = short; refused = wants }))
    answered

pub read_replied : (w next : World) (line : List ℕ) (ask : Ask) (reply : Reply) → length line ≤ 65536 → Ok (Asked ask) ≡ feed line
    → IsServed w 0 (requests.Ask ask) reply next ⊎ IsRefused w replies.Memory reply next → IsStandbyReplied w line reply next
read_replied w next line ask reply short is answered = ⊎_elim
    (λ served. inl (rw (asked_is line (Asked ask) short is) served))
    (λ wants. inr (record { short = short; refused = wants }))
    answered
