-- Replies to the lines of a standby.
use Rattle.std.proofs.Common.{◌≡◌, ◌<◌, ◌≤◌, inl, inr, ⊎_elim, ℕ, Bool, true, false, cond, List, length, Option, Some, None, Result, Ok, Err, refl, true≢false}
use Rattle.std.proofs.lemmas.Bool.{lt-ltb}
use Rattle.std.specs.Prelude.{MatchBool}
use Rattle.mt_base.specs.declared.command.Entry.{Entry}
use Rattle.mt_lines.specs.Given.{IsGivenFor, is_brief}
use Rattle.mt_lines.proofs.Brief.{not_given}
use Rattle.mt_read.specs.declared.following.FeedLine.{FeedLine}
use Rattle.mt_read.specs.declared.following.FeedLine.TheVariants.{Followed, Asked, Ended}
use Rattle.mt_read.specs.declared.request.Request.TheVariants as requests
use Rattle.mt_picture.specs.Story.{Story}
use Rattle.mt_standby.specs.Standby.{IsFeedAnswered, IsEntryAnswered, fed_line, standby_world}
use Rattle.mt_standby.specs.Standby as standby
use Rattle.mt_write.specs.declared.reply.Reply.{Reply}
use Rattle.mt_write.specs.declared.reply.Reply.TheVariants as replies
use Rattle.mt_top.specs.Script.{IsReplied}
use Rattle.mt_top.specs.Standby.{IsStoodBy, opened}
use Rattle.mt_top.specs.Private.Standby.{IsOneOf, world_shown}
use Rattle.mt_top.proofs.Replying.{given_replied, long_replied, unchanged_by}
use Rattle.mt_world.specs.World.{World, setup_of}

-- a reply that is not brief follows no change
followed_same : (w next : World) (e : Entry) (reply : Reply) → is_brief reply ≡ false → IsEntryAnswered w e reply next → next ≡ w
followed_same w next e reply b followed = ⊎_elim
    (λ late. late.refused.same)
    (λ rest. ⊎_elim (λ illegal. illegal.refused.same) (λ put. not_given _ reply _ put.given.reply_is refl b) rest)
    followed

answered_same : (w next : World) (line : Result FeedLine Reply) (reply : Reply) → is_brief reply ≡ false → IsFeedAnswered w line reply next → next ≡ w
answered_same w next (Err refusal) reply b refused = refused.same
answered_same w next (Ok (Followed e)) reply b followed = followed_same w next e reply b followed
answered_same w next (Ok (Asked ask)) reply b served = unchanged_by w next 0 (requests.Ask ask) reply served b
answered_same w next (Ok Ended) reply b served = unchanged_by w next 0 requests.Bye reply served b

-- what is given in place of a reply is a reply
given_followed : (w next : World) (line : List ℕ) (reply given : Reply) → standby.IsStandbyReplied w line reply next → IsGivenFor reply given
    → (is_brief reply ≡ false → length line ≤ 65536) → standby.IsStandbyReplied w line given next
given_followed w next line reply given replied for short = ⊎_elim
    (λ same. rw same replied)
    (λ (memory, not_brief). ⊎_elim
    (λ answered. inr (record { short = short not_brief; refused = record { reply_is = memory; same = answered_same w next (fed_line line) reply not_brief answered } }))
    (λ wants. not_given _ reply _ wants.refused.reply_is refl not_brief)
    replied)
    for

-- this reply is given to a line of a standby's world, where it is known whether the picture has begun
abbrev StoodWhere : Bool → World → List ℕ → Reply → World → Type 0
StoodWhere begun w line reply next = MatchBool begun
    (standby.IsStandbyReplied w line reply next)
    ((answered : World) × IsReplied w line reply answered × (next ≡ opened answered))

pub given_stood : (w next : World) (line : List ℕ) (reply given : Reply) → IsStoodBy w line reply next → IsGivenFor reply given
    → (is_brief reply ≡ false → length line ≤ 65536) → IsStoodBy w line given next
given_stood w next line reply given replied for short = by_begun w.begun replied where
  by_begun : (begun : Bool) → StoodWhere begun w line reply next → StoodWhere begun w line given next
  by_begun true followed = given_followed w next line reply given followed for short
  by_begun false (answered, is, next_is) = (answered, given_replied w answered line reply given is for short, next_is)

-- ---- what a line leaves of a script

-- that, where it is known whether the picture has begun
abbrev opened_where : Bool → World → World
opened_where b m = cond b (standby_world (record { setup = setup_of m; history = m.history })) m

opened_as : (b : Bool) (m : World) → m.begun ≡ b → (opened_where b m).begun ≡ b
opened_as true m is = refl
opened_as false m is = is

pub opened_begun : (m : World) → (opened m).begun ≡ m.begun
opened_begun m = opened_as m.begun m refl

opened_with : (b : Bool) (m : World) → (opened_where b m).history ≡ m.history
opened_with true m = refl
opened_with false m = refl

pub opened_history : (m : World) → (opened m).history ≡ m.history
opened_history m = opened_with m.begun m

pub opened_still : (m : World) → m.begun ≡ false → m ≡ opened m
opened_still m is = by_begun m.begun is where
  by_begun : (b : Bool) → b ≡ false → m ≡ opened_where b m
  by_begun false is = refl
  by_begun true is = cc

pub opened_is : (m : World) (p : Story) → m.begun ≡ true → p.setup ≡ setup_of m → p.history ≡ m.history → standby_world p ≡ opened m
opened_is m p is setup history = by_begun m.begun is where
  by_begun : (b : Bool) → b ≡ true → standby_world p ≡ opened_where b m
  by_begun true is = λ i. standby_world (record { setup = setup i; history = history i })
  by_begun false is = cc

-- the script answers as long as the picture hasn't begun
pub is_script : (script : Option World) (standby : Option Story) (s : World) → script ≡ Some s → (world_shown script standby).begun ≡ false → world_shown script standby ≡ s
is_script script None s is before = rw is refl
is_script script (Some story) s is before = absurd (true≢false before)

pub is_some : (script : Option World) (standby : Option Story) (P : Type 0) → script ≡ None → IsOneOf script standby → (world_shown script standby).begun ≡ false → P
is_some None None P none one before = absurd one
is_some None (Some story) P none one before = absurd (true≢false before)
is_some (Some s) standby P none one before = cc

pub set_up : (w s m next : World) (line : List ℕ) (reply : Reply) → w ≡ s → w.begun ≡ false → IsReplied s line reply m → next ≡ opened m → IsStoodBy w line reply next
set_up w s m next line reply same before replied is = by_begun w.begun before where
  by_begun : (b : Bool) → b ≡ false → StoodWhere b w line reply next
  by_begun false e = (m, rw same replied, is)
  by_begun true e = cc

-- the reply to a line that is too long
pub long_stood : (w : World) (line : List ℕ) → 65536 < length line → IsStoodBy w line replies.Long w
long_stood w line long = by_begun w.begun refl where
  by_begun : (begun : Bool) → w.begun ≡ begun → StoodWhere begun w line replies.Long w
  by_begun true is = inl (rw (lt-ltb 65536 (length line) long) (record { reply_is = refl; same = refl }))
  by_begun false is = (w, long_replied w line long, opened_still w is)
