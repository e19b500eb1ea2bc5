-- The world of a standby once its picture has begun: what each line is answered, and the world after it. It is the world of a script, of whose
-- actors and areas a standby uses none.
use Rattle.std.specs.Prelude.{◌⊎◌, ◌≤◌, ℕ, List, [], ◌∷◌, ◌++◌, length, nat_lt, replicate, Result, Ok, Err, if◌then◌else◌}
use Rattle.mt_base.specs.declared.command.Entry.{Entry}
use Rattle.mt_base.specs.declared.command.Refusal.{Refusal}
use Rattle.mt_base.specs.Decision.{IsDecided}
use Rattle.mt_base.specs.Effect.{entered_by}
use Rattle.mt_base.specs.History.{IsInTime}
use Rattle.mt_picture.specs.Story.{Story}
use Rattle.mt_read.specs.declared.following.FeedLine.{FeedLine}
use Rattle.mt_read.specs.declared.following.FeedLine.TheVariants.{Followed, Asked, Ended}
use Rattle.mt_read.specs.declared.request.Request.TheVariants as requests
use Rattle.mt_read.specs.Following.{feed}
use Rattle.mt_write.specs.declared.reply.Reply.{Reply}
use Rattle.mt_write.specs.declared.reply.Reply.TheVariants as replies
use Rattle.mt_world.specs.World.{IsGiven, IsRefused, IsServed, World, new_actor, picture_of, setup_of, world_of}
use Rattle.mt_wire.specs.Refused.{or_reply}

-- a picture as a standby's world, with no area, and with actors that have done nothing
abbrev pub standby_world : Story → World
standby_world story = world_of story [] (replicate 16 new_actor)

-- an acceptance of a future version is late. It changes nothing.
pub record IsLate (w : World) (e : Entry) (reply : Reply) (next : World) : Type 0 where
  pub ahead : ¬ IsInTime (length w.history) e.command
  pub refused : IsRefused w (replies.Late (length w.history)) reply next

-- an entry that is not what is decided is illegal. Its command, asked for by who made it, is refused on the state of the history; it changes nothing.
pub record IsIllegal (w : World) (e : Entry) (reply : Reply) (next : World) : Type 0 where
  pub in_time : IsInTime (length w.history) e.command
  pub refusal : Refusal
  pub decided : IsDecided (setup_of w) (picture_of w) e.who e.command (Err refusal)
  pub refused : IsRefused w (replies.Illegal (length w.history) refusal) reply next

-- an entry that is what is decided is entered
pub record IsPut (w : World) (e : Entry) (reply : Reply) (next : World) : Type 0 where
  pub in_time : IsInTime (length w.history) e.command
  pub decided : IsDecided (setup_of w) (picture_of w) e.who e.command (Ok e)
  pub given : IsGiven (replies.Entered (entered_by (setup_of w) (picture_of w) e)) (record w { history = w.history ++ e ∷ [] }) reply next

-- the reply to an entry: late, illegal, or entered
abbrev pub IsEntryAnswered : World → Entry → Reply → World → Type 0
IsEntryAnswered w e reply next = IsLate w e reply next ⊎ (IsIllegal w e reply next ⊎ IsPut w e reply next)

-- what a line asks for, or its refusal
abbrev pub fed_line : List ℕ → Result FeedLine Reply
fed_line line = if nat_lt 65536 (length line) then Err replies.Long else or_reply (feed line)

-- the reply to what a standby's line asks, and the world after. Reads and the end are answered as in a script, where it doesn't matter who asks.
abbrev pub IsFeedAnswered : World → Result FeedLine Reply → Reply → World → Type 0
IsFeedAnswered w (Err refusal) reply next = IsRefused w refusal reply next
IsFeedAnswered w (Ok (Followed e)) reply next = IsEntryAnswered w e reply next
IsFeedAnswered w (Ok (Asked ask)) reply next = IsServed w 0 (requests.Ask ask) reply next
IsFeedAnswered w (Ok Ended) reply next = IsServed w 0 requests.Bye reply next

-- `memory` may replace any reply but `long`. Then the line changed nothing.
pub record StandbyWantsMemory (w : World) (line : List ℕ) (reply : Reply) (next : World) : Type 0 where
  pub short : length line ≤ 65536
  pub refused : IsRefused w replies.Memory reply next

-- the reply to a line of a standby, and the world after
abbrev pub IsStandbyReplied : World → List ℕ → Reply → World → Type 0
IsStandbyReplied w line reply next = IsFeedAnswered w (fed_line line) reply next ⊎ StandbyWantsMemory w line reply next
