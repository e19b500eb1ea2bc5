-- A script: what each line is answered.
use Rattle.std.specs.Prelude.{◌≡◌, ◌≤◌, ℕ, ◌⊎◌, List, length, nat_lt, Result, Ok, Err, if◌then◌else◌}
use Rattle.mt_write.specs.declared.reply.Reply.{Reply}
use Rattle.mt_write.specs.declared.reply.Reply.TheVariants as replies
use Rattle.mt_read.specs.declared.request.Request.{Request}
use Rattle.mt_read.specs.declared.request.Sender.TheVariants.{Replay}
use Rattle.mt_read.specs.Line.{line as read_as}
use Rattle.mt_world.specs.World.{World, IsWorldLeft, IsRefused, IsServed}
use Rattle.mt_wire.specs.Refused.{or_reply}

-- what a line asks for, or its refusal
abbrev pub asked : World → List ℕ → Result (ℕ × Request) Reply
asked w line = if nat_lt 65536 (length line) then Err replies.Long else or_reply (read_as Replay w.rules line)

-- the reply to what a line asks, or its refusal
abbrev pub IsAnswered : World → Result (ℕ × Request) Reply → Reply → World → Type 0
IsAnswered w (Err refusal) reply next = IsRefused w refusal reply next
IsAnswered w (Ok asked) reply next = IsServed w asked.0 asked.1 reply next

-- what a line without memory leaves of the world. It is as it was, but for what settling had renewed.
abbrev pub IsLeftBy : World → Result (ℕ × Request) Reply → World → Type 0
IsLeftBy w (Ok asked) next = IsWorldLeft w asked.0 asked.1 next
IsLeftBy w (Err refusal) next = next ≡ w

-- `memory` may replace any reply but `long`. Then the line changed nothing, but that settling may have renewed some flights.
pub record WantsMemory (w : World) (line : List ℕ) (reply : Reply) (next : World) : Type 0 where
  pub short : length line ≤ 65536
  pub reply_is : reply ≡ replies.Memory
  pub left : IsLeftBy w (asked w line) next

-- the reply to a line of a script, and the world after
abbrev pub IsReplied : World → List ℕ → Reply → World → Type 0
IsReplied w line reply next = IsAnswered w (asked w line) reply next ⊎ WantsMemory w line reply next

-- nothing follows the reply to a line
abbrev pub NothingFollows : World → List ℕ → Reply → World → World → Type 0
NothingFollows w line reply answered next = next ≡ answered
