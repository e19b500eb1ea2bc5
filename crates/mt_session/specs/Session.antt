-- A session, and what its lines ask for.
use Rattle.std.specs.Prelude.{ℕ, List, length, nat_lt, Option, Some, None, Result, Err, if◌then◌else◌}
use Rattle.mt_base.specs.Rules.{usual_rules}
use Rattle.mt_base.specs.declared.role.Role.{Role}
use Rattle.mt_base.specs.declared.role.Role.TheVariants.{Feed, Position}
use Rattle.mt_board.specs.Probing.{ToldProbe}
use Rattle.mt_board.specs.BoardSeat.{BoardSeat}
use Rattle.mt_board.specs.Book.{Book, empty_book}
use Rattle.mt_read.specs.Line.{line as read_as}
use Rattle.mt_read.specs.declared.request.Sender.{Sender}
use Rattle.mt_read.specs.declared.request.Sender.TheVariants as senders
use Rattle.mt_read.specs.declared.request.Request.{Request}
use Rattle.mt_write.specs.declared.reply.Reply.{Reply}
use Rattle.mt_write.specs.declared.reply.Reply.TheVariants as replies
use Rattle.mt_wire.specs.Refused.{or_reply}

-- a session's role, book of probes and seat
pub record Session : Type 0 where
  pub role : Option Role
  pub book : Book ToldProbe
  pub seat : BoardSeat

-- a session as it begins
abbrev pub new_session : BoardSeat → Session
new_session seat = record { role = None; book = empty_book; seat = seat }

-- a session with another seat
abbrev pub with_seat : Session → BoardSeat → Session
with_seat s seat = record s { seat = seat }

-- the sender that a role stands for
abbrev pub role_sender : Option Role → Sender
role_sender None = senders.Plain
role_sender (Some Feed) = senders.Feed
role_sender (Some Position) = senders.Position

-- what a line asks in a role, or its refusal. No line of a session sets rules, so none is read by the rules that stand.
abbrev pub asked_in_role : Option Role → List ℕ → Result (ℕ × Request) Reply
asked_in_role role line = if nat_lt 65536 (length line) then Err replies.Long else or_reply (read_as (role_sender role) usual_rules line)
