-- What a line of a session is answered, and the session after it.
use Rattle.std.specs.Prelude.{◌≡◌, ◌⊎◌, ◌≤◌, ℕ, Bool, true, false, List, [], ◌∷◌, length, codes, Option, Some, None, MatchBool, Result, Ok, Err}
use Rattle.mt_base.specs.Tally.{raised}
use Rattle.mt_base.specs.declared.clearance.Clearance.{Clearance}
use Rattle.mt_base.specs.declared.command.Command.{Command}
use Rattle.mt_base.specs.declared.command.Entered.{Entered}
use Rattle.mt_base.specs.declared.command.Refusal.{Refusal}
use Rattle.mt_base.specs.declared.command.Refusal.TheVariants.{NoProbe, NotFree}
use Rattle.mt_board.specs.declared.ask.Answer.{Answer}
use Rattle.mt_board.specs.declared.ask.Ask.{Ask}
use Rattle.mt_board.specs.declared.no.No.{No}
use Rattle.mt_board.specs.Asking.{IsRead}
use Rattle.mt_board.specs.Changing.{IsChanged}
use Rattle.mt_board.specs.Probing.{IsAdvised, IsNotAdvised, IsNotProbed, IsProbed, ToldProbe, acceptance}
use Rattle.mt_board.specs.BoardSeat.{BoardSeat, HasLooked, HasSeen}
use Rattle.mt_board.specs.Settling.{IsNotSettled, HasSettled}
use Rattle.mt_lines.specs.Told.{answer_reply, entered_reply, no_reply}
use Rattle.mt_board.specs.Book.{probe_at, with_all, with_probe}
use Rattle.mt_read.specs.declared.request.Request.{Request}
use Rattle.mt_read.specs.declared.request.Request.TheVariants as requests
use Rattle.mt_write.specs.declared.reply.AdviceItem.{AdviceItem}
use Rattle.mt_write.specs.declared.reply.DoneWord.TheVariants as done
use Rattle.mt_write.specs.declared.reply.Reply.{Reply}
use Rattle.mt_write.specs.declared.reply.Reply.TheVariants as replies
use Rattle.mt_session.specs.Session.{Session, asked_in_role, with_seat}

-- this is the reply, and this the session after
pub record IsReplyGiven (given : Reply) (after : Session) (reply : Reply) (next : Session) : Type 0 where
  pub reply_is : reply ≡ given
  pub next_is : next ≡ after

-- the reply to a read
pub record IsReadAnswered (s : Session) (ask : Ask) (reply : Reply) (next : Session) : Type 0 where
  pub result : Result Answer No
  pub seat : BoardSeat
  pub read : IsRead s.seat ask result seat
  pub given : IsReplyGiven (answer_reply result) (with_seat s seat) reply next

-- the reply to a command
pub record IsCommanded (s : Session) (command : Command) (reply : Reply) (next : Session) : Type 0 where
  pub result : Result Entered No
  pub seat : BoardSeat
  pub changed : IsChanged s.seat command result seat
  pub given : IsReplyGiven (entered_reply result) (with_seat s seat) reply next

-- `IsTrialInSession`, `IsTriedBy`: the reply to a probe, which is kept under the number that the reply names. Where it is refused, the book stays.
abbrev pub IsTrialInSession : Session → List ℕ → Clearance → Option ℕ → BoardSeat → Result ToldProbe No → Reply → Session → Type 0
IsTrialInSession s call clearance eff seat (Ok probe) reply next = IsProbed s.seat seat call clearance eff probe
    × IsReplyGiven (replies.Probe probe.hits probe.eff (raised s.book.count) probe.version)
    (record s { book = with_probe s.book probe; seat = seat }) reply next
IsTrialInSession s call clearance eff seat (Err denied) reply next = IsNotProbed s.seat seat call clearance eff denied
    × IsReplyGiven (no_reply denied) (with_seat s seat) reply next

pub record IsTriedBy (s : Session) (call : List ℕ) (clearance : Clearance) (eff : Option ℕ) (reply : Reply) (next : Session) : Type 0 where
  pub seat : BoardSeat
  pub result : Result ToldProbe No
  pub tried : IsTrialInSession s call clearance eff seat result reply next

-- probes' clearances with their numbers. They begin after so many.
abbrev pub probe_items_from : ℕ → List ToldProbe → List AdviceItem
probe_items_from count [] = []
probe_items_from count (p ∷ ps) = record { clearance = p.clearance; probe = raised count } ∷ probe_items_from (raised count) ps

-- the reply with advice, its probes kept under their numbers
pub record IsAdvisedTo (s : Session) (call : List ℕ) (reply : Reply) (next : Session) : Type 0 where
  pub seat : BoardSeat
  pub eff : ℕ
  pub version : ℕ
  pub probes : List ToldProbe
  pub advised : IsAdvised s.seat seat call eff version probes
  pub given : IsReplyGiven (replies.Advice (probe_items_from s.book.count probes) call eff version)
      (record s { book = with_all s.book probes; seat = seat }) reply next

-- the refusal of advice
pub record IsAdviceDenied (s : Session) (call : List ℕ) (reply : Reply) (next : Session) : Type 0 where
  pub seat : BoardSeat
  pub denied : No
  pub not_advised : IsNotAdvised s.seat seat call denied
  pub given : IsReplyGiven (no_reply denied) (with_seat s seat) reply next

-- a probe's number is refused, at a version then seen
pub record IsNumberRefused (s : Session) (refusal : Refusal) (reply : Reply) (next : Session) : Type 0 where
  pub seat : BoardSeat
  pub version : ℕ
  pub seen : HasSeen s.seat seat version
  pub given : IsReplyGiven (replies.Refused refusal version) (with_seat s seat) reply next

-- a list is empty
abbrev pub is_none_listed : {A : Type 0} → List A → Bool
is_none_listed [] = true
is_none_listed (x ∷ xs) = false

-- the reply to an acceptance: unknown, not free, or decided. The book has no probe of that number; the probe had hits; or what came of it now.
abbrev pub IsAcceptanceAnswered : Session → Option ToldProbe → Reply → Session → Type 0
IsAcceptanceAnswered s None reply next = IsNumberRefused s NoProbe reply next
IsAcceptanceAnswered s (Some probe) reply next = MatchBool (is_none_listed probe.hits)
    (IsCommanded s (acceptance probe) reply next) (IsNumberRefused s NotFree reply next)

-- the reply to a settling, with the flights still due
pub record IsSettledBy (s : Session) (reply : Reply) (next : Session) : Type 0 where
  pub seat : BoardSeat
  pub left : List (List ℕ)
  pub version : ℕ
  pub settled : HasSettled s.seat seat left version
  pub given : IsReplyGiven (replies.Settled left version) (with_seat s seat) reply next

-- a command that no session has
abbrev pub IsNotOfSessions : Session → Reply → Session → Type 0
IsNotOfSessions s reply next = IsReplyGiven (replies.Form (codes "do")) s reply next

-- the reply to a request, and the session after. `hello` takes a role; the other requests leave it, and only probes and advice change the book.
abbrev pub IsServedInSession : Session → Request → Reply → Session → Type 0
IsServedInSession s (requests.Hello role) reply next = IsReplyGiven (replies.Hello role) (record s { role = Some role }) reply next
IsServedInSession s requests.Bye reply next = IsReplyGiven (replies.Done done.Bye) s reply next
IsServedInSession s (requests.Ask ask) reply next = IsReadAnswered s ask reply next
IsServedInSession s (requests.Change command) reply next = IsCommanded s command reply next
IsServedInSession s (requests.Probe call clearance eff) reply next = IsTriedBy s call clearance eff reply next
IsServedInSession s (requests.Accept number) reply next = IsAcceptanceAnswered s (probe_at s.book number) reply next
IsServedInSession s (requests.Advise call) reply next = IsAdvisedTo s call reply next ⊎ IsAdviceDenied s call reply next
IsServedInSession s requests.Settle reply next = IsSettledBy s reply next
IsServedInSession s (requests.Fix name x y) reply next = IsNotOfSessions s reply next
IsServedInSession s (requests.TypeLine name bands) reply next = IsNotOfSessions s reply next
IsServedInSession s (requests.Rule set) reply next = IsNotOfSessions s reply next
IsServedInSession s requests.Begin reply next = IsNotOfSessions s reply next
IsServedInSession s requests.Take reply next = IsNotOfSessions s reply next
IsServedInSession s (requests.Area area) reply next = IsNotOfSessions s reply next
IsServedInSession s requests.Areas reply next = IsNotOfSessions s reply next

-- the reply to a line by what it asks, or its refusal
abbrev pub IsAskAnswered : Session → Result (ℕ × Request) Reply → Reply → Session → Type 0
IsAskAnswered s (Err refusal) reply next = IsReplyGiven refusal s reply next
IsAskAnswered s (Ok asked_in_role) reply next = IsServedInSession s asked_in_role.1 reply next

-- what a request without memory leaves of a seat. More may have been seen, and settling may have renewed some flights.
abbrev pub IsSessionLeft : Request → BoardSeat → BoardSeat → Type 0
IsSessionLeft requests.Settle = IsNotSettled
IsSessionLeft request = HasLooked

-- `IsStarvedBy`, `IsLooked`, `IsStarvedInSession`, `IsStarvedOf`: `memory` is the reply, and only the seat may have changed
pub record IsStarvedBy (Left : BoardSeat → BoardSeat → Type 0) (s : Session) (reply : Reply) (next : Session) : Type 0 where
  pub seat : BoardSeat
  pub left : Left s.seat seat
  pub given : IsReplyGiven replies.Memory (with_seat s seat) reply next

abbrev pub IsLooked : Session → Reply → Session → Type 0
IsLooked s reply next = IsStarvedBy HasLooked s reply next

abbrev pub IsStarvedInSession : Session → Request → Reply → Session → Type 0
IsStarvedInSession s request reply next = IsStarvedBy (IsSessionLeft request) s reply next

abbrev pub IsStarvedOf : Session → Result (ℕ × Request) Reply → Reply → Session → Type 0
IsStarvedOf s (Err refusal) reply next = IsLooked s reply next
IsStarvedOf s (Ok asked_in_role) reply next = IsStarvedInSession s asked_in_role.1 reply next

-- `memory` may replace any reply but `long`
abbrev pub SessionWantsMemory : Session → List ℕ → Reply → Session → Type 0
SessionWantsMemory s line reply next = (length line ≤ 65536) × IsStarvedOf s (asked_in_role s.role line) reply next

-- the reply to a line, and the session after
abbrev pub IsRepliedTo : Session → List ℕ → Reply → Session → Type 0
IsRepliedTo s line reply next = IsAskAnswered s (asked_in_role s.role line) reply next ⊎ SessionWantsMemory s line reply next
