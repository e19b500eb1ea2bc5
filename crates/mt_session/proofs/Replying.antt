-- What is given in place of a reply is a reply.
use Rattle.std.proofs.Common.{◌≡◌, ◌<◌, ◌≤◌, inl, inr, ⊎_elim, ℕ, false, List, length, Option, Some, None, Result, Ok, Err, refl, sym, ◌∙◌, ap, true≢false, arith}
use Rattle.std.proofs.lemmas.Bool.{lt-ltb}
use Rattle.std.proofs.lemmas.Bool.Decides.{nat_tests}
use Rattle.std.specs.Prelude.{nat_lt}
use Rattle.mt_base.specs.declared.clearance.Clearance.{Clearance}
use Rattle.mt_base.specs.declared.command.Command.{Command}
use Rattle.mt_base.specs.declared.command.Entered.{Entered}
use Rattle.mt_base.specs.declared.command.Refusal.{Refusal}
use Rattle.mt_board.specs.declared.ask.Answer.{Answer}
use Rattle.mt_board.specs.declared.ask.Ask.{Ask}
use Rattle.mt_board.specs.declared.no.No.{No}
use Rattle.mt_board.specs.declared.no.No.TheVariants as no
use Rattle.mt_board.specs.Asking.{IsRead}
use Rattle.mt_board.specs.Changing.{IsChanged, IsDenied}
use Rattle.mt_board.specs.Probing.{ToldProbe}
use Rattle.mt_board.specs.BoardSeat.{BoardSeat, HasLooked}
use Rattle.mt_board.proofs.SeatLemmas.{looked_itself}
use Rattle.mt_lines.specs.Given.{IsGivenFor, is_brief}
use Rattle.mt_lines.proofs.Brief.{not_given}
use Rattle.mt_base.specs.Rules.{usual_rules}
use Rattle.mt_board.specs.Book.{probe_at}
use Rattle.mt_read.specs.Line.{GivesReading, line as read_as}
use Rattle.mt_read.specs.declared.request.LineNo.{LineNo}
use Rattle.mt_read.specs.declared.request.LineNo.TheVariants as nos
use Rattle.mt_read.specs.declared.request.Request.{Request}
use Rattle.mt_read.specs.declared.request.Request.TheVariants as requests
use Rattle.mt_write.specs.declared.reply.Reply.{Reply}
use Rattle.mt_write.specs.declared.reply.Reply.TheVariants as replies
use Rattle.mt_base.proofs.Cases.{on_either}
use Rattle.mt_session.specs.Following.{job_if, job_of}
use Rattle.mt_lines.specs.Told.{entered_reply}
use Rattle.mt_session.specs.Served.{IsAcceptanceAnswered, IsAskAnswered, IsCommanded, IsReplyGiven, IsSessionLeft, IsRepliedTo, IsServedInSession, IsStarvedOf, IsReadAnswered, IsTrialInSession, is_none_listed}
use Rattle.mt_wire.specs.Refused.{or_reply}
use Rattle.mt_session.specs.Session.{Session, asked_in_role, role_sender, with_seat}

-- nothing but what was seen has changed
abbrev pub IsIdle : Session → Session → Type 0
IsIdle s next = (seat : BoardSeat) × HasLooked s.seat seat × (next ≡ with_seat s seat)

given_idle : (s : Session) (given reply : Reply) (next : Session) → IsReplyGiven given s reply next → IsIdle s next
given_idle s given reply next g = (s.seat, looked_itself s.seat, g.next_is)

denied_looked : (s t : BoardSeat) (why : Refusal → Type 0) (denied : No) → IsDenied s why denied t → HasLooked s t
denied_looked s t why (no.Refused refusal version) d = d.0.looked
denied_looked s t why no.Memory d = d

read_looked : (s t : BoardSeat) (ask : Ask) (result : Result Answer No) → IsRead s ask result t → HasLooked s t
read_looked s t ask (Ok answer) r = r.0.looked
read_looked s t ask (Err denied) d = denied_looked s t _ denied d

told_idle : (s : Session) (ask : Ask) (reply : Reply) (next : Session) → IsReadAnswered s ask reply next → IsIdle s next
told_idle s ask reply next t = (t.seat, read_looked s.seat t.seat ask t.result t.read, t.given.next_is)

changed_looked : (s t : BoardSeat) (command : Command) (result : Result Entered No) (reply : Reply) → is_brief reply ≡ false → reply ≡ entered_reply result
    → IsChanged s command result t → HasLooked s t
changed_looked s t command (Ok entered) reply b is changed = not_given _ reply _ is refl b
changed_looked s t command (Err denied) reply b is changed = denied_looked s t _ denied changed

command_idle : (s : Session) (command : Command) (reply : Reply) (next : Session) → is_brief reply ≡ false → IsCommanded s command reply next → IsIdle s next
command_idle s command reply next b c = (c.seat, changed_looked s.seat c.seat command c.result reply b c.given.reply_is c.changed, c.given.next_is)

tried_idle : (s : Session) (call : List ℕ) (clearance : Clearance) (eff : Option ℕ) (seat : BoardSeat) (result : Result ToldProbe No) (reply : Reply) (next : Session)
    → is_brief reply ≡ false → IsTrialInSession s call clearance eff seat result reply next → IsIdle s next
tried_idle s call clearance eff seat (Ok probe) reply next b tried = not_given _ reply _ tried.1.reply_is refl b
tried_idle s call clearance eff seat (Err denied) reply next b tried = (seat, denied_looked s.seat seat _ denied tried.0, tried.1.next_is)

accepted_idle : (s : Session) (found : Option ToldProbe) (reply : Reply) (next : Session) → is_brief reply ≡ false → IsAcceptanceAnswered s found reply next → IsIdle s next
accepted_idle s None reply next b r = (r.seat, r.seen.looked, r.given.next_is)
accepted_idle s (Some probe) reply next b a =
    on_either (is_none_listed probe.hits) _ _ _ (command_idle s _ reply next b) (λ r. (r.seat, r.seen.looked, r.given.next_is)) a

served_idle : (s : Session) (request : Request) (reply : Reply) (next : Session) → is_brief reply ≡ false → IsServedInSession s request reply next → IsIdle s next
served_idle s (requests.Hello role) reply next b g = not_given _ reply _ g.reply_is refl b
served_idle s requests.Bye reply next b g = not_given _ reply _ g.reply_is refl b
served_idle s (requests.Ask ask) reply next b told = told_idle s ask reply next told
served_idle s (requests.Change command) reply next b commanded = command_idle s command reply next b commanded
served_idle s (requests.Probe call clearance eff) reply next b t = tried_idle s call clearance eff t.seat t.result reply next b t.tried
served_idle s (requests.Accept number) reply next b a = accepted_idle s (probe_at s.book number) reply next b a
served_idle s (requests.Advise call) reply next b a = ⊎_elim
    (λ advised. not_given _ reply _ advised.given.reply_is refl b)
    (λ denied. (denied.seat, denied_looked s.seat denied.seat _ denied.denied denied.not_advised, denied.given.next_is))
    a
served_idle s requests.Settle reply next b settled = not_given _ reply _ settled.given.reply_is refl b
served_idle s (requests.Fix name x y) reply next b g = given_idle s _ reply next g
served_idle s (requests.TypeLine name bands) reply next b g = given_idle s _ reply next g
served_idle s (requests.Rule set) reply next b g = given_idle s _ reply next g
served_idle s requests.Begin reply next b g = given_idle s _ reply next g
served_idle s requests.Take reply next b g = given_idle s _ reply next g
served_idle s (requests.Area area) reply next b g = given_idle s _ reply next g
served_idle s requests.Areas reply next b g = given_idle s _ reply next g

answered_idle : (s : Session) (a : Result (ℕ × Request) Reply) (reply : Reply) (next : Session) → is_brief reply ≡ false → IsAskAnswered s a reply next → IsIdle s next
answered_idle s (Ok a) reply next b served = served_idle s a.1 reply next b served
answered_idle s (Err refusal) reply next b g = given_idle s refusal reply next g

starved_memory : (s : Session) (a : Result (ℕ × Request) Reply) (reply : Reply) (next : Session) → IsStarvedOf s a reply next → reply ≡ replies.Memory
starved_memory s (Ok a) reply next starved = starved.given.reply_is
starved_memory s (Err refusal) reply next starved = starved.given.reply_is

left_looked : (request : Request) (s t : BoardSeat) → HasLooked s t → IsSessionLeft request s t
left_looked requests.Settle s t looked = inl looked
left_looked request s t looked = looked

-- where nothing else has changed, `memory` may stand
idle_starved : (s : Session) (a : Result (ℕ × Request) Reply) (next : Session) → IsIdle s next → IsStarvedOf s a replies.Memory next
idle_starved s (Ok a) next (seat, looked, is) =
    record { seat = seat; left = left_looked a.1 s.seat seat looked; given = record { reply_is = refl; next_is = is } }
idle_starved s (Err refusal) next (seat, looked, is) = record { seat = seat; left = looked; given = record { reply_is = refl; next_is = is } }

-- a reply that is not brief follows no change
replied_idle : (s next : Session) (line : List ℕ) (reply : Reply) → IsRepliedTo s line reply next → is_brief reply ≡ false → IsIdle s next
replied_idle s next line reply replied b = ⊎_elim
    (answered_idle s (asked_in_role s.role line) reply next b)
    (λ wants. not_given _ reply _ (starved_memory s (asked_in_role s.role line) reply next wants.1) refl b)
    replied

pub given_replied : (s next : Session) (line : List ℕ) (reply given : Reply) → IsRepliedTo s line reply next → IsGivenFor reply given
    → (is_brief reply ≡ false → length line ≤ 65536) → IsRepliedTo s line given next
given_replied s next line reply given replied for short = ⊎_elim
    (λ same. rw same replied)
    (λ (memory, not_brief). rw memory (inr (short not_brief, idle_starved s (asked_in_role s.role line) next (replied_idle s next line reply replied not_brief))))
    for

no_job : (request : Request) (reply : Reply) → is_brief reply ≡ false → job_if request reply ≡ None
no_job request (replies.Entered entered) b = absurd (true≢false b)
no_job request reply b = refl

no_job_of : (a : Result (ℕ × Request) Reply) (reply : Reply) → is_brief reply ≡ false → job_of a reply ≡ None
no_job_of (Ok a) reply b = no_job a.1 reply b
no_job_of (Err refusal) reply b = refl

memory_job : (a : Result (ℕ × Request) Reply) → job_of a replies.Memory ≡ None
memory_job (Ok a) = refl
memory_job (Err refusal) = refl

-- what is given in place of a reply gives the same job
pub given_job : (a : Result (ℕ × Request) Reply) (reply given : Reply) → IsGivenFor reply given → job_of a given ≡ job_of a reply
given_job a reply given for = ⊎_elim
    (λ same. ap (job_of a) same)
    (λ (memory, not_brief). ap (job_of a) memory ∙ memory_job a ∙ sym (no_job_of a reply not_brief))
    for

-- the reply to a line that is too long
pub long_replied : (s : Session) (line : List ℕ) → 65536 < length line → IsRepliedTo s line replies.Long s
long_replied s line long = inl (rw (lt-ltb 65536 (length line) long) (record { reply_is = refl; next_is = refl }))

pub long_job : (s : Session) (line : List ℕ) → 65536 < length line → job_of (asked_in_role s.role line) replies.Long ≡ None
long_job s line long = rw (lt-ltb 65536 (length line) long) refl

-- what a line that isn't too long asks for
asked_as : (s : Session) (line : List ℕ) (a : Result (ℕ × Request) LineNo) → length line ≤ 65536 → a ≡ read_as (role_sender s.role) usual_rules line
    → asked_in_role s.role line ≡ or_reply a
asked_as s line a short is =
    let fits : nat_lt 65536 (length line) ≡ false = grind (arith, nat_tests) in
    rw (fits, ← is) refl

-- a line that was refused
refused_replied : (s : Session) (line : List ℕ) (a : Result (ℕ × Request) LineNo) (reply : Reply) → length line ≤ 65536
    → a ≡ read_as (role_sender s.role) usual_rules line → Err reply ≡ or_reply a → IsRepliedTo s line reply s
refused_replied s line a reply short is refusal =
    inl (rw (asked_as s line a short is, ← refusal) (record { reply_is = refl; next_is = refl }))

pub unread_replied : (s : Session) (line : List ℕ) (refusal : LineNo) (reply : Reply) → length line ≤ 65536
    → GivesReading {A = ℕ × Request} (Err refusal) (read_as (role_sender s.role) usual_rules line) → Err reply ≡ or_reply {A = ℕ × Request} (Err refusal) → IsRepliedTo s line reply s
unread_replied s line nos.Memory reply short is refusal =
    let memory : reply ≡ replies.Memory = cc in
    rw memory (inr (short, idle_starved s (asked_in_role s.role line) s (s.seat, looked_itself s.seat, refl)))
unread_replied s line nos.Json reply short is refusal = refused_replied s line (Err nos.Json) reply short is refusal
unread_replied s line (nos.Form name) reply short is refusal = refused_replied s line (Err (nos.Form name)) reply short is refusal
unread_replied s line (nos.Range name) reply short is refusal = refused_replied s line (Err (nos.Range name)) reply short is refusal
