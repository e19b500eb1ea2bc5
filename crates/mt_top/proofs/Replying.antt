use Rattle.std.proofs.Common.{◌≡◌, ◌<◌, ◌≤◌, inl, inr, ⊎_elim, ℕ, false, List, length, Option, Some, None, Result, Ok, Err, refl}
use Rattle.std.proofs.lemmas.Bool.{lt-ltb}
use Rattle.std.specs.Prelude.{⊤}
use Rattle.mt_base.specs.declared.command.Entry.{Entry}
use Rattle.mt_base.specs.declared.command.Refusal.{Refusal}
use Rattle.mt_base.specs.declared.clearance.Clearance.{Clearance}
use Rattle.mt_base.specs.declared.hit.Hit.{Hit}
use Rattle.mt_base.specs.Tables.{Tables}
use Rattle.mt_tables.specs.declared.add_no.AddNo.{AddNo}
use Rattle.mt_write.specs.declared.reply.DoneWord.{DoneWord}
use Rattle.mt_read.specs.declared.request.Request.{Request}
use Rattle.mt_read.specs.declared.request.Request.TheVariants as requests
use Rattle.mt_write.specs.declared.reply.Reply.{Reply}
use Rattle.mt_write.specs.declared.reply.Reply.TheVariants as replies
use Rattle.mt_lines.specs.Given.{IsGivenFor, is_brief}
use Rattle.mt_base.proofs.Cases.{on_either}
use Rattle.mt_lines.proofs.Brief.{not_given}
use Rattle.mt_top.specs.Script.{IsAnswered, IsLeftBy, IsReplied, asked}
use Rattle.mt_board.specs.Book.{probe_at}
use Rattle.mt_board.specs.Probing.{ToldProbe}
use Rattle.mt_world.proofs.Areas.{added_either}
use Rattle.mt_world.proofs.Told.{ask_same}
use Rattle.mt_world.specs.World.{IsAcceptedOf, IsAdded, IsAdvisedAs, IsWorldLeft, IsOutcome, IsServed, IsTrialAnswered, World, actor_of, is_empty}

-- so nothing was added where the reply is not brief
added : (w next : World) (checked : Result ⊤ AddNo) (word : DoneWord) (taken : Reply) (tables : Tables) (reply : Reply) → is_brief reply ≡ false
    → IsAdded w checked word taken tables reply next → next ≡ w
added w next (Ok _) word taken tables reply b g = not_given _ reply _ g.reply_is refl b
added w next (Err refusal) word taken tables reply b r = r.same

-- and nothing was entered
outcome : (w next : World) (decision : Result Entry Refusal) (reply : Reply) → is_brief reply ≡ false → IsOutcome w decision reply next → next ≡ w
outcome w next (Ok entry) reply b g = not_given _ reply _ g.reply_is refl b
outcome w next (Err refusal) reply b r = r.same

-- nor kept
tried : (w next : World) (who : ℕ) (call : List ℕ) (clearance : Clearance) (eff : ℕ) (result : Result (List Hit) Refusal) (reply : Reply)
    → is_brief reply ≡ false → IsTrialAnswered w who call clearance eff result reply next → next ≡ w
tried w next who call clearance eff (Ok hits) reply b g = not_given _ reply _ g.reply_is refl b
tried w next who call clearance eff (Err refusal) reply b r = r.same

told_free : (w next : World) (who : ℕ) (call : List ℕ) (eff : ℕ) (advice : Result (List Clearance) Refusal) (reply : Reply)
    → is_brief reply ≡ false → IsAdvisedAs w who call eff advice reply next → next ≡ w
told_free w next who call eff (Ok advised) reply b g = not_given _ reply _ g.reply_is refl b
told_free w next who call eff (Err refusal) reply b r = r.same

accepted : (w next : World) (who : ℕ) (found : Option ToldProbe) (reply : Reply) → is_brief reply ≡ false → IsAcceptedOf w who found reply next → next ≡ w
accepted w next who None reply b r = r.same
accepted w next who (Some probe) reply b a =
    on_either (is_empty probe.hits) _ _ _ (λ changed. outcome w next changed.decision reply b changed.outcome) (λ r. r.same) a

-- a reply that is not brief follows no change
pub unchanged_by : (w next : World) (who : ℕ) (request : Request) (reply : Reply) → IsServed w who request reply next → is_brief reply ≡ false → next ≡ w
unchanged_by w next who (requests.Fix name x y) reply served b =
    on_either w.begun _ _ _ (λ r. r.same) (added w next _ _ _ _ reply b) served
unchanged_by w next who (requests.TypeLine name bands) reply served b =
    on_either w.begun _ _ _ (λ r. r.same) (added w next _ _ _ _ reply b) served
unchanged_by w next who (requests.Area area) reply served b = on_either w.begun _ _ _ (λ r. r.same)
    (λ added. ⊎_elim (λ same. same) (λ g. not_given _ reply _ g.reply_is refl b) (added_either w next area reply added)) served
unchanged_by w next who (requests.Rule set) reply served b = on_either w.begun _ _ _ (λ r. r.same) (λ g. not_given _ reply _ g.reply_is refl b) served
unchanged_by w next who requests.Begin reply served b = on_either w.begun _ _ _ (λ r. r.same) (λ g. not_given _ reply _ g.reply_is refl b) served
unchanged_by w next who (requests.Hello role) reply served b = served.next_is
unchanged_by w next who requests.Bye reply served b = served.next_is
unchanged_by w next who (requests.Ask ask) reply served b = on_either w.begun _ _ _ (ask_same w next ask reply) (λ r. r.same) served
unchanged_by w next who (requests.Change command) reply served b =
    on_either w.begun _ _ _ (λ changed. outcome w next changed.decision reply b changed.outcome) (λ r. r.same) served
unchanged_by w next who requests.Take reply served b =
    on_either w.begun _ _ _ (λ g. not_given _ reply _ g.reply_is refl b) (λ r. r.same) served
unchanged_by w next who (requests.Probe call clearance eff) reply served b =
    on_either w.begun _ _ _ (λ probed. tried w next who call clearance _ probed.result reply b probed.tried) (λ r. r.same) served
unchanged_by w next who (requests.Accept number) reply served b =
    on_either w.begun _ _ _ (accepted w next who (probe_at (actor_of w who).book number) reply b) (λ r. r.same) served
unchanged_by w next who (requests.Advise call) reply served b =
    on_either w.begun _ _ _ (λ advised. told_free w next who call _ advised.result reply b advised.told) (λ r. r.same) served
unchanged_by w next who requests.Settle reply served b =
    on_either w.begun _ _ _ (λ settling. not_given _ reply _ settling.given.reply_is refl b) (λ r. r.same) served
unchanged_by w next who requests.Areas reply served b = on_either w.begun _ _ _ (λ told. told.same) (λ r. r.same) served

unchanged_of : (w next : World) (a : Result (ℕ × Request) Reply) (reply : Reply) → IsAnswered w a reply next → is_brief reply ≡ false → next ≡ w
unchanged_of w next (Ok a) reply served b = unchanged_by w next a.0 a.1 reply served b
unchanged_of w next (Err refusal) reply refused b = refused.same

unchanged : (w next : World) (line : List ℕ) (reply : Reply) → IsReplied w line reply next → is_brief reply ≡ false → next ≡ w
unchanged w next line reply replied b = ⊎_elim (λ answered. unchanged_of w next (asked w line) reply answered b) (λ wants. not_given _ reply _ wants.reply_is refl b) replied

-- a line that found no memory may leave the world as it was
left_same : (w next : World) (a : Result (ℕ × Request) Reply) → next ≡ w → IsLeftBy w a next
left_same w next (Err refusal) same = same
left_same w next (Ok a) same = by_request a.1 where
  by_request : (request : Request) → IsWorldLeft w a.0 request next
  by_request requests.Settle = inl same
  by_request request = same

-- what is given in place of a reply is a reply
pub given_replied : (w next : World) (line : List ℕ) (reply given : Reply) → IsReplied w line reply next → IsGivenFor reply given
    → (is_brief reply ≡ false → length line ≤ 65536) → IsReplied w line given next
given_replied w next line reply given replied for short = ⊎_elim
    (λ same. rw same replied)
    (λ (memory, not_brief). inr (record { short = short not_brief; reply_is = memory; left = left_same w next (asked w line) (unchanged w next line reply replied not_brief) }))
    for

-- the reply to a line that is too long
pub long_replied : (w : World) (line : List ℕ) → 65536 < length line → IsReplied w line replies.Long w
long_replied w line long = inl (rw (lt-ltb 65536 (length line) long) (record { reply_is = refl; same = refl }))
