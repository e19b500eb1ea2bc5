-- The world of a script: what each request is answered, and what it leaves.
use Rattle.std.specs.Prelude.{◌≡◌, ℕ, ◌-◌, Bool, true, false, List, [], ◌∷◌, ◌++◌, length, map, replicate, take, drop, get_or, slice_set, unwrap_or, Option, Some, None, Result, Ok, Err, MatchBool, ◌⊎◌, ⊤}
use Rattle.mt_area.specs.declared.area_no.AreaNo.{AreaNo}
use Rattle.mt_area.specs.declared.area_no.AreaNo.TheVariants as area_no
use Rattle.mt_area.specs.Adding.{IsAnswer}
use Rattle.mt_base.specs.declared.area.Area.{Area}
use Rattle.mt_base.specs.declared.area.Pierced.{Pierced}
use Rattle.mt_base.specs.declared.command.Entry.{Entry}
use Rattle.mt_base.specs.declared.command.Refusal.{Refusal}
use Rattle.mt_base.specs.declared.conflict.Conflict.{Conflict}
use Rattle.mt_base.specs.declared.rules.Rules.{Rules}
use Rattle.mt_base.specs.declared.clearance.Clearance.{Clearance}
use Rattle.mt_base.specs.declared.command.Command.{Command}
use Rattle.mt_base.specs.declared.command.Refusal.TheVariants.{UnknownCall, NoProbe, NotFree}
use Rattle.mt_base.specs.declared.hit.Hit.{Hit}
use Rattle.mt_base.specs.declared.flight.Record.{Record}
use Rattle.mt_base.specs.Checks.{judged}
use Rattle.mt_base.specs.Advice.{IsAdvice}
use Rattle.mt_base.specs.Decision.{IsDecided}
use Rattle.mt_base.specs.Effect.{entered_by, state_of}
use Rattle.mt_base.specs.Picture.{IsPublished, State, flight_of}
use Rattle.mt_base.specs.Pierced.{ArePierced}
use Rattle.mt_base.specs.Rules.{usual_rules}
use Rattle.mt_base.specs.Settled.{IsSettled, IsSettledInPart, due_calls}
use Rattle.mt_base.specs.Tally.{raised}
use Rattle.mt_base.specs.Tables.{Setup, Tables, no_tables}
use Rattle.mt_base.specs.View.{view_of}
use Rattle.mt_base.specs.WhatIf.{IsWhatIf}
use Rattle.mt_board.specs.declared.ask.Ask.{Ask}
use Rattle.mt_board.specs.declared.ask.Ask.TheVariants as asks
use Rattle.mt_board.specs.Probing.{ToldProbe, acceptance, free_probe}
use Rattle.mt_picture.specs.Story.{Story}
use Rattle.mt_board.specs.Book.{Book, empty_book, probe_at, with_all, with_probe}
use Rattle.mt_tables.specs.declared.add_no.AddNo.{AddNo}
use Rattle.mt_tables.specs.declared.add_no.AddNo.TheVariants as add
use Rattle.mt_tables.specs.Adding.{fix_adding, type_adding, with_fix, with_type}
use Rattle.mt_read.specs.declared.request.Request.{Request}
use Rattle.mt_read.specs.declared.request.Request.TheVariants as requests
use Rattle.mt_write.specs.declared.reply.DoneWord.{DoneWord}
use Rattle.mt_write.specs.declared.reply.DoneWord.TheVariants as done
use Rattle.mt_write.specs.declared.reply.AdviceItem.{AdviceItem}
use Rattle.mt_write.specs.declared.reply.Reply.{Reply}
use Rattle.mt_write.specs.declared.reply.Reply.TheVariants as replies
use Rattle.mt_read.specs.Rules.{rules_with}

-- a list is empty
abbrev pub is_empty : {A : Type 0} → List A → Bool
is_empty [] = true
is_empty (x ∷ xs) = false

-- `Actor`, `new_actor`: a script's actor: entries taken, and book of probes
pub record Actor : Type 0 where
  pub taken : ℕ
  pub book : Book ToldProbe

abbrev pub new_actor : Actor
new_actor = record { taken = 0; book = empty_book }

-- a script's world: rules, tables, areas, history, sixteen actors. And whether the picture has begun.
pub record World : Type 0 where
  pub rules : Rules
  pub tables : Tables
  pub areas : List Area
  pub begun : Bool
  pub history : List Entry
  pub actors : List Actor

-- the world of a picture that has begun, with its areas and actors
abbrev pub world_of : Story → List Area → List Actor → World
world_of story areas actors = record {
  rules = story.setup.rules;
  tables = story.setup.tables;
  areas = areas;
  begun = true;
  history = story.history;
  actors = actors;
}

-- `world_set_up`, `opening_world`: the world of what was set up, whose picture hasn't begun, and that before the first line
abbrev pub world_set_up : Rules → Tables → List Area → World
world_set_up rules tables areas = record { rules = rules; tables = tables; areas = areas; begun = false; history = []; actors = replicate 16 new_actor }

abbrev pub opening_world : World
opening_world = world_set_up usual_rules no_tables []

-- `setup_of`, `picture_of`: a world's rules and tables, and its state
abbrev pub setup_of : World → Setup
setup_of w = record { rules = w.rules; tables = w.tables }

abbrev pub picture_of : World → State
picture_of w = state_of (setup_of w) w.history

-- a world with other areas
abbrev pub with_areas : World → List Area → World
with_areas w areas = record w { areas = areas }

-- `actor_of`, `picture_taken`: an actor, and the state that it has taken
abbrev pub actor_of : World → ℕ → Actor
actor_of w who = get_or w.actors who new_actor

abbrev pub picture_taken : World → ℕ → State
picture_taken w who = state_of (setup_of w) (take (actor_of w who).taken w.history)

-- `with_book`, `with_all_taken`: a world with an actor's new book, or with all entries taken by it
abbrev pub with_book : World → ℕ → Book ToldProbe → World
with_book w who book = record w { actors = slice_set w.actors who (record (actor_of w who) { book = book }) }

abbrev pub with_all_taken : World → ℕ → World
with_all_taken w who = record w { actors = slice_set w.actors who (record (actor_of w who) { taken = length w.history }) }

-- this refusal is the reply, nothing changed
pub record IsRefused (w : World) (refusal reply : Reply) (next : World) : Type 0 where
  pub reply_is : reply ≡ refusal
  pub same : next ≡ w

-- this is the reply, and this the world after
pub record IsGiven (given : Reply) (after : World) (reply : Reply) (next : World) : Type 0 where
  pub reply_is : reply ≡ given
  pub next_is : next ≡ after

-- the reply is what is published, nothing changed
pub record IsListAnswered (w : World) (reply : Reply) (next : World) : Type 0 where
  pub conflicts : List Conflict
  pub published : IsPublished (setup_of w) (picture_of w) conflicts
  pub reply_is : reply ≡ replies.List conflicts (length w.history)
  pub same : next ≡ w

-- why a fix or type is not added, as a reply
abbrev pub not_added : Reply → AddNo → Reply
not_added taken add.Taken = taken
not_added taken add.Bands = replies.Bands
not_added taken add.Full = replies.TablesFull
not_added taken add.Memory = replies.Memory

-- a fix or type is added, or refused
abbrev pub IsAdded : World → Result ⊤ AddNo → DoneWord → Reply → Tables → Reply → World → Type 0
IsAdded w (Ok _) word taken tables reply next = IsGiven (replies.Done word) (record w { tables = tables }) reply next
IsAdded w (Err refusal) word taken tables reply next = IsRefused w (not_added taken refusal) reply next

-- `IsAreaGiven`, `IsAreaAdded`: an area is added at the end, or refused
abbrev pub IsAreaGiven : World → Area → Result ⊤ AreaNo → Reply → World → Type 0
IsAreaGiven w area (Ok _) reply next = IsGiven (replies.Done done.Area) (with_areas w (w.areas ++ area ∷ [])) reply next
IsAreaGiven w area (Err area_no.Taken) reply next = IsRefused w (replies.TakenFix area.name) reply next
IsAreaGiven w area (Err area_no.Shape) reply next = IsRefused w replies.Shape reply next
IsAreaGiven w area (Err area_no.Full) reply next = IsRefused w replies.AreasFull reply next
IsAreaGiven w area (Err area_no.Memory) reply next = ⊥

pub record IsAreaAdded (w : World) (area : Area) (reply : Reply) (next : World) : Type 0 where
  pub result : Result ⊤ AreaNo
  pub answer : IsAnswer w.areas area result
  pub given : IsAreaGiven w area result reply next

-- the reply is all pierces in the look-ahead, nothing changed
pub record AreAreasTold (w : World) (reply : Reply) (next : World) : Type 0 where
  pub told : List Pierced
  pub are : ArePierced (setup_of w) (picture_of w) w.areas told
  pub reply_is : reply ≡ replies.Areas told (length w.history)
  pub same : next ≡ w

-- the reply is a flight's view, where there is one
abbrev pub IsFlightTold : World → List ℕ → Option ℕ → Option Record → Reply → World → Type 0
IsFlightTold w call sec (Some flight) reply next = IsGiven (replies.Flight (view_of (setup_of w) (picture_of w) sec flight)) w reply next
IsFlightTold w call sec None reply next = IsRefused w (replies.Refused (UnknownCall call) (length w.history)) reply next

-- the reply to a read: what is published, what is due, a flight, or entries. Nothing changed.
abbrev pub IsAskServed : World → Ask → Reply → World → Type 0
IsAskServed w asks.List reply next = IsListAnswered w reply next
IsAskServed w asks.Check reply next = IsListAnswered w reply next
IsAskServed w asks.Due reply next = IsGiven (replies.Due (due_calls (picture_of w).records) (length w.history)) w reply next
IsAskServed w (asks.Flight call sec) reply next = IsFlightTold w call sec (flight_of (picture_of w).records call) reply next
IsAskServed w (asks.History from to) reply next = IsGiven (replies.History (take (to - from) (drop from w.history)) (length w.history)) w reply next

-- the reply to a decision: entered, or refused
abbrev pub IsOutcome : World → Result Entry Refusal → Reply → World → Type 0
IsOutcome w (Ok entry) reply next =
    IsGiven (replies.Entered (entered_by (setup_of w) (picture_of w) entry)) (record w { history = w.history ++ entry ∷ [] }) reply next
IsOutcome w (Err refusal) reply next = IsRefused w (replies.Refused refusal (length w.history)) reply next

-- the reply to a command, as decided now
pub record IsCommandAnswered (w : World) (who : ℕ) (command : Command) (reply : Reply) (next : World) : Type 0 where
  pub decision : Result Entry Refusal
  pub decided : IsDecided (setup_of w) (picture_of w) who command decision
  pub outcome : IsOutcome w decision reply next

-- the reply with hits, the probe kept; or a refusal
abbrev pub IsTrialAnswered : World → ℕ → List ℕ → Clearance → ℕ → Result (List Hit) Refusal → Reply → World → Type 0
IsTrialAnswered w who call clearance eff (Ok hits) reply next =
    IsGiven (replies.Probe hits eff (raised (actor_of w who).book.count) (actor_of w who).taken)
    (with_book w who (with_probe (actor_of w who).book
    (record { call = call; clearance = clearance; eff = eff; version = (actor_of w who).taken; hits = hits }))) reply next
IsTrialAnswered w who call clearance eff (Err refusal) reply next = IsRefused w (replies.Refused refusal (actor_of w who).taken) reply next

-- the reply to a probe on the state taken. Its actor took it.
pub record IsProbeAnswered (w : World) (who : ℕ) (call : List ℕ) (clearance : Clearance) (eff : Option ℕ) (reply : Reply) (next : World) : Type 0 where
  pub result : Result (List Hit) Refusal
  pub follows : IsWhatIf (setup_of w) (picture_taken w who) call clearance eff result
  pub tried : IsTrialAnswered w who call clearance (unwrap_or eff (picture_taken w who).now) result reply next

-- `IsAcceptedOf`, `IsAccepted`: the reply to an acceptance: unknown, not free, or decided. The book has no probe of that number; the probe had hits;
-- or what is decided of it now.
abbrev pub IsAcceptedOf : World → ℕ → Option ToldProbe → Reply → World → Type 0
IsAcceptedOf w who None reply next = IsRefused w (replies.Refused NoProbe (length w.history)) reply next
IsAcceptedOf w who (Some probe) reply next = MatchBool (is_empty probe.hits)
    (IsCommandAnswered w who (acceptance probe) reply next)
    (IsRefused w (replies.Refused NotFree (length w.history)) reply next)

abbrev pub IsAccepted : World → ℕ → ℕ → Reply → World → Type 0
IsAccepted w who number reply next = IsAcceptedOf w who (probe_at (actor_of w who).book number) reply next

-- advised clearances with their probes' numbers. They begin after so many.
abbrev pub items_from : ℕ → List Clearance → List AdviceItem
items_from count [] = []
items_from count (c ∷ cs) = record { clearance = c; probe = raised count } ∷ items_from (raised count) cs

-- the reply with advice, its probes kept; or a refusal
abbrev pub IsAdvisedAs : World → ℕ → List ℕ → ℕ → Result (List Clearance) Refusal → Reply → World → Type 0
IsAdvisedAs w who call eff (Ok advised) reply next =
    IsGiven (replies.Advice (items_from (actor_of w who).book.count advised) call eff (actor_of w who).taken)
    (with_book w who (with_all (actor_of w who).book (map (free_probe call eff (actor_of w who).taken) advised))) reply next
IsAdvisedAs w who call eff (Err refusal) reply next = IsRefused w (replies.Refused refusal (actor_of w who).taken) reply next

-- the reply to a request for advice on the state taken
pub record IsAdviceAnswered (w : World) (who : ℕ) (call : List ℕ) (reply : Reply) (next : World) : Type 0 where
  pub result : Result (List Clearance) Refusal
  pub advice : IsAdvice (setup_of w) (picture_taken w who) call result
  pub told : IsAdvisedAs w who call (picture_taken w who).now result reply next

-- the reply to a settling, with the flights still due
pub record IsSettling (w : World) (who : ℕ) (reply : Reply) (next : World) : Type 0 where
  pub history : List Entry
  pub settled : IsSettled (setup_of w) who w.history history
  pub given : IsGiven (replies.Settled (due_calls (state_of (setup_of w) history).records) (length history)) (record w { history = history }) reply next

-- the reply to a request, and the world after; most need a begun picture. Fixes, types, areas and rules are set and the picture is begun once, at
-- first; `hello` and `bye` are answered always, and the other requests once the picture has begun.
abbrev pub IsServed : World → ℕ → Request → Reply → World → Type 0
IsServed w who (requests.Fix name x y) reply next = MatchBool w.begun (IsRefused w replies.Begun reply next)
    (IsAdded w (judged (fix_adding w.tables name) (tt {0})) done.Fix (replies.TakenFix name)
    (with_fix w.tables name (record { x = x; y = y })) reply next)
IsServed w who (requests.TypeLine name bands) reply next = MatchBool w.begun (IsRefused w replies.Begun reply next)
    (IsAdded w (judged (type_adding w.tables name bands) (tt {0})) done.TypeLine (replies.TakenType name)
    (with_type w.tables name bands) reply next)
IsServed w who (requests.Area area) reply next = MatchBool w.begun (IsRefused w replies.Begun reply next) (IsAreaAdded w area reply next)
IsServed w who (requests.Rule set) reply next = MatchBool w.begun
    (IsRefused w replies.Begun reply next) (IsGiven (replies.Done done.Rule) (record w { rules = rules_with set w.rules }) reply next)
IsServed w who requests.Begin reply next = MatchBool w.begun
    (IsRefused w replies.Begun reply next) (IsGiven (replies.Done done.Begin) (record w { begun = true; history = []; actors = replicate 16 new_actor }) reply next)
IsServed w who (requests.Hello role) reply next = IsGiven (replies.Hello role) w reply next
IsServed w who requests.Bye reply next = IsGiven (replies.Done done.Bye) w reply next
IsServed w who (requests.Ask asked) reply next = MatchBool w.begun (IsAskServed w asked reply next) (IsRefused w replies.Unbegun reply next)
IsServed w who (requests.Change command) reply next = MatchBool w.begun
    (IsCommandAnswered w who command reply next) (IsRefused w replies.Unbegun reply next)
IsServed w who requests.Take reply next = MatchBool w.begun
    (IsGiven (replies.Taken (length w.history)) (with_all_taken w who) reply next) (IsRefused w replies.Unbegun reply next)
IsServed w who (requests.Probe call clearance eff) reply next = MatchBool w.begun
    (IsProbeAnswered w who call clearance eff reply next) (IsRefused w replies.Unbegun reply next)
IsServed w who (requests.Accept number) reply next = MatchBool w.begun
    (IsAccepted w who number reply next) (IsRefused w replies.Unbegun reply next)
IsServed w who (requests.Advise call) reply next = MatchBool w.begun
    (IsAdviceAnswered w who call reply next) (IsRefused w replies.Unbegun reply next)
IsServed w who requests.Settle reply next = MatchBool w.begun
    (IsSettling w who reply next) (IsRefused w replies.Unbegun reply next)
IsServed w who requests.Areas reply next = MatchBool w.begun (AreAreasTold w reply next) (IsRefused w replies.Unbegun reply next)

-- `IsSettledSoFar`, `IsWorldLeft`, `IsStarved`: `memory` is the reply; only settling may have renewed some
pub record IsSettledSoFar (w : World) (who : ℕ) (next : World) : Type 0 where
  pub history : List Entry
  pub part : IsSettledInPart (setup_of w) who w.history history
  pub next_is : next ≡ record w { history = history }

abbrev pub IsWorldLeft : World → ℕ → Request → World → Type 0
IsWorldLeft w who requests.Settle next = (next ≡ w) ⊎ IsSettledSoFar w who next
IsWorldLeft w who request next = next ≡ w

pub record IsStarved (w : World) (who : ℕ) (request : Request) (reply : Reply) (next : World) : Type 0 where
  pub reply_is : reply ≡ replies.Memory
  pub left : IsWorldLeft w who request next
