-- A request of a world has one reply.
use Rattle.std.proofs.Common.{◌≡◌, ℕ, List, length, Option, Some, None, Result, Ok, Err, sym, subst, ◌∙◌, ap}
use Rattle.std.specs.Prelude.{unwrap_or, ⊤}
use Rattle.mt_area.specs.declared.area_no.AreaNo.{AreaNo}
use Rattle.mt_area.specs.declared.area_no.AreaNo.TheVariants as area_no
use Rattle.mt_area.proofs.OneAnswer.{IsNoWant, one_answer}
use Rattle.mt_base.specs.declared.area.Area.{Area}
use Rattle.mt_base.specs.declared.area.Pierced.{Pierced}
use Rattle.mt_base.specs.declared.command.Command.{Command}
use Rattle.mt_base.specs.declared.command.Entry.{Entry}
use Rattle.mt_base.specs.declared.command.Refusal.{Refusal}
use Rattle.mt_base.specs.declared.conflict.Conflict.{Conflict}
use Rattle.mt_base.specs.declared.clearance.Clearance.{Clearance}
use Rattle.mt_base.specs.declared.flight.Record.{Record}
use Rattle.mt_base.specs.declared.hit.Hit.{Hit}
use Rattle.mt_base.specs.Picture.{flight_of}
use Rattle.mt_base.specs.Effect.{state_of}
use Rattle.mt_base.specs.Settled.{due_calls}
use Rattle.mt_base.specs.Tables.{Tables}
use Rattle.mt_base.proofs.ConflictOrder.{total}
use Rattle.mt_base.proofs.OneOrder.{one_order}
use Rattle.mt_base.proofs.PiercedOrder as pierced_order
use Rattle.mt_read.specs.declared.request.Request.{Request}
use Rattle.mt_read.specs.declared.request.Request.TheVariants as requests
use Rattle.mt_tables.specs.declared.add_no.AddNo.{AddNo}
use Rattle.mt_board.specs.declared.ask.Ask.{Ask}
use Rattle.mt_board.specs.declared.ask.Ask.TheVariants as asks
use Rattle.mt_board.specs.Book.{probe_at}
use Rattle.mt_write.specs.declared.reply.DoneWord.{DoneWord}
use Rattle.mt_write.specs.declared.reply.Reply.{Reply}
use Rattle.mt_write.specs.declared.reply.Reply.TheVariants.{Areas as areas_told, List as listed, Settled as settled}
use Rattle.mt_board.specs.Probing.{ToldProbe}
use Rattle.mt_base.proofs.Cases.{on_both}
use Rattle.mt_world.specs.World.{AreAreasTold, IsAcceptedOf, IsAdded, IsAdviceAnswered, IsAdvisedAs, IsAreaAdded, IsAreaGiven, IsAskServed, IsCommandAnswered, IsGiven, IsListAnswered, IsOutcome, IsProbeAnswered, IsRefused, IsServed, IsSettling, IsFlightTold, IsTrialAnswered, World, actor_of, is_empty, picture_of, picture_taken, setup_of}
use Rattle.mt_base.proofs.OneSolution.{one_advised, one_decision, one_renewal, one_what_if}

-- the same reply, and the same world after it
abbrev AreOne : Reply → Reply → World → World → Type 0
AreOne r s next other = (r ≡ s) × (next ≡ other)

one_given : (given : Reply) (after : World) (r s : Reply) (next other : World) → IsGiven given after r next → IsGiven given after s other → AreOne r s next other
one_given given after r s next other x y = (x.reply_is ∙ sym y.reply_is, x.next_is ∙ sym y.next_is)

one_refused : (w : World) (refusal r s : Reply) (next other : World) → IsRefused w refusal r next → IsRefused w refusal s other → AreOne r s next other
one_refused w refusal r s next other x y = (x.reply_is ∙ sym y.reply_is, x.same ∙ sym y.same)

one_listed : (w : World) (r s : Reply) (next other : World) → IsListAnswered w r next → IsListAnswered w s other → AreOne r s next other
one_listed w r s next other x y =
    let conflicts : x.conflicts ≡ y.conflicts = one_order total x.conflicts y.conflicts x.published.sorted y.published.sorted
    (λ c h. (y.published.exact c).1 ((x.published.exact c).0 h)) (λ c h. (x.published.exact c).1 ((y.published.exact c).0 h)) in
    (x.reply_is ∙ ap (λ (cs : List Conflict). listed cs (length w.history)) conflicts ∙ sym y.reply_is, x.same ∙ sym y.same)

one_flight : (w : World) (call : List ℕ) (sec : Option ℕ) (found : Option Record) (r s : Reply) (next other : World) → IsFlightTold w call sec found r next
    → IsFlightTold w call sec found s other → AreOne r s next other
one_flight w call sec (Some flight) r s next other x y = one_given _ _ r s next other x y
one_flight w call sec None r s next other x y = one_refused w _ r s next other x y

one_asked : (w : World) (ask : Ask) (r s : Reply) (next other : World) → IsAskServed w ask r next → IsAskServed w ask s other → AreOne r s next other
one_asked w asks.List r s next other x y = one_listed w r s next other x y
one_asked w asks.Check r s next other x y = one_listed w r s next other x y
one_asked w asks.Due r s next other x y = one_given _ _ r s next other x y
one_asked w (asks.Flight call sec) r s next other x y = one_flight w call sec (flight_of (picture_of w).records call) r s next other x y
one_asked w (asks.History from to) r s next other x y = one_given _ _ r s next other x y

one_added : (w : World) (checked : Result ⊤ AddNo) (word : DoneWord) (taken : Reply) (tables : Tables) (r s : Reply) (next other : World)
    → IsAdded w checked word taken tables r next → IsAdded w checked word taken tables s other → AreOne r s next other
one_added w (Ok _) word taken tables r s next other x y = one_given _ _ r s next other x y
one_added w (Err refusal) word taken tables r s next other x y = one_refused w _ r s next other x y

one_area_given : (w : World) (area : Area) (result : Result ⊤ AreaNo) (r s : Reply) (next other : World) → IsAreaGiven w area result r next
    → IsAreaGiven w area result s other → AreOne r s next other
one_area_given w area (Ok _) r s next other x y = one_given _ _ r s next other x y
one_area_given w area (Err area_no.Taken) r s next other x y = one_refused w _ r s next other x y
one_area_given w area (Err area_no.Shape) r s next other x y = one_refused w _ r s next other x y
one_area_given w area (Err area_no.Full) r s next other x y = one_refused w _ r s next other x y
one_area_given w area (Err area_no.Memory) r s next other x y = absurd x

no_want : (w : World) (area : Area) (result : Result ⊤ AreaNo) (reply : Reply) (next : World) → IsAreaGiven w area result reply next → IsNoWant result
no_want w area (Ok _) reply next given = tt
no_want w area (Err area_no.Taken) reply next given = tt
no_want w area (Err area_no.Shape) reply next given = tt
no_want w area (Err area_no.Full) reply next given = tt
no_want w area (Err area_no.Memory) reply next given = absurd given

one_area_added : (w : World) (area : Area) (r s : Reply) (next other : World) → IsAreaAdded w area r next → IsAreaAdded w area s other
    → AreOne r s next other
one_area_added w area r s next other x y =
    let same : y.result ≡ x.result = one_answer w.areas area y.result x.result y.answer x.answer
    (no_want w area y.result s other y.given) (no_want w area x.result r next x.given) in
    one_area_given w area x.result r s next other x.given (subst (λ (result : Result ⊤ AreaNo). IsAreaGiven w area result s other) same y.given)

one_areas_told : (w : World) (r s : Reply) (next other : World) → AreAreasTold w r next → AreAreasTold w s other → AreOne r s next other
one_areas_told w r s next other x y =
    let told : x.told ≡ y.told = one_order pierced_order.total x.told y.told x.are.sorted y.are.sorted
    (λ p h. (y.are.exact p).1 ((x.are.exact p).0 h)) (λ p h. (x.are.exact p).1 ((y.are.exact p).0 h)) in
    (x.reply_is ∙ ap (λ (ps : List Pierced). areas_told ps (length w.history)) told ∙ sym y.reply_is, x.same ∙ sym y.same)

one_outcome : (w : World) (d : Result Entry Refusal) (r s : Reply) (next other : World) → IsOutcome w d r next → IsOutcome w d s other
    → AreOne r s next other
one_outcome w (Ok entry) r s next other x y = one_given _ _ r s next other x y
one_outcome w (Err refusal) r s next other x y = one_refused w _ r s next other x y

one_changed : (w : World) (who : ℕ) (command : Command) (r s : Reply) (next other : World) → IsCommandAnswered w who command r next
    → IsCommandAnswered w who command s other → AreOne r s next other
one_changed w who command r s next other x y =
    let same : y.decision ≡ x.decision = one_decision (setup_of w) (picture_of w) who command y.decision x.decision y.decided x.decided in
    one_outcome w x.decision r s next other x.outcome (subst (λ (d : Result Entry Refusal). IsOutcome w d s other) same y.outcome)

one_tried : (w : World) (who : ℕ) (call : List ℕ) (clearance : Clearance) (eff : ℕ) (found : Result (List Hit) Refusal) (r s : Reply) (next other : World)
    → IsTrialAnswered w who call clearance eff found r next → IsTrialAnswered w who call clearance eff found s other → AreOne r s next other
one_tried w who call clearance eff (Ok hits) r s next other x y = one_given _ _ r s next other x y
one_tried w who call clearance eff (Err refusal) r s next other x y = one_refused w _ r s next other x y

one_probed : (w : World) (who : ℕ) (call : List ℕ) (clearance : Clearance) (eff : Option ℕ) (r s : Reply) (next other : World)
    → IsProbeAnswered w who call clearance eff r next → IsProbeAnswered w who call clearance eff s other → AreOne r s next other
one_probed w who call clearance eff r s next other x y =
    let at : ℕ = unwrap_or eff (picture_taken w who).now in
    let same : y.result ≡ x.result =
    one_what_if (setup_of w) (picture_taken w who) call clearance eff y.result x.result y.follows x.follows in
    one_tried w who call clearance at x.result r s next other x.tried
    (subst (λ (found : Result (List Hit) Refusal). IsTrialAnswered w who call clearance at found s other) same y.tried)

one_accepted : (w : World) (who : ℕ) (found : Option ToldProbe) (r s : Reply) (next other : World) → IsAcceptedOf w who found r next
    → IsAcceptedOf w who found s other → AreOne r s next other
one_accepted w who None r s next other x y = one_refused w _ r s next other x y
one_accepted w who (Some probe) r s next other x y =
    on_both (is_empty probe.hits) _ _ _ _ _ (one_changed w who _ r s next other) (one_refused w _ r s next other) x y

one_told : (w : World) (who : ℕ) (call : List ℕ) (eff : ℕ) (advice : Result (List Clearance) Refusal) (r s : Reply) (next other : World)
    → IsAdvisedAs w who call eff advice r next → IsAdvisedAs w who call eff advice s other → AreOne r s next other
one_told w who call eff (Ok advised) r s next other x y = one_given _ _ r s next other x y
one_told w who call eff (Err refusal) r s next other x y = one_refused w _ r s next other x y

one_advice_told : (w : World) (who : ℕ) (call : List ℕ) (r s : Reply) (next other : World) → IsAdviceAnswered w who call r next → IsAdviceAnswered w who call s other
    → AreOne r s next other
one_advice_told w who call r s next other x y =
    let eff : ℕ = (picture_taken w who).now in
    let same : y.result ≡ x.result = one_advised (setup_of w) (picture_taken w who) call y.result x.result y.advice x.advice in
    one_told w who call eff x.result r s next other x.told
    (subst (λ (advice : Result (List Clearance) Refusal). IsAdvisedAs w who call eff advice s other) same y.told)

one_settled : (w : World) (who : ℕ) (r s : Reply) (next other : World) → IsSettling w who r next → IsSettling w who s other → AreOne r s next other
one_settled w who r s next other x y =
    let same : y.history ≡ x.history =
    one_renewal (setup_of w) who (due_calls (state_of (setup_of w) w.history).records) w.history y.history x.history y.settled x.settled in
    one_given _ _ r s next other x.given (subst (λ (h : List Entry).
    IsGiven (settled (due_calls (state_of (setup_of w) h).records) (length h)) (record w { history = h }) s other) same y.given)

pub one_served : (w : World) (who : ℕ) (request : Request) (r s : Reply) (next other : World) → IsServed w who request r next
    → IsServed w who request s other → AreOne r s next other
one_served w who (requests.Fix name a b) r s next other x y =
    on_both w.begun _ _ _ _ _ (one_refused w _ r s next other) (one_added w _ _ _ _ r s next other) x y
one_served w who (requests.TypeLine name bands) r s next other x y =
    on_both w.begun _ _ _ _ _ (one_refused w _ r s next other) (one_added w _ _ _ _ r s next other) x y
one_served w who (requests.Area area) r s next other x y =
    on_both w.begun _ _ _ _ _ (one_refused w _ r s next other) (one_area_added w area r s next other) x y
one_served w who (requests.Rule set) r s next other x y = on_both w.begun _ _ _ _ _ (one_refused w _ r s next other) (one_given _ _ r s next other) x y
one_served w who requests.Begin r s next other x y = on_both w.begun _ _ _ _ _ (one_refused w _ r s next other) (one_given _ _ r s next other) x y
one_served w who (requests.Hello role) r s next other x y = one_given _ _ r s next other x y
one_served w who requests.Bye r s next other x y = one_given _ _ r s next other x y
one_served w who (requests.Ask ask) r s next other x y =
    on_both w.begun _ _ _ _ _ (one_asked w ask r s next other) (one_refused w _ r s next other) x y
one_served w who (requests.Change command) r s next other x y =
    on_both w.begun _ _ _ _ _ (one_changed w who command r s next other) (one_refused w _ r s next other) x y
one_served w who requests.Take r s next other x y = on_both w.begun _ _ _ _ _ (one_given _ _ r s next other) (one_refused w _ r s next other) x y
one_served w who (requests.Probe call clearance eff) r s next other x y =
    on_both w.begun _ _ _ _ _ (one_probed w who call clearance eff r s next other) (one_refused w _ r s next other) x y
one_served w who (requests.Accept number) r s next other x y =
    on_both w.begun _ _ _ _ _ (one_accepted w who (probe_at (actor_of w who).book number) r s next other) (one_refused w _ r s next other) x y
one_served w who (requests.Advise call) r s next other x y =
    on_both w.begun _ _ _ _ _ (one_advice_told w who call r s next other) (one_refused w _ r s next other) x y
one_served w who requests.Settle r s next other x y = on_both w.begun _ _ _ _ _ (one_settled w who r s next other) (one_refused w _ r s next other) x y
one_served w who requests.Areas r s next other x y =
    on_both w.begun _ _ _ _ _ (one_areas_told w r s next other) (one_refused w _ r s next other) x y
