-- The numbers that the probes of a run get, so that the first of those that are advised can be accepted.
use Rattle.std.proofs.Common.{◌≡◌, ⊎_elim, ℕ, zero, suc, ◌+◌, ◌*◌, ◌<◌, ◌≤◌, ◌^◌, ◌%◌, List, [], ◌∷◌, length, map, get_or, replicate, Option, Some, None, Result, Ok, Err, refl, sym, ap, ◌∙◌, subst, arith, nat_eq}
use Rattle.std.specs.Bool.{⊤}
use Rattle.std.specs.List.{filter}
use Rattle.std.specs.Prelude.{All, IfOk, slice_set}
use Rattle.std.proofs.lemmas.List.{length-map}
use Rattle.std.proofs.lemmas.List.Elements.{All-cons, All-head, All-nil, All-tail}
use Rattle.mt_base.specs.declared.clearance.Clearance.{Clearance}
use Rattle.mt_base.specs.declared.command.Entry.{Entry}
use Rattle.mt_base.specs.declared.command.Refusal.{Refusal}
use Rattle.mt_base.specs.Advice.{AreAdvised, IsAdvice, Tried, candidates_in}
use Rattle.mt_base.specs.Picture.{State}
use Rattle.mt_base.specs.Tables.{Setup, Tables}
use Rattle.mt_base.specs.Tally.{raised}
use Rattle.mt_base.proofs.Cases.{on_either}
use Rattle.mt_base.proofs.FewAdvised.{few_filtered, few_in}
use Rattle.mt_board.specs.Probing.{ToldProbe, free_probe}
use Rattle.mt_board.specs.Book.{Book, probe_at, with_all, with_probe}
use Rattle.mt_load.specs.Input.{callsign, inputs}
use Rattle.mt_load.proofs.Inputs.{all_inputs}
use Rattle.mt_read.specs.declared.request.Request.{Request}
use Rattle.mt_read.specs.declared.request.Request.TheVariants as requests
use Rattle.mt_tables.specs.declared.add_no.AddNo.{AddNo}
use Rattle.mt_write.specs.declared.reply.AdviceItem.{AdviceItem}
use Rattle.mt_write.specs.declared.reply.DoneWord.{DoneWord}
use Rattle.mt_write.specs.declared.reply.Reply.{Reply}
use Rattle.mt_write.specs.declared.reply.Reply.TheVariants.{Advice}
use Rattle.mt_world.proofs.Areas.{added_either}
use Rattle.mt_world.proofs.Told.{ask_same}
use Rattle.mt_world.specs.World.{Actor, IsAcceptedOf, IsAdded, IsAdvisedAs, IsOutcome, IsServed, World, actor_of, is_empty, items_from, new_actor, opening_world}
use Rattle.mt_load.specs.Load.{AreRequestsAnswered, EachDivided, IsAdviceTaken, IsAdvisedFlight, IsAsked, IsFirstAccepted}
use Rattle.mt_load.specs.Private.Load.{HaveProbeNumbers, CanBeNamed, probes_of}

-- ---- the probes of actors

abbrev pub made_by : List Actor → ℕ → ℕ
made_by actors who = (get_or actors who new_actor).book.count

-- one of them in the place of another, with at most so many more
set_within : (actors : List Actor) (i j more : ℕ) (a : Actor) → a.book.count ≤ made_by actors i + more → made_by (slice_set actors i a) j ≤ made_by actors j + more
set_within [] i j more a h = omega arith
set_within (b ∷ actors) zero zero more a h = h
set_within (b ∷ actors) zero (suc j) more a h = omega arith
set_within (b ∷ actors) (suc i) zero more a h = omega arith
set_within (b ∷ actors) (suc i) (suc j) more a h = set_within actors i j more a h

-- new actors made none
none_made : (n j : ℕ) → made_by (replicate n new_actor) j ≡ 0
none_made zero j = refl
none_made (suc n) zero = refl
none_made (suc n) (suc j) = none_made n j

-- ---- requests that make no probe

abbrev pub IsQuiet : Request → Type 0
IsQuiet (requests.Probe call clearance eff) = ⊥
IsQuiet (requests.Advise call) = ⊥
IsQuiet request = ⊤

after_set : (w next after : World) (j more : ℕ) → next ≡ after → made_by after.actors j ≤ probes_of w j + more → probes_of next j ≤ probes_of w j + more
after_set w next after j more is within = let same : probes_of next j ≡ probes_of after j = ap (λ (v : World). probes_of v j) is in omega (arith, within)

same_made : (w next after : World) (j : ℕ) → next ≡ after → after.actors ≡ w.actors → probes_of next j ≤ probes_of w j
same_made w next after j is same =
    let left : probes_of next j ≡ probes_of after j = ap (λ (v : World). probes_of v j) is in
    let kept : probes_of after j ≡ probes_of w j = ap (λ (actors : List Actor). made_by actors j) same in
    omega arith

outcome : (w next : World) (j : ℕ) (decision : Result Entry Refusal) (reply : Reply) → IsOutcome w decision reply next → probes_of next j ≤ probes_of w j
outcome w next j (Ok entry) reply g = same_made w next _ j g.next_is refl
outcome w next j (Err refusal) reply r = same_made w next w j r.same refl

added : (w next : World) (j : ℕ) (r : Result ⊤ AddNo) (word : DoneWord) (taken : Reply) (tables : Tables) (reply : Reply)
    → IsAdded w r word taken tables reply next → probes_of next j ≤ probes_of w j
added w next j (Ok u) word taken tables reply g = same_made w next _ j g.next_is refl
added w next j (Err refusal) word taken tables reply r = same_made w next w j r.same refl

accepted : (w next : World) (who j : ℕ) (found : Option ToldProbe) (reply : Reply) → IsAcceptedOf w who found reply next → probes_of next j ≤ probes_of w j
accepted w next who j None reply r = same_made w next w j r.same refl
accepted w next who j (Some probe) reply a =
    on_either (is_empty probe.hits) _ _ _ (λ changed. outcome w next j changed.decision reply changed.outcome) (λ r. same_made w next w j r.same refl) a

module _ (w next : World) (who j : ℕ) (reply : Reply) where
  refused : next ≡ w → probes_of next j ≤ probes_of w j
  refused same = same_made w next w j same refl

  begun_anew : next.actors ≡ replicate 16 new_actor → probes_of next j ≤ probes_of w j
  begun_anew are =
      let none : probes_of next j ≡ 0 = subst (λ (actors : List Actor). made_by actors j ≡ 0) (sym are) (none_made 16 j) in
      omega arith

  taken_made : (taken : ℕ) → next ≡ record w { actors = slice_set w.actors who (record (actor_of w who) { taken = taken }) } → probes_of next j ≤ probes_of w j
  taken_made taken is =
      let within = after_set w next _ j 0 is (set_within w.actors who j 0 (record (actor_of w who) { taken = taken }) (omega arith)) in
      omega (arith, within)

  pub quiet_served : (request : Request) → IsQuiet request → IsServed w who request reply next → probes_of next j ≤ probes_of w j
  quiet_served (requests.Fix name x y) quiet served =
      on_either w.begun _ _ _ (λ r. refused r.same) (λ is. added w next j _ _ _ _ reply is) served
  quiet_served (requests.TypeLine name bands) quiet served =
      on_either w.begun _ _ _ (λ r. refused r.same) (λ is. added w next j _ _ _ _ reply is) served
  quiet_served (requests.Area area) quiet served = on_either w.begun _ _ _ (λ r. refused r.same)
      (λ is. ⊎_elim refused (λ g. same_made w next _ j g.next_is refl) (added_either w next area reply is)) served
  quiet_served (requests.Rule set) quiet served = on_either w.begun _ _ _ (λ r. refused r.same) (λ g. same_made w next _ j g.next_is refl) served
  quiet_served requests.Begin quiet served =
      on_either w.begun _ _ _ (λ r. refused r.same) (λ g. begun_anew (ap (λ (v : World). v.actors) g.next_is)) served
  quiet_served (requests.Hello role) quiet served = refused served.next_is
  quiet_served requests.Bye quiet served = refused served.next_is
  quiet_served (requests.Ask ask) quiet served = on_either w.begun _ _ _ (λ is. refused (ask_same w next ask reply is)) (λ r. refused r.same) served
  quiet_served (requests.Change command) quiet served =
      on_either w.begun _ _ _ (λ changed. outcome w next j changed.decision reply changed.outcome) (λ r. refused r.same) served
  quiet_served requests.Take quiet served = on_either w.begun _ _ _ (λ g. taken_made (length w.history) g.next_is) (λ r. refused r.same) served
  quiet_served (requests.Probe call clearance eff) quiet served = absurd quiet
  quiet_served (requests.Accept number) quiet served =
      on_either w.begun _ _ _ (λ is. accepted w next who j (probe_at (actor_of w who).book number) reply is) (λ r. refused r.same) served
  quiet_served (requests.Advise call) quiet served = absurd quiet
  quiet_served requests.Settle quiet served =
      on_either w.begun _ _ _ (λ settling. same_made w next _ j settling.given.next_is refl) (λ r. refused r.same) served
  quiet_served requests.Areas quiet served = on_either w.begun _ _ _ (λ told. refused told.same) (λ r. refused r.same) served

-- ---- advice makes at most sixteen

with_all_within : (book : Book ToldProbe) (probes : List ToldProbe) → (with_all book probes).count ≤ book.count + length probes
with_all_within book [] = omega arith
with_all_within book (p ∷ probes) = let rest = with_all_within (with_probe book p) probes in omega (arith, rest)

numbered : (count : ℕ) (cs : List Clearance) → count + length cs < 2 ^ 63 → All CanBeNamed (items_from count cs)
numbered count [] small = All-nil CanBeNamed
numbered count (c ∷ cs) small =
    All-cons CanBeNamed (record { clearance = c; probe = raised count }) (items_from (raised count) cs) (omega arith, omega arith) (numbered (raised count) cs (omega arith))

few_advised : (setup : Setup) (s : State) (call : List ℕ) (advised : List Clearance) → AreAdvised setup s call advised → length advised ≤ 16
few_advised setup s call advised are =
    let kept = filter (λ (t : Tried). t.free) are.tried in
    let few = few_filtered (λ (t : Tried). t.free) are.tried in
    let sixteen = few_in setup s call in
    let all : length are.tried ≡ length (candidates_in setup s call) =
    sym (length-map are.tried (λ (t : Tried). t.clearance)) ∙ ap (λ (cs : List Clearance). length cs) are.all in
    rw (are.free, length-map kept (λ (t : Tried). t.clearance)) (omega (arith, few, sixteen, all))

few_result : (setup : Setup) (s : State) (call : List ℕ) (result : Result (List Clearance) Refusal) → IsAdvice setup s call result
    → IfOk result (λ advised. length advised ≤ 16)
few_result setup s call (Ok advised) is = few_advised setup s call advised is.1
few_result setup s call (Err refusal) is = tt

module _ (w next : World) (who : ℕ) (call : List ℕ) (eff : ℕ) (reply : Reply) where
  sixteen_more : (j : ℕ) (result : Result (List Clearance) Refusal) → IfOk result (λ advised. length advised ≤ 16)
      → IsAdvisedAs w who call eff result reply next → probes_of next j ≤ probes_of w j + 16
  sixteen_more j (Ok advised) few g =
      let probes = map (free_probe call eff (actor_of w who).taken) advised in
      let counted : length probes ≡ length advised = length-map advised (free_probe call eff (actor_of w who).taken) in
      let all = with_all_within (actor_of w who).book probes in
      after_set w next _ j 16 g.next_is
      (set_within w.actors who j 16 (record (actor_of w who) { book = with_all (actor_of w who).book probes }) (omega (arith, all, counted, few)))
  sixteen_more j (Err refusal) few r = let same = same_made w next w j r.same refl in omega (arith, same)

  numbers_are : (result : Result (List Clearance) Refusal) → IfOk result (λ advised. length advised ≤ 16) → IsAdvisedAs w who call eff result reply next
      → probes_of w who + 16 < 2 ^ 63 → HaveProbeNumbers reply
  numbers_are (Ok advised) few g small = subst HaveProbeNumbers (sym g.reply_is) (numbered (actor_of w who).book.count advised (omega (arith, few, small)))
  numbers_are (Err refusal) few r small = subst HaveProbeNumbers (sym r.reply_is) tt

-- what the reply to a request for advice names, and how many probes it made
pub advice_named : (w next : World) (who : ℕ) (call : List ℕ) (reply : Reply) → probes_of w who + 16 < 2 ^ 63 → IsServed w who (requests.Advise call) reply next
    → HaveProbeNumbers reply
advice_named w next who call reply small served =
    on_either w.begun _ _ _
    (λ given. numbers_are w next who call _ reply given.result (few_result _ _ call given.result given.advice) given.told small)
    (λ r. subst HaveProbeNumbers (sym r.reply_is) tt) served

advice_made : (w next : World) (who j : ℕ) (call : List ℕ) (reply : Reply) → IsServed w who (requests.Advise call) reply next
    → probes_of next j ≤ probes_of w j + 16
advice_made w next who j call reply served =
    on_either w.begun _ _ _
    (λ given. sixteen_more w next who call _ reply j given.result (few_result _ _ call given.result given.advice) given.told)
    (λ r. let same = same_made w next w j r.same refl in omega (arith, same)) served

-- ---- over a run

pub quiet_asked : (w next : World) (who j : ℕ) (request : Request) → IsQuiet request → IsAsked w who request next → probes_of next j ≤ probes_of w j
quiet_asked w next who j request quiet asked = quiet_served w next who j asked.reply request quiet asked.served

all_quiet : (these : List Request) (w end : World) (who j : ℕ) → All IsQuiet these → AreRequestsAnswered w who these end → probes_of end j ≤ probes_of w j
all_quiet [] w end who j quiet same = same_made w end w j same refl
all_quiet (request ∷ these) w end who j quiet (next, asked, rest) =
    let first = quiet_asked w next who j request (All-head IsQuiet request these quiet) asked in
    let others = all_quiet these next end who j (All-tail IsQuiet request these quiet) rest in
    omega (arith, first, others)

-- the input makes none
pub input_made_none : (flights number : ℕ) (end : World) → AreRequestsAnswered opening_world 0 (inputs flights number) end → probes_of end 1 ≡ 0
input_made_none flights number end asked =
    let quiet = all_inputs IsQuiet flights number (λ k below. tt) tt tt (λ n. tt) tt in
    let within = all_quiet (inputs flights number) opening_world end 0 1 quiet asked in
    let none : probes_of opening_world 1 ≡ 0 = none_made 16 1 in
    omega (arith, within, none)

first_made : (items : List AdviceItem) (w end : World) → IsFirstAccepted w items end → probes_of end 1 ≤ probes_of w 1
first_made [] w end same = same_made w end w 1 same refl
first_made (item ∷ items) w end asked = quiet_asked w end 1 1 (requests.Accept item.probe) tt asked

taking_made : (reply : Reply) (w end : World) → IsAdviceTaken w reply end → probes_of end 1 ≤ probes_of w 1
taking_made (Advice advice call eff version) w end is = first_made advice w end is
taking_made reply w end same = same_made w end w 1 same refl

advised_made : (w end : World) (call : List ℕ) → IsAdvisedFlight w call end → probes_of end 1 ≤ probes_of w 1 + 16
advised_made w end call is =
    let first = quiet_asked w is.taken 1 1 requests.Take tt is.takes in
    let more = advice_made is.taken is.advised 1 1 call is.advice is.asks in
    let last = taking_made is.advice is.advised end is.accepts in
    omega (arith, first, more, last)

-- so many flights advised make at most sixteen probes each
pub each_made : (n : ℕ) (w end : World) → EachDivided IsAdvisedFlight 8 n w end → probes_of end 1 ≤ probes_of w 1 + 16 * n
unfolding EachDivided
each_made zero w end same = let kept = same_made w end w 1 same refl in omega (arith, kept)
each_made (suc n) w end (middle, before, last) =
    let so_far = each_made n w middle before in
    on_either (nat_eq (n % 8) 0) _ _ _ (λ does. let more = advised_made middle end (callsign n) does in omega (arith, so_far, more))
    (λ same. let kept = same_made middle end middle 1 same refl in omega (arith, so_far, kept)) last
