-- A record that no entry names stays, and so what a usable prep leaves is what is left now.
use Rattle.std.proofs.Common.{◌≡◌, ◌≢◌, ℕ, zero, suc, ◌+◌, ◌-◌, ◌<◌, ◌≤◌, ◌⊎◌, inl, inr, ⊎_elim, ◌↔◌, true, not, List, [], ◌∷◌, ◌++◌, length, map, take, slice_get, get_or, Contains, Option, Some, None, is_some, refl, sym, ◌∙◌, ap, subst, arith, Ok}
use Rattle.std.specs.Str.{bytes_eq}
use Rattle.std.specs.Prelude.{option_and_then}
use Rattle.std.proofs.lemmas.List.{take_all, take_more}
use Rattle.std.proofs.lemmas.List.Elements.{Contains-append_left, Contains-push_cases}
use Rattle.std.proofs.lemmas.Option.{slice_get-get_or}
use Rattle.mt_base.specs.declared.command.Command.{Command}
use Rattle.mt_base.specs.declared.command.Command.TheVariants.{Accept, Clear, Commit, Drop, External, Plan, Renew, Tentative, Tick, Withdraw}
use Rattle.mt_base.specs.declared.command.Command.TheVariants as commands
use Rattle.mt_base.specs.declared.command.Entry.{Entry}
use Rattle.mt_base.specs.declared.flight.Path.{Path}
use Rattle.mt_base.specs.declared.flight.Record.{Record}
use Rattle.mt_base.specs.Decision.{call_of, filled}
use Rattle.mt_base.specs.Effect.{changed, effect, records_after, state_of}
use Rattle.mt_base.specs.Picture.{State, flight_of}
use Rattle.mt_base.specs.Tables.{Setup}
use Rattle.mt_base.specs.WhatIf.{course_in}
use Rattle.mt_base.proofs.HistoryLemmas.{state_of-push}
use Rattle.mt_change.specs.Altered.{Alters, path_after}
use Rattle.mt_change.proofs.Alterations.{records_are}
use Rattle.mt_change.proofs.Changed.{changed_other}
use Rattle.mt_change.proofs.Filling.{filled_alters, filled_call}
use Rattle.mt_base.proofs.Members.{Contains-filter, Contains-map, Contains-map_cases}
use Rattle.mt_probe.specs.Prepared.{IsLeftByEntry, IsPrepared, MakesStrand, Prepared, flight_left, judged_aside}
use Rattle.mt_probe.specs.Shot.{Shot, records_in}
use Rattle.mt_probe.specs.Shot.{state_in_shot as state_in}
use Rattle.mt_probe.specs.Standing.{IsSoundShot}
use Rattle.mt_probe.proofs.Left.{found_call, found_changed, planned_flight}
use Rattle.mt_probe.proofs.Placed.{filled_inside, found_there, record_placed}
use Rattle.mt_probe.proofs.Short.{found_in}
use Rattle.mt_picture.specs.Stamps.{IsFiling}
use Rattle.mt_picture.specs.Story.{IsNamedAfter, IsPrepFor, IsPreparedFor, IsUsable, Story}
use Rattle.mt_picture.proofs.Entered.{apart_false, filed_unique}

-- a record of another callsign stays, and was there before
changed_in : (call : List ℕ) (change : Path → Path) (rs : List Record) (r : Record) → r.call ≢ call → Contains rs r → Contains (map (changed call change) rs) r
changed_in call change rs r other held =
    subst (Contains (map (changed call change) rs)) (changed_other call change r (apart_false r call other)) (Contains-map (changed call change) rs r held)

changed_from : (call : List ℕ) (change : Path → Path) (rs : List Record) (r : Record) → r.call ≢ call → Contains (map (changed call change) rs) r → Contains rs r
changed_from call change rs r other held =
    let x = Contains-map_cases (changed call change) rs r held in
    let same_call : x.of.call ≡ r.call = ap (λ (q : Record). q.call) x.is in
    let same : x.of ≡ r = sym (changed_other call change x.of (apart_false x.of call (λ e. other (sym same_call ∙ e)))) ∙ x.is in
    subst (Contains rs) same x.held

filed_from : (rs : List Record) (new r : Record) → new.call ≢ r.call → Contains (rs ++ new ∷ []) r → Contains rs r
filed_from rs new r other held = ⊎_elim (λ before. before) (λ same. absurd (other (ap (λ (q : Record). q.call) same))) (Contains-push_cases rs new r held)

abbrev SameRecord : Setup → ℕ → Command → List Record → Record → Type 0
SameRecord setup who c rs r = Contains rs r ↔ Contains (records_after setup who c rs) r

altered_same : (setup : Setup) (who : ℕ) (c : Command) (call : List ℕ) (rs : List Record) (r : Record) → Alters c → call_of c ≡ Some call → call_of c ≢ Some r.call
    → SameRecord setup who c rs r
altered_same setup who c call rs r alters named other =
    let away : r.call ≢ call = λ same. other (named ∙ ap Some (sym same)) in
    let all = records_are setup who c call rs alters named in (
      (λ held. subst (λ (qs : List Record). Contains qs r) (sym all) (changed_in call (path_after setup who c) rs r away held)),
      (λ held. changed_from call (path_after setup who c) rs r away (subst (λ (qs : List Record). Contains qs r) all held)),
    )

same_after : (setup : Setup) (who : ℕ) (c : Command) (rs : List Record) (r : Record) → call_of c ≢ Some r.call → SameRecord setup who c rs r
same_after setup who (Plan call kind route at from level rvsm) rs r other =
    ((λ held. Contains-append_left rs _ r held), (λ held. filed_from rs _ r (λ same. other (ap Some same)) held))
same_after setup who (External call straight) rs r other =
    ((λ held. Contains-append_left rs _ r held), (λ held. filed_from rs _ r (λ same. other (ap Some same)) held))
same_after setup who (Drop call) rs r other =
    let e = apart_false r call (λ same. other (ap Some (sym same))) in (
      (λ held. (Contains-filter (λ f. not (bytes_eq f.call call)) rs r).1 (held, ap not e)),
      (λ held. ((Contains-filter (λ f. not (bytes_eq f.call call)) rs r).0 held).0),
    )
same_after setup who (Tick now) rs r other = ((λ held. held), (λ held. held))
same_after setup who (commands.Report call report) rs r other = altered_same setup who (commands.Report call report) call rs r tt refl other
same_after setup who (Renew call) rs r other = altered_same setup who (Renew call) call rs r tt refl other
same_after setup who (Clear call clearance eff) rs r other = altered_same setup who (Clear call clearance eff) call rs r tt refl other
same_after setup who (Accept call clearance eff probed) rs r other = altered_same setup who (Accept call clearance eff probed) call rs r tt refl other
same_after setup who (Tentative call clearance eff) rs r other = altered_same setup who (Tentative call clearance eff) call rs r tt refl other
same_after setup who (Withdraw call force) rs r other = altered_same setup who (Withdraw call force) call rs r tt refl other
same_after setup who (Commit call) rs r other = altered_same setup who (Commit call) call rs r tt refl other

-- a record with a callsign that no entry after version v names is the same in each later state
one_more : (setup : Setup) (h : List Entry) (w : ℕ) (e : Entry) (r : Record) → w < length h → slice_get h w ≡ Some e → call_of e.command ≢ Some r.call
    → Contains (state_of setup (take w h)).records r ↔ Contains (state_of setup (take (w + 1) h)).records r
one_more setup h w e r below is other =
    let found : get_or h w e ≡ e = let g = slice_get-get_or h w e below in cc in
    let more : take (w + 1) h ≡ take w h ++ e ∷ [] = take_more h w e below ∙ ap (λ (x : Entry). take w h ++ x ∷ []) found in
    let after : state_of setup (take (w + 1) h) ≡ effect setup (state_of setup (take w h)) e = ap (state_of setup) more ∙ state_of-push setup (take w h) e in
    let same = same_after setup e.who e.command (state_of setup (take w h)).records r other in (
      (λ held. subst (λ (s : State). Contains s.records r) (sym after) (same.0 held)),
      (λ held. same.1 (subst (λ (s : State). Contains s.records r) after held)),
    )

same_record : (setup : Setup) (h : List Entry) (v n : ℕ) (r : Record) → v + n ≤ length h → ¬ IsNamedAfter h v r.call
    → Contains (state_of setup (take v h)).records r ↔ Contains (state_of setup (take (v + n) h)).records r
same_record setup h v zero r within none = let same : v + 0 ≡ v = omega arith in rw same ((λ held. held), (λ held. held))
same_record setup h v (suc n) r within none =
    let so_far = same_record setup h v n r (omega arith) none in
    let w = v + n in
    let below : w < length h = omega arith in
    let d : Entry = get_or h w (record { who = 0; command = Tick 0 }) in
    let is : slice_get h w ≡ Some d = slice_get-get_or h w (record { who = 0; command = Tick 0 }) below in
    let other : call_of d.command ≢ Some r.call = λ names. none (record { place = w; entry = d; later = omega arith; is = is; names = names }) in
    let one = one_more setup h w d r below is other in
    let next : v + suc n ≡ w + 1 = omega arith in
    subst (λ (m : ℕ). Contains (state_of setup (take v h)).records r ↔ Contains (state_of setup (take m h)).records r) (sym next)
    ((λ held. one.0 (so_far.0 held)), (λ held. so_far.1 (one.1 held)))

record_now : (setup : Setup) (h : List Entry) (v : ℕ) (r : Record) → v ≤ length h → ¬ IsNamedAfter h v r.call
    → Contains (state_of setup (take v h)).records r ↔ Contains (state_of setup h).records r
record_now setup h v r within none =
    let n = length h - v in
    let e : v + n ≡ length h = omega arith in
    let all : take (v + n) h ≡ h = take_all (v + n) h (omega arith) in
    subst (λ (g : List Entry). Contains (state_of setup (take v h)).records r ↔ Contains (state_of setup g).records r) all (same_record setup h v n r (omega arith) none)

-- so it is the same on a snapshot now
found_now : (shot : Shot) (h : List Entry) (v : ℕ) (call : List ℕ) (r : Record) → IsSoundShot shot → state_in shot ≡ state_of shot.setup h → v ≤ length h
    → ¬ IsNamedAfter h v call → flight_of (state_of shot.setup (take v h)).records call ≡ Some r → flight_of (records_in shot.slots) call ≡ Some r
found_now shot h v call r sound stands within unnamed is =
    let own = found_call call (state_of shot.setup (take v h)).records r is in
    let held = found_in call (state_of shot.setup (take v h)).records r is in
    let now = (record_now shot.setup h v r within (λ named. unnamed (subst (λ (k : List ℕ). IsNamedAfter h v k) own named))).0 held in
    let here : Contains (records_in shot.slots) r = subst (λ (s : State). Contains s.records r) (sym stands) now in
    let p = record_placed shot.slots r here in
    found_there shot p.place p.flight call sound (filled_inside shot.slots p.place p.flight p.at) p.at (ap (λ (q : Record). q.call) p.card_is ∙ own) ∙ ap Some p.card_is

-- what a command leaves is the same for the actor that it was prepared for
path_alike : (setup : Setup) (who whom now : ℕ) (c : Command) (path : Path) → IsPreparedFor c who whom
    → path_after setup whom (filled now c) path ≡ path_after setup who (filled now c) path
path_alike setup who whom now (Tentative call clearance eff) path same = ap (λ (w : ℕ). path_after setup w (filled now (Tentative call clearance eff)) path) same
path_alike setup who whom now c path same = refl

-- what is left of a flight that is altered
left_of_one : (setup : Setup) (s : State) (who : ℕ) (c : Command) (call : List ℕ) (r card : Record) → Alters c → call_of c ≡ Some call
    → flight_of s.records call ≡ Some r → flight_left setup s who c ≡ Some card → record { call = r.call; path = path_after setup who (filled s.now c) r.path } ≡ card
left_of_one setup s who c call r card alters named found left =
    let change = path_after setup who (filled s.now c) in
    let all = records_are setup who (filled s.now c) call s.records (filled_alters s.now c alters) (filled_call s.now c ∙ named) in
    let here : flight_of (records_after setup who (filled s.now c) s.records) call ≡ Some card =
    subst (λ (o : Option (List ℕ)). option_and_then (flight_of (records_after setup who (filled s.now c) s.records)) o ≡ Some card) named left in
    let new : Record = record { call = r.call; path = change r.path } in
    let both : Some new ≡ Some card = sym (found_changed call change s.records r found) ∙ ap (λ (qs : List Record). flight_of qs call) (sym all) ∙ here in
    cc

some_is : (o : Option Record) → is_some (course_in o) ≡ true → (r : Record) × (o ≡ Some r)
some_is None is = absurd (cc)
some_is (Some r) is = (r, refl)

-- a command that makes a trajectory files a flight or alters one
files_or_alters : (c : Command) → MakesStrand c → IsFiling c ⊎ Alters c
files_or_alters (Plan call kind route at from level rvsm) makes = inl tt
files_or_alters (External call straight) makes = inl tt
files_or_alters (Drop call) makes = absurd makes
files_or_alters (commands.Report call report) makes = absurd makes
files_or_alters (Tick next) makes = absurd makes
files_or_alters (Withdraw call force) makes = absurd makes
files_or_alters c makes = inr tt

-- what is prepared of a command, on the state that it was prepared on
record IsLeftThen (setup : Setup) (s : State) (whom : ℕ) (c : Command) (card : Record) : Type 0 where
  passed : judged_aside setup s whom c ≡ Ok (tt {0})
  card_is : flight_left setup s whom c ≡ Some card

left_then : (story : Story) (who : ℕ) (c : Command) (p : Prepared) → IsPrepFor story who c p → IsPrepared p
    → IsLeftThen story.setup (state_of story.setup (take p.state.version story.history)) p.who c p.card
left_then story who c p for kept =
    let one : IsLeftThen p.setup p.state p.who p.command p.card = record { passed = kept.passed; card_is = kept.card_is } in
    subst (λ (s : State). IsLeftThen story.setup s p.who c p.card) for.state_is
    (subst (λ (u : Setup). IsLeftThen u p.state p.who c p.card) for.setup_is
    (subst (λ (d : Command). IsLeftThen p.setup p.state p.who d p.card) for.command_is one))

-- the flight of a prep has the callsign that its command names
pub prep_call : (story : Story) (who : ℕ) (c : Command) (p : Prepared) (call : List ℕ) → IsPrepFor story who c p → IsPrepared p → call_of c ≡ Some call → p.card.call ≡ call
prep_call story who c p call for kept named =
    let both : Some p.card.call ≡ Some call = sym kept.call_is ∙ ap call_of for.command_is ∙ named in
    cc

pub usable_card : (shot : Shot) (h : List Entry) (who : ℕ) (c : Command) (p : Prepared) (card : Record) → IsSoundShot shot → state_in shot ≡ state_of shot.setup h
    → IsPrepFor (record { setup = shot.setup; history = h }) who c p → IsPrepared p → IsUsable (record { setup = shot.setup; history = h }) c p
    → IsLeftByEntry shot.setup (state_in shot) who c card → card ≡ p.card
usable_card shot h who c p card sound stands for kept usable left = ⊎_elim files alters (files_or_alters c for.makes) where
  v : ℕ
  v = p.state.version

  s : State
  s = state_of shot.setup (take v h)

  before : IsLeftThen shot.setup s p.who c p.card
  before = left_then (record { setup = shot.setup; history = h }) who c p for kept

  files : IsFiling c → card ≡ p.card
  files filing = filed_unique shot.setup (state_in shot) s who p.who c card p.card filing left.passed left.card_is before.passed before.card_is

  alters : Alters c → card ≡ p.card
  alters change =
      let call = card.call in
      let planned = planned_flight shot.setup s p.who c call change before.passed left.call_is in
      let r = some_is (flight_of s.records call) planned in
      let here = some_is (flight_of (records_in shot.slots) call) (planned_flight shot.setup (state_in shot) who c call change left.passed left.call_is) in
      let some : is_some (flight_of (records_in shot.slots) call) ≡ true = rw here.1 refl in
      let there : is_some (flight_of (state_of shot.setup h).records call) ≡ true = subst (λ (q : State). is_some (flight_of q.records call) ≡ true) stands some in
      let unnamed : ¬ IsNamedAfter h v call = λ named. usable.same_flight call left.call_is (record { there = there; named = named }) in
      let now = found_now shot h v call r.0 sound stands for.within unnamed r.1 in
      let one = left_of_one shot.setup (state_in shot) who c call r.0 card change left.call_is now left.card_is in
      let other = left_of_one shot.setup s p.who c call r.0 p.card change left.call_is r.1 before.card_is in
      let moment : filled s.now c ≡ filled shot.now c =
      ap (λ (q : State). filled q.now c) (sym for.state_is) ∙ usable.same_moment ∙ ap (λ (q : State). filled q.now c) (sym stands) in
      let paths : path_after shot.setup p.who (filled s.now c) r.0.path ≡ path_after shot.setup who (filled shot.now c) r.0.path =
      ap (λ (d : Command). path_after shot.setup p.who d r.0.path) moment ∙ path_alike shot.setup who p.who shot.now c r.0.path for.who_is in
      sym one ∙ ap (λ (path : Path). record { call = r.0.call; path = path }) (sym paths) ∙ other
