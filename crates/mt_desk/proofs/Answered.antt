-- What a hand answers, of what was taken in the turn and worked on outside of it.
use Rattle.std.proofs.Common.{◌≡◌, ℕ, List, [], append-nil, length, map, take, All, Option, Some, None, Result, Ok, Err, refl, sym, ap, ◌∙◌, subst, arith}
use Rattle.std.specs.Prelude.{IfErr, IfOk, option_map, unwrap_or}
use Rattle.std.proofs.lemmas.List.{length-map, take_all}
use Rattle.std.proofs.lemmas.List.Elements.{All-weaker}
use Rattle.std.proofs.lemmas.Result.{IfOk-weaker}
use Rattle.mt_base.specs.declared.clearance.Clearance.{Clearance}
use Rattle.mt_base.specs.declared.command.Command.{Command}
use Rattle.mt_base.specs.declared.command.Refusal.TheVariants.{UnknownCall}
use Rattle.mt_base.specs.declared.conflict.Conflict.{Conflict}
use Rattle.mt_base.specs.declared.flight.FlightView.{FlightView}
use Rattle.mt_base.specs.declared.flight.Path.{Path}
use Rattle.mt_base.specs.declared.flight.Path.TheVariants.{Outer, Planned}
use Rattle.mt_base.specs.declared.flight.Record.{Record}
use Rattle.mt_base.specs.declared.hit.Hit.{Hit}
use Rattle.mt_base.specs.Advice.{IsAdvice}
use Rattle.mt_base.specs.Effect.{state_of}
use Rattle.mt_base.specs.History.{WasFree}
use Rattle.mt_base.specs.Picture.{IsPublished, State, flight_of}
use Rattle.mt_base.specs.Settled.{due_calls}
use Rattle.mt_base.specs.Tables.{Setup}
use Rattle.mt_base.specs.Trajectory.{Trajectory}
use Rattle.mt_base.specs.View.{view_of, view_of_path}
use Rattle.mt_base.specs.WhatIf.{IsWhatIf}
use Rattle.mt_base.proofs.HistoryLemmas.{version_is}
use Rattle.mt_board.specs.declared.ask.Answer.TheVariants as answers
use Rattle.mt_board.specs.declared.ask.Ask.TheVariants as asks
use Rattle.mt_board.specs.declared.no.No.{No}
use Rattle.mt_board.specs.declared.no.No.TheVariants.{Memory, Refused}
use Rattle.mt_board.specs.Asking.{IsRead}
use Rattle.mt_board.specs.Changing.{IsChanged}
use Rattle.mt_board.specs.Probing.{IsAdvised, IsNotAdvised, IsNotProbed, IsPast, IsProbed, acceptance}
use Rattle.mt_board.specs.BoardSeat.{BoardSeat, HasLooked, HasSeen, state_seen}
use Rattle.mt_picture.specs.Story.{IsPrepGivenFor}
use Rattle.mt_picture.proofs.Given.{prepared_for}
use Rattle.mt_probe.specs.Hits.{IsProbe, IsTried, IsUnprobed, Trial, told_of}
use Rattle.mt_probe.specs.Prepared.{IsPrepOf, IsRefusedOn, MakesStrand, Prepared, judged_aside}
use Rattle.mt_probe.specs.Shot.{Shot}
use Rattle.mt_probe.specs.Shot.{state_in_shot as state_in}
use Rattle.mt_probe.proofs.Aside.{aside_refused}
use Rattle.mt_snapshot.specs.Advised.{IsAdvisedOn, IsFreeFor, IsNotAdvisedOn}
use Rattle.mt_desk.specs.Desk.{Hand, seat_of}
use Rattle.mt_desk.specs.Private.Taken.{StandsFor}

-- ---- a snapshot that stands for what a seat has seen

-- its version is that of the seat
counted : (t : BoardSeat) (shot : Shot) → StandsFor t shot → shot.version ≡ length t.seen
counted t shot for = ap (λ (s : State). s.version) for.state_is ∙ version_is t.fixed t.seen

-- what holds of its state holds of that which the seat has seen
there : (P : Setup → State → Type 0) (t : BoardSeat) (shot : Shot) → StandsFor t shot → P shot.setup (state_in shot) → P t.fixed (state_seen t)
there P t shot for x = subst (λ (f : Setup). P f (state_seen t)) for.setup_is (subst (λ (s : State). P shot.setup s) for.state_is x)

-- the seat has seen the history of that version
pub seen_at : (s t : BoardSeat) (version : ℕ) → HasSeen s t (length t.seen) → version ≡ length t.seen → HasSeen s t version
seen_at s t version seen is = record { looked = seen.looked; version_is = is; sound = seen.sound }

-- a seat that looks at nothing
pub unlooked : (s : BoardSeat) → HasLooked s s
unlooked s = record { same = record { number = refl; fixed = refl }; begins = ([], sym (append-nil s.seen)); own = refl; mine = refl }

-- what it has seen it sees again
pub seen_again : (s t : BoardSeat) (version : ℕ) → HasSeen s t version → HasSeen t t version
seen_again s t version seen = record { looked = unlooked t; version_is = seen.version_is; sound = seen.sound }

-- Its state is that of the first entries that the seat has seen, as many as its version says: of all.
past_taken : (t : BoardSeat) (shot : Shot) (fixed : Setup) (state : State) → StandsFor t shot → fixed ≡ shot.setup → state ≡ state_in shot
    → IsPast t fixed state state.version
past_taken t shot fixed state for same is =
    let all : state ≡ state_seen t = is ∙ for.state_is in
    let version : state.version ≡ length t.seen = ap (λ (s : State). s.version) all ∙ version_is t.fixed t.seen in
    record {
      same = same ∙ for.setup_is;
      past = omega (arith, version);
      state_is = all ∙ ap (state_of t.fixed) (sym (take_all state.version t.seen (omega (arith, version))));
    }

-- ---- commands

-- what is prepared on it is a prep of what the seat has seen
pub given_taken : (t : BoardSeat) (shot : Shot) (who : ℕ) (c : Command) (p : Prepared) → StandsFor t shot → MakesStrand c → IsPrepOf shot who c p
    → IsPrepGivenFor (record { setup = t.fixed; history = t.seen }) who c (Some p)
given_taken t shot who c p for makes prep =
    let past = past_taken t shot p.setup p.state for prep.setup_is prep.state_is in
    record {
      makes = makes;
      setup_is = past.same;
      command_is = prep.command_is;
      who_is = prepared_for c who p.who prep.who_is;
      within = past.past;
      state_is = past.state_is;
    }

-- what is refused where it is prepared is refused
pub not_prepared : (s t : BoardSeat) (shot : Shot) (c : Command) (denied : No) → HasSeen s t (length t.seen) → StandsFor t shot → MakesStrand c
    → IsRefusedOn shot t.number c denied → IsChanged s c (Err denied) t
not_prepared s t shot c (Refused refusal version) seen for makes d = (
  seen_at s t version seen (d.1 ∙ counted t shot for),
  aside_refused t.fixed (state_seen t) t.number c refusal seen.sound.rules makes
      (there (λ (f : Setup) (x : State). judged_aside f x t.number c ≡ Err refusal) t shot for d.0),
)
not_prepared s t shot c Memory seen for makes d = seen.looked

-- ---- probes

probed_taken : (s t : BoardSeat) (shot : Shot) (call : List ℕ) (clearance : Clearance) (eff : Option ℕ) (p : Trial) → HasSeen s t (length t.seen)
    → StandsFor t shot → IsProbe shot call clearance eff p → IsProbed s t call clearance eff (told_of p)
probed_taken s t shot call clearance eff p seen for is = record {
  seen = seen_at s t p.shot.version seen (ap (λ (x : Shot). x.version) is.shot_is ∙ counted t shot for);
  call_is = is.call_is;
  clearance_is = is.clearance_is;
  eff_is = is.eff_is ∙ ap (λ (x : State). unwrap_or eff x.now) for.state_is;
  follows = there (λ (f : Setup) (x : State). IsWhatIf f x call clearance eff (Ok p.hits)) t shot for is.hits_are;
}

past_probed : (t : BoardSeat) (shot : Shot) (call : List ℕ) (clearance : Clearance) (eff : Option ℕ) (p : Trial) → StandsFor t shot
    → IsProbe shot call clearance eff p → IsPast t p.shot.setup (state_in p.shot) (told_of p).version
past_probed t shot call clearance eff p for is = past_taken t shot p.shot.setup (state_in p.shot) for (ap (λ (x : Shot). x.setup) is.shot_is) (ap state_in is.shot_is)

unprobed_taken : (s t : BoardSeat) (shot : Shot) (call : List ℕ) (clearance : Clearance) (eff : Option ℕ) (denied : No) → HasSeen s t (length t.seen)
    → StandsFor t shot → IsUnprobed shot call clearance eff denied → IsNotProbed s t call clearance eff denied
unprobed_taken s t shot call clearance eff (Refused refusal version) seen for d = (
  seen_at s t version seen (d.1 ∙ counted t shot for),
  there (λ (f : Setup) (x : State). IsWhatIf f x call clearance eff (Err refusal)) t shot for d.0,
)
unprobed_taken s t shot call clearance eff Memory seen for d = seen.looked

-- what is answered of a clearance that is tried on it
module _ (s t : BoardSeat) (shot : Shot) (call : List ℕ) (clearance : Clearance) (eff : Option ℕ) (result : Result Trial No) (seen : HasSeen s t (length t.seen))
    (for : StandsFor t shot) where
  pub probed : IfOk result (IsProbe shot call clearance eff) → IfOk result (λ p. IsProbed s t call clearance eff (told_of p))
  probed = IfOk-weaker result (IsProbe shot call clearance eff) (λ p. IsProbed s t call clearance eff (told_of p))
      (λ p is. probed_taken s t shot call clearance eff p seen for is)

  pub probed_past : IfOk result (IsProbe shot call clearance eff) → IfOk result (λ p. IsPast t p.shot.setup (state_in p.shot) (told_of p).version)
  probed_past = IfOk-weaker result (IsProbe shot call clearance eff) (λ p. IsPast t p.shot.setup (state_in p.shot) (told_of p).version)
      (λ p is. past_probed t shot call clearance eff p for is)

  pub unprobed : IfErr result (IsUnprobed shot call clearance eff) → IfErr result (IsNotProbed s t call clearance eff)
  unprobed = by result where
    by : (r : Result Trial No) → IfErr r (IsUnprobed shot call clearance eff) → IfErr r (IsNotProbed s t call clearance eff)
    by (Ok p) d = tt
    by (Err denied) d = unprobed_taken s t shot call clearance eff denied seen for d

-- ---- advice

advised_taken : (s t : BoardSeat) (shot : Shot) (call : List ℕ) (eff version : ℕ) (probes : List Trial) → HasSeen s t (length t.seen) → StandsFor t shot
    → IsAdvisedOn shot call eff version probes → IsAdvised s t call eff version (map told_of probes)
advised_taken s t shot call eff version probes seen for is = record {
  seen = seen_at s t version seen (is.version_is ∙ counted t shot for);
  eff_is = is.eff_is ∙ ap (λ (x : State). x.now) for.state_is;
  clearances = is.clearances;
  advice = there (λ (f : Setup) (x : State). IsAdvice f x call (Ok is.clearances)) t shot for is.advice;
  probes_are = is.told;
  few = rw (length-map probes told_of) is.few;
}

pasts_advised : (t : BoardSeat) (shot : Shot) (call : List ℕ) (eff version : ℕ) (probes : List Trial) → StandsFor t shot
    → IsAdvisedOn shot call eff version probes → All (λ p. IsPast t p.shot.setup (state_in p.shot) (told_of p).version) probes
pasts_advised t shot call eff version probes for is =
    All-weaker (IsFreeFor shot call) (λ p. IsPast t p.shot.setup (state_in p.shot) (told_of p).version)
    (λ p free. past_probed t shot call p.clearance None p for free.probe) probes is.each

unadvised_taken : (s t : BoardSeat) (shot : Shot) (call : List ℕ) (denied : No) → HasSeen s t (length t.seen) → StandsFor t shot
    → IsNotAdvisedOn shot call denied → IsNotAdvised s t call denied
unadvised_taken s t shot call (Refused refusal version) seen for d =
    (seen_at s t version seen (d.1 ∙ counted t shot for), there (λ (f : Setup) (x : State). IsAdvice f x call (Err refusal)) t shot for d.0)
unadvised_taken s t shot call Memory seen for d = seen.looked

-- what is answered where advice is asked for on it, of whatever holds the second, the version and the probes
module _ {A : Type 0} (second number : A → ℕ) (tried : A → List Trial) (s t : BoardSeat) (shot : Shot) (call : List ℕ) (result : Result A No)
    (seen : HasSeen s t (length t.seen)) (for : StandsFor t shot) where
  pub advised : IfOk result (λ a. IsAdvisedOn shot call (second a) (number a) (tried a))
      → IfOk result (λ a. IsAdvised s t call (second a) (number a) (map told_of (tried a)))
  advised = IfOk-weaker result (λ a. IsAdvisedOn shot call (second a) (number a) (tried a))
      (λ a. IsAdvised s t call (second a) (number a) (map told_of (tried a)))
      (λ a is. advised_taken s t shot call (second a) (number a) (tried a) seen for is)

  pub advised_past : IfOk result (λ a. IsAdvisedOn shot call (second a) (number a) (tried a))
      → IfOk result (λ a. All (λ p. IsPast t p.shot.setup (state_in p.shot) (told_of p).version) (tried a))
  advised_past = IfOk-weaker result (λ a. IsAdvisedOn shot call (second a) (number a) (tried a))
      (λ a. All (λ p. IsPast t p.shot.setup (state_in p.shot) (told_of p).version) (tried a))
      (λ a is. pasts_advised t shot call (second a) (number a) (tried a) for is)

  pub unadvised : IfErr result (IsNotAdvisedOn shot call) → IfErr result (IsNotAdvised s t call)
  unadvised = by result where
    by : (r : Result A No) → IfErr r (IsNotAdvisedOn shot call) → IfErr r (IsNotAdvised s t call)
    by (Ok a) d = tt
    by (Err denied) d = unadvised_taken s t shot call denied seen for d

-- ---- reads

pub check_taken : (s t : BoardSeat) (shot : Shot) (conflicts : List Conflict) (version : ℕ) → HasSeen s t (length t.seen) → StandsFor t shot
    → IsPublished shot.setup (state_in shot) conflicts → version ≡ shot.version → IsRead s asks.Check (Ok (answers.Check conflicts version)) t
check_taken s t shot conflicts version seen for is named =
    (seen_at s t version seen (named ∙ counted t shot for), there (λ (f : Setup) (x : State). IsPublished f x conflicts) t shot for is)

pub due_taken : (s t : BoardSeat) (shot : Shot) (calls : List (List ℕ)) (version : ℕ) → HasSeen s t (length t.seen) → StandsFor t shot
    → calls ≡ due_calls (state_in shot).records → version ≡ shot.version → IsRead s asks.Due (Ok (answers.Due calls version)) t
due_taken s t shot calls version seen for is named =
    (seen_at s t version seen (named ∙ counted t shot for), is ∙ ap (λ (x : State). due_calls x.records) for.state_is)

-- what is told of a flight names the version of the state
path_version : (call : List ℕ) (path : Path) (t : Trajectory) (k version : ℕ) → (view_of_path call path t k version).version ≡ version
path_version call (Planned course) t k version = refl
path_version call (Outer stretch) t k version = refl

told_version : (f : Setup) (x : State) (sec : Option ℕ) (found : Option Record) (view : FlightView) → option_map (view_of f x sec) found ≡ Some view
    → view.version ≡ x.version
told_version f x sec (Some flight) view is =
    let same : view ≡ view_of f x sec flight = cc in
    ap (λ (v : FlightView). v.version) same ∙ path_version flight.call flight.path _ _ x.version
told_version f x sec None view is = cc

-- A flight, where there is one.
pub flight_taken : (s t : BoardSeat) (shot : Shot) (call : List ℕ) (sec : Option ℕ) (view : FlightView) → HasSeen s t (length t.seen) → StandsFor t shot
    → option_map (view_of shot.setup (state_in shot) sec) (flight_of (state_in shot).records call) ≡ Some view
    → IsRead s (asks.Flight call sec) (Ok (answers.Flight view)) t
flight_taken s t shot call sec view seen for is = (
  seen_at s t view.version seen (told_version shot.setup (state_in shot) sec _ view is ∙ counted t shot for),
  there (λ (f : Setup) (x : State). option_map (view_of f x sec) (flight_of x.records call) ≡ Some view) t shot for is,
)

none_found : (f : Setup) (x : State) (sec : Option ℕ) (found : Option Record) → option_map (view_of f x sec) found ≡ None → found ≡ None
none_found f x sec (Some flight) is = cc
none_found f x sec None is = refl

-- or none
pub no_flight_taken : (s t : BoardSeat) (shot : Shot) (call : List ℕ) (sec : Option ℕ) (version : ℕ) → HasSeen s t (length t.seen) → StandsFor t shot
    → option_map (view_of shot.setup (state_in shot) sec) (flight_of (state_in shot).records call) ≡ None → version ≡ shot.version
    → IsRead s (asks.Flight call sec) (Err (Refused (UnknownCall call) version)) t
no_flight_taken s t shot call sec version seen for is named =
    let none = none_found shot.setup (state_in shot) sec (flight_of (state_in shot).records call) is in
    (seen_at s t version seen (named ∙ counted t shot for), (subst (λ (x : State). flight_of x.records call ≡ None) for.state_is none, refl))

-- ---- acceptances

-- What is prepared for the acceptance of a probe of what a hand's seat has seen is a prep of that.
pub probed_given : (h k : Hand) (p : Trial) (prep : Prepared) (c : Command) → h ≡ k → c ≡ prep.command → IsPrepOf p.shot 0 (acceptance (told_of p)) prep
    → IsPast (seat_of k.desk.fixed k.view) p.shot.setup (state_in p.shot) (told_of p).version
    → IsPrepGivenFor (record { setup = h.desk.fixed; history = h.view.seen }) h.view.number c (Some prep)
probed_given h k p prep c same is of past =
    let version : prep.state.version ≡ p.shot.version = ap (λ (s : State). s.version) of.state_is in
    let there : IsPrepGivenFor (record { setup = k.desk.fixed; history = k.view.seen }) k.view.number (acceptance (told_of p)) (Some prep) = record {
      makes = tt;
      setup_is = of.setup_is ∙ past.same;
      command_is = of.command_is;
      who_is = tt;
      within = omega (arith, version, past.past);
      state_is = of.state_is ∙ past.state_is ∙ ap (λ (n : ℕ). state_of k.desk.fixed (take n k.view.seen)) (sym version);
    } in
    subst (λ (d : Command). IsPrepGivenFor (record { setup = h.desk.fixed; history = h.view.seen }) h.view.number d (Some prep)) (sym (is ∙ of.command_is))
    (subst (λ (j : Hand). IsPrepGivenFor (record { setup = j.desk.fixed; history = j.view.seen }) j.view.number (acceptance (told_of p)) (Some prep)) (sym same) there)

-- A probe without hits, of what a hand's seat has seen, was free there.
pub probed_free : (h k : Hand) (p : Trial) (c : Command) → h ≡ k → c ≡ acceptance (told_of p) → IsTried p
    → IsPast (seat_of k.desk.fixed k.view) p.shot.setup (state_in p.shot) (told_of p).version → p.hits ≡ [] → WasFree h.desk.fixed h.view.seen c
probed_free h k p c same is tried past none =
    let free = subst (λ (hits : List Hit). IsWhatIf p.shot.setup (state_in p.shot) p.call p.clearance (Some p.eff) (Ok hits)) none tried.follows in
    let state = subst (λ (x : State). IsWhatIf p.shot.setup x p.call p.clearance (Some p.eff) (Ok [])) past.state_is free in
    let there = subst (λ (f : Setup). IsWhatIf f (state_of k.desk.fixed (take p.shot.version k.view.seen)) p.call p.clearance (Some p.eff) (Ok []))
    past.same state in
    subst (λ (j : Hand). WasFree j.desk.fixed j.view.seen c) (sym same) (subst (λ (d : Command). WasFree k.desk.fixed k.view.seen d) (sym is) there)
