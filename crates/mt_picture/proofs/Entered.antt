-- What a command leaves of the flight that it names, as it is put into a slot.
use Rattle.std.proofs.Common.{◌≡◌, ◌≢◌, Bool, true, false, ℕ, ◌+◌, ◌<◌, ◌≤◌, inl, List, [], ◌∷◌, ◌++◌, Option, Some, None, length, map, option_map, refl, sym, ◌∙◌, ap, ap₂, subst, arith, Ok}
use Rattle.std.proofs.lemmas.List.Folds.{find-append}
use Rattle.std.proofs.lemmas.Slice.Eq.{bytes_eq-Decides}
use Rattle.std.specs.Prelude.{option_and_then}
use Rattle.std.specs.Arc.{arc_value}
use Rattle.std.specs.Str.{bytes_eq}
use Rattle.mt_base.specs.declared.command.Command.{Command}
use Rattle.mt_base.specs.declared.command.Command.TheVariants.{Drop, External, Plan, Tick}
use Rattle.mt_base.specs.declared.conflict.Kind.{Kind}
use Rattle.mt_base.specs.declared.conflict.Kind.TheVariants as kinds
use Rattle.mt_base.specs.declared.flight.Mark.{Mark}
use Rattle.mt_base.specs.declared.flight.Path.{Path}
use Rattle.mt_base.specs.declared.flight.Path.TheVariants.{Outer, Planned}
use Rattle.mt_base.specs.declared.flight.Record.{Record}
use Rattle.mt_base.specs.Bounds.{IsSoundFlight}
use Rattle.mt_base.specs.Decision.{filled}
use Rattle.mt_base.specs.Effect.{changed, course_of, now_after, records_after}
use Rattle.mt_base.specs.Picture.{NamedTrajectory, State, flight_of, tentative_of, trajectory_of}
use Rattle.mt_base.specs.Tables.{Setup}
use Rattle.mt_base.specs.Trajectory.{Trajectory}
use Rattle.mt_change.specs.Altered.{Alters, path_after}
use Rattle.mt_change.proofs.Alterations.{records_are}
use Rattle.mt_change.proofs.Changed.{changed_one, changed_other}
use Rattle.mt_change.proofs.Filling.{filled_alters, filled_call}
use Rattle.mt_probe.specs.declared.flight.Flight.{Flight}
use Rattle.mt_probe.specs.declared.flight.Made.{Made}
use Rattle.mt_probe.specs.Items.{path_of}
use Rattle.mt_probe.specs.Prepared.{IsLeftByEntry, flight_left, judged_aside, marked_of, path_made}
use Rattle.mt_probe.specs.Putting.{IsFiledAt, records_put, replaced_if}
use Rattle.mt_probe.specs.Shot.{Shot, flight_at, made_named, records_in}
use Rattle.mt_probe.specs.Shot.{state_in_shot as state_in}
use Rattle.mt_probe.specs.Standing.{IsSoundEntry, IsSoundShot}
use Rattle.mt_probe.proofs.Left.{found_changed, passes}
use Rattle.mt_probe.proofs.Placed.{filled_inside, found_there}
use Rattle.mt_probe.proofs.Whole.{own_calls, replaced_alike}
use Rattle.mt_base.proofs.Cases.{is_none}
use Rattle.mt_picture.specs.Stamps.{IsFiling}
use Rattle.mt_picture.specs.Private.Places.{IsNewOrStays}
use Rattle.mt_picture.specs.Private.Putting.{IsFlightPut}
use Rattle.mt_picture.proofs.Making.{filing_kind, filing_makes, filled_files, filled_kind, filled_makes}

-- the flight in a slot, by its callsign
pub record IsThere (at : Option Flight) (call : List ℕ) : Type 0 where
  pub flight : Flight
  pub at_is : at ≡ Some flight
  pub own : flight.card.call ≡ call

pub there : (at : Option Flight) (call : List ℕ) → option_map (λ (f : Flight). f.card.call) at ≡ Some call → IsThere at call
there None call is = absurd (cc)
there (Some f) call is = record { flight = f; at_is = refl; own = (cc) }

-- ---- a flight with its own trajectories is sound

-- the tentative trajectory of a flight, as its path has it
pub named_marked : (setup : Setup) (call : List ℕ) (path : Path) → made_named call kinds.Tentative (marked_of setup path) ≡ tentative_of setup call path
named_marked setup call (Outer stretch) = refl
named_marked setup call (Planned course) = by_mark course.mark where
  by_mark : (mark : Option Mark) → made_named call kinds.Tentative (marked_of setup (Planned (record course { mark = mark })))
      ≡ tentative_of setup call (Planned (record course { mark = mark }))
  by_mark None = refl
  by_mark (Some mark) = refl

pub sound_entry : (setup : Setup) (f : Flight) → IsSoundFlight setup f.card → path_of kinds.Actual f ≡ path_made setup f.card kinds.Actual
    → path_of kinds.Tentative f ≡ path_made setup f.card kinds.Tentative → IsSoundEntry setup f
sound_entry setup f sound actual mark =
    let flies : arc_value f.actual.strand ≡ trajectory_of setup f.card.path = cc in
    record {
      sound = sound;
      kept = ap₂ (λ (t : Trajectory) (os : List NamedTrajectory). record { call = f.card.call; kind = kinds.Actual; path = t } ∷ os) flies
          (ap (made_named f.card.call kinds.Tentative) mark ∙ named_marked setup f.card.call f.card.path);
    }

-- and the other way round
abbrev path_in : List NamedTrajectory → Option Trajectory
path_in [] = None
path_in (t ∷ ts) = Some t.path

path_back : (call : List ℕ) (kind : Kind) (path : Option Trajectory) → path_in (made_named call kind path) ≡ path
path_back call kind None = refl
path_back call kind (Some t) = refl

rest_of : {X : Type 0} (x y : X) (xs ys : List X) → x ∷ xs ≡ y ∷ ys → xs ≡ ys
rest_of x y xs ys e = cc

pub own_mark : (setup : Setup) (f : Flight) → IsSoundEntry setup f → path_of kinds.Tentative f ≡ marked_of setup f.card.path
own_mark setup f sound =
    let rest : made_named f.card.call kinds.Tentative (path_of kinds.Tentative f) ≡ tentative_of setup f.card.call f.card.path =
    rest_of (record { call = f.card.call; kind = kinds.Actual; path = arc_value f.actual.strand })
    (record { call = f.card.call; kind = kinds.Actual; path = trajectory_of setup f.card.path }) _ _ sound.kept in
    sym (path_back f.card.call kinds.Tentative (path_of kinds.Tentative f)) ∙ ap path_in (rest ∙ sym (named_marked setup f.card.call f.card.path))
    ∙ path_back f.card.call kinds.Tentative (marked_of setup f.card.path)

pub own_actual : (setup : Setup) (f : Flight) → IsSoundEntry setup f → path_of kinds.Actual f ≡ path_made setup f.card kinds.Actual
own_actual setup f sound = ap path_in sound.kept

-- ---- what is filed

-- the flight that is found after others, none of which has the callsign
behind : (call : List ℕ) (rs : List Record) (new card : Record) → flight_of rs call ≡ None → new.call ≡ call → flight_of (rs ++ new ∷ []) call ≡ Some card → new ≡ card
behind call rs new card none own is =
    let named : bytes_eq new.call call ≡ true = (bytes_eq-Decides new.call call).1 own in
    let both : flight_of (rs ++ new ∷ []) call ≡ Some new = find-append (λ (flight : Record). bytes_eq flight.call call) rs (new ∷ []) ∙ rw (none, named) refl in
    let e : Some new ≡ Some card = sym both ∙ is in
    cc

-- what a command that files leaves: the flight after the others, and it has no tentative trajectory
pub record IsFiledLast (setup : Setup) (who now : ℕ) (command : Command) (rs : List Record) (card : Record) : Type 0 where
  pub none : flight_of rs card.call ≡ None
  pub records : records_after setup who (filled now command) rs ≡ rs ++ card ∷ []
  pub unmarked : marked_of setup card.path ≡ None
  pub still : now_after (filled now command) now ≡ now

pub filed_last : (setup : Setup) (s : State) (who : ℕ) (command : Command) (card : Record) → IsFiling command → IsLeftByEntry setup s who command card
    → IsFiledLast setup who s.now command s.records card
filed_last setup s who (Plan call kind route at from level rvsm) card filing left =
    let tests = passes setup s who (Plan call kind route at from level rvsm) left.passed in
    let none : flight_of s.records call ≡ None = is_none (flight_of s.records call) tests.0 in
    let new : Record = record { call = call; path = Planned (course_of setup kind route at from level rvsm) } in
    let same : new ≡ card = behind call s.records new card none refl left.card_is in
    subst (λ (r : Record). IsFiledLast setup who s.now (Plan call kind route at from level rvsm) s.records r) same
    (record { none = none; records = refl; unmarked = refl; still = refl })
filed_last setup s who (External call straight) card filing left =
    let tests = passes setup s who (External call straight) left.passed in
    let none : flight_of s.records call ≡ None = is_none (flight_of s.records call) tests.0 in
    let new : Record = record { call = call; path = Outer straight } in
    let same : new ≡ card = behind call s.records new card none refl left.card_is in
    subst (λ (r : Record). IsFiledLast setup who s.now (External call straight) s.records r) same
    (record { none = none; records = refl; unmarked = refl; still = refl })
filed_last setup s who command card filing left = absurd filing

-- so the command alone says what is filed
pub filed_unique : (setup : Setup) (s r : State) (who whom : ℕ) (c : Command) (card other : Record) → IsFiling c → judged_aside setup s who c ≡ Ok (tt {0})
    → flight_left setup s who c ≡ Some card → judged_aside setup r whom c ≡ Ok (tt {0}) → flight_left setup r whom c ≡ Some other → card ≡ other
filed_unique setup s r who whom (Plan call kind route at from level rvsm) card other filing one card_is two other_is =
    let c : Command = Plan call kind route at from level rvsm in
    let none = is_none (flight_of s.records call) (passes setup s who c one).0 in
    let none_too = is_none (flight_of r.records call) (passes setup r whom c two).0 in
    let new : Record = record { call = call; path = Planned (course_of setup kind route at from level rvsm) } in
    sym (behind call s.records new card none refl card_is) ∙ behind call r.records new other none_too refl other_is
filed_unique setup s r who whom (External call straight) card other filing one card_is two other_is =
    let c : Command = External call straight in
    let none = is_none (flight_of s.records call) (passes setup s who c one).0 in
    let none_too = is_none (flight_of r.records call) (passes setup r whom c two).0 in
    let new : Record = record { call = call; path = Outer straight } in
    sym (behind call s.records new card none refl card_is) ∙ behind call r.records new other none_too refl other_is
filed_unique setup s r who whom command card other filing one card_is two other_is = absurd filing

-- of no trajectory at all, or of one with this stamp
none_new : (f : Flight) (version : ℕ) (c : Command) (old : Option Flight) → f.mark ≡ None → IsNewOrStays old version c f kinds.Tentative
none_new f version c old none = inl (λ made is. absurd (let both : None ≡ Some made = sym none ∙ is in cc))

actual_new : (f : Flight) (version now : ℕ) (c : Command) (old : Option Flight) → f.actual.stamp ≡ version → IsFiling c
    → IsNewOrStays old version (filled now c) f kinds.Actual
actual_new f version now c old stamp filing = inl (λ made is. (
  let same : f.actual ≡ made = cc in ap (λ (m : Made). m.stamp) (sym same) ∙ stamp,
  filled_makes now c (filing_makes c filing),
  filled_kind now c ∙ filing_kind c filing,
))

both_kinds : (P : Kind → Type 0) → P kinds.Actual → P kinds.Tentative → (kind : Kind) → P kind
both_kinds P actual tentative kinds.Actual = actual
both_kinds P actual tentative kinds.Tentative = tentative

-- a flight that is filed is put into an empty slot
pub put_filed : (shot : Shot) (slot : ℕ) (f : Flight) (who : ℕ) (c : Command) → IsSoundShot shot → slot < length shot.slots → flight_at shot slot ≡ None
    → IsFiling c → IsLeftByEntry shot.setup (state_in shot) who c f.card → f.mark ≡ None
    → path_made shot.setup f.card kinds.Actual ≡ path_of kinds.Actual f → f.actual.stamp ≡ shot.version + 1 → f.filed ≡ shot.version + 1
    → f.named ≡ shot.version + 1 → ((i : ℕ) (g : Flight) → flight_at shot i ≡ Some g → g.filed ≤ shot.version) → IsFlightPut shot slot f (record { who = who; command = filled shot.now c })
put_filed shot slot f who c sound inside free filing left unmarked made stamp filed named earlier =
    let last = filed_last shot.setup (state_in shot) who c f.card filing left in
    record {
      inside = inside;
      fits = record {
        entry = sound_entry shot.setup f left.sound (sym made) (ap (option_map (λ (m : Made). arc_value m.strand)) unmarked ∙ sym last.unmarked);
        own_call = λ i g away at_is same.
            let found = found_there shot i g f.card.call sound (filled_inside shot.slots i g at_is) at_is same in
            (let both : None ≡ Some g.card = sym last.none ∙ found in cc);
        filed = subst (IsFiledAt shot slot f) (sym free) (λ i g at_is. (let n = earlier i g at_is in omega (arith, n, filed)));
      };
      was = λ g at_is. absurd (let both : None ≡ Some g = sym free ∙ at_is in cc);
      made = both_kinds (IsNewOrStays (flight_at shot slot) (shot.version + 1) (filled shot.now c) f)
          (actual_new f (shot.version + 1) shot.now c (flight_at shot slot) stamp filing)
          (none_new f (shot.version + 1) (filled shot.now c) (flight_at shot slot) unmarked);
      filed = λ none. (filed, filled_files shot.now c filing);
      named = named;
      names = filled_call shot.now c ∙ left.call_is;
      still = last.still;
      records = ap (λ (at : Option Flight). records_put at (Some f) (records_in shot.slots)) free ∙ sym last.records;
    }

-- ---- what is altered

pub apart_false : (r : Record) (call : List ℕ) → r.call ≢ call → bytes_eq r.call call ≡ false
apart_false r call other = step (bytes_eq r.call call) refl where
  step : (b : Bool) → bytes_eq r.call call ≡ b → b ≡ false
  step true e = absurd (other ((bytes_eq-Decides r.call call).0 e))
  step false e = refl

-- a command that alters a flight leaves its path changed, and the others as they are
pub record IsAltered (shot : Shot) (old : Flight) (who : ℕ) (c : Command) (card : Record) : Type 0 where
  pub path : card.path ≡ path_after shot.setup who (filled shot.now c) old.card.path
  pub records : map (replaced_if old.card.call card) (records_in shot.slots) ≡ records_after shot.setup who (filled shot.now c) (records_in shot.slots)

pub altered_by : (shot : Shot) (slot : ℕ) (old : Flight) (who : ℕ) (c : Command) (card : Record) → IsSoundShot shot → flight_at shot slot ≡ Some old
    → old.card.call ≡ card.call → Alters c → IsLeftByEntry shot.setup (state_in shot) who c card → IsAltered shot old who c card
altered_by shot slot old who c card sound at_is own alters left =
    let call = card.call in
    let rs = records_in shot.slots in
    let change = path_after shot.setup who (filled shot.now c) in
    let found = found_there shot slot old call sound (filled_inside shot.slots slot old at_is) at_is own in
    let all = records_are shot.setup who (filled shot.now c) call rs (filled_alters shot.now c alters) (filled_call shot.now c ∙ left.call_is) in
    let here : flight_of (records_after shot.setup who (filled shot.now c) rs) call ≡ Some card =
    subst (λ (o : Option (List ℕ)). option_and_then (flight_of (records_after shot.setup who (filled shot.now c) rs)) o ≡ Some card) left.call_is left.card_is in
    let new : Record = record { call = old.card.call; path = change old.card.path } in
    let both : Some new ≡ Some card = sym (found_changed call change rs old.card found) ∙ ap (λ (qs : List Record). flight_of qs call) (sym all) ∙ here in
    let same : new ≡ card = cc in
    let named : bytes_eq old.card.call call ≡ true = (bytes_eq-Decides old.card.call call).1 own in
    let changed_is : changed call change old.card ≡ card = sym (changed_one call change old.card named) ∙ same in
    record {
      path = ap (λ (r : Record). r.path) (sym same);
      records = ap₂ (λ (k : List ℕ) (r : Record). map (replaced_if k r) rs) own (sym changed_is)
          ∙ replaced_alike (changed call change) call old.card rs (own_calls shot sound) found (λ r other. changed_other call change r (apart_false r call other))
          ∙ sym all;
    }

still_altered : (now : ℕ) (c : Command) → Alters c → now_after (filled now c) now ≡ now
still_altered now (Plan call kind route at from level rvsm) alters = absurd alters
still_altered now (External call straight) alters = absurd alters
still_altered now (Drop call) alters = absurd alters
still_altered now (Tick next) alters = absurd alters
still_altered now c alters = refl

-- a flight that is altered is put into its slot
pub put_altered : (shot : Shot) (slot : ℕ) (old f : Flight) (who : ℕ) (c : Command) → IsSoundShot shot → flight_at shot slot ≡ Some old
    → old.card.call ≡ f.card.call → Alters c → IsLeftByEntry shot.setup (state_in shot) who c f.card → f.filed ≡ old.filed → f.named ≡ shot.version + 1
    → path_of kinds.Actual f ≡ path_made shot.setup f.card kinds.Actual → path_of kinds.Tentative f ≡ path_made shot.setup f.card kinds.Tentative
    → ((kind : Kind) → IsNewOrStays (flight_at shot slot) (shot.version + 1) (filled shot.now c) f kind)
    → IsFlightPut shot slot f (record { who = who; command = filled shot.now c })
put_altered shot slot old f who c sound at_is own alters left filed named actual mark made =
    let by = altered_by shot slot old who c f.card sound at_is own alters left in
    record {
      inside = filled_inside shot.slots slot old at_is;
      fits = record {
        entry = sound_entry shot.setup f left.sound actual mark;
        own_call = λ i g away g_is same. (sound.apart i slot g old away g_is at_is).calls (same ∙ sym own);
        filed = subst (IsFiledAt shot slot f) (sym at_is) filed;
      };
      was = λ g g_is. (let both : Some old ≡ Some g = sym at_is ∙ g_is in let one : old ≡ g = cc in ap (λ (q : Flight). q.card.call) (sym one) ∙ own);
      made = made;
      filed = λ none. absurd (let both : None ≡ Some old = sym none ∙ at_is in cc);
      named = named;
      names = filled_call shot.now c ∙ left.call_is;
      still = still_altered shot.now c alters;
      records = ap (λ (at : Option Flight). records_put at (Some f) (records_in shot.slots)) at_is ∙ by.records;
    }
