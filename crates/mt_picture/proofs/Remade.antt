-- A flight with a new trajectory in the place of an old one, and one that keeps what it had.
use Rattle.std.proofs.Common.{◌≡◌, ℕ, ◌+◌, ◌⊎◌, inl, inr, ⊎_elim, List, Option, Some, None, option_map, refl, sym, ◌∙◌, ap, ap₂, subst}
use Rattle.std.specs.Arc.{arc_value}
use Rattle.mt_base.specs.declared.clearance.Clearance.{Clearance}
use Rattle.mt_base.specs.declared.command.Command.{Command}
use Rattle.mt_base.specs.declared.command.Command.TheVariants.{Accept, Clear, Commit, Drop, External, Plan, Renew, Tentative, Tick, Withdraw}
use Rattle.mt_base.specs.declared.command.Command.TheVariants as commands
use Rattle.mt_base.specs.declared.conflict.Kind.{Kind}
use Rattle.mt_base.specs.declared.conflict.Kind.TheVariants as kinds
use Rattle.mt_base.specs.declared.flight.Mark.{Mark}
use Rattle.mt_base.specs.declared.flight.Path.{Path}
use Rattle.mt_base.specs.declared.flight.Path.TheVariants.{Outer, Planned}
use Rattle.mt_base.specs.declared.flight.Record.{Record}
use Rattle.mt_base.specs.Decision.{filled}
use Rattle.mt_base.specs.Picture.{NamedTrajectory, trajectory_of}
use Rattle.mt_base.specs.Tables.{Setup}
use Rattle.mt_base.specs.Trajectory.{Trajectory}
use Rattle.mt_change.specs.Altered.{Alters, path_after}
use Rattle.mt_probe.specs.declared.flight.Flight.{Flight}
use Rattle.mt_probe.specs.declared.flight.Made.{Made}
use Rattle.mt_probe.specs.Items.{path_of}
use Rattle.mt_probe.specs.Prepared.{IsLeftByEntry, MakesStrand, kind_made, marked_of, path_made}
use Rattle.mt_probe.specs.Shot.{Shot, flight_at, made_of}
use Rattle.mt_probe.specs.Shot.{state_in_shot as state_in}
use Rattle.mt_probe.specs.Standing.{IsSoundEntry, IsSoundShot}
use Rattle.mt_picture.specs.Private.Entries.{IsRemaking, IsReport, IsWithdrawal}
use Rattle.mt_picture.specs.Private.Places.{IsNewOrStays, first_of, made_of_kind, other_kind, place_kind, second_of, stamped, stamped_at}
use Rattle.mt_picture.specs.Private.Putting.{IsKeptFlight, IsFlightPut, IsRemade}
use Rattle.mt_picture.proofs.Entered.{altered_by, own_actual, own_mark, put_altered, there}
use Rattle.mt_picture.proofs.Making.{filled_kind, filled_makes, remaking_makes}

abbrev path_with : NamedTrajectory × ℕ → Trajectory
path_with m = m.0.path

abbrev named_with : NamedTrajectory × ℕ → NamedTrajectory
named_with m = m.0

-- what a flight has of a kind, by its stamp
by_stamp : (f : Flight) (kind : Kind) (made : Option Made) → option_map (λ (m : Made). arc_value m.strand) made ≡ option_map path_with (stamped f kind made)
by_stamp f kind None = refl
by_stamp f kind (Some made) = refl

pub path_stamped : (f : Flight) (kind : Kind) → path_of kind f ≡ option_map path_with (stamped_at kind (Some f))
path_stamped f kind = by_stamp f kind (made_of f kind)

pub same_path : (f g : Flight) (kind : Kind) → stamped_at kind (Some f) ≡ stamped_at kind (Some g) → path_of kind f ≡ path_of kind g
same_path f g kind same = path_stamped f kind ∙ ap (option_map path_with) same ∙ sym (path_stamped g kind)

by_place : (f : Flight) (mark : Option Made) → option_map (made_of_kind f kinds.Tentative) mark ≡ option_map named_with (stamped f kinds.Tentative mark)
by_place f None = refl
by_place f (Some made) = refl

pub first_stamped : (s : Option Flight) → first_of s ≡ option_map named_with (stamped_at kinds.Actual s)
first_stamped None = refl
first_stamped (Some f) = refl

pub second_stamped : (s : Option Flight) → second_of s ≡ option_map named_with (stamped_at kinds.Tentative s)
second_stamped None = refl
second_stamped (Some f) = by_place f f.mark

pub same_first : (s r : Option Flight) → stamped_at kinds.Actual s ≡ stamped_at kinds.Actual r → first_of s ≡ first_of r
same_first s r same = first_stamped s ∙ ap (option_map named_with) same ∙ sym (first_stamped r)

pub same_second : (s r : Option Flight) → stamped_at kinds.Tentative s ≡ stamped_at kinds.Tentative r → second_of s ≡ second_of r
same_second s r same = second_stamped s ∙ ap (option_map named_with) same ∙ sym (second_stamped r)

-- ---- what a command leaves of the trajectories that it doesn't make

pub mark_stays : (setup : Setup) (who now : ℕ) (c : Command) (path : Path) → IsRemaking c → kind_made c ≡ kinds.Actual → ((call : List ℕ) → c ≡ Commit call → ⊥)
    → marked_of setup (path_after setup who (filled now c) path) ≡ marked_of setup path
mark_stays setup who now (Renew call) (Planned course) remaking actual no_commit = refl
mark_stays setup who now (Renew call) (Outer stretch) remaking actual no_commit = refl
mark_stays setup who now (Clear call clearance eff) (Planned course) remaking actual no_commit = refl
mark_stays setup who now (Clear call clearance eff) (Outer stretch) remaking actual no_commit = refl
mark_stays setup who now (Accept call clearance eff probed) (Planned course) remaking actual no_commit = refl
mark_stays setup who now (Accept call clearance eff probed) (Outer stretch) remaking actual no_commit = refl
mark_stays setup who now (Tentative call clearance eff) path remaking actual no_commit = absurd (cc)
mark_stays setup who now (Commit call) path remaking actual no_commit = absurd (no_commit call refl)
mark_stays setup who now c path remaking actual no_commit = absurd remaking

no_mark : (setup : Setup) (who now : ℕ) (call : List ℕ) (path : Path) → marked_of setup (path_after setup who (filled now (Commit call)) path) ≡ None
no_mark setup who now call (Outer stretch) = refl
no_mark setup who now call (Planned course) = by_mark course.mark where
  by_mark : (mark : Option Mark) → marked_of setup (path_after setup who (Commit call) (Planned (record course { mark = mark }))) ≡ None
  by_mark None = refl
  by_mark (Some mark) = refl

actual_stays : (setup : Setup) (who now : ℕ) (c : Command) (path : Path) → kind_made c ≡ kinds.Tentative
    → trajectory_of setup (path_after setup who (filled now c) path) ≡ trajectory_of setup path
actual_stays setup who now (Tentative call clearance eff) (Planned course) mark = refl
actual_stays setup who now (Tentative call clearance eff) (Outer stretch) mark = refl
actual_stays setup who now c path mark = absurd (cc)

pub report_actual : (setup : Setup) (who now : ℕ) (c : Command) (path : Path) → IsReport c → trajectory_of setup (path_after setup who (filled now c) path) ≡ trajectory_of setup path
report_actual setup who now (commands.Report call report) (Planned course) reports = refl
report_actual setup who now (commands.Report call report) (Outer stretch) reports = refl
report_actual setup who now c path reports = absurd reports

pub report_mark : (setup : Setup) (who now : ℕ) (c : Command) (path : Path) → IsReport c → marked_of setup (path_after setup who (filled now c) path) ≡ marked_of setup path
report_mark setup who now (commands.Report call report) (Planned course) reports = refl
report_mark setup who now (commands.Report call report) (Outer stretch) reports = refl
report_mark setup who now c path reports = absurd reports

pub bare_actual : (setup : Setup) (who now : ℕ) (c : Command) (path : Path) → IsWithdrawal c → trajectory_of setup (path_after setup who (filled now c) path) ≡ trajectory_of setup path
bare_actual setup who now (Withdraw call force) (Planned course) withdraws = refl
bare_actual setup who now (Withdraw call force) (Outer stretch) withdraws = refl
bare_actual setup who now c path withdraws = absurd withdraws

pub bare_mark : (setup : Setup) (who now : ℕ) (c : Command) (path : Path) → IsWithdrawal c → marked_of setup (path_after setup who (filled now c) path) ≡ None
bare_mark setup who now (Withdraw call force) (Planned course) withdraws = refl
bare_mark setup who now (Withdraw call force) (Outer stretch) withdraws = refl
bare_mark setup who now c path withdraws = absurd withdraws

pub report_alters : (c : Command) → IsReport c ⊎ IsWithdrawal c → Alters c
report_alters (Plan call kind route at from level rvsm) is = absurd (⊎_elim (λ r. r) (λ w. w) is)
report_alters (External call straight) is = absurd (⊎_elim (λ r. r) (λ w. w) is)
report_alters (Drop call) is = absurd (⊎_elim (λ r. r) (λ w. w) is)
report_alters (Tick next) is = absurd (⊎_elim (λ r. r) (λ w. w) is)
report_alters c is = tt

pub remaking_alters : (c : Command) → IsRemaking c → Alters c
remaking_alters (Plan call kind route at from level rvsm) is = absurd is
remaking_alters (External call straight) is = absurd is
remaking_alters (Drop call) is = absurd is
remaking_alters (Tick next) is = absurd is
remaking_alters c is = tt

-- ---- a flight that is remade has its own trajectories

new_stamp : (f : Flight) (kind : Kind) (version : ℕ) (t : NamedTrajectory) → stamped_at kind (Some f) ≡ Some (t, version)
    → (made : Made) → made_of f kind ≡ Some made → made.stamp ≡ version
new_stamp f kind version t stamp made is =
    let both : Some (made_of_kind f kind made, made.stamp) ≡ Some (t, version) = sym (ap (stamped f kind) is) ∙ stamp in
    let one : (made_of_kind f kind made, made.stamp) ≡ (t, version) = cc in
    ap (λ (m : NamedTrajectory × ℕ). m.1) one

abbrev Keeps : Option Flight → Flight → Kind → Type 0
Keeps old f kind = stamped_at kind (Some f) ≡ stamped_at kind old

-- of the other kind it has nothing, after a commitment, or what it had
mark_left : (old : Option Flight) (version : ℕ) (c : Command) (card : Record) (t : Trajectory) (f : Flight) → kind_made c ≡ kinds.Actual → IsRemade old version c card t f
    → ((f.mark ≡ None) × ((call : List ℕ) × (c ≡ Commit call))) ⊎ (Keeps old f kinds.Tentative × ((call : List ℕ) → c ≡ Commit call → ⊥))
mark_left old version (Plan call kind route at from level rvsm) card t f actual is = inr (is.rest, λ call e. cc)
mark_left old version (External call straight) card t f actual is = inr (is.rest, λ call e. cc)
mark_left old version (Drop call) card t f actual is = inr (is.rest, λ call e. cc)
mark_left old version (commands.Report call report) card t f actual is = inr (is.rest, λ call e. cc)
mark_left old version (Tick next) card t f actual is = inr (is.rest, λ call e. cc)
mark_left old version (Renew call) card t f actual is = inr (is.rest, λ call e. cc)
mark_left old version (Clear call clearance eff) card t f actual is = inr (is.rest, λ call e. cc)
mark_left old version (Accept call clearance eff probed) card t f actual is = inr (is.rest, λ call e. cc)
mark_left old version (Tentative call clearance eff) card t f actual is = absurd (cc)
mark_left old version (Withdraw call force) card t f actual is = inr (is.rest, λ call e. cc)
mark_left old version (Commit call) card t f actual is = inl (is.rest, (call, refl))

keeps_actual : (old : Option Flight) (version : ℕ) (c : Command) (card : Record) (t : Trajectory) (f : Flight) → kind_made c ≡ kinds.Tentative
    → IsRemade old version c card t f → Keeps old f kinds.Actual
keeps_actual old version (Tentative call clearance eff) card t f mark is = is.rest
keeps_actual old version c card t f mark is = absurd (cc)

module _ (setup : Setup) (who now version : ℕ) (c : Command) (old f : Flight) (card : Record) (t : Trajectory) (remaking : IsRemaking c)
    (is : IsRemade (Some old) version c card t f) (sound : IsSoundEntry setup old)
    (path : card.path ≡ path_after setup who (filled now c) old.card.path) (made : path_made setup card (kind_made c) ≡ Some t) where
  new_path : (kind : Kind) → kind_made c ≡ kind → path_of kind f ≡ path_made setup card kind
  new_path kind e = subst (λ (k : Kind). path_of k f ≡ path_made setup card k) e (is.new ∙ sym made)

  pub remade_actual : (kind : Kind) → kind_made c ≡ kind → path_of kinds.Actual f ≡ path_made setup card kinds.Actual
  remade_actual kinds.Actual e = new_path kinds.Actual e
  remade_actual kinds.Tentative e =
      same_path f old kinds.Actual (keeps_actual (Some old) version c card t f e is) ∙ own_actual setup old sound
      ∙ ap Some (sym (actual_stays setup who now c old.card.path e)) ∙ ap (λ (p : Path). Some (trajectory_of setup p)) (sym path)

  pub remade_mark : (kind : Kind) → kind_made c ≡ kind → path_of kinds.Tentative f ≡ path_made setup card kinds.Tentative
  remade_mark kinds.Tentative e = new_path kinds.Tentative e
  remade_mark kinds.Actual e = ⊎_elim
      (λ none.
      ap (option_map (λ (m : Made). arc_value m.strand)) none.0 ∙ sym (no_mark setup who now none.1.0 old.card.path)
      ∙ ap (λ (d : Command). marked_of setup (path_after setup who (filled now d) old.card.path)) (sym none.1.1) ∙ ap (marked_of setup) (sym path))
      (λ keeps.
      same_path f old kinds.Tentative keeps.0 ∙ own_mark setup old sound
      ∙ sym (mark_stays setup who now c old.card.path remaking e keeps.1) ∙ ap (marked_of setup) (sym path))
      (mark_left (Some old) version c card t f e is)

  new_made : (kind : Kind) → kind_made c ≡ kind → (made : Made) → made_of f kind ≡ Some made
      → (made.stamp ≡ version) × MakesStrand (filled now c) × (kind_made (filled now c) ≡ kind)
  new_made kind e m m_is =
      let stamp = subst (λ (k : Kind). stamped_at k (Some f) ≡ Some (record { call = card.call; kind = k; path = t }, version)) e is.stamp in
      (new_stamp f kind version _ stamp m m_is, filled_makes now c (remaking_makes c remaking), filled_kind now c ∙ e)

  pub remade_stamps : (made_kind kind : Kind) → kind_made c ≡ made_kind → IsNewOrStays (Some old) version (filled now c) f kind
  remade_stamps kinds.Actual kinds.Actual e = inl (new_made kinds.Actual e)
  remade_stamps kinds.Tentative kinds.Tentative e = inl (new_made kinds.Tentative e)
  remade_stamps kinds.Tentative kinds.Actual e = inr (keeps_actual (Some old) version c card t f e is)
  remade_stamps kinds.Actual kinds.Tentative e = ⊎_elim
      (λ none. inl (λ m m_is. absurd (let both : None ≡ Some m = sym none.0 ∙ m_is in cc)))
      (λ keeps. inr keeps.0)
      (mark_left (Some old) version c card t f e is)

-- what stands in the two places of a flight that is remade
pub new_stands : (old : Option Flight) (version : ℕ) (c : Command) (card : Record) (t : Trajectory) (f : Flight) (kind : Kind) → kind ≡ kind_made c
    → IsRemade old version c card t f → place_kind kind (Some f) ≡ Some (record { call = card.call; kind = kind; path = t })
new_stands old version c card t f kinds.Actual e is =
    let stamp = subst (λ (k : Kind). stamped_at k (Some f) ≡ Some (record { call = card.call; kind = k; path = t }, version)) (sym e) is.stamp in
    first_stamped (Some f) ∙ ap (option_map named_with) stamp
new_stands old version c card t f kinds.Tentative e is =
    let stamp = subst (λ (k : Kind). stamped_at k (Some f) ≡ Some (record { call = card.call; kind = k; path = t }, version)) (sym e) is.stamp in
    second_stamped (Some f) ∙ ap (option_map named_with) stamp

none_marked : (f : Flight) (m : NamedTrajectory) → f.mark ≡ None → second_of (Some f) ≡ Some m → ⊥
none_marked f m none there = let both : None ≡ Some m = ap (option_map (made_of_kind f kinds.Tentative)) (sym none) ∙ there in cc

pub other_there : (old : Option Flight) (version : ℕ) (c : Command) (card : Record) (t : Trajectory) (f : Flight) (kind : Kind) (m : NamedTrajectory) → kind ≡ kind_made c
    → IsRemade old version c card t f → place_kind (other_kind kind) (Some f) ≡ Some m → place_kind (other_kind kind) old ≡ Some m
other_there old version c card t f kinds.Actual m e is there = ⊎_elim
    (λ none. absurd (none_marked f m none.0 there))
    (λ keeps. sym (same_second (Some f) old keeps.0) ∙ there)
    (mark_left old version c card t f (sym e) is)
other_there old version c card t f kinds.Tentative m e is there = sym (same_first (Some f) old (keeps_actual old version c card t f (sym e) is)) ∙ there

-- a flight that is remade is put into its slot
pub put_remade : (shot : Shot) (slot : ℕ) (f : Flight) (who : ℕ) (c : Command) (card : Record) (t : Trajectory) → IsSoundShot shot
    → option_map (λ (g : Flight). g.card.call) (flight_at shot slot) ≡ Some card.call → IsRemaking c → IsLeftByEntry shot.setup (state_in shot) who c card
    → path_made shot.setup card (kind_made c) ≡ Some t
    → IsRemade (flight_at shot slot) (shot.version + 1) c card t f → IsFlightPut shot slot f (record { who = who; command = filled shot.now c })
put_remade shot slot f who c card t sound there_is remaking left made is =
    let it = there (flight_at shot slot) card.call there_is in
    let old = it.flight in
    let at_is = it.at_is in
    let alters = remaking_alters c remaking in
    let by = altered_by shot slot old who c card sound at_is it.own alters left in
    let entry = sound.sound slot old at_is in
    let one : IsRemade (Some old) (shot.version + 1) c card t f = subst (λ (at : Option Flight). IsRemade at (shot.version + 1) c card t f) at_is is in
    let filed : f.filed ≡ old.filed = let e = one.filed_is in cc in
    let left_f : IsLeftByEntry shot.setup (state_in shot) who c f.card = subst (IsLeftByEntry shot.setup (state_in shot) who c) (sym is.card_is) left in
    put_altered shot slot old f who c sound at_is (it.own ∙ ap (λ (r : Record). r.call) (sym is.card_is)) alters left_f filed is.named_is
    (remade_actual shot.setup who shot.now (shot.version + 1) c old f card t remaking one entry by.path made (kind_made c) refl
    ∙ ap (λ (r : Record). path_made shot.setup r kinds.Actual) (sym is.card_is))
    (remade_mark shot.setup who shot.now (shot.version + 1) c old f card t remaking one entry by.path made (kind_made c) refl
    ∙ ap (λ (r : Record). path_made shot.setup r kinds.Tentative) (sym is.card_is))
    (λ kind. subst (λ (at : Option Flight). IsNewOrStays at (shot.version + 1) (filled shot.now c) f kind) (sym at_is)
    (remade_stamps shot.setup who shot.now (shot.version + 1) c old f card t remaking one entry by.path made (kind_made c) kind refl))

-- and one that a report or a withdrawal leaves
pub put_kept : (shot : Shot) (slot : ℕ) (old f : Flight) (who : ℕ) (c : Command) → IsSoundShot shot → flight_at shot slot ≡ Some old → old.card.call ≡ f.card.call
    → IsReport c ⊎ IsWithdrawal c → IsLeftByEntry shot.setup (state_in shot) who c f.card → f.filed ≡ old.filed → f.named ≡ shot.version + 1
    → stamped_at kinds.Actual (Some f) ≡ stamped_at kinds.Actual (flight_at shot slot)
    → (IsReport c → stamped_at kinds.Tentative (Some f) ≡ stamped_at kinds.Tentative (flight_at shot slot)) → (IsWithdrawal c → f.mark ≡ None)
    → IsFlightPut shot slot f (record { who = who; command = filled shot.now c })
put_kept shot slot old f who c sound at_is own which left filed named actual mark bare =
    let alters = report_alters c which in
    let by = altered_by shot slot old who c f.card sound at_is own alters left in
    let entry = sound.sound slot old at_is in
    let first = actual ∙ ap (stamped_at kinds.Actual) at_is in
    put_altered shot slot old f who c sound at_is own alters left filed named
    (same_path f old kinds.Actual first ∙ own_actual shot.setup old entry ∙ ap Some (sym (⊎_elim
    (report_actual shot.setup who shot.now c old.card.path)
    (bare_actual shot.setup who shot.now c old.card.path) which)) ∙ ap (λ (p : Path). Some (trajectory_of shot.setup p)) (sym by.path))
    (⊎_elim
    (λ reports. same_path f old kinds.Tentative (mark reports ∙ ap (stamped_at kinds.Tentative) at_is) ∙ own_mark shot.setup old entry
    ∙ sym (report_mark shot.setup who shot.now c old.card.path reports) ∙ ap (marked_of shot.setup) (sym by.path))
    (λ withdraws. ap (option_map (λ (m : Made). arc_value m.strand)) (bare withdraws)
    ∙ sym (bare_mark shot.setup who shot.now c old.card.path withdraws) ∙ ap (marked_of shot.setup) (sym by.path))
    which)
    (by_kind actual (⊎_elim (λ reports. inr (mark reports)) (λ withdraws. inl (λ m is. absurd (let both : None ≡ Some m = sym (bare withdraws) ∙ is in cc))) which)) where
      by_kind : stamped_at kinds.Actual (Some f) ≡ stamped_at kinds.Actual (flight_at shot slot) → IsNewOrStays (flight_at shot slot) (shot.version + 1) (filled shot.now c) f kinds.Tentative
          → (kind : Kind) → IsNewOrStays (flight_at shot slot) (shot.version + 1) (filled shot.now c) f kind
      by_kind stays other kinds.Actual = inr stays
      by_kind stays other kinds.Tentative = other

-- ---- the flight of a slot with a new trajectory

module _ (old : Option Flight) (version : ℕ) (card : Record) (f : Flight) (kept : IsKeptFlight old version card f) (made : Made) (stamp : made.stamp ≡ version) where
  abbrev with_stamp : Kind → List ℕ → ℕ → Option (NamedTrajectory × ℕ)
  with_stamp kind call n = Some (record { call = call; kind = kind; path = arc_value made.strand }, n)

  stamp_is : (kind : Kind) → with_stamp kind f.card.call made.stamp ≡ with_stamp kind card.call version
  stamp_is kind = ap₂ (with_stamp kind) (ap (λ (r : Record). r.call) kept.card_is) stamp

  pub as_mark : (call : List ℕ) (clearance : Clearance) (eff : Option ℕ) → IsRemade old version (Tentative call clearance eff) card (arc_value made.strand) (record f { mark = Some made })
  as_mark call clearance eff = record { card_is = kept.card_is; filed_is = kept.filed_is; named_is = kept.named_is; new = refl; stamp = stamp_is kinds.Tentative; rest = kept.actual }

  pub as_commit : (call : List ℕ) → IsRemade old version (Commit call) card (arc_value made.strand) (record f { actual = made; mark = None })
  as_commit call = record { card_is = kept.card_is; filed_is = kept.filed_is; named_is = kept.named_is; new = refl; stamp = stamp_is kinds.Actual; rest = refl }

  pub as_other : (c : Command) → ((call : List ℕ) (clearance : Clearance) (eff : Option ℕ) → c ≡ Tentative call clearance eff → ⊥) → ((call : List ℕ) → c ≡ Commit call → ⊥)
      → IsRemade old version c card (arc_value made.strand) (record f { actual = made })
  as_other (Tentative call clearance eff) no_mark no_commit = absurd (no_mark call clearance eff refl)
  as_other (Commit call) no_mark no_commit = absurd (no_commit call refl)
  as_other c no_mark no_commit = record { card_is = kept.card_is; filed_is = kept.filed_is; named_is = kept.named_is; new = refl; stamp = stamp_is kinds.Actual; rest = kept.mark }

not_both : (c : Command) → IsReport c → IsWithdrawal c → ⊥
not_both (commands.Report call report) reports withdraws = withdraws
not_both c reports withdraws = reports

-- a report and a withdrawal are put into the slot
pub put_report : (shot : Shot) (slot : ℕ) (card : Record) (f : Flight) (who : ℕ) (c : Command) → IsSoundShot shot
    → option_map (λ (g : Flight). g.card.call) (flight_at shot slot) ≡ Some card.call → IsReport c → IsLeftByEntry shot.setup (state_in shot) who c card
    → IsKeptFlight (flight_at shot slot) (shot.version + 1) card f
    → IsFlightPut shot slot f (record { who = who; command = filled shot.now c })
put_report shot slot card f who c sound there_is reports left kept =
    let it = there (flight_at shot slot) card.call there_is in
    let old = it.flight in
    let filed : f.filed ≡ old.filed = let e = kept.filed_is ∙ ap (option_map (λ (g : Flight). g.filed)) it.at_is in cc in
    put_kept shot slot old f who c sound it.at_is (it.own ∙ ap (λ (r : Record). r.call) (sym kept.card_is)) (inl reports)
    (subst (IsLeftByEntry shot.setup (state_in shot) who c) (sym kept.card_is) left) filed kept.named_is kept.actual (λ is. kept.mark)
    (λ withdraws. absurd (not_both c reports withdraws))

pub put_bare : (shot : Shot) (slot : ℕ) (card : Record) (f : Flight) (who : ℕ) (c : Command) → IsSoundShot shot
    → option_map (λ (g : Flight). g.card.call) (flight_at shot slot) ≡ Some card.call → IsWithdrawal c → IsLeftByEntry shot.setup (state_in shot) who c card
    → IsKeptFlight (flight_at shot slot) (shot.version + 1) card f
    → IsFlightPut shot slot (record f { mark = None }) (record { who = who; command = filled shot.now c })
put_bare shot slot card f who c sound there_is withdraws left kept =
    let it = there (flight_at shot slot) card.call there_is in
    let old = it.flight in
    let filed : f.filed ≡ old.filed = let e = kept.filed_is ∙ ap (option_map (λ (g : Flight). g.filed)) it.at_is in cc in
    put_kept shot slot old (record f { mark = None }) who c sound it.at_is (it.own ∙ ap (λ (r : Record). r.call) (sym kept.card_is)) (inr withdraws)
    (subst (IsLeftByEntry shot.setup (state_in shot) who c) (sym kept.card_is) left) filed kept.named_is kept.actual
    (λ reports. absurd (not_both c reports withdraws)) (λ is. refl)
