-- What is published of the places is what is published of the state, and what is answered of a command.
use Rattle.std.proofs.Common.{◌≡◌, ℕ, ◌+◌, ◌*◌, ◌/◌, ⊎_elim, ◌↔◌, List, [], ◌∷◌, ◌++◌, length, length-append, Contains, Option, Some, None, option_map, Ok, Err, refl, sym, ◌∙◌, ap, subst}
use Rattle.std.specs.Arc.{arc_value}
use Rattle.mt_base.specs.declared.command.Command.{Command}
use Rattle.mt_base.specs.declared.command.Command.TheVariants.{Tentative as Marks}
use Rattle.mt_base.specs.declared.command.Entered.{Entered}
use Rattle.mt_base.specs.declared.command.Entry.{Entry}
use Rattle.mt_base.specs.declared.command.Refusal.{Refusal}
use Rattle.mt_base.specs.declared.command.Refusal.TheVariants.{Stale}
use Rattle.mt_base.specs.declared.conflict.Conflict.{Conflict}
use Rattle.mt_base.specs.declared.conflict.Kind.TheVariants.{Actual, Tentative}
use Rattle.mt_base.specs.declared.hit.Hit.{Hit}
use Rattle.mt_base.specs.declared.rules.Rules.{Rules}
use Rattle.mt_base.specs.declared.verdict.Verdict.{Verdict}
use Rattle.mt_base.specs.Checks.{judged}
use Rattle.mt_base.specs.Decision.{IsDecided, checks, filled, look_at}
use Rattle.mt_base.specs.Effect.{entered_by, state_of, verdict_in}
use Rattle.mt_base.specs.History.{IsInTime, IsLegal, IsReplayable, WasFree}
use Rattle.mt_base.specs.Picture.{IsPublished, IsPublishedOf, NamedTrajectory, State, trajectories}
use Rattle.mt_base.specs.Tables.{Setup}
use Rattle.mt_base.proofs.HistoryLemmas.{legal_push, replayable_push, version_is}
use Rattle.mt_board.specs.declared.no.No.TheVariants as nos
use Rattle.mt_kept.specs.Kept.{Watched}
use Rattle.mt_kept.specs.Places.{held}
use Rattle.mt_kept.proofs.Publishing.{held_at, stands}
use Rattle.mt_change.specs.Deciding.{IsFirstHit}
use Rattle.mt_change.proofs.Decisions.{entered, refused, stale}
use Rattle.mt_picture.proofs.Filled.{decided_is, entry_free, entry_in_time}
use Rattle.mt_probe.specs.declared.flight.Made.{Made}
use Rattle.mt_probe.specs.Items.{kind_at}
use Rattle.mt_probe.specs.Shot.{Shot, made_named}
use Rattle.mt_probe.specs.Shot.{state_in_shot as state_in}
use Rattle.mt_probe.specs.Standing.{IsSoundShot}
use Rattle.mt_probe.proofs.Gathered.{at_kept, kept_at}
use Rattle.mt_base.proofs.Members.{Contains-cases, Contains-none}
use Rattle.mt_picture.specs.Private.Holding.{HasEnteredOrStopped, Holding, IsPassed, entry_now, held_story}
use Rattle.mt_picture.specs.Private.Places.{all_places, first_of, made_of_kind, second_of}
use Rattle.mt_picture.specs.Private.Stamps.{IsPicture}
use Rattle.mt_picture.specs.Story.{IsEntered, IsCommandRefused, Story}
use Rattle.mt_picture.proofs.Knowing.{kept_made, stands_at}
use Rattle.mt_picture.proofs.Slotted.{at_first, at_second}

published_same : (rules : Rules) (now : ℕ) (some all : List NamedTrajectory) (cs : List Conflict) → ((t : NamedTrajectory) → Contains some t ↔ Contains all t)
    → IsPublishedOf rules now some cs → IsPublishedOf rules now all cs
published_same rules now some all cs same is = record {
  exact = λ c. (
    (λ held. let h = (is.exact c).0 held in
        record { left = h.left; right = h.right; left_in = (same h.left).0 h.left_in; right_in = (same h.right).0 h.right_in; is = h.is }),
    (λ h. (is.exact c).1 (record { left = h.left; right = h.right; left_in = (same h.left).1 h.left_in; right_in = (same h.right).1 h.right_in; is = h.is })),
  );
  sorted = is.sorted;
}

-- a trajectory that is kept of a flight stands in one of the two places of its slot
in_second : (call : List ℕ) (mark : Option Made) (t : NamedTrajectory)
    → Contains (made_named call Tentative (option_map (λ (m : Made). arc_value m.strand) mark)) t
    → (made : Made) × (mark ≡ Some made) × (record { call = call; kind = Tentative; path = arc_value made.strand } ≡ t)
in_second call None t held = absurd (Contains-none t held)
in_second call (Some m) t held = ⊎_elim (λ same. (m, refl, same)) (λ none. absurd (Contains-none t none))
    (Contains-cases (record { call = call; kind = Tentative; path = arc_value m.strand }) [] t held)

module _ (shot : Shot) (sound : IsSoundShot shot) (t : NamedTrajectory) where
  pub to : Contains (held (all_places shot.slots)) t → Contains (trajectories shot.setup (state_in shot)) t
  to there =
      let s = stands (all_places shot.slots) t there in
      let f = stands_at shot.slots s.place t s.is in
      subst (λ (u : NamedTrajectory). Contains (trajectories shot.setup (state_in shot)) u) f.is
      (at_kept shot (s.place / 2) f.flight (made_of_kind f.flight (kind_at s.place) f.made) sound f.at_is (kept_made f.flight (kind_at s.place) f.made f.made_is))

  from : Contains (trajectories shot.setup (state_in shot)) t → Contains (held (all_places shot.slots)) t
  from there =
      let k = kept_at shot t sound there in
      let f = k.flight in
      let i = k.place in
      ⊎_elim
      (λ first. held_at (all_places shot.slots) (2 * i) t (at_first shot.slots i ∙ ap first_of k.at ∙ ap Some first))
      (λ rest.
      let m = in_second f.card.call f.mark t rest in
      let second : second_of (Some f) ≡ Some t = rw m.1 (ap Some m.2) in
      held_at (all_places shot.slots) (2 * i + 1) t (at_second shot.slots i ∙ ap second_of k.at ∙ second))
      (Contains-cases (made_of_kind f Actual f.actual) (made_named f.card.call Tentative (option_map (λ (m : Made). arc_value m.strand) f.mark)) t k.kept)

pub published_now : (shot : Shot) (h : List Entry) (kept : Watched) (cs : List Conflict) → IsPicture shot h kept → IsSoundShot shot
    → IsPublishedOf kept.rules kept.moment (held kept.places) cs → IsPublished shot.setup (state_of shot.setup h) cs
published_now shot h kept cs is sound published =
    let one = rw (is.rules_are, is.moment_is, is.places_are) at published in
    subst (λ (s : State). IsPublished shot.setup s cs) is.stands
    (published_same shot.setup.rules shot.now (held (all_places shot.slots)) (trajectories shot.setup (state_in shot)) cs (λ t. (to shot sound t, from shot sound t)) one)

pub version_now : (shot : Shot) (h : List Entry) → state_in shot ≡ state_of shot.setup h → shot.version ≡ length h
version_now shot h is = ap (λ (s : State). s.version) is ∙ version_is shot.setup h

-- ---- what is answered of a command

pub refused_now : (shot : Shot) (h : List Entry) (who : ℕ) (c : Command) (refusal : Refusal) (version : ℕ) → state_in shot ≡ state_of shot.setup h
    → judged (checks shot.setup (look_at (state_in shot) c) who c) (tt {0}) ≡ Err refusal → version ≡ shot.version
    → IsCommandRefused (record { setup = shot.setup; history = h }) who c (nos.Refused refusal version)
refused_now shot h who c refusal version stands is version_is =
    (subst (λ (s : State). IsDecided shot.setup s who c (Err refusal)) stands (refused shot.setup (state_in shot) who c refusal is), version_is ∙ version_now shot h stands)

pub stale_now : (shot : Shot) (h : List Entry) (who : ℕ) (c : Command) (hit : Hit) (version : ℕ) → state_in shot ≡ state_of shot.setup h
    → judged (checks shot.setup (look_at (state_in shot) c) who c) (tt {0}) ≡ Ok (tt {0}) → IsFirstHit shot.setup (state_in shot) c (Some hit) → version ≡ shot.version
    → IsCommandRefused (record { setup = shot.setup; history = h }) who c (nos.Refused (Stale hit) version)
stale_now shot h who c hit version stands is first version_is =
    (subst (λ (s : State). IsDecided shot.setup s who c (Err (Stale hit))) stands (stale shot.setup (state_in shot) who c hit is first.0 first.1), version_is ∙ version_now shot h stands)

verdict_filled : (setup : Setup) (s : State) (now : ℕ) (c : Command) → verdict_in setup s c ≡ verdict_in setup s (filled now c)
verdict_filled setup s now (Marks call clearance eff) = refl
verdict_filled setup s now c = refl

pub entered_now : (before after : Holding) (who : ℕ) (c : Command) (version : ℕ) (verdict : Option Verdict)
    → state_in before.snapshot ≡ state_of before.snapshot.setup before.history → IsPassed before.snapshot who c → HasEnteredOrStopped before after who c None
    → state_in after.snapshot ≡ state_of after.snapshot.setup after.history → version ≡ after.snapshot.version
    → verdict ≡ verdict_in before.snapshot.setup (state_in before.snapshot) c
    → IsEntered (held_story before) (held_story after) who c (record { version = version; verdict = verdict })
entered_now before after who c version verdict stands passed is stands_after version_is verdict_is =
    let shot = before.snapshot in
    let h = before.history in
    let e : Entry = entry_now shot who c in
    let longer : after.history ≡ h ++ e ∷ [] = ap (λ (s : Story). s.history) is.story in
    let n : version ≡ (state_in shot).version + 1 =
    version_is ∙ version_now after.snapshot after.history stands_after ∙ ap length longer ∙ length-append h (e ∷ []) ∙ ap (λ (k : ℕ). k + 1) (sym (version_now shot h stands)) in
    let v : verdict ≡ verdict_in shot.setup (state_in shot) e.command = verdict_is ∙ verdict_filled shot.setup (state_in shot) shot.now c in
    let here : record { version = version; verdict = verdict } ≡ entered_by shot.setup (state_in shot) e = λ i. record { version = n i; verdict = v i } in
    record {
      entry = e;
      decided = subst (λ (q : State). IsDecided shot.setup q who c (Ok e)) stands (entered shot.setup (state_in shot) who c passed is.hits);
      same = ap (λ (s : Story). s.setup) is.story;
      longer = longer;
      answered = here ∙ ap (λ (q : State). entered_by shot.setup q e) stands;
    }

-- a history that is replayable or legal stays so
pub replayable_after : (before after : Story) (who : ℕ) (c : Command) (entered : Entered) → IsInTime (length before.history) c → IsEntered before after who c entered
    → IsReplayable before.setup before.history → IsReplayable after.setup after.history
replayable_after before after who c entered in_time is replayable =
    let s = state_of before.setup before.history in
    subst (λ (u : Setup). IsReplayable u after.history) (sym is.same) (subst (IsReplayable before.setup) (sym is.longer)
    (replayable_push before.setup before.history is.entry replayable (decided_is before.setup s who c is.entry is.decided)
    (entry_in_time before.setup s who (length before.history) c is.entry is.decided in_time)))

pub legal_after : (before after : Story) (who : ℕ) (c : Command) (entered : Entered) → IsInTime (length before.history) c → IsEntered before after who c entered
    → IsLegal before.setup before.history → WasFree before.setup before.history c → IsLegal after.setup after.history
legal_after before after who c entered in_time is legal free =
    let s = state_of before.setup before.history in
    subst (λ (u : Setup). IsLegal u after.history) (sym is.same) (subst (IsLegal before.setup) (sym is.longer)
    (legal_push before.setup before.history is.entry legal (decided_is before.setup s who c is.entry is.decided)
    (entry_in_time before.setup s who (length before.history) c is.entry is.decided in_time)
    (entry_free before.setup s before.history who c is.entry is.decided free)))
