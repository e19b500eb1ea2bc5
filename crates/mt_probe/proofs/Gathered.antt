-- What is found with some trajectories, and the trajectories that are kept of the flights of a snapshot.
use Rattle.std.proofs.Common.{◌≡◌, ◌≢◌, ℕ, suc, ◌<◌, inl, inr, ⊎_elim, List, [], ◌∷◌, ◌++◌, Option, Some, None, Contains, nat_eq, option_map, Bool, true, false, refl, sym, ◌∙◌, ap, subst, arith}
use Rattle.std.proofs.lemmas.List.Elements.{All-contains, Contains-append_cases, Contains-append_left, Contains-append_right, Contains-push, Contains-push_cases}
use Rattle.std.proofs.lemmas.List.Kept.{AllPairs-cons}
use Rattle.std.specs.List.{All, AllPairs}
use Rattle.std.specs.Prelude.{is_some}
use Rattle.std.proofs.lemmas.Bool.Decides.{nat_tests}
use Rattle.std.specs.Arc.{arc_value}
use Rattle.mt_base.specs.declared.conflict.Kind.{Kind}
use Rattle.mt_base.specs.declared.conflict.Kind.TheVariants.{Actual, Tentative}
use Rattle.mt_base.specs.declared.flight.Record.{Record}
use Rattle.mt_base.specs.declared.rules.Rules.{Rules}
use Rattle.mt_base.specs.Conflict.{IsLossSecond}
use Rattle.mt_base.specs.Picture.{NamedTrajectory, State, trajectories, trajectories_of}
use Rattle.mt_base.specs.Tables.{Setup}
use Rattle.mt_base.specs.Trajectory.{Trajectory}
use Rattle.mt_probe.specs.declared.finding.Found.{Found}
use Rattle.mt_probe.specs.declared.flight.Flight.{Flight}
use Rattle.mt_probe.specs.Finds.{AreFinds, AreDifferentFinds, AreOneEach, IsFound, IsFindListed, IsOfAnother}
use Rattle.mt_probe.specs.Private.Finds.{AreCalledApart, FindsMore}
use Rattle.mt_base.specs.Trajectory.{horizon}
use Rattle.mt_probe.specs.Shot.{Shot, flight_at, kept_of, made_named, records_in, state_in_shot}
use Rattle.mt_probe.specs.Standing.{IsSoundShot}
use Rattle.mt_base.proofs.Members.{All-from_held, Contains-cases, Contains-flat_map, Contains-flat_map_cases, Contains-none, distinct_append}
use Rattle.mt_probe.proofs.Placed.{filled_inside, record_placed, record_there}

-- what holds of any two members holds of any two of each part, and across
distinct_parts : {X : Type 0} (R : X → X → Type 0) (xs ys : List X) → AllPairs R (xs ++ ys)
    → AllPairs R xs × AllPairs R ys × ((x y : X) → Contains xs x → Contains ys y → R x y)
distinct_parts R [] ys all = ((λ i j d before below. absurd (omega arith)), all, (λ x y held there. absurd (Contains-none x held)))
distinct_parts R (x ∷ xs) ys all =
    let heads : All (R x) (xs ++ ys) = λ k d below. all 0 (suc k) d (omega arith) (omega arith) in
    let (front, back, across) = distinct_parts R xs ys (λ i j d before below. all (suc i) (suc j) d (omega arith) (omega arith)) in (
      AllPairs-cons R x xs (All-from_held (R x) xs (λ y held. All-contains (R x) (xs ++ ys) y heads (Contains-append_left xs ys y held))) front,
      back,
      λ z y held there. ⊎_elim
          (λ same. subst (λ w. R w y) same (All-contains (R x) (xs ++ ys) y heads (Contains-append_right xs ys y there)))
          (λ later. across z y later there) (Contains-cases x xs z held),
    )

module _ (rules : Rules) (now : ℕ) (t : Trajectory) where
  pub none_more : (finds : List Found) → FindsMore rules now t [] finds finds
  none_more finds = record { kept = λ found held. held; exact = λ found held. inl held; listed = λ other held k ahead loss. absurd (Contains-none other held); once = λ others apart before. before }

  -- one that has no loss second adds nothing
  pub quiet_more : (other : NamedTrajectory) (finds : List Found) → ((k : ℕ) → k < horizon → ¬ IsLossSecond rules t other.path k)
      → FindsMore rules now t (other ∷ []) finds finds
  quiet_more other finds quiet = record {
    kept = λ found held. held;
    exact = λ found held. inl held;
    listed = λ one held k ahead loss. ⊎_elim
        (λ same. absurd (quiet k ahead (subst (λ (o : NamedTrajectory). IsLossSecond rules t o.path k) (sym same) loss)))
        (λ none. absurd (Contains-none one none)) (Contains-cases other [] one held);
    once = λ others apart before. before;
  }

  pub one_more : (other : NamedTrajectory) (found : Found) (old new : List Found) → IsFound rules now t other found → is_some found.whole ≡ true
      → new ≡ old ++ found ∷ [] → FindsMore rules now t (other ∷ []) old new
  one_more other found old new is some pushed = rw pushed (record {
    kept = λ one held. Contains-append_left old (found ∷ []) one held;
    exact = λ one held. ⊎_elim inl
        (λ same. inr (record { other = other; among = (0, omega arith, refl); is = subst (IsFound rules now t other) same is; loss = subst (λ (f : Found). is_some f.whole ≡ true) same some }))
        (Contains-push_cases old found one held);
    listed = λ one held k ahead loss. ⊎_elim
        (λ same. record { found = found; held = Contains-push old found; is = subst (λ (o : NamedTrajectory). IsFound rules now t o found) same is })
        (λ none. absurd (Contains-none one none)) (Contains-cases other [] one held);
    once = λ others apart before. distinct_append AreDifferentFinds old (found ∷ []) before (λ i j d first last. absurd (omega arith))
        (λ one two held last same. ⊎_elim
        (λ e. apart one other held (0, omega arith, refl) (
          same.0 ∙ sym (ap (λ (f : Found). f.call) e) ∙ is.call_is,
          same.1 ∙ sym (ap (λ (f : Found). f.kind) e) ∙ is.kind_is,
        ))
        (λ none. absurd (Contains-none two none)) (Contains-cases found [] two last));
  })

  still_listed : (finds more : List Found) (other : NamedTrajectory) → ((found : Found) → Contains finds found → Contains more found)
      → IsFindListed rules now t finds other → IsFindListed rules now t more other
  still_listed finds more other kept it = record { found = it.found; held = kept it.found it.held; is = it.is }

  pub both_more : (xs ys : List NamedTrajectory) (old mid new : List Found) → FindsMore rules now t xs old mid → FindsMore rules now t ys mid new
      → FindsMore rules now t (xs ++ ys) old new
  both_more xs ys old mid new first second = record {
    kept = λ found held. second.kept found (first.kept found held);
    exact = λ found held. ⊎_elim
        (λ before. ⊎_elim inl
        (λ one. inr (record { other = one.other; among = Contains-append_left xs ys one.other one.among; is = one.is; loss = one.loss }))
        (first.exact found before))
        (λ one. inr (record { other = one.other; among = Contains-append_right xs ys one.other one.among; is = one.is; loss = one.loss }))
        (second.exact found held);
    listed = λ other held k ahead loss. ⊎_elim
        (λ left. still_listed mid new other second.kept (first.listed other left k ahead loss))
        (λ right. second.listed other right k ahead loss) (Contains-append_cases xs ys other held);
    once = λ others apart before.
        let parts = distinct_parts AreCalledApart xs ys others in
        second.once parts.1
        (λ found other held behind same. ⊎_elim
        (λ was. apart found other was (Contains-append_right xs ys other behind) same)
        (λ one. parts.2 one.other other one.among behind (sym one.is.call_is ∙ same.0, sym one.is.kind_is ∙ same.1))
        (first.exact found held))
        (first.once parts.0 (λ found other held front same. apart found other held (Contains-append_left xs ys other front) same) before);
  }

-- the callsign of what is kept of a flight
named_call : (call : List ℕ) (kind : Kind) (made : Option Trajectory) (other : NamedTrajectory) → Contains (made_named call kind made) other → other.call ≡ call
named_call call kind None other held = absurd (Contains-none other held)
named_call call kind (Some path) other held =
    ⊎_elim (λ same. sym (ap (λ (o : NamedTrajectory). o.call) same)) (λ none. absurd (Contains-none other none))
    (Contains-cases (record { call = call; kind = kind; path = path }) [] other held)

pub kept_call : (f : Flight) (other : NamedTrajectory) → Contains (kept_of f) other → other.call ≡ f.card.call
kept_call f other held = ⊎_elim (λ same. sym (ap (λ (o : NamedTrajectory). o.call) same))
    (λ rest. named_call f.card.call Tentative (option_map (λ m. arc_value m.strand) f.mark) other rest)
    (Contains-cases (record { call = f.card.call; kind = Actual; path = arc_value f.actual.strand })
    (made_named f.card.call Tentative (option_map (λ m. arc_value m.strand) f.mark)) other held)

-- the trajectories of the state of a snapshot are those that are kept
pub record IsKeptAt (shot : Shot) (other : NamedTrajectory) : Type 0 where
  pub place : ℕ
  pub flight : Flight
  pub at : flight_at shot place ≡ Some flight
  pub kept : Contains (kept_of flight) other
  pub call_is : other.call ≡ flight.card.call

pub kept_at : (shot : Shot) (other : NamedTrajectory) → IsSoundShot shot → Contains (trajectories shot.setup (state_in_shot shot)) other → IsKeptAt shot other
kept_at shot other sound held =
    let it = Contains-flat_map_cases (trajectories_of shot.setup) (records_in shot.slots) other held in
    let placed = record_placed shot.slots it.of it.there in
    let within = subst (λ (r : Record). Contains (trajectories_of shot.setup r) other) (sym placed.card_is) it.within in
    let kept = subst (λ (os : List NamedTrajectory). Contains os other) (sym (sound.sound placed.place placed.flight placed.at).kept) within in
    record { place = placed.place; flight = placed.flight; at = placed.at; kept = kept; call_is = kept_call placed.flight other kept }

pub at_kept : (shot : Shot) (i : ℕ) (f : Flight) (other : NamedTrajectory) → IsSoundShot shot → flight_at shot i ≡ Some f → Contains (kept_of f) other
    → Contains (trajectories shot.setup (state_in_shot shot)) other
at_kept shot i f other sound at held =
    Contains-flat_map (trajectories_of shot.setup) (records_in shot.slots) f.card other (record_there shot i f sound (filled_inside shot.slots i f at) at)
    (subst (λ (os : List NamedTrajectory). Contains os other) (sound.sound i f at).kept held)

-- of each kind, one is kept of a flight
kept_once : (f : Flight) (a b : NamedTrajectory) → Contains (kept_of f) a → Contains (kept_of f) b → a.kind ≡ b.kind → a ≡ b
kept_once f a b a_in b_in kinds = ⊎_elim
    (λ a_first. ⊎_elim (λ b_first. sym a_first ∙ b_first) (λ b_rest. absurd (apart a b a_first b_rest kinds)) (Contains-cases actual rest b b_in))
    (λ a_rest. ⊎_elim (λ b_first. absurd (apart b a b_first a_rest (sym kinds))) (λ b_rest. same (option_map (λ m. arc_value m.strand) f.mark) a_rest b_rest) (Contains-cases actual rest b b_in))
    (Contains-cases actual rest a a_in) where
      actual : NamedTrajectory
      actual = record { call = f.card.call; kind = Actual; path = arc_value f.actual.strand }

      rest : List NamedTrajectory
      rest = made_named f.card.call Tentative (option_map (λ m. arc_value m.strand) f.mark)

      kind_of : (made : Option Trajectory) (o : NamedTrajectory) → Contains (made_named f.card.call Tentative made) o → o.kind ≡ Tentative
      kind_of None o held = absurd (Contains-none o held)
      kind_of (Some path) o held = ⊎_elim (λ e. sym (ap (λ (p : NamedTrajectory). p.kind) e)) (λ none. absurd (Contains-none o none))
          (Contains-cases (record { call = f.card.call; kind = Tentative; path = path }) [] o held)

      apart : (x y : NamedTrajectory) → actual ≡ x → Contains rest y → x.kind ≡ y.kind → ⊥
      apart x y first later e =
          let x_kind : Actual ≡ x.kind = ap (λ (p : NamedTrajectory). p.kind) first in
          let y_kind = kind_of (option_map (λ m. arc_value m.strand) f.mark) y later in
          let both : Actual ≡ Tentative = x_kind ∙ e ∙ y_kind in cc

      same : (made : Option Trajectory) → Contains (made_named f.card.call Tentative made) a → Contains (made_named f.card.call Tentative made) b → a ≡ b
      same None a_held b_held = absurd (Contains-none a a_held)
      same (Some path) a_held b_held =
          let only : NamedTrajectory = record { call = f.card.call; kind = Tentative; path = path } in
          ⊎_elim
          (λ e. ⊎_elim (λ d. sym e ∙ d) (λ none. absurd (Contains-none b none)) (Contains-cases only [] b b_held))
          (λ none. absurd (Contains-none a none)) (Contains-cases only [] a a_held)

-- no two trajectories of the state have one callsign and one kind
pub one_each : (shot : Shot) → IsSoundShot shot → AreOneEach (trajectories shot.setup (state_in_shot shot))
one_each shot sound a b a_in b_in calls kinds =
    let at_a = kept_at shot a sound a_in in
    let at_b = kept_at shot b sound b_in in
    by_place at_a at_b (nat_eq at_a.place at_b.place) refl where
      by_place : (at_a : IsKeptAt shot a) (at_b : IsKeptAt shot b) (t : Bool) → nat_eq at_a.place at_b.place ≡ t → a ≡ b
      by_place at_a at_b true e =
          let place : at_a.place ≡ at_b.place = grind (arith, nat_tests) in
          let there : flight_at shot at_b.place ≡ Some at_a.flight = subst (λ (k : ℕ). flight_at shot k ≡ Some at_a.flight) place at_a.at in
          let both = sym at_b.at ∙ there in
          let one : at_b.flight ≡ at_a.flight = cc in
          kept_once at_a.flight a b at_a.kept (subst (λ (f : Flight). Contains (kept_of f) b) one at_b.kept) kinds
      by_place at_a at_b false e =
          let differ : at_a.place ≢ at_b.place = grind (arith, nat_tests) in
          absurd ((sound.apart at_a.place at_b.place at_a.flight at_b.flight differ at_a.at at_b.at).calls (sym at_a.call_is ∙ calls ∙ at_b.call_is))

-- a find with the name of another trajectory is what is found with that
pub found_is : (setup : Setup) (s : State) (own : List ℕ) (t : Trajectory) (finds : List Found) (found : Found) → AreFinds setup s own t finds
    → AreOneEach (trajectories setup s) → Contains finds found → (other : NamedTrajectory) → IsOfAnother setup s own other → other.call ≡ found.call
    → other.kind ≡ found.kind → IsFound setup.rules s.now t other found
found_is setup s own t finds found are each held other of call_is kind_is =
    let it = are.exact found held in
    let same = each it.other other it.of.there of.there (sym it.is.call_is ∙ sym call_is) (sym it.is.kind_is ∙ sym kind_is) in
    subst (λ (o : NamedTrajectory). IsFound setup.rules s.now t o found) same it.is
