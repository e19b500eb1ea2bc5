-- The candidates that are gathered are near, right, and all that a new trajectory needs.
use Rattle.std.proofs.Common.{◌≡◌, ◌≢◌, ℕ, ◌/◌, ◌<◌, ⊎_elim, Bool, true, false, true≢false, List, ◌++◌, map, get_or, Contains, Option, Some, None, is_some, option_map, refl, sym, ◌∙◌, ap, subst, arith}
use Rattle.std.specs.Prelude.{option_and_then}
use Rattle.std.proofs.lemmas.Bool.{cases_lt}
use Rattle.std.proofs.lemmas.List.{map-append}
use Rattle.std.proofs.lemmas.List.Elements.{Contains-append_cases, Contains-append_left, Contains-append_right}
use Rattle.mt_base.specs.declared.command.Entry.{Entry}
use Rattle.mt_base.specs.declared.rules.Rules.{Rules}
use Rattle.mt_base.specs.Conflict.{IsConflict, IsLossSecond}
use Rattle.mt_base.specs.Picture.{NamedTrajectory, trajectories}
use Rattle.mt_base.specs.Tables.{Setup}
use Rattle.mt_base.specs.Trajectory.{Trajectory}
use Rattle.mt_base.proofs.Members.{distinct_append}
use Rattle.mt_cover.specs.Cells.{cover_of}
use Rattle.mt_cover.specs.Sliced.{slices_of}
use Rattle.mt_kept.specs.declared.finds.Candidate.{Candidate}
use Rattle.mt_kept.specs.Finds.{IsRight, candidate_place}
use Rattle.mt_kept.specs.Places.{at}
use Rattle.mt_base.specs.Trajectory.{horizon}
use Rattle.mt_probe.specs.declared.flight.Flight.{Flight}
use Rattle.mt_probe.specs.declared.flight.Made.{Made}
use Rattle.mt_probe.specs.Finds.{IsFound, IsOfAnother}
use Rattle.mt_probe.specs.Items.{IsNearItem, kind_at}
use Rattle.mt_probe.specs.Prepared.{IsPrepared, Prepared}
use Rattle.mt_probe.specs.Shot.{Shot, kept_of, made_of}
use Rattle.mt_probe.specs.Standing.{IsSoundShot}
use Rattle.mt_probe.proofs.Gathered.{found_is}
use Rattle.mt_probe.proofs.Nearby.{near_by_loss}
use Rattle.mt_track.specs.Laid.{IsStrand}
use Rattle.mt_picture.specs.Private.Candidates.{AreMetSince, AreStill, IsStillOne, is_made_since}
use Rattle.mt_picture.specs.Private.Places.{all_places, made_of_kind}
use Rattle.mt_picture.specs.Private.Stamps.{HaveStood}
use Rattle.mt_picture.specs.Stamps.{AreStamped}
use Rattle.mt_picture.specs.Private.Known.{AreNearCandidates, IsKnown, IsPreps}
use Rattle.mt_picture.proofs.Knowing.{StandsAt, earlier_there, found_right, kept_made, stands_at, stays_there}
use Rattle.mt_picture.proofs.Newer.{AreNewer, newer, since_later, stamp_there}
use Rattle.mt_picture.proofs.Standings.{as_at}

-- what stands in a place and has a loss second with a trajectory is near it
near_there : (shot : Shot) (t : Trajectory) (j k : ℕ) (other : NamedTrajectory) → IsSoundShot shot → IsStrand t → StandsAt shot.slots j other
    → IsLossSecond shot.setup.rules t other.path k → IsNearItem shot (cover_of shot.setup.rules t) j
near_there shot t j k other sound laid s loss =
    let kept : Contains (kept_of s.flight) other = subst (Contains (kept_of s.flight)) s.is (kept_made s.flight (kind_at j) s.made s.made_is) in
    near_by_loss shot t other.path j k sound.rules laid (sound.laid (j / 2) s.flight other s.at_is kept) loss (stays_there shot.setup.rules shot.slots j other s)

-- what was made later, as one that isn't known
newer_known : (shot : Shot) (t : Trajectory) (p : Prepared) (known : Bool) (version : ℕ) (xs : List Candidate) (x : Candidate) → p.setup ≡ shot.setup
    → (known ≡ true → p.state.version ≡ version) → AreNewer shot t version xs → Contains xs x → IsKnown p known t shot.slots x
newer_known shot t p known version xs x setup_is version_is new held = record {
  right = λ f made mine at_is made_is apart same.
      subst (λ (u : Setup). IsRight u.rules mine (made_of_kind f (kind_at x.place) made) x.knowledge) (sym setup_is)
      (new.right x held f made mine at_is made_is same);
  earlier = λ span solid is. absurd (let unknown = rw is at (new.unknown x held) in true≢false (sym unknown));
  later = λ is_known unknown f made at_is made_is.
      subst (λ (v : ℕ). v < made.stamp) (sym (version_is is_known)) (since_later shot.slots version x.place f made at_is made_is (new.since x held));
}

-- all that meet the new one are candidates: each trajectory that stands was made after version 0
pub near_all : (shot : Shot) (h : List Entry) (t : Trajectory) (p : Prepared) (known : Bool) (xs : List Candidate) → IsSoundShot shot → IsStrand t → known ≡ false
    → p.setup ≡ shot.setup → AreStamped shot.setup h shot.slots → AreMetSince shot (slices_of shot.setup.rules t) 0 xs → AreNearCandidates shot t p known xs
near_all shot h t p known xs sound laid unknown setup_is stamped all =
    let new = newer shot t 0 sound laid xs all in
    record {
      near = new.near;
      known_is = λ x held. newer_known shot t p known 0 xs x setup_is (λ is_known. absurd (true≢false (sym is_known ∙ unknown))) new held;
      complete = λ j k other is apart early loss.
          let s = stands_at shot.slots j other is in
          new.complete j k other s (stamped (j / 2) s.flight (kind_at j) s.made s.at_is s.made_is).some loss;
      once = new.once;
    }

module _ (shot : Shot) (t : Trajectory) (p : Prepared) (known : Bool) (xs later : List Candidate)
    (sound : IsSoundShot shot) (kept : IsPrepared p) (laid : IsStrand t) (setup_is : p.setup ≡ shot.setup) (is_known : known ≡ true) (preps : IsPreps p known t)
    (stood : HaveStood shot p) (still : AreStill shot.slots p.state.version p.finds xs) (new : AreNewer shot t p.state.version later) where
  rules_are : p.setup.rules ≡ shot.setup.rules
  rules_are = ap (λ (u : Setup). u.rules) setup_is

  -- what a prep says of what stands, made by its version
  says : (x : Candidate) → (s : IsStillOne shot.slots p.state.version p.finds x) → (other : NamedTrajectory) → IsOfAnother p.setup p.state p.card.call other
      → other.call ≡ s.found.call → other.kind ≡ s.found.kind → IsFound p.setup.rules p.state.now p.strand other s.found
  says x s = found_is p.setup p.state p.card.call p.strand p.finds s.found kept.finds_are kept.one_each s.held

  stamp_is : (x : Candidate) → (s : IsStillOne shot.slots p.state.version p.finds x)
      → Some s.is.stamp ≡ option_map (λ (m : Made). m.stamp) (option_and_then (λ f. made_of f (kind_at x.place)) (get_or shot.slots (x.place / 2) None))
  stamp_is x s = sym (stamp_there shot.slots x.place s.found.call s.found.kind s.is.stamp s.is.stands)

  still_known : (x : Candidate) → IsStillOne shot.slots p.state.version p.finds x → IsKnown p known t shot.slots x
  still_known x s =
      let st = s.is.stands in
      subst (λ (y : Candidate). IsKnown p known t shot.slots y) (sym (ap (λ v. record { place = x.place; knowledge = v }) s.is.knowledge_is)) (record {
        right = λ f made mine at_is made_is apart uses. found_right shot (x.place / 2) (kind_at x.place) p known s.is.stamp st.flight.card s.found stood
            (stamp_is x s) (sym (ap (option_map (λ (g : Flight). g.card)) st.at_is)) s.is.early is_known
            (λ other of call_is kind_is. says x s other of (call_is ∙ st.call_is) (kind_is ∙ st.kind_is)) f made mine at_is made_is apart
            (λ here. uses ∙ preps here);
        earlier = λ span solid is. earlier_there p (get_or shot.slots (x.place / 2) None) (kind_at x.place) s.is.stamp (stamp_is x s) s.is.early;
        later = λ here is. absurd (true≢false (sym is));
      })

  -- it is near the new one, since it has a loss second with it
  still_near : (x : Candidate) → IsStillOne shot.slots p.state.version p.finds x → IsNearItem shot (cover_of shot.setup.rules t) x.place
  still_near x s =
      let st = s.is.stands in
      let other : NamedTrajectory = made_of_kind st.flight s.found.kind st.made in
      let it = kept.finds_are.exact s.found s.held in
      let there = stood (x.place / 2) st.flight s.found.kind st.made st.at_is st.made_is (let e = st.stamp_is in let early = s.is.early in omega arith) in
      let apart : other.call ≢ p.card.call = λ same. it.of.apart (sym it.is.call_is ∙ sym st.call_is ∙ same) in
      let found : IsFound p.setup.rules p.state.now p.strand other s.found = says x s other (record { there = there; apart = apart }) st.call_is refl in
      by_whole other (as_at shot.slots x.place s.found.call s.found.kind s.is.stamp st) s.found.whole found.whole it.loss where
        by_whole : (other : NamedTrajectory) → StandsAt shot.slots x.place other → (whole : Option (ℕ × ℕ)) → IsConflict p.setup.rules p.strand other.path 0 horizon whole
            → is_some whole ≡ true → IsNearItem shot (cover_of shot.setup.rules t) x.place
        by_whole other at None conflict some = absurd (cc)
        by_whole other at (Some span) conflict some =
            let loss : IsLossSecond shot.setup.rules t other.path span.0 =
            subst (λ (u : Trajectory). IsLossSecond shot.setup.rules u other.path span.0) (sym (preps is_known))
            (subst (λ (r : Rules). IsLossSecond r p.strand other.path span.0) rules_are conflict.first_is) in
            near_there shot t x.place span.0 other sound laid at loss

  -- what has a loss second with the new one and was made by the prep's version was found; what was made later meets it
  covered : (j k : ℕ) (other : NamedTrajectory) → at (all_places shot.slots) j ≡ Some other → other.call ≢ p.card.call → k < horizon
      → IsLossSecond shot.setup.rules t other.path k → Contains (map candidate_place (xs ++ later)) j
  covered j k other is apart early loss =
      let s = stands_at shot.slots j other is in
      let call_is : s.flight.card.call ≡ other.call = ap (λ (u : NamedTrajectory). u.call) s.is in
      let kind_is : kind_at j ≡ other.kind = ap (λ (u : NamedTrajectory). u.kind) s.is in
      subst (λ (ps : List ℕ). Contains ps j) (sym (map-append candidate_place xs later))
      (⊎_elim
      (λ behind. Contains-append_right (map candidate_place xs) (map candidate_place later) j (new.complete j k other s behind loss))
      (λ by_then.
      let there = subst (Contains (trajectories p.setup p.state)) s.is (stood (j / 2) s.flight (kind_at j) s.made s.at_is s.made_is (omega arith)) in
      let then_loss : IsLossSecond p.setup.rules p.strand other.path k =
      subst (λ (r : Rules). IsLossSecond r p.strand other.path k) (sym rules_are)
      (subst (λ (u : Trajectory). IsLossSecond shot.setup.rules u other.path k) (preps is_known) loss) in
      let it = kept.finds_are.complete other (record { there = there; apart = apart }) k early then_loss in
      Contains-append_left (map candidate_place xs) (map candidate_place later) j
      (still.complete it.found j s.made.stamp it.held (record {
        flight = s.flight;
        made = s.made;
        at_is = s.at_is;
        call_is = call_is ∙ sym it.is.call_is;
        kind_is = kind_is ∙ sym it.is.kind_is;
        made_is = ap (made_of s.flight) (sym (kind_is ∙ sym it.is.kind_is)) ∙ s.made_is;
        stamp_is = refl;
      }) (omega arith)))
      (cases_lt p.state.version s.made.stamp))

  -- what was found was made by the prep's version, and so is none of the later ones
  across : (x y : Candidate) → Contains xs x → Contains later y → x.place ≢ y.place
  across x y x_in y_in same =
      let s = still.sound x x_in in
      let st = s.is.stands in
      let since = subst (λ (i : ℕ). is_made_since shot.slots p.state.version i ≡ true) (sym same) (new.since y y_in) in
      let behind = since_later shot.slots p.state.version x.place st.flight st.made st.at_is (ap (made_of st.flight) st.kind_is ∙ st.made_is) since in
      omega (arith, behind, st.stamp_is, s.is.early)

  pub near_known : AreNearCandidates shot t p known (xs ++ later)
  near_known = record {
    near = λ x held. ⊎_elim (λ found. still_near x (still.sound x found)) (λ newer. new.near x newer) (Contains-append_cases xs later x held);
    known_is = λ x held. ⊎_elim
        (λ found. still_known x (still.sound x found))
        (λ newer. newer_known shot t p known p.state.version later x setup_is (λ here. refl) new newer)
        (Contains-append_cases xs later x held);
    complete = covered;
    once = distinct_append (λ (x y : Candidate). x.place ≢ y.place) xs later still.once new.once across;
  }
