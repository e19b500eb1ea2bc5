-- What was made after a version: by the entries since, by the stamps of all places, and among what meets a new trajectory.
use Rattle.std.proofs.Common.{◌≡◌, ◌≢◌, ℕ, ◌-◌, ◌*◌, ◌/◌, ◌<◌, ◌≤◌, ⊎_elim, Bool, true, false, true≢false, List, [], length, filter, map, get_or, AllPairs, Contains, Option, Some, None, option_map, nat_lt, refl, sym, ◌∙◌, ap, subst, arith}
use Rattle.std.specs.Prelude.{option_and_then}
use Rattle.std.specs.Arc.{arc_value}
use Rattle.std.proofs.lemmas.Bool.{cases_lt}
use Rattle.std.proofs.lemmas.Bool.Decides.{nat_tests}
use Rattle.std.proofs.lemmas.List.Kept.{AllPairs-filter}
use Rattle.mt_base.specs.declared.command.Entry.{Entry}
use Rattle.mt_base.specs.declared.conflict.Kind.{Kind}
use Rattle.mt_base.specs.Conflict.{IsLossSecond}
use Rattle.mt_base.specs.Picture.{NamedTrajectory}
use Rattle.mt_base.specs.Tables.{Setup}
use Rattle.mt_base.specs.Trajectory.{Trajectory}
use Rattle.mt_base.proofs.Members.{Contains-filter, Contains-map, Contains-map_cases, Contains-none, distinct_held, distinct_map}
use Rattle.mt_cover.specs.Cells.{cover_of}
use Rattle.mt_cover.specs.Sliced.{Sliced, slices_of}
use Rattle.mt_kept.specs.declared.finds.Candidate.{Candidate}
use Rattle.mt_kept.specs.Finds.{IsRight, LoseWithin, candidate_place, is_unknown}
use Rattle.mt_meet.specs.declared.table.Met.{Met}
use Rattle.mt_meet.specs.Meeting.{MeetAt}
use Rattle.mt_meet.proofs.Meetings.{losing_meet}
use Rattle.mt_track.specs.Laid.{IsStrand}
use Rattle.mt_probe.specs.declared.flight.Flight.{Flight}
use Rattle.mt_probe.specs.declared.flight.Made.{Made}
use Rattle.mt_probe.specs.Items.{IsNearItem, kind_at}
use Rattle.mt_probe.specs.Meeting.{IsMetOf}
use Rattle.mt_probe.specs.Shot.{Shot, kept_of, made_of}
use Rattle.mt_probe.specs.Standing.{IsSoundShot}
use Rattle.mt_probe.proofs.Candidates.{early, near_by_meeting}
use Rattle.mt_probe.proofs.Placed.{filled_inside}
use Rattle.mt_picture.specs.Private.Candidates.{AreMetSince, IsNoneMade, IsNoneSince, StandsInPlace, candidate_met, is_after, is_made_since, stamp_at}
use Rattle.mt_picture.specs.Private.Places.{made_of_kind}
use Rattle.mt_picture.specs.Stamps.{AreStamped}
use Rattle.mt_picture.proofs.Knowing.{StandsAt, kept_made, slices_there}

-- the stamp of what stands in a place
pub stamp_there : (slots : List (Option Flight)) (place : ℕ) (call : List ℕ) (kind : Kind) (stamp : ℕ) → StandsInPlace slots place call kind stamp
    → stamp_at slots place ≡ Some stamp
stamp_there slots place call kind stamp st =
    ap (λ (o : Option Flight). option_map (λ (m : Made). m.stamp) (option_and_then (λ f. made_of f (kind_at place)) o)) st.at_is
    ∙ ap (λ (k : Kind). option_map (λ (m : Made). m.stamp) (made_of st.flight k)) st.kind_is
    ∙ ap (option_map (λ (m : Made). m.stamp)) st.made_is ∙ ap Some st.stamp_is

after_true : (version stamp : ℕ) → version < stamp → is_after version (Some stamp) ≡ true
after_true version stamp behind = let test : nat_lt version stamp ≡ true = grind (arith, nat_tests) in test

after_lt : (version stamp : ℕ) → is_after version (Some stamp) ≡ true → version < stamp
after_lt version stamp is = let test : nat_lt version stamp ≡ true = is in grind (arith, nat_tests)

module _ (slots : List (Option Flight)) (version place : ℕ) (f : Flight) (made : Made) (at_is : get_or slots (place / 2) None ≡ Some f)
    (made_is : made_of f (kind_at place) ≡ Some made) where
  own_stamp : stamp_at slots place ≡ Some made.stamp
  own_stamp = stamp_there slots place f.card.call (kind_at place) made.stamp
      (record { flight = f; made = made; at_is = at_is; call_is = refl; kind_is = refl; made_is = made_is; stamp_is = refl })

  -- by its stamp it was made after the version, and the other way round
  pub since_later : is_made_since slots version place ≡ true → version < made.stamp
  since_later since = after_lt version made.stamp (subst (λ (o : Option ℕ). is_after version o ≡ true) own_stamp since)

  pub later_since : version < made.stamp → is_made_since slots version place ≡ true
  later_since behind = subst (λ (o : Option ℕ). is_after version o ≡ true) (sym own_stamp) (after_true version made.stamp behind)

-- ---- by the entries since

-- what stands, by whether it was made after a version
none_there : (slots : List (Option Flight)) (version place : ℕ) → ((f : Flight) (made : Made) → get_or slots (place / 2) None ≡ Some f
    → made_of f (kind_at place) ≡ Some made → version < made.stamp → ⊥) → is_made_since slots version place ≡ false
none_there slots version place none = by_flight (get_or slots (place / 2) None) refl where
  by_test : (stamp : ℕ) → (version < stamp → ⊥) → is_after version (Some stamp) ≡ false
  by_test stamp early = ⊎_elim (λ behind. absurd (early behind)) (λ by_then. let test : nat_lt version stamp ≡ false = grind (arith, nat_tests) in test) (cases_lt version stamp)

  by_made : (f : Flight) → get_or slots (place / 2) None ≡ Some f → (m : Option Made) → made_of f (kind_at place) ≡ m
      → is_after version (option_map (λ (n : Made). n.stamp) m) ≡ false
  by_made f at_is None is = refl
  by_made f at_is (Some made) is = by_test made.stamp (none f made at_is is)

  by_flight : (at : Option Flight) → get_or slots (place / 2) None ≡ at
      → is_after version (option_map (λ (n : Made). n.stamp) (option_and_then (λ f. made_of f (kind_at place)) at)) ≡ false
  by_flight None is = refl
  by_flight (Some f) is = by_made f is (made_of f (kind_at place)) refl

-- where no entry since makes a trajectory, none was made since
pub none_by_entries : (setup : Setup) (h : List Entry) (slots : List (Option Flight)) (version : ℕ) → AreStamped setup h slots → IsNoneMade h version
    → IsNoneSince slots version
none_by_entries setup h slots version stamped none place = none_there slots version place (λ f made at_is made_is behind.
    let it = stamped (place / 2) f (kind_at place) made at_is made_is in
    let some = it.some in
    let entry = it.made (made.stamp - 1) (omega (arith, some)) in
    none (made.stamp - 1) it.entry (omega (arith, some, behind)) entry.0 entry.1.makes)

-- ---- by the stamps of all places

-- behind the last place nothing stands
pub none_by_places : (slots : List (Option Flight)) (version end : ℕ) → 2 * length slots ≤ end
    → ((place : ℕ) → place < end → is_made_since slots version place ≡ false) → IsNoneSince slots version
none_by_places slots version end long none place = none_there slots version place (λ f made at_is made_is behind.
    let inside = filled_inside slots (place / 2) f at_is in
    let is = none place (omega (arith, inside, long)) in
    true≢false (sym (later_since slots version place f made at_is made_is behind) ∙ is))

-- ---- among what meets a new trajectory

-- candidates that were made after a version: each is near, with seconds outside of which no loss is, and none of what loses separation is missed
pub record AreNewer (shot : Shot) (t : Trajectory) (version : ℕ) (xs : List Candidate) : Type 0 where
  pub near : (x : Candidate) → Contains xs x → IsNearItem shot (cover_of shot.setup.rules t) x.place
  pub right : (x : Candidate) → Contains xs x → (f : Flight) (made : Made) (mine : NamedTrajectory) → get_or shot.slots (x.place / 2) None ≡ Some f
      → made_of f (kind_at x.place) ≡ Some made → mine.path ≡ t → IsRight shot.setup.rules mine (made_of_kind f (kind_at x.place) made) x.knowledge
  pub unknown : (x : Candidate) → Contains xs x → is_unknown x.knowledge ≡ true
  pub since : (x : Candidate) → Contains xs x → is_made_since shot.slots version x.place ≡ true
  pub complete : (j k : ℕ) (other : NamedTrajectory) → (s : StandsAt shot.slots j other) → version < s.made.stamp
      → IsLossSecond shot.setup.rules t other.path k → Contains (map candidate_place xs) j
  pub once : AllPairs (λ x y. x.place ≢ y.place) xs

module _ (shot : Shot) (t : Trajectory) (version : ℕ) (sound : IsSoundShot shot) (laid : IsStrand t) where
  -- a trajectory that stands is one of segments
  strand_there : (j : ℕ) (other : NamedTrajectory) → StandsAt shot.slots j other → IsStrand other.path
  strand_there j other s = sound.laid (j / 2) s.flight other s.at_is
      (subst (Contains (kept_of s.flight)) s.is (kept_made s.flight (kind_at j) s.made s.made_is))

  -- in a loss second its slices meet those of the new one
  met_there : (j k : ℕ) (other : NamedTrajectory) → StandsAt shot.slots j other → IsLossSecond shot.setup.rules t other.path k
      → MeetAt shot.setup.rules (slices_of shot.setup.rules t) (slices_of shot.setup.rules other.path) k
  met_there j k other s loss = losing_meet shot.setup.rules t other.path k sound.rules laid (strand_there j other s) loss

  -- so there is none outside of the seconds in which they meet
  lose_within : (met : Met) (other : NamedTrajectory) → IsMetOf shot (slices_of shot.setup.rules t) met → StandsAt shot.slots met.item other
      → LoseWithin shot.setup.rules t other.path met.first met.last
  lose_within met other is s =
      let both : Some (slices_of shot.setup.rules other.path) ≡ Some is.theirs = sym (slices_there shot.setup.rules shot.slots met.item other s) ∙ is.there in
      let own : slices_of shot.setup.rules other.path ≡ is.theirs = cc in
      record {
        inside = λ k loss. is.hull.none_outside k (subst (λ (u : Sliced). MeetAt shot.setup.rules (slices_of shot.setup.rules t) u k) own
            (met_there met.item k other s loss));
        early = early shot t met laid is;
      }

  module _ (xs : List Candidate) (all : AreMetSince shot (slices_of shot.setup.rules t) version xs) where
    abbrev counts : Met → Bool
    counts met = is_made_since shot.slots version met.item

    -- where a candidate came from
    record IsFrom (x : Candidate) : Type 0 where
      met : Met
      is : candidate_met met ≡ x
      of : IsMetOf shot (slices_of shot.setup.rules t) met
      since : counts met ≡ true

    from : (x : Candidate) → Contains xs x → IsFrom x
    from x held =
        let s = Contains-map_cases candidate_met (filter counts all.list) x (subst (λ (ys : List Candidate). Contains ys x) all.is held) in
        let m = (Contains-filter counts all.list s.of).0 s.held in
        record { met = s.of; is = s.is; of = all.met.exact s.of m.0; since = m.1 }

    pub newer : AreNewer shot t version xs
    newer = record {
      near = λ x held. let s = from x held in
          subst (λ (y : Candidate). IsNearItem shot (cover_of shot.setup.rules t) y.place) s.is
          (near_by_meeting shot t s.met.item s.of.theirs s.met.first sound laid s.of.there s.of.hull.first_is);
      right = λ x held. let s = from x held in
          subst (λ (y : Candidate). (f : Flight) (made : Made) (mine : NamedTrajectory) → get_or shot.slots (y.place / 2) None ≡ Some f
          → made_of f (kind_at y.place) ≡ Some made → mine.path ≡ t → IsRight shot.setup.rules mine (made_of_kind f (kind_at y.place) made) y.knowledge) s.is
          (λ f made mine at_is made_is same.
          subst (λ (u : Trajectory). LoseWithin shot.setup.rules u (arc_value made.strand) s.met.first s.met.last) (sym same)
          (lose_within s.met (made_of_kind f (kind_at s.met.item) made) s.of
          (record { flight = f; made = made; at_is = at_is; made_is = made_is; is = refl })));
      unknown = λ x held. let s = from x held in subst (λ (y : Candidate). is_unknown y.knowledge ≡ true) s.is refl;
      since = λ x held. let s = from x held in subst (λ (y : Candidate). is_made_since shot.slots version y.place ≡ true) s.is s.since;
      complete = λ j k other s behind loss.
          let listed = all.met.complete j (slices_of shot.setup.rules other.path) k (slices_there shot.setup.rules shot.slots j other s) (met_there j k other s loss) in
          let counted : counts listed.met ≡ true = subst (λ (i : ℕ). is_made_since shot.slots version i ≡ true) (sym listed.is)
          (later_since shot.slots version j s.flight s.made s.at_is s.made_is behind) in
          let held = (Contains-filter counts all.list listed.met).1 (listed.held, counted) in
          let there = Contains-map candidate_place xs (candidate_met listed.met)
          (subst (λ (ys : List Candidate). Contains ys (candidate_met listed.met)) (sym all.is) (Contains-map candidate_met (filter counts all.list) listed.met held)) in
          subst (Contains (map candidate_place xs)) listed.is there;
      once = subst (AllPairs (λ (x y : Candidate). x.place ≢ y.place)) (sym all.is)
          (distinct_map (λ (x y : Candidate). x.place ≢ y.place) candidate_met (filter counts all.list)
          (distinct_held (λ (m n : Met). m.item < n.item) (λ (m n : Met). m.item ≢ n.item) (filter counts all.list)
          (λ m n m_in n_in before same. omega (arith, before, same))
          (AllPairs-filter (λ (m n : Met). m.item < n.item) counts all.list all.met.rising)));
    }

  -- where nothing was made since, there are none
  pub none_newer : IsNoneSince shot.slots version → AreNewer shot t version []
  none_newer none = record {
    near = λ x held. absurd (Contains-none x held);
    right = λ x held. absurd (Contains-none x held);
    unknown = λ x held. absurd (Contains-none x held);
    since = λ x held. absurd (Contains-none x held);
    complete = λ j k other s behind loss. absurd (true≢false (sym (later_since shot.slots version j s.flight s.made s.at_is s.made_is behind) ∙ none j));
    once = λ i j d before below. absurd (omega arith);
  }
