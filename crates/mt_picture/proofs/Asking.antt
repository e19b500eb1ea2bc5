-- What a change of the kept conflicts costs, by trajectories.
use Rattle.std.proofs.Common.{◌≡◌, ◌≢◌, ℕ, ◌+◌, ◌*◌, ◌/◌, ◌≤◌, ⊎_elim, Bool, true, false, not, ◌==◌, List, [], ◌∷◌, ◌++◌, length, map, get_or, Contains, All, AllPairs, Option, Some, None, refl, sym, ◌∙◌, ap, subst, arith}
use Rattle.std.proofs.lemmas.Bool.{cases_eq, cases_lt}
use Rattle.std.proofs.lemmas.List.{get_or_default, length-map, map-append}
use Rattle.std.proofs.lemmas.List.Elements.{Contains-append_cases}
use Rattle.std.proofs.lemmas.List.Kept.{AllPairs-filter}
use Rattle.std.proofs.lemmas.Slice.Eq.{bytes_eq-Decides}
use Rattle.std.specs.List.{filter, sum_by}
use Rattle.std.specs.Str.{bytes_eq}
use Rattle.mt_base.specs.declared.rules.Rules.{Rules}
use Rattle.mt_base.specs.Effect.{state_of}
use Rattle.mt_base.specs.Picture.{NamedTrajectory, State, trajectories}
use Rattle.mt_base.specs.Tables.{Setup}
use Rattle.mt_cover.specs.declared.stays.Stay.{Stay}
use Rattle.mt_kept.specs.declared.finds.Candidate.{Candidate}
use Rattle.mt_kept.specs.declared.finds.Knowledge.{Knowledge}
use Rattle.mt_kept.specs.declared.finds.Knowledge.TheVariants.{Known, Within}
use Rattle.mt_kept.specs.Finds.{IsRight, asks_one, asks_two, cost, is_crossing, is_listed, is_other, is_unknown}
use Rattle.mt_kept.specs.Places.{at}
use Rattle.mt_base.specs.Tally.{RoseUpTo}
use Rattle.mt_kept.specs.Window.{is_straddling}
use Rattle.mt_kept.proofs.Costs.{cost_sum}
use Rattle.mt_base.proofs.Members.{All-from_held, Contains-filter, Contains-map_cases, distinct_append, distinct_held, distinct_map}
use Rattle.mt_probe.specs.Items.{kind_at}
use Rattle.mt_probe.specs.Prepared.{Prepared}
use Rattle.mt_probe.specs.Shot.{Shot}
use Rattle.mt_probe.specs.Shot.{state_in_shot as state_in}
use Rattle.mt_probe.specs.Standing.{IsSoundShot}
use Rattle.mt_probe.proofs.Gathered.{at_kept}
use Rattle.mt_picture.specs.Asked.{AreNearby, IsCrossingNow, IsLaterNow, IsNearNow, WasTestedAgain, WasTestedAnew}
use Rattle.mt_picture.specs.Private.Places.{all_places, made_of_kind}
use Rattle.mt_picture.specs.Stamps.{AreStamped, IsMadeAt}
use Rattle.mt_picture.specs.Private.Stamps.{HaveStood}
use Rattle.mt_picture.specs.Story.{Story}
use Rattle.mt_picture.specs.Private.Known.{AreNearCandidates}
use Rattle.mt_picture.proofs.HitsHere.{both_true}
use Rattle.mt_picture.proofs.Knowing.{kept_made, stands_at, stays_there}
use Rattle.mt_picture.proofs.Standings.{same_place}

-- two places of a sound snapshot have different trajectories
pub one_place : (shot : Shot) (i j : ℕ) (t : NamedTrajectory) → IsSoundShot shot → at (all_places shot.slots) i ≡ Some t → at (all_places shot.slots) j ≡ Some t → i ≡ j
one_place shot i j t sound i_is j_is =
    let s = stands_at shot.slots i t i_is in
    let r = stands_at shot.slots j t j_is in
    let kind : kind_at i ≡ kind_at j = ap (λ (u : NamedTrajectory). u.kind) s.is ∙ sym (ap (λ (u : NamedTrajectory). u.kind) r.is) in
    let call : s.flight.card.call ≡ r.flight.card.call = ap (λ (u : NamedTrajectory). u.call) s.is ∙ sym (ap (λ (u : NamedTrajectory). u.call) r.is) in
    let half : i / 2 ≡ j / 2 = ⊎_elim (λ same. same)
    (λ differ. absurd ((sound.apart (i / 2) (j / 2) s.flight r.flight differ s.at_is r.at_is).calls call)) (cases_eq (i / 2) (j / 2)) in
    same_place i j half kind

-- one candidate stands in a place
one_at_place : (xs : List Candidate) (x y : Candidate) → AllPairs (λ x y. x.place ≢ y.place) xs → Contains xs x → Contains xs y → x.place ≡ y.place → x ≡ y
one_at_place xs x y once x_in y_in same = ⊎_elim
    (λ here. sym x_in.2 ∙ get_or_default xs x_in.0 x y x_in.1 ∙ ap (λ (k : ℕ). get_or xs k y) here ∙ y_in.2)
    (λ away. absurd (⊎_elim
    (λ before. once x_in.0 y_in.0 x before y_in.1 (ap (λ (z : Candidate). z.place) x_in.2 ∙ same
    ∙ ap (λ (z : Candidate). z.place) (sym y_in.2 ∙ get_or_default xs y_in.0 y x y_in.1)))
    (λ behind. once y_in.0 x_in.0 x (let differ = away in omega arith) x_in.1
    (ap (λ (z : Candidate). z.place) (sym (get_or_default xs y_in.0 y x y_in.1) ∙ y_in.2) ∙ sym same ∙ ap (λ (z : Candidate). z.place) (sym x_in.2)))
    (cases_lt x_in.0 y_in.0)))
    (cases_eq x_in.0 y_in.0)

-- ---- the candidates that are listed

record IsListed (places : List (Option NamedTrajectory)) (call : List ℕ) (j : ℕ) : Type 0 where
  other : NamedTrajectory
  is : at places j ≡ Some other
  apart : other.call ≢ call

other_there : (o : Option NamedTrajectory) (call : List ℕ) → is_other o call ≡ true → (t : NamedTrajectory) × (o ≡ Some t) × (t.call ≢ call)
other_there None call e = absurd (cc)
other_there (Some t) call e = (t, refl, λ same. (let named = (bytes_eq-Decides t.call call).1 same in let test : not (bytes_eq t.call call) ≡ true = e in cc))

listed_there : (places : List (Option NamedTrajectory)) (place : ℕ) (call : List ℕ) (x : Candidate) → is_listed places place call x ≡ true → IsListed places call x.place
listed_there places place call x e =
    let b = both_true (not (x.place == place)) (is_other (at places x.place) call) e in
    let t = other_there (at places x.place) call b.1 in
    record { other = t.0; is = t.1; apart = t.2 }

abbrev fetch : NamedTrajectory → Option NamedTrajectory → NamedTrajectory
fetch mine None = mine
fetch mine (Some t) = t

module _ (story : Story) (shot : Shot) (p : Prepared) (known : Bool) (place : ℕ) (mine : NamedTrajectory) (sound : IsSoundShot shot)
    (setup_is : shot.setup ≡ story.setup) (stands : state_in shot ≡ state_of story.setup story.history) (all : AreStamped story.setup story.history shot.slots)
    (rules_are : p.setup.rules ≡ shot.setup.rules) (own : mine.call ≡ p.card.call) (xs : List Candidate)
    (near : AreNearCandidates shot mine.path p known xs) (stood : HaveStood shot p) where
  abbrev places : List (Option NamedTrajectory)
  places = all_places shot.slots

  abbrev seen : Candidate → NamedTrajectory
  seen x = fetch mine (at places x.place)

  seen_is : (x : Candidate) (t : NamedTrajectory) → at places x.place ≡ Some t → seen x ≡ t
  seen_is x t is = ap (fetch mine) is

  -- a listed candidate is a near trajectory of another flight
  near_one : (x : Candidate) (t : NamedTrajectory) → Contains xs x → at places x.place ≡ Some t → t.call ≢ mine.call → IsNearNow story mine t
  near_one x t held is apart =
      let s = stands_at shot.slots x.place t is in
      let there : Contains (trajectories shot.setup (state_in shot)) t =
      subst (Contains (trajectories shot.setup (state_in shot))) s.is
      (at_kept shot (x.place / 2) s.flight (made_of_kind s.flight (kind_at x.place) s.made) sound s.at_is (kept_made s.flight (kind_at x.place) s.made s.made_is)) in
      let item = near.near x held in
      record {
        stands = subst (λ (q : State). Contains (trajectories story.setup q) t) stands
            (subst (λ (u : Setup). Contains (trajectories u (state_in shot)) t) setup_is there);
        apart = apart;
        near = subst (λ (u : Setup). AreNearby u.rules mine.path t.path) setup_is (record {
          left = item.mine;
          left_of = item.of;
          right = item.theirs;
          right_of = subst (λ (stays : List Stay). Contains stays item.theirs) (stays_there shot.setup.rules shot.slots x.place t s) item.there;
          meet = item.meet;
        });
      }

  later_one : (x : Candidate) (t : NamedTrajectory) → Contains xs x → at places x.place ≡ Some t → t.call ≢ mine.call → known ≡ true → is_unknown x.knowledge ≡ true
      → IsLaterNow story p.state.version mine t
  later_one x t held is apart is_known unknown =
      let s = stands_at shot.slots x.place t is in
      record {
        now = near_one x t held is apart;
        stamp = s.made.stamp;
        later = (near.known_is x held).later is_known unknown s.flight s.made s.at_is s.made_is;
        made = subst (λ (u : NamedTrajectory). IsMadeAt story.setup story.history u s.made.stamp) s.is
            (all (x.place / 2) s.flight (kind_at x.place) s.made s.at_is s.made_is);
      }

  crossing_one : (x : Candidate) (t : NamedTrajectory) → Contains xs x → at places x.place ≡ Some t → t.call ≢ mine.call → is_crossing shot.now x.knowledge ≡ true
      → IsCrossingNow story p mine t
  crossing_one x t held is apart e =
      let s = stands_at shot.slots x.place t is in
      let differ : s.flight.card.call ≢ p.card.call = λ same. apart (sym (ap (λ (u : NamedTrajectory). u.call) s.is) ∙ same ∙ sym own) in
      let right = (near.known_is x held).right s.flight s.made mine s.at_is s.made_is differ refl in
      let right_t : IsRight p.setup.rules mine t x.knowledge = subst (λ (u : NamedTrajectory). IsRight p.setup.rules mine u x.knowledge) s.is right in
      let rules_story : p.setup.rules ≡ story.setup.rules = rules_are ∙ ap (λ (u : Setup). u.rules) setup_is in
      by_knowledge x.knowledge refl (subst (λ (u : Rules). IsRight u mine t x.knowledge) rules_story right_t) e where
        now_is : shot.now ≡ (state_of story.setup story.history).now
        now_is = ap (λ (q : State). q.now) stands

        -- it was there when the prep was made
        was_there : (span : Option (ℕ × ℕ)) (solid : Bool) → x.knowledge ≡ Known span solid → Contains (trajectories p.setup p.state) t
        was_there span solid known_is =
            let s = stands_at shot.slots x.place t is in
            subst (Contains (trajectories p.setup p.state)) s.is (stood (x.place / 2) s.flight (kind_at x.place) s.made s.at_is s.made_is
            ((near.known_is x held).earlier span solid known_is s.flight s.made s.at_is s.made_is))

        by_knowledge : (v : Knowledge) → x.knowledge ≡ v → IsRight story.setup.rules mine t v → is_crossing shot.now v ≡ true → IsCrossingNow story p mine t
        by_knowledge (Within first last) v_is r c = absurd (cc)
        by_knowledge (Known None solid) v_is r c = absurd (cc)
        by_knowledge (Known (Some span) solid) v_is r c = record {
          now = near_one x t held is apart;
          prepared = was_there (Some span) solid v_is;
          first = span.0;
          last = span.1;
          conflict = r.0;
          straddling = subst (λ (n : ℕ). is_straddling n span.0 span.1 ≡ true) now_is c;
        }

  -- those in different places are different
  distinct_seen : (ys : List Candidate) → ((x : Candidate) → Contains ys x → is_listed places place mine.call x ≡ true)
      → AllPairs (λ x y. x.place ≢ y.place) ys → AllPairs (λ s t. s ≢ t) (map seen ys)
  distinct_seen ys listed =
      λ once. distinct_map (λ s t. s ≢ t) seen ys
      (distinct_held (λ x y. x.place ≢ y.place) (λ x y. seen x ≢ seen y) ys
      (λ x y x_in y_in differ same.
      let x_there = listed_there places place mine.call x (listed x x_in) in
      let y_there = listed_there places place mine.call y (listed y y_in) in
      let both : x_there.other ≡ y_there.other = sym (seen_is x x_there.other x_there.is) ∙ same ∙ seen_is y y_there.other y_there.is in
      differ (one_place shot x.place y.place y_there.other sound (x_there.is ∙ ap Some both) y_there.is)) once)

  once_of : (q : Candidate → Bool) → AllPairs (λ x y. x.place ≢ y.place) (filter q xs)
  once_of q = AllPairs-filter (λ (x y : Candidate). x.place ≢ y.place) q xs near.once

  each_seen : (P : NamedTrajectory → Type 0) (q : Candidate → Bool) → ((x : Candidate) → q x ≡ true → is_listed places place mine.call x ≡ true)
      → ((x : Candidate) (t : NamedTrajectory) → Contains xs x → q x ≡ true → at places x.place ≡ Some t → t.call ≢ mine.call → P t) → All P (map seen (filter q xs))
  each_seen P q listed one = All-from_held P (map seen (filter q xs)) (λ t held.
      let s = Contains-map_cases seen (filter q xs) t held in
      let x = (Contains-filter q xs s.of).0 s.held in
      let l = listed_there places place mine.call s.of (listed s.of x.1) in
      subst P (sym (seen_is s.of l.other l.is) ∙ s.is) (one s.of l.other x.0 x.1 l.is l.apart))

  -- what isn't known straddles no edge
  unknown_is : (v : Knowledge) → is_unknown v ≡ true → is_crossing shot.now v ≡ false
  unknown_is (Within first last) e = refl
  unknown_is (Known span solid) e = absurd (cc)

  abbrev two : Candidate → Bool
  two = asks_two places place mine.call

  abbrev one : Candidate → Bool
  one = asks_one places place mine.call shot.now

  abbrev some : Candidate → Bool
  some = is_listed places place mine.call

  -- those of which nothing is known are none of those whose conflict is known
  apart_known : (x y : Candidate) → Contains (filter two xs) x → Contains (filter one xs) y → x.place ≢ y.place
  apart_known x y x_in y_in same =
      let x_is = (Contains-filter two xs x).0 x_in in
      let y_is = (Contains-filter one xs y).0 y_in in
      let same_one : x ≡ y = one_at_place xs x y near.once x_is.0 y_is.0 same in
      let unknown = unknown_is x.knowledge (both_true (some x) (is_unknown x.knowledge) x_is.1).1 in
      let crossing : is_crossing shot.now y.knowledge ≡ true = (both_true (some y) (is_crossing shot.now y.knowledge) y_is.1).1 in
      let none : is_crossing shot.now y.knowledge ≡ false =
      subst (λ (z : Candidate). is_crossing shot.now z.knowledge ≡ false) same_one unknown in
      (let both : true ≡ false = sym crossing ∙ none in cc)

  both_listed : (x : Candidate) → Contains (filter two xs ++ filter one xs) x → is_listed places place mine.call x ≡ true
  both_listed x held = ⊎_elim
      (λ among. (both_true (some x) (is_unknown x.knowledge) ((Contains-filter two xs x).0 among).1).0)
      (λ among. (both_true (some x) (is_crossing shot.now x.knowledge) ((Contains-filter one xs x).0 among).1).0)
      (Contains-append_cases (filter two xs) (filter one xs) x held)

  distinct_both : AllPairs (λ s t. s ≢ t) (map seen (filter two xs) ++ map seen (filter one xs))
  distinct_both =
      subst (AllPairs (λ s t. s ≢ t)) (map-append seen (filter two xs) (filter one xs))
      (distinct_seen (filter two xs ++ filter one xs) both_listed
      (distinct_append (λ x y. x.place ≢ y.place) (filter two xs) (filter one xs) (once_of two) (once_of one) apart_known))

  pub again : (old new : ℕ) → known ≡ true → RoseUpTo (sum_by (cost places place mine.call shot.now) xs) old new → WasTestedAgain story p mine old new
  again old new is_known rose =
      let total = cost_sum places place mine.call shot.now xs in
      let a = length-map (filter two xs) seen in
      let b = length-map (filter one xs) seen in
      let within = rose.within in
      record {
        later = map seen (filter two xs);
        later_each = each_seen (IsLaterNow story p.state.version mine) two (λ x e. (both_true (some x) (is_unknown x.knowledge) e).0)
            (λ x t held e is apart. later_one x t held is apart is_known (both_true (some x) (is_unknown x.knowledge) e).1);
        crossing = map seen (filter one xs);
        crossing_each = each_seen (IsCrossingNow story p mine) one (λ x e. (both_true (some x) (is_crossing shot.now x.knowledge) e).0)
            (λ x t held e is apart. crossing_one x t held is apart (both_true (some x) (is_crossing shot.now x.knowledge) e).1);
        distinct = distinct_both;
        more = rose.more;
        within = omega (arith, total, a, b, within);
        is = rose.is;
      }

  -- no more than two for each that is listed
  few : (ys : List Candidate) → 2 * length (filter two ys) + length (filter one ys) ≤ 2 * length (filter some ys)
  few [] = omega arith
  few (y ∷ ys) = by_test (some y) refl y.knowledge refl (few ys) where
    by_test : (b : Bool) → some y ≡ b → (v : Knowledge) → y.knowledge ≡ v → 2 * length (filter two ys) + length (filter one ys) ≤ 2 * length (filter some ys)
        → 2 * length (filter two (y ∷ ys)) + length (filter one (y ∷ ys)) ≤ 2 * length (filter some (y ∷ ys))
    by_test false e v v_is rest = rw e rest
    by_test true e (Within first last) v_is rest = rw (e, v_is) (omega (arith, rest))
    by_test true e (Known None solid) v_is rest = rw (e, v_is) (omega (arith, rest))
    by_test true e (Known (Some span) solid) v_is rest = by_span (is_straddling shot.now span.0 span.1) refl where
      by_span : (c : Bool) → is_straddling shot.now span.0 span.1 ≡ c → 2 * length (filter two (y ∷ ys)) + length (filter one (y ∷ ys)) ≤ 2 * length (filter some (y ∷ ys))
      by_span true c_is = rw (e, v_is, c_is) (omega (arith, rest))
      by_span false c_is = rw (e, v_is, c_is) (omega (arith, rest))

  pub anew : (old new : ℕ) → RoseUpTo (sum_by (cost places place mine.call shot.now) xs) old new → WasTestedAnew story mine old new
  anew old new rose =
      let total = cost_sum places place mine.call shot.now xs in
      let most = few xs in
      let a = length-map (filter some xs) seen in
      let within = rose.within in
      record {
        others = map seen (filter some xs);
        distinct = distinct_seen (filter some xs) (λ x held. ((Contains-filter some xs x).0 held).1) (once_of some);
        each = each_seen (IsNearNow story mine) some (λ x e. e) (λ x t held e is apart. near_one x t held is apart);
        more = rose.more;
        within = omega (arith, total, most, a, within);
        is = rose.is;
      }
