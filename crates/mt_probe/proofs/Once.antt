-- Trajectories that were met are of different flights or kinds, so each is found once.
use Rattle.std.proofs.Common.{◌≡◌, ◌≢◌, ◌∙◌, ℕ, ◌/◌, ◌%◌, ◌<◌, ◌≤◌, suc, ⊎_elim, List, [], ◌∷◌, Option, Some, None, Contains, length, get_or, Bool, true, false, refl, sym, ap, subst, nat_eq, if◌then◌else◌, arith}
use Rattle.std.specs.List.{All, AllPairs, flat_map}
use Rattle.std.specs.Str.{bytes_eq}
use Rattle.std.proofs.lemmas.Bool.{cases_eq}
use Rattle.std.proofs.lemmas.Bool.Decides.{nat_tests}
use Rattle.std.proofs.lemmas.List.Elements.{All-contains}
use Rattle.mt_base.specs.declared.conflict.Kind.{Kind}
use Rattle.mt_base.specs.declared.conflict.Kind.TheVariants.{Actual, Tentative}
use Rattle.mt_base.specs.Picture.{NamedTrajectory}
use Rattle.mt_base.specs.Trajectory.{Trajectory}
use Rattle.mt_base.proofs.Members.{Contains-cases, Contains-flat_map, Contains-flat_map_cases, Contains-none, distinct_append}
use Rattle.mt_probe.specs.declared.flight.Flight.{Flight}
use Rattle.mt_probe.specs.Finds.{AreFinds}
use Rattle.mt_probe.specs.Private.Finds.{AreCalledApart, FindsMore}
use Rattle.mt_probe.specs.Items.{kind_at, other_at, other_of, path_of}
use Rattle.mt_probe.specs.Shot.{Shot, made_named, state_in_shot}
use Rattle.mt_probe.specs.Standing.{IsSoundShot}
use Rattle.mt_track.specs.Laid.{IsStrand}
use Rattle.mt_cover.specs.Sliced.{slices_of}
use Rattle.mt_meet.specs.declared.table.Met.{Met}
use Rattle.mt_meet.proofs.Meetings.{losing_meet}
use Rattle.mt_probe.specs.Meeting.{AreMetItems}
use Rattle.mt_probe.specs.declared.finding.Found.{Found}
use Rattle.mt_probe.proofs.Gathered.{at_kept, kept_at, kept_call}
use Rattle.mt_probe.proofs.Candidates.{others_met}
use Rattle.mt_probe.proofs.Nearby.{named_by, other_is}

-- lists of which each is so, and any two are so across, are so put together
distinct_flat_map : {X Y : Type 0} (R : Y → Y → Type 0) (f : X → List Y) (xs : List X)
    → AllPairs (λ x y. (a b : Y) → Contains (f x) a → Contains (f y) b → R a b) xs → ((x : X) → AllPairs R (f x)) → AllPairs R (flat_map f xs)
distinct_flat_map R f [] across each = λ i j d before below. absurd (omega arith)
distinct_flat_map R f (x ∷ xs) across each =
    let heads : All (λ y. (a b : _) → Contains (f x) a → Contains (f y) b → R a b) xs = λ k d below. across 0 (suc k) d (omega arith) (omega arith) in
    distinct_append R (f x) (flat_map f xs) (each x)
    (distinct_flat_map R f xs (λ i j d before below. across (suc i) (suc j) d (omega arith) (omega arith)) each)
    (λ a b held there. let it = Contains-flat_map_cases f xs b there in
    All-contains (λ y. (a b : _) → Contains (f x) a → Contains (f y) b → R a b) xs it.of heads it.there a b held it.within)

-- the kind of what an item names
made_kind : (call : List ℕ) (kind : Kind) (made : Option Trajectory) (other : NamedTrajectory) → Contains (made_named call kind made) other → other.kind ≡ kind
made_kind call kind None other held = absurd (Contains-none other held)
made_kind call kind (Some path) other held =
    ⊎_elim (λ same. sym (ap (λ (o : NamedTrajectory). o.kind) same)) (λ none. absurd (Contains-none other none))
    (Contains-cases (record { call = call; kind = kind; path = path }) [] other held)

one_made : (call : List ℕ) (kind : Kind) (made : Option Trajectory) → length (made_named call kind made) ≤ 1
one_made call kind None = omega arith
one_made call kind (Some path) = omega arith

module _ (slots : List (Option Flight)) (call : List ℕ) (item : ℕ) where
  other_kind : (other : NamedTrajectory) → Contains (other_at call slots item) other → other.kind ≡ kind_at item
  other_kind other held = by_flight (get_or slots (item / 2) None) held where
    by_call : (f : Flight) (b : Bool) → Contains (if b then [] else made_named f.card.call (kind_at item) (path_of (kind_at item) f)) other
        → other.kind ≡ kind_at item
    by_call f true held = absurd (Contains-none other held)
    by_call f false held = made_kind f.card.call (kind_at item) (path_of (kind_at item) f) other held

    by_flight : (at : Option Flight) → Contains (other_of call (kind_at item) at) other → other.kind ≡ kind_at item
    by_flight None held = absurd (Contains-none other held)
    by_flight (Some f) held = by_call f (bytes_eq f.card.call call) held

  one_other : length (other_at call slots item) ≤ 1
  one_other = by_flight (get_or slots (item / 2) None) where
    by_call : (f : Flight) (b : Bool) → length (if b then [] else made_named f.card.call (kind_at item) (path_of (kind_at item) f)) ≤ 1
    by_call f true = omega arith
    by_call f false = one_made f.card.call (kind_at item) (path_of (kind_at item) f)

    by_flight : (at : Option Flight) → length (other_of call (kind_at item) at) ≤ 1
    by_flight None = omega arith
    by_flight (Some f) = by_call f (bytes_eq f.card.call call)

-- items of one kind are even both, or odd both
same_parity : (i j : ℕ) → kind_at i ≡ kind_at j → i % 2 ≡ j % 2
same_parity i j same = by_tests (nat_eq (i % 2) 0) refl (nat_eq (j % 2) 0) refl same where
  by_tests : (a : Bool) → nat_eq (i % 2) 0 ≡ a → (b : Bool) → nat_eq (j % 2) 0 ≡ b
      → (if a then Actual else Tentative) ≡ (if b then Actual else Tentative) → i % 2 ≡ j % 2
  by_tests true p true q e = grind (arith, nat_tests)
  by_tests true p false q e = absurd (cc)
  by_tests false p true q e = absurd (cc)
  by_tests false p false q e =
      let first : i % 2 ≢ 0 = grind (arith, nat_tests) in
      let second : j % 2 ≢ 0 = grind (arith, nat_tests) in
      omega arith

-- two items name trajectories of different flights, or of different kinds
apart_items : (shot : Shot) (call : List ℕ) (i j : ℕ) → IsSoundShot shot → i < j → (a b : NamedTrajectory) → Contains (other_at call shot.slots i) a
    → Contains (other_at call shot.slots j) b → AreCalledApart a b
apart_items shot call i j sound before a b held there same =
    let x = other_is shot.slots call i a held in
    let y = other_is shot.slots call j b there in
    let kinds : kind_at i ≡ kind_at j = sym (other_kind shot.slots call i a held) ∙ same.1 ∙ other_kind shot.slots call j b there in
    ⊎_elim
    (λ one. let parity = same_parity i j kinds in absurd (omega (arith, one, parity, before)))
    (λ differ. absurd ((sound.apart (i / 2) (j / 2) x.flight y.flight differ x.at y.at).calls
    (sym (kept_call x.flight a x.kept) ∙ same.0 ∙ kept_call y.flight b y.kept)))
    (cases_eq (i / 2) (j / 2))

-- and so do some rising items
pub apart_among : (shot : Shot) (call : List ℕ) (list : List Met) → IsSoundShot shot → AllPairs (λ (m n : Met). m.item < n.item) list
    → AllPairs AreCalledApart (others_met call shot.slots list)
apart_among shot call list sound rising = distinct_flat_map AreCalledApart (λ (met : Met). other_at call shot.slots met.item) list
    (λ i j d before below. apart_items shot call (get_or list i d).item (get_or list j d).item sound (rising i j d before below))
    (λ met. let one = one_other shot.slots call met.item in λ i j d before below. absurd (omega (arith, one, before, below)))

-- all that was met
pub found_met : (shot : Shot) (call : List ℕ) (t : Trajectory) (list : List Met) (finds : List Found) → IsSoundShot shot → IsStrand t
    → AreMetItems shot (slices_of shot.setup.rules t) list
    → FindsMore shot.setup.rules shot.now t (others_met call shot.slots list) [] finds → AreFinds shot.setup (state_in_shot shot) call t finds
found_met shot call t list finds sound laid met found = record {
  exact = λ one held. ⊎_elim
      (λ before. absurd (Contains-none one before))
      (λ by. let named = Contains-flat_map_cases (λ (m : Met). other_at call shot.slots m.item) list by.other by.among in
      let it = other_is shot.slots call named.of.item by.other named.within in
      record {
        other = by.other;
        of = record {
          there = at_kept shot (named.of.item / 2) it.flight by.other sound it.at it.kept;
          apart = λ same. it.apart (sym (kept_call it.flight by.other it.kept) ∙ same);
        };
        is = by.is;
        loss = by.loss;
      })
      (found.exact one held);
  complete = λ other of k early loss.
      let it = kept_at shot other sound of.there in
      let named = named_by shot.setup.rules shot.slots call it.place it.flight it.at (λ same. of.apart (it.call_is ∙ same)) other it.kept in
      let meet = losing_meet shot.setup.rules t other.path k sound.rules laid (sound.laid it.place it.flight other it.at it.kept) loss in
      let listed = met.complete named.item (slices_of shot.setup.rules other.path) k named.slices meet in
      let among = subst (λ (item : ℕ). Contains (other_at call shot.slots item) other) (sym listed.is) named.among in
      found.listed other (Contains-flat_map (λ (m : Met). other_at call shot.slots m.item) list listed.met other listed.held among) k early loss;
  once = found.once (apart_among shot call list sound met.rising) (λ one other held among. absurd (Contains-none one held)) (λ i j d before below. absurd (omega arith));
}
