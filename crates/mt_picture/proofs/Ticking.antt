-- The tests of a tick, by trajectories.
use Rattle.std.proofs.Common.{◌≡◌, ◌≢◌, ℕ, ◌/◌, ◌⊎◌, inl, inr, ⊎_elim, List, [], map, Contains, Option, Some, None, true, refl, sym, ◌∙◌, ap, ap₂, subst, arith}
use Rattle.std.specs.Cmp.Lexicographic.{slice_cmp}
use Rattle.std.specs.Ordering.{nat_cmp}
use Rattle.std.specs.declared.cmp.Ordering.{Ordering}
use Rattle.std.specs.declared.cmp.Ordering.TheVariants.{Equal, Greater, Less}
use Rattle.std.proofs.lemmas.List.{length-map}
use Rattle.std.proofs.lemmas.List.Elements.{All-contains}
use Rattle.mt_base.specs.declared.conflict.Kind.TheVariants.{Actual}
use Rattle.mt_base.specs.declared.rules.Rules.{Rules}
use Rattle.mt_base.specs.Conflict.{IsSpanOfLoss}
use Rattle.mt_base.specs.Effect.{state_of}
use Rattle.mt_base.specs.Picture.{NamedTrajectory, State, trajectories}
use Rattle.mt_base.specs.Tables.{Setup}
use Rattle.mt_edges.specs.declared.edge.Edge.{Edge}
use Rattle.mt_edges.specs.Pairs.{HaveSameEnds}
use Rattle.mt_kept.specs.Losing.{IsPair}
use Rattle.mt_kept.specs.Places.{at}
use Rattle.mt_base.specs.Trajectory.{horizon}
use Rattle.mt_base.specs.Tally.{raised_by}
use Rattle.mt_kept.specs.Window.{WasTestedOnce, is_straddling, straddles}
use Rattle.mt_kept.proofs.Publishing.{before_or_after}
use Rattle.mt_kept.proofs.Windows.{IsSpanOfLoss-sym}
use Rattle.mt_base.proofs.Members.{All-from_held, Contains-map_cases, distinct_held, distinct_map}
use Rattle.mt_probe.specs.Items.{kind_at}
use Rattle.mt_probe.specs.Shot.{Shot}
use Rattle.mt_probe.specs.Shot.{state_in_shot as state_in}
use Rattle.mt_probe.specs.Standing.{IsSoundShot}
use Rattle.mt_probe.proofs.Gathered.{at_kept}
use Rattle.mt_picture.specs.Asked.{IsCrossingPair, WasTestedForTick}
use Rattle.mt_picture.specs.Private.Places.{all_places, made_of_kind}
use Rattle.mt_picture.specs.Story.{Story}
use Rattle.mt_picture.proofs.Asking.{one_place}
use Rattle.mt_picture.proofs.Knowing.{kept_made, stands_at}

abbrev fetch : Option NamedTrajectory → NamedTrajectory
fetch None = record { call = []; kind = Actual; path = record { start = 0; rows = []; rvsm = true } }
fetch (Some t) = t

-- two trajectories, the one of the lesser callsign first
abbrev by_order : Ordering → NamedTrajectory → NamedTrajectory → NamedTrajectory × NamedTrajectory
by_order Less a b = (a, b)
by_order o a b = (b, a)

abbrev in_order : NamedTrajectory → NamedTrajectory → NamedTrajectory × NamedTrajectory
in_order a b = by_order (slice_cmp nat_cmp a.call b.call) a b

either_by : (o : Ordering) (a b : NamedTrajectory) → (by_order o a b ≡ (a, b)) ⊎ (by_order o a b ≡ (b, a))
either_by Less a b = inl refl
either_by Equal a b = inr refl
either_by Greater a b = inr refl

either_order : (a b : NamedTrajectory) → (in_order a b ≡ (a, b)) ⊎ (in_order a b ≡ (b, a))
either_order a b = either_by (slice_cmp nat_cmp a.call b.call) a b

-- a pair that straddles an edge does so in order
module _ (story : Story) (now first last : ℕ) (a b : NamedTrajectory) (left : Contains (trajectories story.setup (state_of story.setup story.history)) a)
    (right : Contains (trajectories story.setup (state_of story.setup story.history)) b) (apart : a.call ≢ b.call)
    (span : IsSpanOfLoss story.setup.rules a.path b.path 0 horizon first last) (crosses : is_straddling now first last ≡ true) where
  forward : slice_cmp nat_cmp a.call b.call ≡ Less → IsCrossingPair story now (a, b)
  forward less = record { left_stands = left; right_stands = right; before = less; first = first; last = last; span = span; straddling = crosses }

  backward : (o : Ordering) → slice_cmp nat_cmp a.call b.call ≡ o → o ≢ Less → IsCrossingPair story now (b, a)
  backward o is not_less = record {
    left_stands = right;
    right_stands = left;
    before = ⊎_elim (λ less. absurd (not_less (sym is ∙ less))) (λ more. more) (before_or_after a.call b.call apart);
    first = first;
    last = last;
    span = IsSpanOfLoss-sym story.setup.rules a.path b.path 0 horizon first last span;
    straddling = crosses;
  }

  by_cases : (o : Ordering) → slice_cmp nat_cmp a.call b.call ≡ o → IsCrossingPair story now (by_order o a b)
  by_cases Less is = forward is
  by_cases Equal is = backward Equal is (λ e. cc)
  by_cases Greater is = backward Greater is (λ e. cc)

  pub crossing_in_order : IsCrossingPair story now (in_order a b)
  crossing_in_order = by_cases (slice_cmp nat_cmp a.call b.call) refl

module _ (shot : Shot) (sound : IsSoundShot shot) where
  abbrev places : List (Option NamedTrajectory)
  places = all_places shot.slots

  abbrev rules : Rules
  rules = shot.setup.rules

  abbrev pair_of : Edge → NamedTrajectory × NamedTrajectory
  pair_of e = in_order (fetch (at places e.a)) (fetch (at places e.b))

  pair_is : (e : Edge) (pair : IsPair rules places e) → pair_of e ≡ in_order pair.left pair.right
  pair_is e pair = ap₂ in_order (ap fetch pair.left_is) (ap fetch pair.right_is)

  stands_there : (j : ℕ) (t : NamedTrajectory) → at places j ≡ Some t → Contains (trajectories shot.setup (state_in shot)) t
  stands_there j t is =
      let s = stands_at shot.slots j t is in
      subst (Contains (trajectories shot.setup (state_in shot))) s.is
      (at_kept shot (j / 2) s.flight (made_of_kind s.flight (kind_at j) s.made) sound s.at_is (kept_made s.flight (kind_at j) s.made s.made_is))

  -- one pair of trajectories is one pair of places
  same_places : (e f : Edge) (p : IsPair rules places e) (q : IsPair rules places f) → p.left ≡ q.left → p.right ≡ q.right → HaveSameEnds e f
  same_places e f p q left right =
      (one_place shot e.a f.a q.left sound (p.left_is ∙ ap Some left) q.left_is, one_place shot e.b f.b q.right sound (p.right_is ∙ ap Some right) q.right_is)

  -- and the lesser place stands first in each
  crossed : (e f : Edge) (p : IsPair rules places e) (q : IsPair rules places f) → p.left ≡ q.right → p.right ≡ q.left → HaveSameEnds e f
  crossed e f p q left right =
      let a = one_place shot e.a f.b q.right sound (p.left_is ∙ ap Some left) q.right_is in
      let b = one_place shot e.b f.a q.left sound (p.right_is ∙ ap Some right) q.left_is in
      let one = p.before in
      let other = q.before in
      absurd (omega (arith, a, b, one, other))

  one_edge : (e f : Edge) → IsPair rules places e → IsPair rules places f → pair_of e ≡ pair_of f → HaveSameEnds e f
  one_edge e f p q same =
      let both : in_order p.left p.right ≡ in_order q.left q.right = sym (pair_is e p) ∙ same ∙ pair_is f q in
      ⊎_elim
      (λ one. ⊎_elim
      (λ other. let is : (p.left, p.right) ≡ (q.left, q.right) = sym one ∙ both ∙ other in
      same_places e f p q (ap (λ (x : NamedTrajectory × NamedTrajectory). x.0) is) (ap (λ (x : NamedTrajectory × NamedTrajectory). x.1) is))
      (λ other. let is : (p.left, p.right) ≡ (q.right, q.left) = sym one ∙ both ∙ other in
      crossed e f p q (ap (λ (x : NamedTrajectory × NamedTrajectory). x.0) is) (ap (λ (x : NamedTrajectory × NamedTrajectory). x.1) is))
      (either_order q.left q.right))
      (λ one. ⊎_elim
      (λ other. let is : (p.right, p.left) ≡ (q.left, q.right) = sym one ∙ both ∙ other in
      crossed e f p q (ap (λ (x : NamedTrajectory × NamedTrajectory). x.1) is) (ap (λ (x : NamedTrajectory × NamedTrajectory). x.0) is))
      (λ other. let is : (p.right, p.left) ≡ (q.right, q.left) = sym one ∙ both ∙ other in
      same_places e f p q (ap (λ (x : NamedTrajectory × NamedTrajectory). x.1) is) (ap (λ (x : NamedTrajectory × NamedTrajectory). x.0) is))
      (either_order q.left q.right))
      (either_order p.left p.right)

  pub ticked : (story : Story) (now old new : ℕ) → shot.setup ≡ story.setup → state_in shot ≡ state_of story.setup story.history
      → WasTestedOnce rules places now old new → WasTestedForTick story now old new
  ticked story now old new setup_is stands was = record {
    pairs = map pair_of was.edges;
    distinct = distinct_map (λ p q. p ≢ q) pair_of was.edges
        (distinct_held (λ e f. ¬ HaveSameEnds e f) (λ e f. pair_of e ≢ pair_of f) was.edges
        (λ e f e_in f_in differ same. differ (one_edge e f (facts e e_in).0 (facts f f_in).0 same)) was.distinct);
    each = All-from_held (IsCrossingPair story now) (map pair_of was.edges) (λ pair held.
        let s = Contains-map_cases pair_of was.edges pair held in
        let f = facts s.of s.held in
        subst (IsCrossingPair story now) (sym (pair_is s.of f.0) ∙ s.is)
        (crossing_in_order story now s.of.first s.of.last f.0.left f.0.right (there f.0.left (stands_there s.of.a f.0.left f.0.left_is))
        (there f.0.right (stands_there s.of.b f.0.right f.0.right_is)) f.0.apart
        (subst (λ (u : Setup). IsSpanOfLoss u.rules f.0.left.path f.0.right.path 0 horizon s.of.first s.of.last) setup_is f.0.span) f.1));
    is = was.is ∙ ap (λ (n : ℕ). raised_by n old) (sym (length-map was.edges pair_of));
  } where
    facts : (e : Edge) → Contains was.edges e → IsPair rules places e × (straddles now e ≡ true)
    facts e held = All-contains (λ (e : Edge). IsPair rules places e × (straddles now e ≡ true)) was.edges e was.each held

    there : (t : NamedTrajectory) → Contains (trajectories shot.setup (state_in shot)) t → Contains (trajectories story.setup (state_of story.setup story.history)) t
    there t held = subst (λ (s : State). Contains (trajectories story.setup s) t) stands (subst (λ (u : Setup). Contains (trajectories u (state_in shot)) t) setup_is held)
