-- The hits of a trajectory are those that the finds of its slot show.
use Rattle.std.proofs.Common.{◌≡◌, ◌≢◌, ℕ, ◌+◌, ◌*◌, ◌/◌, ◌%◌, ◌<◌, ◌≤◌, ◌⊎◌, inl, inr, ⊎_elim, ◌↔◌, Bool, true, false, nat_eq, ◌&&◌, List, [], ◌∷◌, ◌++◌, length, get_or, set, take, Contains, Option, Some, None, refl, sym, ◌∙◌, ap, subst, if◌then◌else◌, arith, get_or-set_other, get_or-set_same}
use Rattle.std.proofs.lemmas.Bool.{cases_lt}
use Rattle.std.proofs.lemmas.Bool.Decides.{nat_tests}
use Rattle.std.proofs.lemmas.List.{take_all}
use Rattle.std.proofs.lemmas.List.Elements.{Contains-append_left, Contains-push, Contains-push_cases}
use Rattle.std.proofs.lemmas.Slice.Eq.{bytes_eq-Decides}
use Rattle.std.specs.Arc.{arc_value}
use Rattle.std.specs.Str.{bytes_eq}
use Rattle.mt_base.specs.declared.conflict.Conflict.{Conflict}
use Rattle.mt_base.specs.declared.conflict.Kind.TheVariants.{Actual}
use Rattle.mt_base.specs.declared.flight.Record.{Record}
use Rattle.mt_base.specs.declared.hit.Hit.{Hit}
use Rattle.mt_base.specs.declared.rules.Rules.{Rules}
use Rattle.mt_base.specs.Conflict.{IsLossSecond, IsSpanOfLoss}
use Rattle.mt_base.specs.Picture.{IsConflictOf, NamedTrajectory, trajectory_of, window_end}
use Rattle.mt_base.specs.Trajectory.{Trajectory}
use Rattle.mt_base.specs.WhatIf.{AreHitsOf, IsHit}
use Rattle.mt_edges.specs.declared.edge.Edge.{Edge}
use Rattle.mt_kept.specs.declared.open_pair.OpenPair.{OpenPair}
use Rattle.mt_kept.specs.Finds.{AreFindsAt}
use Rattle.mt_kept.specs.Losing.{IsPair, LoseSeparation, Touches}
use Rattle.mt_kept.specs.Made.{is_open_pair}
use Rattle.mt_kept.specs.Places.{at}
use Rattle.mt_kept.specs.Window.{IsFoundOf, IsOpen, ShowsInWindow, edge_of}
use Rattle.mt_base.proofs.Members.{Contains-map_cases, take_push}
use Rattle.mt_kept.proofs.Keeping.{is_open_is}
use Rattle.mt_kept.proofs.Windows.{IsLossSecond-sym, IsSpanOfLoss-sym, is_open_at}
use Rattle.mt_probe.specs.declared.flight.Flight.{Flight}
use Rattle.mt_probe.specs.Shot.{Shot, flight_at}
use Rattle.mt_probe.specs.Shot.{state_in_shot as state_in}
use Rattle.mt_probe.specs.Standing.{IsSoundShot}
use Rattle.mt_probe.proofs.Placed.{filled_inside, record_placed, record_there}
use Rattle.mt_base.proofs.OneConflict.{one_span}
use Rattle.mt_picture.specs.Private.Hits.{AreHitsAmong, IsHitOfOnePair, conflict_hit, pair_hit, is_flown}
use Rattle.mt_picture.specs.Private.Places.{first_of, made_of_kind, places_put}
use Rattle.mt_picture.proofs.Entered.{own_actual}
use Rattle.mt_picture.proofs.Slotted.{at_first}

-- ---- the loop over the finds

push : (finds : List OpenPair) (o : OpenPair) (call : List ℕ) (now : ℕ) (hit : Hit)
    → IsHitOfOnePair (finds ++ o ∷ []) call now hit ↔ (IsHitOfOnePair finds call now hit ⊎ (pair_hit call now o ≡ Some hit))
push finds o call now hit = (
  (λ one. ⊎_elim
      (λ before. inl (record { pair = one.pair; held = before; is = one.is }))
      (λ same. inr (ap (pair_hit call now) same ∙ one.is)) (Contains-push_cases finds o one.pair one.held)),
  (λ either. ⊎_elim
      (λ one. record { pair = one.pair; held = Contains-append_left finds (o ∷ []) one.pair one.held; is = one.is })
      (λ is. record { pair = o; held = Contains-push finds o; is = is }) either),
)

pub hit_more : (finds : List OpenPair) (i : ℕ) (o : OpenPair) (call : List ℕ) (now : ℕ) (hits : List Hit) (one : Hit) → i < length finds → o ≡ get_or finds i o
    → pair_hit call now o ≡ Some one → ((hit : Hit) → Contains hits hit ↔ IsHitOfOnePair (take i finds) call now hit)
    → (hit : Hit) → Contains (hits ++ one ∷ []) hit ↔ IsHitOfOnePair (take (i + 1) finds) call now hit
hit_more finds i o call now hits one below at_is is so_far = rw (take_push finds i o below at_is) (λ hit. (
  (λ held. (push (take i finds) o call now hit).1 (⊎_elim (λ before. inl ((so_far hit).0 before)) (λ same. inr (is ∙ ap Some same)) (Contains-push_cases hits one hit held))),
  (λ some. ⊎_elim
      (λ before. Contains-append_left hits (one ∷ []) hit ((so_far hit).1 before))
      (λ also. let same : one ≡ hit = (let both = sym is ∙ also in cc) in subst (Contains (hits ++ one ∷ [])) same (Contains-push hits one))
      ((push (take i finds) o call now hit).0 some)),
))

pub no_more : (finds : List OpenPair) (i : ℕ) (o : OpenPair) (call : List ℕ) (now : ℕ) (hits : List Hit) → i < length finds → o ≡ get_or finds i o → pair_hit call now o ≡ None
    → ((hit : Hit) → Contains hits hit ↔ IsHitOfOnePair (take i finds) call now hit) → (hit : Hit) → Contains hits hit ↔ IsHitOfOnePair (take (i + 1) finds) call now hit
no_more finds i o call now hits below at_is is so_far = rw (take_push finds i o below at_is) (λ hit. (
  (λ held. (push (take i finds) o call now hit).1 (inl ((so_far hit).0 held))),
  (λ some. ⊎_elim (λ before. (so_far hit).1 before) (λ also. absurd (let both = sym is ∙ also in cc)) ((push (take i finds) o call now hit).0 some)),
))

pub all_hits : (finds : List OpenPair) (i : ℕ) (call : List ℕ) (now : ℕ) (hits ordered : List Hit) → length finds ≤ i
    → ((hit : Hit) → Contains hits hit ↔ IsHitOfOnePair (take i finds) call now hit)
    → ((hit : Hit) → Contains ordered hit ↔ Contains hits hit) → (hit : Hit) → Contains ordered hit ↔ IsHitOfOnePair finds call now hit
all_hits finds i call now hits ordered all so_far same =
    let whole = rw (take_all i finds all) at so_far in λ hit. ((λ held. (whole hit).0 ((same hit).0 held)), (λ one. (same hit).1 ((whole hit).1 one)))

-- ---- what a hit of a pair says

pub record IsShownBy (o : OpenPair) (call : List ℕ) (now : ℕ) (hit : Hit) : Type 0 where
  pub conflict : Conflict
  pub even_a : o.edge.a % 2 ≡ 0
  pub even_b : o.edge.b % 2 ≡ 0
  pub opened : IsOpen now o.edge
  pub shown : o.conflict ≡ Some conflict
  pub first : hit.first ≡ conflict.first
  pub last : hit.last ≡ conflict.last
  pub with_is : hit.with ≡ (if bytes_eq conflict.a call then conflict.b else conflict.a)

pub both_true : (a b : Bool) → a && b ≡ true → (a ≡ true) × (b ≡ true)
both_true true true e = (refl, refl)
both_true true false e = absurd (cc)
both_true false b e = absurd (cc)

is_even : (n : ℕ) → nat_eq n 0 ≡ true → n ≡ 0
is_even n e = grind (arith, nat_tests)

hit_back : (o : OpenPair) (call : List ℕ) (now : ℕ) (hit : Hit) → pair_hit call now o ≡ Some hit → IsShownBy o call now hit
hit_back o call now hit is = by_test (is_flown o && is_open_pair now o.edge) refl is where
  by_conflict : (shown : Option Conflict) → o.conflict ≡ shown → is_flown o && is_open_pair now o.edge ≡ true → conflict_hit call shown ≡ Some hit → IsShownBy o call now hit
  by_conflict None shown_is test hit_is = absurd (cc)
  by_conflict (Some c) shown_is test hit_is =
      let one : Hit = record { first = c.first; with = if bytes_eq c.a call then c.b else c.a; last = c.last } in
      let same : one ≡ hit = cc in
      let tests = both_true (is_flown o) (is_open_pair now o.edge) test in
      let ends = both_true (nat_eq (o.edge.a % 2) 0) (nat_eq (o.edge.b % 2) 0) tests.0 in
      record {
        conflict = c;
        even_a = is_even (o.edge.a % 2) ends.0;
        even_b = is_even (o.edge.b % 2) ends.1;
        opened = (is_open_is now o.edge).0 tests.1;
        shown = shown_is;
        first = sym (ap (λ (h : Hit). h.first) same);
        last = sym (ap (λ (h : Hit). h.last) same);
        with_is = sym (ap (λ (h : Hit). h.with) same);
      }

  by_test : (b : Bool) → is_flown o && is_open_pair now o.edge ≡ b → (if b then conflict_hit call o.conflict else None) ≡ Some hit → IsShownBy o call now hit
  by_test true test hit_is = by_conflict o.conflict refl test hit_is
  by_test false test hit_is = absurd (cc)

hit_on : (o : OpenPair) (call : List ℕ) (now : ℕ) (hit : Hit) → IsShownBy o call now hit → pair_hit call now o ≡ Some hit
hit_on o call now hit s =
    let opened : is_open_pair now o.edge ≡ true = (is_open_is now o.edge).1 s.opened in
    let flown : is_flown o ≡ true = rw (s.even_a, s.even_b) refl in
    let one : Hit = record { first = s.conflict.first; with = if bytes_eq s.conflict.a call then s.conflict.b else s.conflict.a; last = s.conflict.last } in
    let same : one ≡ hit = λ i. record { first = (sym s.first) i; with = (sym s.with_is) i; last = (sym s.last) i } in
    rw (flown, opened, s.shown) (ap Some same)

-- a conflict of one trajectory with another: whom it is with, and its span
record IsWith (rules : Rules) (now : ℕ) (call : List ℕ) (mine t : NamedTrajectory) (c : Conflict) : Type 0 where
  with_is : (if bytes_eq c.a call then c.b else c.a) ≡ t.call
  span : IsSpanOfLoss rules mine.path t.path now (window_end now) c.first c.last

-- the find of two places that have a loss second in the window
record IsFoundAt (rules : Rules) (now : ℕ) (finds : List OpenPair) (i j : ℕ) (s t : NamedTrajectory) : Type 0 where
  pair : OpenPair
  held : Contains finds pair
  a_is : pair.edge.a ≡ 2 * i
  b_is : pair.edge.b ≡ 2 * j
  opened : IsOpen now pair.edge
  found : IsFoundOf rules now s t pair.conflict

-- ---- the finds of a flight that is put into a slot

half_even : (j : ℕ) → j % 2 ≡ 0 → j ≡ 2 * (j / 2)
half_even j even = omega arith

module _ (shot : Shot) (slot : ℕ) (f : Flight) (finds : List OpenPair) (sound : IsSoundShot shot) (inside : slot < length shot.slots)
    (are : AreFindsAt shot.setup.rules (places_put shot slot (Some f)) shot.now (2 * slot) finds)
    (was : (g : Flight) → flight_at shot slot ≡ Some g → g.card.call ≡ f.card.call) where
  abbrev after : List (Option NamedTrajectory)
  after = places_put shot slot (Some f)

  abbrev mine : NamedTrajectory
  mine = made_of_kind f Actual f.actual

  here : at after (2 * slot) ≡ Some mine
  here = at_first (set shot.slots slot (Some f)) slot ∙ ap first_of (get_or-set_same shot.slots slot (Some f) None inside)

  -- a flight elsewhere
  elsewhere : (i : ℕ) (t : NamedTrajectory) → i ≢ slot → at after (2 * i) ≡ Some t → (g : Flight) × (flight_at shot i ≡ Some g) × (made_of_kind g Actual g.actual ≡ t)
  elsewhere i t away is = by_flight (flight_at shot i) refl
      (sym (at_first (set shot.slots slot (Some f)) i ∙ ap first_of (get_or-set_other shot.slots slot i (Some f) None away)) ∙ is) where
        by_flight : (s : Option Flight) → flight_at shot i ≡ s → first_of s ≡ Some t → (g : Flight) × (flight_at shot i ≡ Some g) × (made_of_kind g Actual g.actual ≡ t)
        by_flight None at_is e = absurd (cc)
        by_flight (Some g) at_is e = (g, at_is, cc)

  flies : (i : ℕ) (g : Flight) → flight_at shot i ≡ Some g → arc_value g.actual.strand ≡ trajectory_of shot.setup g.card.path
  flies i g at_is = let e = own_actual shot.setup g (sound.sound i g at_is) in cc

  -- a span with the flight elsewhere is a hit
  is_hit : (i : ℕ) (t : NamedTrajectory) (hit : Hit) → i ≢ slot → at after (2 * i) ≡ Some t → hit.with ≡ t.call → t.call ≢ f.card.call
      → IsSpanOfLoss shot.setup.rules mine.path t.path shot.now (window_end shot.now) hit.first hit.last
      → IsHit shot.setup (state_in shot) f.card.call (arc_value f.actual.strand) hit
  is_hit i t hit away is with_is apart span =
      let g = elsewhere i t away is in
      record {
        flight = g.0.card;
        flies = record_there shot i g.0 sound (filled_inside shot.slots i g.0 g.1) g.1;
        other = λ same. apart (ap (λ (u : NamedTrajectory). u.call) (sym g.2) ∙ same);
        with_is = with_is ∙ ap (λ (u : NamedTrajectory). u.call) (sym g.2);
        span = subst (λ (u : Trajectory). IsSpanOfLoss shot.setup.rules mine.path u shot.now (window_end shot.now) hit.first hit.last)
            (ap (λ (u : NamedTrajectory). u.path) (sym g.2) ∙ flies i g.0 g.1) span;
      }

  abbrev rules : Rules
  rules = shot.setup.rules

  abbrev call : List ℕ
  call = f.card.call

  abbrev Either : NamedTrajectory → NamedTrajectory → Conflict → Type 0
  Either m t c = IsConflictOf rules shot.now m t c ⊎ IsConflictOf rules shot.now t m c

  swap : (m t : NamedTrajectory) (c : Conflict) → Either m t c → Either t m c
  swap m t c either = ⊎_elim (λ one. inr one) (λ other. inl other) either

  whom : (t : NamedTrajectory) (c : Conflict) → t.call ≢ call → Either mine t c → IsWith rules shot.now call mine t c
  whom t c apart either = ⊎_elim
      (λ one.
      let named : bytes_eq c.a call ≡ true = (bytes_eq-Decides c.a call).1 one.calls.0 in
      record { with_is = rw named one.calls.1; span = one.span })
      (λ other.
      let unnamed : bytes_eq c.a call ≡ false = by_test c.a (bytes_eq c.a call) refl (λ same. apart (sym other.calls.0 ∙ same)) in
      record {
        with_is = rw unnamed other.calls.0;
        span = IsSpanOfLoss-sym rules t.path mine.path shot.now (window_end shot.now) c.first c.last other.span;
      })
      either where
        by_test : (a : List ℕ) (b : Bool) → bytes_eq a call ≡ b → a ≢ call → b ≡ false
        by_test a true e other = absurd (other ((bytes_eq-Decides a call).0 e))
        by_test a false e other = refl

  -- a find that shows a conflict of mine with a flight elsewhere shows a hit
  shown_is_hit : (o : OpenPair) (hit : Hit) (s : IsShownBy o call shot.now hit) (i : ℕ) (t : NamedTrajectory) → i ≢ slot → at after (2 * i) ≡ Some t → t.call ≢ call
      → Either mine t s.conflict → IsHit shot.setup (state_in shot) call (arc_value f.actual.strand) hit
  shown_is_hit o hit s i t away is apart either =
      let w = whom t s.conflict apart either in
      is_hit i t hit away is (s.with_is ∙ w.with_is) apart
      (subst (λ (k : ℕ). IsSpanOfLoss rules mine.path t.path shot.now (window_end shot.now) k hit.last) (sym s.first)
      (subst (λ (k : ℕ). IsSpanOfLoss rules mine.path t.path shot.now (window_end shot.now) s.conflict.first k) (sym s.last) w.span))

  -- one that shows a hit of its slot shows one of mine
  to_shown : (o : OpenPair) (hit : Hit) → IsShownBy o call shot.now hit → Touches (2 * slot) o.edge → IsPair rules after o.edge
      → ShowsInWindow rules after shot.now o.edge o.conflict → IsHit shot.setup (state_in shot) call (arc_value f.actual.strand) hit
  to_shown o hit s touches pair shown =
      let found : Either shown.left shown.right s.conflict = subst (λ (x : Option Conflict). IsFoundOf rules shot.now shown.left shown.right x) s.shown shown.found in
      let a = half_even o.edge.a s.even_a in
      let b = half_even o.edge.b s.even_b in
      let before = pair.before in
      let l : Some pair.left ≡ Some shown.left = sym pair.left_is ∙ shown.left_is in
      let r : Some pair.right ≡ Some shown.right = sym pair.right_is ∙ shown.right_is in
      let left : pair.left ≡ shown.left = cc in
      let right : pair.right ≡ shown.right = cc in
      let apart : shown.left.call ≢ shown.right.call = λ same. pair.apart (ap (λ (u : NamedTrajectory). u.call) left ∙ same ∙ sym (ap (λ (u : NamedTrajectory). u.call) right)) in
      ⊎_elim
      (λ a_slot.
      let m : Some shown.left ≡ Some mine = sym shown.left_is ∙ ap (at after) a_slot ∙ here in
      let mine_is : shown.left ≡ mine = cc in
      let away : o.edge.b / 2 ≢ slot = λ same. (let b_slot : o.edge.b ≡ 2 * slot = b ∙ ap (λ (k : ℕ). 2 * k) same in absurd (omega (arith, a_slot, b_slot, before))) in
      shown_is_hit o hit s (o.edge.b / 2) shown.right away (ap (at after) (sym b) ∙ shown.right_is)
      (λ same. apart (ap (λ (u : NamedTrajectory). u.call) mine_is ∙ sym same))
      (subst (λ (u : NamedTrajectory). Either u shown.right s.conflict) mine_is found))
      (λ b_slot.
      let m : Some shown.right ≡ Some mine = sym shown.right_is ∙ ap (at after) b_slot ∙ here in
      let mine_is : shown.right ≡ mine = cc in
      let away : o.edge.a / 2 ≢ slot = λ same. (let a_slot : o.edge.a ≡ 2 * slot = a ∙ ap (λ (k : ℕ). 2 * k) same in absurd (omega (arith, a_slot, b_slot, before))) in
      shown_is_hit o hit s (o.edge.a / 2) shown.left away (ap (at after) (sym a) ∙ shown.left_is)
      (λ same. apart (same ∙ sym (ap (λ (u : NamedTrajectory). u.call) mine_is)))
      (swap shown.left mine s.conflict (subst (λ (u : NamedTrajectory). Either shown.left u s.conflict) mine_is found)))
      touches

  to : (hit : Hit) → IsHitOfOnePair finds call shot.now hit → IsHit shot.setup (state_in shot) call (arc_value f.actual.strand) hit
  to hit one =
      let s = hit_back one.pair call shot.now hit one.is in
      let facts = are.sound one.pair one.held in
      to_shown one.pair hit s facts.0 facts.1 (facts.2 s.opened)

  -- a pair of two places is open where their trajectories have a loss second in the window
  opened_of : (i j k : ℕ) (s t : NamedTrajectory) (o : OpenPair) → o.edge.a ≡ 2 * i → o.edge.b ≡ 2 * j → at after (2 * i) ≡ Some s → at after (2 * j) ≡ Some t
      → shot.now ≤ k → k < window_end shot.now → IsLossSecond rules s.path t.path k → IsPair rules after o.edge → IsOpen shot.now o.edge
  opened_of i j k s t o a_is b_is s_is t_is low high loss pair =
      let l : Some pair.left ≡ Some s = sym pair.left_is ∙ ap (at after) a_is ∙ s_is in
      let r : Some pair.right ≡ Some t = sym pair.right_is ∙ ap (at after) b_is ∙ t_is in
      let left : pair.left ≡ s = cc in
      let right : pair.right ≡ t = cc in
      let loss_pair : IsLossSecond rules pair.left.path pair.right.path k =
      subst (λ (u : NamedTrajectory). IsLossSecond rules u.path pair.right.path k) (sym left)
      (subst (λ (u : NamedTrajectory). IsLossSecond rules s.path u.path k) (sym right) loss) in
      is_open_at rules pair.left.path pair.right.path shot.now k o.edge sound.early pair.span low high loss_pair

  -- and it shows what is found of them
  found_of : (i j : ℕ) (s t : NamedTrajectory) (o : OpenPair) → o.edge.a ≡ 2 * i → o.edge.b ≡ 2 * j → at after (2 * i) ≡ Some s → at after (2 * j) ≡ Some t
      → ShowsInWindow rules after shot.now o.edge o.conflict → IsFoundOf rules shot.now s t o.conflict
  found_of i j s t o a_is b_is s_is t_is shown =
      let l : Some shown.left ≡ Some s = sym shown.left_is ∙ ap (at after) a_is ∙ s_is in
      let r : Some shown.right ≡ Some t = sym shown.right_is ∙ ap (at after) b_is ∙ t_is in
      let left : shown.left ≡ s = cc in
      let right : shown.right ≡ t = cc in
      subst (λ (u : NamedTrajectory). IsFoundOf rules shot.now u t o.conflict) left
      (subst (λ (u : NamedTrajectory). IsFoundOf rules shot.now shown.left u o.conflict) right shown.found)

  found_in : (i j k : ℕ) (s t : NamedTrajectory) (o : OpenPair) (e : Edge) → Contains finds o → edge_of o ≡ e → (e.a ≡ 2 * i) × (e.b ≡ 2 * j)
      → at after (2 * i) ≡ Some s → at after (2 * j) ≡ Some t → shot.now ≤ k → k < window_end shot.now → IsLossSecond rules s.path t.path k
      → IsFoundAt rules shot.now finds i j s t
  found_in i j k s t o e held is ends s_is t_is low high loss =
      let facts = are.sound o held in
      let a_is : o.edge.a ≡ 2 * i = ap (λ (e : Edge). e.a) is ∙ ends.0 in
      let b_is : o.edge.b ≡ 2 * j = ap (λ (e : Edge). e.b) is ∙ ends.1 in
      let opened : IsOpen shot.now o.edge = opened_of i j k s t o a_is b_is s_is t_is low high loss facts.1 in
      record {
        pair = o;
        held = held;
        a_is = a_is;
        b_is = b_is;
        opened = opened;
        found = found_of i j s t o a_is b_is s_is t_is (facts.2 opened);
      }

  found_at : (i j k : ℕ) (s t : NamedTrajectory) → 2 * i < 2 * j → (i ≡ slot) ⊎ (j ≡ slot) → at after (2 * i) ≡ Some s → at after (2 * j) ≡ Some t
      → s.call ≢ t.call → shot.now ≤ k → k < window_end shot.now → IsLossSecond rules s.path t.path k → IsFoundAt rules shot.now finds i j s t
  found_at i j k s t before touches s_is t_is apart low high loss =
      let early = sound.early in
      let lost : LoseSeparation rules after (2 * i) (2 * j) k = record { left = s; right = t; left_is = s_is; right_is = t_is; apart = apart; loss = loss; early = omega (arith, early, high) } in
      let joined = are.complete (2 * i) (2 * j) k before
      (⊎_elim (λ e. inl (ap (λ (k : ℕ). 2 * k) e)) (λ e. inr (ap (λ (k : ℕ). 2 * k) e)) touches) lost in
      let x = Contains-map_cases edge_of finds joined.edge joined.held in
      found_in i j k s t x.of joined.edge x.held x.is joined.ends s_is t_is low high loss

  even_is : (n i : ℕ) → n ≡ 2 * i → n % 2 ≡ 0
  even_is n i is = omega (arith, is)

  -- it shows the hit
  one_shown : (i j : ℕ) (o : OpenPair) (t : NamedTrajectory) (hit : Hit) → Contains finds o → o.edge.a ≡ 2 * i → o.edge.b ≡ 2 * j → IsOpen shot.now o.edge
      → t.call ≢ call → hit.with ≡ t.call → IsSpanOfLoss rules mine.path t.path shot.now (window_end shot.now) hit.first hit.last
      → (shown : Option Conflict) → o.conflict ≡ shown → ((c : Conflict) → shown ≡ Some c → Either mine t c) → (shown ≡ None → ⊥)
      → IsHitOfOnePair finds call shot.now hit
  one_shown i j o t hit held a_is b_is opened apart with_is span None shown_is either some = absurd (some refl)
  one_shown i j o t hit held a_is b_is opened apart with_is span (Some c) shown_is either some =
      let w = whom t c apart (either c refl) in
      let same = one_span rules mine.path t.path shot.now (window_end shot.now) hit.first hit.last c.first c.last span w.span in
      record {
        pair = o;
        held = held;
        is = hit_on o call shot.now hit (record {
          conflict = c;
          even_a = even_is o.edge.a i a_is;
          even_b = even_is o.edge.b j b_is;
          opened = opened;
          shown = shown_is;
          first = same.0;
          last = same.1;
          with_is = with_is ∙ sym w.with_is;
        });
      }

  found_some : (s t : NamedTrajectory) (k : ℕ) (shown : Option Conflict) → IsFoundOf rules shot.now s t shown → shot.now ≤ k → k < window_end shot.now
      → IsLossSecond rules s.path t.path k → shown ≡ None → ⊥
  found_some s t k shown found low high loss none =
      let quiet : IsFoundOf rules shot.now s t None = subst (λ (x : Option Conflict). IsFoundOf rules shot.now s t x) none found in
      quiet k low high loss

  found_either : (s t : NamedTrajectory) (shown : Option Conflict) → IsFoundOf rules shot.now s t shown → (c : Conflict) → shown ≡ Some c → Either s t c
  found_either s t shown found c is = subst (λ (x : Option Conflict). IsFoundOf rules shot.now s t x) is found

  from : (hit : Hit) → IsHit shot.setup (state_in shot) call (arc_value f.actual.strand) hit → IsHitOfOnePair finds call shot.now hit
  from hit is =
      let p = record_placed shot.slots is.flight is.flies in
      let g = p.flight in
      let t = made_of_kind g Actual g.actual in
      let call_is : g.card.call ≡ is.flight.call = ap (λ (r : Record). r.call) p.card_is in
      let apart : t.call ≢ call = λ same. is.other (sym call_is ∙ same) in
      let away : p.place ≢ slot = λ same. apart (was g (subst (λ (k : ℕ). flight_at shot k ≡ Some g) same p.at)) in
      let there : at after (2 * p.place) ≡ Some t =
      at_first (set shot.slots slot (Some f)) p.place ∙ ap first_of (get_or-set_other shot.slots slot p.place (Some f) None away ∙ p.at) in
      let path : t.path ≡ trajectory_of shot.setup is.flight.path = flies p.place g p.at ∙ ap (λ (r : Record). trajectory_of shot.setup r.path) p.card_is in
      let span : IsSpanOfLoss rules mine.path t.path shot.now (window_end shot.now) hit.first hit.last =
      subst (λ (u : Trajectory). IsSpanOfLoss rules mine.path u shot.now (window_end shot.now) hit.first hit.last) (sym path) is.span in
      let loss = span.first_is in
      let low = span.inside.0 in
      let high : hit.first < window_end shot.now = omega (arith, span.inside.1, span.inside.2) in
      let with_is : hit.with ≡ t.call = is.with_is ∙ sym call_is in
      ⊎_elim
      (λ before.
      let x = found_at slot p.place hit.first mine t (omega (arith, before)) (inl refl) here there (λ same. apart (sym same)) low high loss in
      one_shown slot p.place x.pair t hit x.held x.a_is x.b_is x.opened apart with_is span x.pair.conflict refl
      (found_either mine t x.pair.conflict x.found) (found_some mine t hit.first x.pair.conflict x.found low high loss))
      (λ behind.
      let back = IsLossSecond-sym rules mine.path t.path hit.first loss in
      let x = found_at p.place slot hit.first t mine (omega (arith, away, behind)) (inr refl) there here apart low high back in
      one_shown p.place slot x.pair t hit x.held x.a_is x.b_is x.opened apart with_is span x.pair.conflict refl
      (λ c c_is. swap t mine c (found_either t mine x.pair.conflict x.found c c_is)) (found_some t mine hit.first x.pair.conflict x.found low high back))
      (cases_lt slot p.place)

  pub hits_here : (hits : List Hit) → AreHitsAmong finds call shot.now hits → AreHitsOf shot.setup (state_in shot) call (arc_value f.actual.strand) hits
  hits_here hits all = record {
    exact = λ hit. ((λ held. to hit ((all.members hit).0 held)), (λ is. (all.members hit).1 (from hit is)));
    sorted = all.sorted;
  }
