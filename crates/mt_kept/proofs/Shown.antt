-- What the open pairs of changed places show is taken out of what is listed, and what its finds show put in.
use Rattle.std.proofs.Common.{◌≡◌, ℕ, ◌⊎◌, inl, inr, ⊎_elim, ◌↔◌, true, not, List, ◌++◌, Contains, Option, Some, refl, sym, ◌∙◌, ap, subst}
use Rattle.std.specs.List.{filter}
use Rattle.std.proofs.lemmas.Bool.{cases_Bool}
use Rattle.std.proofs.lemmas.List.Elements.{Contains-append_cases, Contains-append_left, Contains-append_right}
use Rattle.mt_base.specs.declared.conflict.Conflict.{Conflict}
use Rattle.mt_base.specs.declared.rules.Rules.{Rules}
use Rattle.mt_base.specs.Picture.{NamedTrajectory}
use Rattle.mt_base.proofs.Members.{Contains-filter}
use Rattle.mt_edges.specs.declared.edge.Edge.{Edge}
use Rattle.mt_kept.specs.declared.open_pair.OpenPair.{OpenPair}
use Rattle.mt_kept.specs.Losing.{TouchesOne}
use Rattle.mt_kept.specs.Private.Made.{avoids, meets, opens}
use Rattle.mt_kept.specs.Places.{HaveOwnPlaces, at}
use Rattle.mt_kept.specs.Window.{ShowsInWindow}
use Rattle.mt_kept.specs.Private.Window.{AreOpen, Shows}
use Rattle.mt_kept.proofs.Keeping.{avoids_is, touches_one_is}

-- the places of the two flights that a shown conflict names
record NamesPlaces (places : List (Option NamedTrajectory)) (e : Edge) (c : Conflict) : Type 0 where
  low : ℕ
  high : ℕ
  left : NamedTrajectory
  right : NamedTrajectory
  left_is : at places low ≡ Some left
  right_is : at places high ≡ Some right
  calls : (left.call ≡ c.a) × (right.call ≡ c.b)
  kinds : (left.kind ≡ c.ka) × (right.kind ≡ c.kb)
  ends : ((e.a ≡ low) × (e.b ≡ high)) ⊎ ((e.a ≡ high) × (e.b ≡ low))

names_places : (rules : Rules) (places : List (Option NamedTrajectory)) (now : ℕ) (e : Edge) (c : Conflict) → ShowsInWindow rules places now e (Some c)
    → NamesPlaces places e c
names_places rules places now e c shown = ⊎_elim
    (λ is. record {
      low = e.a;
      high = e.b;
      left = shown.left;
      right = shown.right;
      left_is = shown.left_is;
      right_is = shown.right_is;
      calls = (sym is.calls.0, sym is.calls.1);
      kinds = (sym is.kinds.0, sym is.kinds.1);
      ends = inl (refl, refl);
    })
    (λ is. record {
      low = e.b;
      high = e.a;
      left = shown.right;
      right = shown.left;
      left_is = shown.right_is;
      right_is = shown.left_is;
      calls = (sym is.calls.0, sym is.calls.1);
      kinds = (sym is.kinds.0, sym is.kinds.1);
      ends = inr (refl, refl);
    }) shown.found

touching : (some : List ℕ) (e : Edge) (low high : ℕ) → ((e.a ≡ low) × (e.b ≡ high)) ⊎ ((e.a ≡ high) × (e.b ≡ low))
    → TouchesOne some e ↔ (Contains some low ⊎ Contains some high)
touching some e low high ends = ⊎_elim
    (λ is. (
      (λ t. ⊎_elim (λ a. inl (subst (Contains some) is.0 a)) (λ b. inr (subst (Contains some) is.1 b)) t),
      (λ t. ⊎_elim (λ l. inl (subst (Contains some) (sym is.0) l)) (λ h. inr (subst (Contains some) (sym is.1) h)) t),
    ))
    (λ is. (
      (λ t. ⊎_elim (λ a. inr (subst (Contains some) is.0 a)) (λ b. inl (subst (Contains some) is.1 b)) t),
      (λ t. ⊎_elim (λ l. inr (subst (Contains some) (sym is.1) l)) (λ h. inl (subst (Contains some) (sym is.0) h)) t),
    )) ends

-- a pair of some places and one of other places don't show one conflict
pub one_pair : (rules : Rules) (places : List (Option NamedTrajectory)) (now : ℕ) (some : List ℕ) (e f : Edge) (c : Conflict) → HaveOwnPlaces places
    → ShowsInWindow rules places now e (Some c) → ShowsInWindow rules places now f (Some c) → TouchesOne some e → TouchesOne some f
one_pair rules places now some e f c own e_shown f_shown here =
    let p = names_places rules places now e c e_shown in
    let q = names_places rules places now f c f_shown in
    let low : p.low ≡ q.low = own p.low q.low p.left q.left p.left_is q.left_is (p.calls.0 ∙ sym q.calls.0) (p.kinds.0 ∙ sym q.kinds.0) in
    let high : p.high ≡ q.high = own p.high q.high p.right q.right p.right_is q.right_is (p.calls.1 ∙ sym q.calls.1) (p.kinds.1 ∙ sym q.kinds.1) in
    (touching some f q.low q.high q.ends).1 (⊎_elim
    (λ l. inl (subst (Contains some) low l)) (λ h. inr (subst (Contains some) high h)) ((touching some e p.low p.high p.ends).0 here))

-- what is listed after a change is what the open pairs show after it
pub shown_put : (rules : Rules) (places : List (Option NamedTrajectory)) (now : ℕ) (changed : List ℕ) (edges : List Edge) (pairs finds : List OpenPair)
    (list hidden shown new : List Conflict) → HaveOwnPlaces places → AreOpen rules places now edges pairs → ((c : Conflict) → Contains list c ↔ Shows pairs c)
    → ((c : Conflict) → Contains hidden c ↔ Shows (filter (meets changed) pairs) c)
    → ((c : Conflict) → Contains shown c ↔ Shows (filter (opens now) finds) c)
    → ((c : Conflict) → Contains new c ↔ ((Contains list c × (¬ Contains hidden c)) ⊎ Contains shown c))
    → (c : Conflict) → Contains new c ↔ Shows (filter (avoids changed) pairs ++ filter (opens now) finds) c
shown_put rules places now changed edges pairs finds list hidden shown new own opened exact gone fresh replaced c = (
  (λ held. ⊎_elim
      (λ old.
      let s = (exact c).0 old.0 in
      ⊎_elim
      (λ near. absurd (old.1 ((gone c).1 (record { pair = s.pair; held = (Contains-filter (meets changed) pairs s.pair).1 (s.held, near); shown = s.shown }))))
      (λ away. record {
        pair = s.pair;
        held = Contains-append_left (filter (avoids changed) pairs) (filter (opens now) finds) s.pair
            ((Contains-filter (avoids changed) pairs s.pair).1 (s.held, ap not away));
        shown = s.shown;
      }) (cases_Bool (meets changed s.pair)))
      (λ come.
      let s = (fresh c).0 come in
      record {
        pair = s.pair;
        held = Contains-append_right (filter (avoids changed) pairs) (filter (opens now) finds) s.pair s.held;
        shown = s.shown;
      }) ((replaced c).0 held)),
  (λ s. ⊎_elim
      (λ old.
      let h = (Contains-filter (avoids changed) pairs s.pair).0 old in
      (replaced c).1 (inl ((exact c).1 (record { pair = s.pair; held = h.0; shown = s.shown }), (λ in_hidden. not_hidden s.pair h.0 h.1 s.shown ((gone c).0 in_hidden)))))
      (λ come. (replaced c).1 (inr ((fresh c).1 (record { pair = s.pair; held = come; shown = s.shown }))))
      (Contains-append_cases (filter (avoids changed) pairs) (filter (opens now) finds) s.pair s.held)),
) where
  shown_at : (o : OpenPair) → Contains pairs o → o.conflict ≡ Some c → ShowsInWindow rules places now o.edge (Some c)
  shown_at o held is = subst (λ (x : Option Conflict). ShowsInWindow rules places now o.edge x) is (opened.sound o held).2

  not_hidden : (o : OpenPair) → Contains pairs o → avoids changed o ≡ true → o.conflict ≡ Some c → ¬ Shows (filter (meets changed) pairs) c
  not_hidden o held away is h =
      let g = (Contains-filter (meets changed) pairs h.pair).0 h.held in
      (avoids_is changed o).0 away
      (one_pair rules places now changed h.pair.edge o.edge c own (shown_at h.pair g.0 h.shown) (shown_at o held is) ((touches_one_is changed h.pair.edge).0 g.1))
