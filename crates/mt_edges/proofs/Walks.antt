-- One turn of the walk that drops the pairs of an end.
use Rattle.std.proofs.Common.{◌≡◌, ◌≢◌, ℕ, zero, suc, ◌+◌, ◌-◌, ◌*◌, ◌/◌, ◌<◌, ◌≤◌, ◌⊎◌, List, [], ◌∷◌, ◌++◌, Option, None, Some, length, get_or, set, refl, sym, ap, ◌∙◌, subst, inl, inr, arith, append_assoc, eq-eqb, length-set}
use Rattle.std.proofs.lemmas.Bool.{cases_eq}
use Rattle.mt_edges.specs.declared.edge.Edge.{Edge}
use Rattle.mt_edges.specs.Private.Laid.{AreDistinct, CanUnlink, Chain, Has, IsHead, IsUnlinked, Laid, without_place}
use Rattle.mt_edges.specs.Pairs.{IsEdge, degree, without_end}
use Rattle.mt_edges.specs.Private.Kept.{AreEdgesKept, Walk, first_place, head_of, node_at, standing_pairs}
use Rattle.mt_edges.proofs.Chains.{Has-without, before_in, behind_in, laid_cleared, laid_unlinked, without-Has, without-absent}
use Rattle.mt_edges.proofs.Nodes.{in_range, none_degree, none_touches, sound_dropped, spares_dropped, ties_dropped, untouched}

-- a linked place and its neighbours are in range
pub near : (next prev : List ℕ) (base : ℕ) (lists : ℕ → List ℕ) (h p : ℕ) → Laid next prev base lists → IsHead base h → Has (lists h) p → CanUnlink next prev p
near next prev base lists h p l head has =
    let at = l.nodes h p head has in
    record {
      place = (at.1, omega (arith, at.1, l.both));
      before = elim (before_in next prev h (lists h) p (l.chain h head) has) [
        | inl e ↦ omega (arith, e, head.1, l.heads)
        | inr r ↦ (l.nodes h (get_or prev p 0) head r).1
      ];
      behind = elim (behind_in next prev h (lists h) p (l.chain h head) (inr has)) [
        | inl z ↦ omega (arith, z, l.some, l.heads, l.both)
        | inr r ↦ (let q = l.nodes h (get_or next p 0) head r in omega (arith, q.1, l.both))
      ];
    }

-- the heads of a sound pair are heads
pub head_in : (ends base : ℕ) (e : Edge) (s : ℕ) → base ≡ ends + 39120 → IsEdge ends e → s < 3 → IsHead base (head_of ends e s)
head_in ends base e zero is sound few = (omega arith, omega (arith, sound.order, sound.ends_in))
head_in ends base e (suc zero) is sound few = (omega arith, omega (arith, sound.ends_in))
head_in ends base e (suc (suc s)) is sound few =
    let in_time : e.first / 256 < 39119 = omega (arith, sound.span, sound.early) in
    (omega arith, omega arith)

-- a list of an end holds places of its pairs' sides 0 and 1
pub side_cases : (ends end : ℕ) (e : Edge) (s : ℕ) → end < ends → s < 3 → 1 + end ≡ head_of ends e s
    → ((s ≡ 0) × (e.a ≡ end)) ⊎ ((s ≡ 1) × (e.b ≡ end))
side_cases ends end e zero within few is = inl (refl, omega arith)
side_cases ends end e (suc zero) within few is = inr (refl, omega arith)
side_cases ends end e (suc (suc s)) within few is = absurd (omega arith)

pub first_some : (xs : List ℕ) → first_place xs ≢ 0 → (rest : List ℕ) × (xs ≡ first_place xs ∷ rest)
first_some [] n = absurd (n refl)
first_some (x ∷ xs) n = (xs, refl)

-- what is reached, of the node n
pub record Turn (ends base : ℕ) (nodes : List (Option Edge)) (linked lists : ℕ → List ℕ) (end place : ℕ) (n : ℕ) : Type 0 where
  pub edge : Edge
  pub rest : List ℕ
  pub list : lists (1 + end) ≡ place ∷ rest
  pub here : node_at nodes n ≡ Some edge
  pub within : n < length nodes
  pub side : ((place ≡ base + 3 * n) × (edge.a ≡ end)) ⊎ ((place ≡ base + 3 * n + 1) × (edge.b ≡ end))

pub turn : (ends base : ℕ) (nodes : List (Option Edge)) (free : List ℕ) (spare : ℕ) (next prev : List ℕ) (end place : ℕ)
    → (w : Walk ends base nodes free spare next prev (1 + end) place) → end < ends → place ≢ 0
    → Turn ends base nodes w.linked w.lists end place ((place - base) / 3)
turn ends base nodes free spare next prev end place w within some =
    let f = first_some (w.lists (1 + end)) (λ z. some (w.reached ∙ z)) in
    let list : w.lists (1 + end) ≡ place ∷ f.0 = f.1 ∙ ap (λ (z : ℕ). z ∷ f.0) (sym w.reached) in
    let o = w.ties.listed (1 + end) place w.head_is (subst (λ (xs : List ℕ). Has xs place) (sym list) (inl refl)) in
    let s = side_cases ends end o.edge o.side within o.few o.head in
    let n : o.node ≡ (place - base) / 3 = omega (arith, o.place, o.few) in
    record {
      edge = o.edge;
      rest = f.0;
      list = list;
      here = subst (λ (z : ℕ). node_at nodes z ≡ Some o.edge) n o.here;
      within = in_range nodes ((place - base) / 3) o.edge (subst (λ (z : ℕ). node_at nodes z ≡ Some o.edge) n o.here);
      side = elim s [
        | inl e ↦ inl (omega (arith, o.place, e.0, n), e.1)
        | inr e ↦ inr (omega (arith, o.place, e.0, n), e.1)
      ];
    }

-- the other place of the pair, as the code finds it
abbrev pub IsOther : ℕ → ℕ → ℕ → ℕ → Type 0
IsOther base place n other = ((place ≡ base + 3 * n) × (other ≡ base + 3 * n + 1)) ⊎ ((place ≢ base + 3 * n) × (other ≡ base + 3 * n))

-- the other place, and the place in the bucket, each in a list of its own
pub record Rest (base : ℕ) (linked : ℕ → List ℕ) (end place n other : ℕ) : Type 0 where
  pub other_head : ℕ
  pub other_is : IsHead base other_head
  pub other_away : other_head ≢ 1 + end
  pub other_has : Has (linked other_head) other
  pub third_head : ℕ
  pub third_is : IsHead base third_head
  pub third_away : third_head ≢ 1 + end
  pub third_has : Has (linked third_head) (base + 3 * n + 2)
  pub all : (s : ℕ) → s < 3 → ((base + 3 * n + s ≡ place) ⊎ (base + 3 * n + s ≡ other)) ⊎ (s ≡ 2)

pub rest_of : (ends base : ℕ) (nodes : List (Option Edge)) (free : List ℕ) (spare : ℕ) (next prev : List ℕ) (end place n other : ℕ)
    → (w : Walk ends base nodes free spare next prev (1 + end) place) → end < ends → Turn ends base nodes w.linked w.lists end place n
    → IsOther base place n other → Rest base w.linked end place n other
rest_of ends base nodes free spare next prev end place n other w within t is =
    let sound = w.shape.sound.each n t.edge t.here in
    let third : IsHead base (head_of ends t.edge 2) = head_in ends base t.edge 2 w.shape.base_is sound (omega arith) in
    let far : head_of ends t.edge 2 ≢ 1 + end = omega arith in
    let in_third : Has (w.linked (head_of ends t.edge 2)) (base + 3 * n + 2) = subst (λ (xs : List ℕ). Has xs (base + 3 * n + 2)) (sym (w.others (head_of ends t.edge 2) third far)) (w.ties.owned n t.edge 2 t.here (omega arith)) in
    elim t.side [
      | inl e ↦ (
          let o : other ≡ base + 3 * n + 1 = elim is [ inl i ↦ i.1 | inr i ↦ absurd (i.0 e.0) ] in
          let head : IsHead base (head_of ends t.edge 1) = head_in ends base t.edge 1 w.shape.base_is sound (omega arith) in
          let away : head_of ends t.edge 1 ≢ 1 + end = omega (arith, sound.order, e.1) in
          record {
            other_head = head_of ends t.edge 1;
            other_is = head;
            other_away = away;
            other_has = subst (Has (w.linked (head_of ends t.edge 1))) (sym o) (subst (λ (xs : List ℕ). Has xs (base + 3 * n + 1)) (sym (w.others (head_of ends t.edge 1) head away)) (w.ties.owned n t.edge 1 t.here (omega arith)));
            third_head = head_of ends t.edge 2;
            third_is = third;
            third_away = far;
            third_has = in_third;
            all = λ s l. elim (cases_eq s 0) [
              | inl z ↦ inl (inl (omega (arith, z, e.0)))
              | inr z ↦ elim (cases_eq s 1) [ inl y ↦ inl (inr (omega (arith, y, o))) | inr y ↦ inr (omega (arith, z, y, l)) ]
            ];
          })
      | inr e ↦ (
          let o : other ≡ base + 3 * n = elim is [ inl i ↦ absurd (omega (arith, i.0, e.0)) | inr i ↦ i.1 ] in
          let head : IsHead base (head_of ends t.edge 0) = head_in ends base t.edge 0 w.shape.base_is sound (omega arith) in
          let away : head_of ends t.edge 0 ≢ 1 + end = omega (arith, sound.order, e.1) in
          let o0 : base + 3 * n + 0 ≡ other = omega (arith, o) in
          record {
            other_head = head_of ends t.edge 0;
            other_is = head;
            other_away = away;
            other_has = subst (Has (w.linked (head_of ends t.edge 0))) o0 (subst (λ (xs : List ℕ). Has xs (base + 3 * n + 0)) (sym (w.others (head_of ends t.edge 0) head away)) (w.ties.owned n t.edge 0 t.here (omega arith)));
            third_head = head_of ends t.edge 2;
            third_is = third;
            third_away = far;
            third_has = in_third;
            all = λ s l. elim (cases_eq s 0) [
              | inl z ↦ inl (inr (omega (arith, z, o)))
              | inr z ↦ elim (cases_eq s 1) [ inl y ↦ inl (inl (omega (arith, y, e.0))) | inr y ↦ inr (omega (arith, z, y, l)) ]
            ];
          })
    ]

-- what stands after some places
Has-behind : (xs ys : List ℕ) (p : ℕ) → Has ys p → Has (xs ++ ys) p
Has-behind [] ys p has = has
Has-behind (x ∷ xs) ys p has = inr (Has-behind xs ys p has)

apart_behind : (xs ys : List ℕ) → AreDistinct (xs ++ ys) → AreDistinct ys
apart_behind [] ys a = a
apart_behind (x ∷ xs) ys a = apart_behind xs ys a.1

-- after a place of a chain stands the next one, or 0
pub chain_at : (next prev : List ℕ) (u : ℕ) (done : List ℕ) (p : ℕ) (rest : List ℕ) → Chain next prev u (done ++ p ∷ rest) → get_or next p 0 ≡ first_place rest
chain_at next prev u [] p [] chain = chain.2
chain_at next prev u [] p (y ∷ ys) chain = chain.2.0
chain_at next prev u (d ∷ done) p rest chain = chain_at next prev d done p rest chain.2

without_first : (p : ℕ) (xs : List ℕ) → (Has xs p → ⊥) → without_place p (p ∷ xs) ≡ xs
without_first p xs lacks = rw (eq-eqb p p refl, without-absent xs p lacks) refl

third_other : (base n place other : ℕ) → IsOther base place n other → base + 3 * n + 2 ≢ other
third_other base n place other is = λ t. elim is [ inl i ↦ omega (arith, i.1, t) | inr i ↦ omega (arith, i.1, t) ]

-- the place in the bucket still stands in its list when the other place is out
pub third_in : (base : ℕ) (linked : ℕ → List ℕ) (end place n other : ℕ) → (r : Rest base linked end place n other) → IsOther base place n other
    → Has (without_place other (linked r.third_head)) (base + 3 * n + 2)
third_in base linked end place n other r is = without-Has (linked r.third_head) other (base + 3 * n + 2) r.third_has (third_other base n place other is)

pub laid_one : (next prev next1 prev1 : List ℕ) (base : ℕ) (linked : ℕ → List ℕ) (end place n other : ℕ) → Laid next prev base linked
    → (r : Rest base linked end place n other) → IsUnlinked next prev next1 prev1 other → Laid next1 prev1 base (λ k. without_place other (linked k))
laid_one next prev next1 prev1 base linked end place n other l r u = laid_unlinked next prev next1 prev1 base linked r.other_head other u l r.other_is r.other_has

pub laid_two : (next prev next1 prev1 next2 prev2 : List ℕ) (base : ℕ) (linked : ℕ → List ℕ) (end place n other : ℕ) → Laid next prev base linked
    → (r : Rest base linked end place n other) → IsOther base place n other → IsUnlinked next prev next1 prev1 other → IsUnlinked next1 prev1 next2 prev2 (base + 3 * n + 2)
    → Laid next2 prev2 base (λ k. without_place (base + 3 * n + 2) (without_place other (linked k)))
laid_two next prev next1 prev1 next2 prev2 base linked end place n other l r is u v =
    laid_unlinked next1 prev1 next2 prev2 base (λ k. without_place other (linked k)) r.third_head (base + 3 * n + 2) v
    (laid_one next prev next1 prev1 base linked end place n other l r u) r.third_is (third_in base linked end place n other r is)

-- the walk goes on
pub walk_on : (ends base : ℕ) (nodes : List (Option Edge)) (free : List ℕ) (spare : ℕ) (next prev next1 prev1 next2 prev2 : List ℕ) (end place n other : ℕ)
    → (w : Walk ends base nodes free spare next prev (1 + end) place) → Turn ends base nodes w.linked w.lists end place n
    → (r : Rest base w.linked end place n other) → IsOther base place n other
    → IsUnlinked next prev next1 prev1 other → IsUnlinked next1 prev1 next2 prev2 (base + 3 * n + 2)
    → Walk ends base (set nodes n None) (set free spare n) (spare + 1) next2 prev2 (1 + end) (get_or next2 place 0)
walk_on ends base nodes free spare next prev next1 prev1 next2 prev2 end place n other w t r is u v =
    let third = base + 3 * n + 2 in
    let laid = laid_two next prev next1 prev1 next2 prev2 base w.linked end place n other w.laid r is u v in
    let whole : w.linked (1 + end) ≡ w.done ++ place ∷ t.rest = w.here ∙ ap (λ (xs : List ℕ). w.done ++ xs) t.list in
    let no_other : Has (w.linked (1 + end)) other → ⊥ = λ h. r.other_away (w.laid.apart r.other_head (1 + end) other r.other_is w.head_is r.other_has h) in
    let no_third : Has (w.linked (1 + end)) third → ⊥ = λ h. r.third_away (w.laid.apart r.third_head (1 + end) third r.third_is w.head_is r.third_has h) in
    let stays : without_place third (without_place other (w.linked (1 + end))) ≡ w.done ++ place ∷ t.rest =
    rw (without-absent (w.linked (1 + end)) other no_other, without-absent (w.linked (1 + end)) third no_third) whole in
    let into : (x : ℕ) → Has (w.lists (1 + end)) x → Has (w.linked (1 + end)) x = λ x h. subst (λ (xs : List ℕ). Has xs x) (sym w.here) (Has-behind w.done (w.lists (1 + end)) x h) in
    let here_linked : Has (w.linked (1 + end)) place = into place (subst (λ (xs : List ℕ). Has xs place) (sym t.list) (inl refl)) in
    let once : Has t.rest place → ⊥ = (apart_behind w.done (place ∷ t.rest) (subst AreDistinct whole (w.laid.once (1 + end) w.head_is))).0 in
    let left : without_place place (without_place third (without_place other (w.lists (1 + end)))) ≡ t.rest =
    rw (without-absent (w.lists (1 + end)) other (λ h. no_other (into other h)), without-absent (w.lists (1 + end)) third (λ h. no_third (into third h)), t.list)
    (without_first place t.rest once) in
    let spares = (spares_dropped nodes free spare n t.edge w.shape.spares t.here).1 in
    record {
      shape = record {
        base_is = w.shape.base_is;
        room = omega (arith, w.shape.room, length-set nodes n None, u.lengths.0, v.lengths.0);
        sound = sound_dropped ends nodes n t.edge w.shape.sound t.here;
        spares = spares;
      };
      head_is = w.head_is;
      linked = λ k. without_place third (without_place other (w.linked k));
      laid = laid;
      lists = λ k. without_place place (without_place third (without_place other (w.lists k)));
      ties = ties_dropped ends base nodes w.lists (λ k. without_place place (without_place third (without_place other (w.lists k)))) n t.edge w.ties t.here
          (λ h p has.
          let a = Has-without (without_place third (without_place other (w.lists h))) place p has in
          let b = Has-without (without_place other (w.lists h)) third p a.0 in
          let d = Has-without (w.lists h) other p b.0 in (
            d.0,
            λ s few e. elim (r.all s few) [
              | inl z ↦ elim z [ inl y ↦ a.1 (e ∙ y) | inr y ↦ d.1 (e ∙ y) ]
              | inr z ↦ b.1 (e ∙ ap (λ (m : ℕ). base + 3 * n + m) z)
            ],
          ))
          (λ h p has no.
          without-Has (without_place third (without_place other (w.lists h))) place p
          (without-Has (without_place other (w.lists h)) third p (without-Has (w.lists h) other p has (λ e. elim is [ inl i ↦ no 1 (omega arith) (e ∙ i.1) | inr i ↦ no 0 (omega arith) (omega (arith, e, i.1)) ]))
          (no 2 (omega arith))) (λ e. elim t.side [ inl i ↦ no 0 (omega arith) (omega (arith, e, i.0)) | inr i ↦ no 1 (omega arith) (e ∙ i.0) ]));
      done = w.done ++ place ∷ [];
      here = stays ∙ sym (append_assoc w.done (place ∷ []) t.rest) ∙ ap (λ (xs : List ℕ). (w.done ++ place ∷ []) ++ xs) (sym left);
      others = λ k i m.
          let gone : Has (without_place third (without_place other (w.lists k))) place → ⊥ = λ h.
          (let b = Has-without (without_place other (w.lists k)) third place h in
          let d = Has-without (w.lists k) other place b.0 in
          m (w.laid.apart k (1 + end) place i w.head_is (subst (λ (xs : List ℕ). Has xs place) (sym (w.others k i m)) d.0) here_linked)) in
          ap (λ (xs : List ℕ). without_place third (without_place other xs)) (w.others k i m) ∙ sym (without-absent (without_place third (without_place other (w.lists k))) place gone);
      reached = chain_at next2 prev2 (1 + end) w.done place t.rest (subst (λ (xs : List ℕ). Chain next2 prev2 (1 + end) xs) stays (laid.chain (1 + end) w.head_is)) ∙ ap first_place (sym left);
    }

pub begins : (next prev : List ℕ) (u : ℕ) (xs : List ℕ) → Chain next prev u xs → get_or next u 0 ≡ first_place xs
begins next prev u [] chain = chain
begins next prev u (x ∷ xs) chain = chain.0

-- the walk begins
pub walk_begins : (ends base : ℕ) (nodes : List (Option Edge)) (free : List ℕ) (spare : ℕ) (next prev : List ℕ) (end : ℕ)
    → AreEdgesKept ends base nodes free spare next prev → end < ends → Walk ends base nodes free spare next prev (1 + end) (get_or next (1 + end) 0)
walk_begins ends base nodes free spare next prev end k within =
    let head : IsHead base (1 + end) = (omega arith, omega (arith, k.shape.base_is)) in
    record {
      shape = k.shape;
      head_is = head;
      linked = k.lists;
      laid = k.laid;
      lists = k.lists;
      ties = k.ties;
      done = [];
      here = refl;
      others = λ j i n. refl;
      reached = begins next prev (1 + end) (k.lists (1 + end)) (k.laid.chain (1 + end) head);
    }

-- the walk ends: nothing is left of the list
emptied : (base : ℕ) (xs : List ℕ) → 0 < base → 0 ≡ first_place xs → ((p : ℕ) → Has xs p → base ≤ p) → xs ≡ []
emptied base [] some is above = refl
emptied base (x ∷ xs) some is above = absurd (omega (arith, is, above x (inl refl)))

pub walk_ends : (ends base : ℕ) (nodes : List (Option Edge)) (free : List ℕ) (spare : ℕ) (next prev next' : List ℕ) (end place : ℕ)
    → Walk ends base nodes free spare next prev (1 + end) place → place ≡ 0 → end < ends
    → length next' ≡ length next → get_or next' (1 + end) 0 ≡ 0 → ((y : ℕ) → y ≢ 1 + end → get_or next' y 0 ≡ get_or next y 0)
    → AreEdgesKept ends base nodes free spare next' prev × (without_end end (standing_pairs nodes) ≡ standing_pairs nodes) × (degree end (standing_pairs nodes) ≡ 0)
walk_ends ends base nodes free spare next prev next' end place w over within same first kept =
    let above : (p : ℕ) → Has (w.lists (1 + end)) p → base ≤ p = λ p has.
    (w.laid.nodes (1 + end) p w.head_is (subst (λ (xs : List ℕ). Has xs p) (sym w.here) (Has-behind w.done (w.lists (1 + end)) p has))).0 in
    let none : w.lists (1 + end) ≡ [] = emptied base (w.lists (1 + end)) w.laid.some (sym over ∙ w.reached) above in (
      record {
        shape = record { base_is = w.shape.base_is; room = omega (arith, w.shape.room, same); sound = w.shape.sound; spares = w.shape.spares };
        lists = w.lists;
        laid = laid_cleared next prev next' base w.linked w.lists (1 + end) w.laid w.head_is same first kept none w.others;
        ties = w.ties;
      },
      none_touches nodes end (λ i e here. untouched end e
          (λ a. subst (λ (xs : List ℕ). Has xs (base + 3 * i + 0)) (ap (λ (z : ℕ). w.lists (1 + z)) a ∙ none) (w.ties.owned i e 0 here (omega arith)))
          (λ b. subst (λ (xs : List ℕ). Has xs (base + 3 * i + 1)) (ap (λ (z : ℕ). w.lists (1 + z)) b ∙ none) (w.ties.owned i e 1 here (omega arith)))),
      none_degree nodes end (λ i e here. untouched end e
          (λ a. subst (λ (xs : List ℕ). Has xs (base + 3 * i + 0)) (ap (λ (z : ℕ). w.lists (1 + z)) a ∙ none) (w.ties.owned i e 0 here (omega arith)))
          (λ b. subst (λ (xs : List ℕ). Has xs (base + 3 * i + 1)) (ap (λ (z : ℕ). w.lists (1 + z)) b ∙ none) (w.ties.owned i e 1 here (omega arith)))),
    )
