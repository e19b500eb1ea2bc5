-- What a write of one node leaves.
use Rattle.std.proofs.Common.{◌≡◌, ◌≢◌, ℕ, zero, suc, ◌+◌, ◌-◌, ◌*◌, ◌<◌, ◌≤◌, ◌⊎◌, List, [], ◌∷◌, Option, None, Some, true, false, not, length, get_or, set, filter, Contains, refl, sym, ap, ◌∙◌, subst, inl, inr, arith, get_or-set_same, get_or-set_other, length-set, length-append}
use Rattle.std.proofs.lemmas.Bool.{cases_eq, cases_lt, ne_eqb}
use Rattle.std.proofs.lemmas.List.{get_or_past, get_or_read}
use Rattle.std.proofs.lemmas.List.Elements.{Contains-append_right, filter-append}
use Rattle.mt_edges.specs.declared.edge.Edge.{Edge}
use Rattle.mt_edges.specs.Pairs.{HaveSameEnds, IsEdge, IsWith, degree, touches, without_end}
use Rattle.mt_edges.specs.Private.Laid.{Has}
use Rattle.mt_edges.specs.Private.Kept.{IsDropped, Shape, Sound, Spares, Ties, head_of, node_at, standing_pairs}

-- a node that holds a pair is in range
pub in_range : (nodes : List (Option Edge)) (i : ℕ) (e : Edge) → node_at nodes i ≡ Some e → i < length nodes
in_range nodes i e here =
    elim (cases_lt i (length nodes)) [
      | inl l ↦ l
      | inr g ↦ (let past : node_at nodes i ≡ None = get_or_past nodes i None g in absurd cc)
    ]

-- the nodes with one emptied
pub emptied_same : (nodes : List (Option Edge)) (i : ℕ) (e : Edge) → node_at nodes i ≡ Some e → node_at (set nodes i None) i ≡ None
emptied_same nodes i e here = get_or-set_same nodes i None None (in_range nodes i e here)

pub emptied_other : (nodes : List (Option Edge)) (i j : ℕ) → j ≢ i → node_at (set nodes i None) j ≡ node_at nodes j
emptied_other nodes i j other = get_or-set_other nodes i j None None other

-- a pair that stands after a node was emptied stands in another node, and stood before
pub emptied_from : (nodes : List (Option Edge)) (i j : ℕ) (e f : Edge) → node_at nodes i ≡ Some e → node_at (set nodes i None) j ≡ Some f
    → (j ≢ i) × (node_at nodes j ≡ Some f)
emptied_from nodes i j e f here there =
    elim (cases_eq j i) [
      | inl k ↦ (let gone : node_at (set nodes i None) i ≡ None = emptied_same nodes i e here in
          let same : node_at (set nodes i None) i ≡ Some f = subst (λ (z : ℕ). node_at (set nodes i None) z ≡ Some f) k there in absurd cc)
      | inr n ↦ (n, sym (emptied_other nodes i j n) ∙ there)
    ]

-- the list of the pairs without that of one node
pub with_node : (nodes : List (Option Edge)) (i : ℕ) (e : Edge) → node_at nodes i ≡ Some e → IsWith (standing_pairs (set nodes i None)) e (standing_pairs nodes)
with_node [] i e here = absurd cc
with_node (None ∷ nodes) zero e here = absurd cc
with_node (None ∷ nodes) (suc i) e here =
    let w = with_node nodes i e here in
    record { front = w.front; back = w.back; was = w.was; is = w.is }
with_node (Some f ∷ nodes) zero e here =
    let same : f ≡ e = cc in
    record { front = []; back = standing_pairs nodes; was = refl; is = ap (λ (z : Edge). z ∷ standing_pairs nodes) same }
with_node (Some f ∷ nodes) (suc i) e here =
    let w = with_node nodes i e here in
    record { front = f ∷ w.front; back = w.back; was = ap (λ (z : List Edge). f ∷ z) w.was; is = ap (λ (z : List Edge). f ∷ z) w.is }

-- a pair of an end is gone
pub is_dropped : (nodes : List (Option Edge)) (i : ℕ) (e : Edge) (end : ℕ) → node_at nodes i ≡ Some e → touches end e ≡ true → IsDropped end nodes (set nodes i None)
is_dropped nodes i e end here touching =
    let w = with_node nodes i e here in
    record {
      kept = rw (w.was, w.is, filter-append (λ x. not (touches end x)) w.front w.back, filter-append (λ x. not (touches end x)) w.front (e ∷ w.back), touching) refl;
      one = rw (w.was, w.is, filter-append (touches end) w.front w.back, filter-append (touches end) w.front (e ∷ w.back), touching)
          (omega (arith, length-append (filter (touches end) w.front) (e ∷ filter (touches end) w.back), length-append (filter (touches end) w.front) (filter (touches end) w.back)));
    }

-- the spares with the node that was emptied
pub spares_dropped : (nodes : List (Option Edge)) (free : List ℕ) (spare i : ℕ) (e : Edge) → Spares nodes free spare → node_at nodes i ≡ Some e
    → (spare < length free) × Spares (set nodes i None) (set free spare i) (spare + 1)
spares_dropped nodes free spare i e s here =
    let w = with_node nodes i e here in
    let within = in_range nodes i e here in
    let more : length (standing_pairs nodes) ≡ length (standing_pairs (set nodes i None)) + 1 =
    rw (w.was, w.is) (omega (arith, length-append w.front (e ∷ w.back), length-append w.front w.back)) in
    let few : spare < length free = omega (arith, s.count, s.room) in (
      few,
      record {
        count = omega (arith, s.count, length-set nodes i None);
        room = omega (arith, s.room, length-set nodes i None, length-set free spare i);
        empty = λ k l. elim (cases_eq k spare) [
          | inl q ↦ subst (λ (z : ℕ). (z < length (set nodes i None)) × (node_at (set nodes i None) z ≡ None))
              (sym (ap (λ (z : ℕ). get_or (set free spare i) z 0) q ∙ get_or-set_same free spare i 0 few))
              (omega (arith, within, length-set nodes i None), emptied_same nodes i e here)
          | inr n ↦ (let old = s.empty k (omega (arith, l, n)) in
              let other : get_or free k 0 ≢ i = λ t. (let gone : node_at nodes i ≡ None = subst (λ (z : ℕ). node_at nodes z ≡ None) t old.1 in absurd cc) in
              subst (λ (z : ℕ). (z < length (set nodes i None)) × (node_at (set nodes i None) z ≡ None))
              (sym (get_or-set_other free spare k i 0 n))
              (omega (arith, old.0, length-set nodes i None), emptied_other nodes i (get_or free k 0) other ∙ old.1))
        ];
        once = λ j k l m t.
            let nj : j ≢ spare = omega arith in
            elim (cases_eq k spare) [
              | inl q ↦ (let old = s.empty j (omega (arith, l, q)) in
                  let same : get_or free j 0 ≡ i = sym (get_or-set_other free spare j i 0 nj) ∙ t ∙ ap (λ (z : ℕ). get_or (set free spare i) z 0) q ∙ get_or-set_same free spare i 0 few in
                  let gone : node_at nodes i ≡ None = subst (λ (z : ℕ). node_at nodes z ≡ None) same old.1 in absurd cc)
              | inr n ↦ s.once j k l (omega (arith, m, n)) (sym (get_or-set_other free spare j i 0 nj) ∙ t ∙ get_or-set_other free spare k i 0 n)
            ];
      },
    )

pub sound_dropped : (ends : ℕ) (nodes : List (Option Edge)) (i : ℕ) (e : Edge) → Sound ends nodes → node_at nodes i ≡ Some e → Sound ends (set nodes i None)
sound_dropped ends nodes i e s here = record {
  each = λ j f there. s.each j f (emptied_from nodes i j e f here there).1;
  once = λ j k f g there there' same. s.once j k f g (emptied_from nodes i j e f here there).1 (emptied_from nodes i k e g here there').1 same;
}

-- the lists without the places of the node that was emptied
pub ties_dropped : (ends base : ℕ) (nodes : List (Option Edge)) (lists lists' : ℕ → List ℕ) (i : ℕ) (e : Edge) → Ties ends base nodes lists → node_at nodes i ≡ Some e
    → ((h p : ℕ) → Has (lists' h) p → Has (lists h) p × ((s : ℕ) → s < 3 → p ≢ base + 3 * i + s))
    → ((h p : ℕ) → Has (lists h) p → ((s : ℕ) → s < 3 → p ≢ base + 3 * i + s) → Has (lists' h) p)
    → Ties ends base (set nodes i None) lists'
ties_dropped ends base nodes lists lists' i e t here fewer enough = record {
  listed = λ h p head has.
      let old = fewer h p has in
      let o = t.listed h p head old.0 in
      let other : o.node ≢ i = λ k. old.1 o.side o.few (subst (λ (z : ℕ). p ≡ base + 3 * z + o.side) k o.place) in
      record { node = o.node; edge = o.edge; side = o.side; here = emptied_other nodes i o.node other ∙ o.here; few = o.few; head = o.head; place = o.place };
  owned = λ j f s there few.
      let old = emptied_from nodes i j e f here there in
      enough (head_of ends f s) (base + 3 * j + s) (t.owned j f s old.1 few) (λ r m k. old.0 (omega (arith, few, m, k)));
}

-- a pair that has not this end
pub untouched : (end : ℕ) (e : Edge) → (e.a ≡ end → ⊥) → (e.b ≡ end → ⊥) → touches end e ≡ false
untouched end e a b = rw (ne_eqb e.a end a, ne_eqb e.b end b) refl

-- no pair has an end that is none
pub outside : (ends : ℕ) (nodes : List (Option Edge)) (end : ℕ) → Sound ends nodes → ends ≤ end → (i : ℕ) (e : Edge) → node_at nodes i ≡ Some e → touches end e ≡ false
outside ends nodes end sound past i e here =
    let kept = sound.each i e here in
    untouched end e (λ k. absurd (omega (arith, k, kept.order, kept.ends_in))) (λ k. absurd (omega (arith, k, kept.ends_in)))

-- where no pair has this end, none is left out
pub none_touches : (nodes : List (Option Edge)) (end : ℕ) → ((i : ℕ) (e : Edge) → node_at nodes i ≡ Some e → touches end e ≡ false)
    → without_end end (standing_pairs nodes) ≡ standing_pairs nodes
none_touches [] end none = refl
none_touches (None ∷ nodes) end none = none_touches nodes end (λ i e here. none (suc i) e here)
none_touches (Some e ∷ nodes) end none =
    rw (none 0 e refl) (ap (λ (z : List Edge). e ∷ z) (none_touches nodes end (λ i f here. none (suc i) f here)))

-- the list of the pairs with that of one node more
pub with_new : (nodes : List (Option Edge)) (i : ℕ) (e : Edge) → i < length nodes → node_at nodes i ≡ None → IsWith (standing_pairs nodes) e (standing_pairs (set nodes i (Some e)))
with_new [] i e within free = absurd (omega arith)
with_new (None ∷ nodes) zero e within free = record { front = []; back = standing_pairs nodes; was = refl; is = refl }
with_new (Some f ∷ nodes) zero e within free = absurd cc
with_new (None ∷ nodes) (suc i) e within free =
    let w = with_new nodes i e (omega arith) free in
    record { front = w.front; back = w.back; was = w.was; is = w.is }
with_new (Some f ∷ nodes) (suc i) e within free =
    let w = with_new nodes i e (omega arith) free in
    record { front = f ∷ w.front; back = w.back; was = ap (λ (z : List Edge). f ∷ z) w.was; is = ap (λ (z : List Edge). f ∷ z) w.is }

-- what stands after a node was filled
pub filled_from : (nodes : List (Option Edge)) (i j : ℕ) (e f : Edge) → i < length nodes → node_at (set nodes i (Some e)) j ≡ Some f
    → ((j ≡ i) × (e ≡ f)) ⊎ ((j ≢ i) × (node_at nodes j ≡ Some f))
filled_from nodes i j e f within there =
    elim (cases_eq j i) [
      | inl k ↦ (let here : node_at (set nodes i (Some e)) i ≡ Some e = get_or-set_same nodes i (Some e) None within in
          let same : node_at (set nodes i (Some e)) i ≡ Some f = subst (λ (z : ℕ). node_at (set nodes i (Some e)) z ≡ Some f) k there in inl (k, cc))
      | inr n ↦ inr (n, sym (get_or-set_other nodes i j (Some e) None n) ∙ there)
    ]

-- the spares without the last, which was filled
pub spares_filled : (nodes : List (Option Edge)) (free : List ℕ) (spare less : ℕ) (e : Edge) → Spares nodes free spare → spare ≡ less + 1
    → Spares (set nodes (get_or free less 0) (Some e)) free less
spares_filled nodes free spare less e s is =
    let last = s.empty less (omega arith) in
    let w = with_new nodes (get_or free less 0) e last.0 last.1 in
    let more : length (standing_pairs (set nodes (get_or free less 0) (Some e))) ≡ length (standing_pairs nodes) + 1 =
    rw (w.was, w.is) (omega (arith, length-append w.front (e ∷ w.back), length-append w.front w.back)) in
    record {
      count = omega (arith, s.count, length-set nodes (get_or free less 0) (Some e));
      room = omega (arith, s.room, length-set nodes (get_or free less 0) (Some e));
      empty = λ k l. (let old = s.empty k (omega arith) in (
        omega (arith, old.0, length-set nodes (get_or free less 0) (Some e)),
        get_or-set_other nodes (get_or free less 0) (get_or free k 0) (Some e) None (s.once k less l (omega arith)) ∙ old.1,
      ));
      once = λ j k l m. s.once j k l (omega arith);
    }

pub sound_filled : (ends : ℕ) (nodes : List (Option Edge)) (i : ℕ) (e : Edge) → Sound ends nodes → i < length nodes → IsEdge ends e
    → ((j : ℕ) (f : Edge) → node_at nodes j ≡ Some f → ¬ HaveSameEnds f e) → Sound ends (set nodes i (Some e))
sound_filled ends nodes i e s within sound new = record {
  each = λ j f there. elim (filled_from nodes i j e f within there) [
    | inl k ↦ subst (IsEdge ends) k.1 sound
    | inr k ↦ s.each j f k.1
  ];
  once = λ j k f g there there' same. elim (filled_from nodes i j e f within there) [
    | inl a ↦ elim (filled_from nodes i k e g within there') [
      | inl b ↦ a.0 ∙ sym b.0
      | inr b ↦ absurd (new k g b.1 (subst (λ (z : Edge). HaveSameEnds g z) (sym a.1) (sym same.0, sym same.1)))
    ]
    | inr a ↦ elim (filled_from nodes i k e g within there') [
      | inl b ↦ absurd (new j f a.1 (subst (λ (z : Edge). HaveSameEnds f z) (sym b.1) same))
      | inr b ↦ s.once j k f g a.1 b.1 same
    ]
  ];
}

-- the node on top of the stack is free
pub popped : (nodes : List (Option Edge)) (free : List ℕ) (spare x : ℕ) → Spares nodes free spare → 0 < spare → x ≡ get_or free (spare - 1) x
    → (x ≡ get_or free (spare - 1) 0) × (x < length nodes) × (node_at nodes x ≡ None)
popped nodes free spare x s some read =
    let within : spare - 1 < length free = omega (arith, s.count, s.room) in
    let is : x ≡ get_or free (spare - 1) 0 = get_or_read free (spare - 1) x within read 0 in
    let top = s.empty (spare - 1) (omega arith) in
    (is, omega (arith, is, top.0), subst (λ (z : ℕ). node_at nodes z ≡ None) (sym is) top.1)

-- so the lists have its three places
pub has_places : (ends base : ℕ) (nodes : List (Option Edge)) (free : List ℕ) (spare x : ℕ) (next : List ℕ) → Shape ends base nodes free spare next → 0 < spare
    → x ≡ get_or free (spare - 1) x → base + 3 * x + 2 < length next
has_places ends base nodes free spare x next shape some read = omega (arith, (popped nodes free spare x shape.spares some read).1, shape.room)

pub spares_popped : (nodes : List (Option Edge)) (free : List ℕ) (spare i : ℕ) (e : Edge) → Spares nodes free spare → 0 < spare → i ≡ get_or free (spare - 1) 0
    → Spares (set nodes i (Some e)) free (spare - 1)
spares_popped nodes free spare i e s some is =
    subst (λ (z : ℕ). Spares (set nodes z (Some e)) free (spare - 1)) (sym is) (spares_filled nodes free spare (spare - 1) e s (omega arith))

-- a pair of a node stands in the list, and each of the list in a node
pub stands : (nodes : List (Option Edge)) (i : ℕ) (e : Edge) → node_at nodes i ≡ Some e → Contains (standing_pairs nodes) e
stands nodes i e here =
    let w = with_node nodes i e here in
    let zero_in : 0 < length (e ∷ w.back) = omega arith in
    subst (λ (z : List Edge). Contains z e) (sym w.is) (Contains-append_right w.front (e ∷ w.back) e (0, zero_in, refl))

found_at : (nodes : List (Option Edge)) (k : ℕ) (e : Edge) → k < length (standing_pairs nodes) → get_or (standing_pairs nodes) k e ≡ e → (i : ℕ) × (node_at nodes i ≡ Some e)
found_at [] k e within is = absurd (omega arith)
found_at (None ∷ nodes) k e within is = let f = found_at nodes k e within is in (suc f.0, f.1)
found_at (Some f ∷ nodes) zero e within is = (0, ap (λ (z : Edge). Some z) is)
found_at (Some f ∷ nodes) (suc k) e within is = let f = found_at nodes k e (omega arith) is in (suc f.0, f.1)

pub found : (nodes : List (Option Edge)) (e : Edge) → Contains (standing_pairs nodes) e → (i : ℕ) × (node_at nodes i ≡ Some e)
found nodes e has = found_at nodes has.0 e has.1 has.2

pub none_degree : (nodes : List (Option Edge)) (end : ℕ) → ((i : ℕ) (e : Edge) → node_at nodes i ≡ Some e → touches end e ≡ false) → degree end (standing_pairs nodes) ≡ 0
none_degree [] end none = refl
none_degree (None ∷ nodes) end none = none_degree nodes end (λ i e here. none (suc i) e here)
none_degree (Some e ∷ nodes) end none = rw (none 0 e refl) (none_degree nodes end (λ i f here. none (suc i) f here))
