-- A pair is put into a free node.
use Rattle.std.proofs.Common.{◌≡◌, ◌≢◌, ℕ, zero, suc, ◌+◌, ◌*◌, ◌/◌, ◌<◌, ◌≤◌, ◌⊎◌, List, ◌∷◌, Option, None, Some, length, get_or, set, refl, sym, ◌∙◌, subst, inl, inr, arith, get_or-set_other, get_or-set_same}
use Rattle.std.proofs.lemmas.Bool.{cases_eq, eq-eqb, ne_eqb}
use Rattle.mt_edges.specs.declared.edge.Edge.{Edge}
use Rattle.mt_edges.specs.Private.Laid.{CanLink, Has, IsHead, IsLinked, Laid}
use Rattle.mt_edges.specs.Pairs.{IsEdge}
use Rattle.mt_edges.specs.Private.Kept.{AreEdgesKept, Ties, head_of, node_at, with_place}
use Rattle.mt_edges.proofs.Chains.{behind_in, laid_linked}
use Rattle.mt_edges.proofs.Nodes.{filled_from}
use Rattle.mt_edges.proofs.Walks.{head_in}

-- no list holds the place
abbrev pub IsFresh : ℕ → (ℕ → List ℕ) → ℕ → Type 0
IsFresh base lists p = (k : ℕ) → IsHead base k → Has (lists k) p → ⊥

pub can_link : (next prev : List ℕ) (base : ℕ) (lists : ℕ → List ℕ) (h p : ℕ) → Laid next prev base lists → IsHead base h → base ≤ p → p < length next
    → IsFresh base lists p → CanLink next prev h p
can_link next prev base lists h p l head node within fresh =
    let behind = behind_in next prev h (lists h) h (l.chain h head) (inl refl) in
    record {
      head = omega (arith, head.1, l.heads);
      place = (within, omega (arith, within, l.both));
      behind = elim behind [
        | inl z ↦ omega (arith, z, l.some, l.heads, l.both)
        | inr r ↦ (let q = l.nodes h (get_or next h 0) head r in omega (arith, q.1, l.both))
      ];
      new = (
        λ e. absurd (omega (arith, e, node, head.1)),
        λ e. elim behind [
          | inl z ↦ absurd (omega (arith, e, z, node, l.some))
          | inr r ↦ fresh h head (subst (Has (lists h)) (sym e) r)
        ],
      );
    }

place_here : (h p : ℕ) (lists : ℕ → List ℕ) → with_place h p lists h ≡ p ∷ lists h
place_here h p lists = rw (eq-eqb h h refl) refl

place_else : (h p : ℕ) (lists : ℕ → List ℕ) (k : ℕ) → k ≢ h → with_place h p lists k ≡ lists k
place_else h p lists k n = rw (ne_eqb k h n) refl

pub laid_with : (next prev next' prev' : List ℕ) (base : ℕ) (lists : ℕ → List ℕ) (h p : ℕ) → IsLinked next prev next' prev' h p
    → Laid next prev base lists → IsHead base h → base ≤ p → p < length next → IsFresh base lists p → Laid next' prev' base (with_place h p lists)
laid_with next prev next' prev' base lists h p w l head node within fresh =
    laid_linked next prev next' prev' base lists (with_place h p lists) h p w l head node within fresh (place_here h p lists) (place_else h p lists)

-- what the lists then hold
pub with_cases : (h p : ℕ) (lists : ℕ → List ℕ) (k q : ℕ) → Has (with_place h p lists k) q → Has (lists k) q ⊎ ((k ≡ h) × (q ≡ p))
with_cases h p lists k q has =
    elim (cases_eq k h) [
      | inl e ↦ elim (rw (eq-eqb k h e) at has) [ inl i ↦ inr (e, i) | inr r ↦ inl r ]
      | inr n ↦ inl (rw (ne_eqb k h n) at has)
    ]

pub with_old : (h p : ℕ) (lists : ℕ → List ℕ) (k q : ℕ) → Has (lists k) q → Has (with_place h p lists k) q
with_old h p lists k q has =
    elim (cases_eq k h) [
      | inl e ↦ rw (eq-eqb k h e) (inr has)
      | inr n ↦ rw (ne_eqb k h n) has
    ]

pub with_this : (h p : ℕ) (lists : ℕ → List ℕ) → Has (with_place h p lists h) p
with_this h p lists = rw (eq-eqb h h refl) (inl refl)

pub fresh_with : (base h p : ℕ) (lists : ℕ → List ℕ) (q : ℕ) → IsFresh base lists q → q ≢ p → IsFresh base (with_place h p lists) q
fresh_with base h p lists q fresh n k i has = elim (with_cases h p lists k q has) [ inl r ↦ fresh k i r | inr e ↦ n e.1 ]

-- the places of a free node stand in no list
pub fresh_node : (ends base : ℕ) (nodes : List (Option Edge)) (lists : ℕ → List ℕ) (i s : ℕ) → Ties ends base nodes lists → node_at nodes i ≡ None → s < 3
    → IsFresh base lists (base + 3 * i + s)
fresh_node ends base nodes lists i s t free few k head has =
    let o = t.listed k (base + 3 * i + s) head has in
    let same : o.node ≡ i = omega (arith, o.place, o.few, few) in
    let here : node_at nodes i ≡ Some o.edge = subst (λ (z : ℕ). node_at nodes z ≡ Some o.edge) same o.here in
    absurd cc

-- the lists with the three places of a node
abbrev pub with_three : ℕ → ℕ → ℕ → Edge → (ℕ → List ℕ) → ℕ → List ℕ
with_three ends base i e lists =
    with_place (head_of ends e 2) (base + 3 * i + 2) (with_place (head_of ends e 1) (base + 3 * i + 1) (with_place (head_of ends e 0) (base + 3 * i) lists))

three_owned : (ends base i : ℕ) (e : Edge) (lists : ℕ → List ℕ) (s : ℕ) → s < 3 → Has (with_three ends base i e lists (head_of ends e s)) (base + 3 * i + s)
three_owned ends base i e lists zero few =
    let one = with_this (head_of ends e 0) (base + 3 * i) lists in
    let two = with_old (head_of ends e 1) (base + 3 * i + 1) (with_place (head_of ends e 0) (base + 3 * i) lists) (head_of ends e 0) (base + 3 * i) one in
    let three = with_old (head_of ends e 2) (base + 3 * i + 2) (with_place (head_of ends e 1) (base + 3 * i + 1) (with_place (head_of ends e 0) (base + 3 * i) lists)) (head_of ends e 0) (base + 3 * i) two in
    let same : base + 3 * i ≡ base + 3 * i + 0 = omega arith in
    subst (Has (with_three ends base i e lists (head_of ends e 0))) same three
three_owned ends base i e lists (suc zero) few =
    let two = with_this (head_of ends e 1) (base + 3 * i + 1) (with_place (head_of ends e 0) (base + 3 * i) lists) in
    with_old (head_of ends e 2) (base + 3 * i + 2) (with_place (head_of ends e 1) (base + 3 * i + 1) (with_place (head_of ends e 0) (base + 3 * i) lists)) (head_of ends e 1) (base + 3 * i + 1) two
three_owned ends base i e lists (suc (suc zero)) few =
    with_this (head_of ends e 2) (base + 3 * i + 2) (with_place (head_of ends e 1) (base + 3 * i + 1) (with_place (head_of ends e 0) (base + 3 * i) lists))
three_owned ends base i e lists (suc (suc (suc s))) few = absurd (omega arith)

pub ties_filled : (ends base : ℕ) (nodes : List (Option Edge)) (lists : ℕ → List ℕ) (i : ℕ) (e : Edge) → Ties ends base nodes lists → i < length nodes → node_at nodes i ≡ None
    → Ties ends base (set nodes i (Some e)) (with_three ends base i e lists)
ties_filled ends base nodes lists i e t within free =
    let here : node_at (set nodes i (Some e)) i ≡ Some e = get_or-set_same nodes i (Some e) None within in
    let one = with_place (head_of ends e 0) (base + 3 * i) lists in
    let two = with_place (head_of ends e 1) (base + 3 * i + 1) one in
    record {
      listed = λ h p head has. elim (with_cases (head_of ends e 2) (base + 3 * i + 2) two h p has) [
        | inr k ↦ record { node = i; edge = e; side = 2; here = here; few = omega arith; head = k.0; place = k.1 }
        | inl has ↦ elim (with_cases (head_of ends e 1) (base + 3 * i + 1) one h p has) [
          | inr k ↦ record { node = i; edge = e; side = 1; here = here; few = omega arith; head = k.0; place = k.1 }
          | inl has ↦ elim (with_cases (head_of ends e 0) (base + 3 * i) lists h p has) [
            | inr k ↦ record { node = i; edge = e; side = 0; here = here; few = omega arith; head = k.0; place = omega (arith, k.1) }
            | inl has ↦
                let o = t.listed h p head has in
                let other : o.node ≢ i = λ k. (let there : node_at nodes i ≡ Some o.edge = subst (λ (z : ℕ). node_at nodes z ≡ Some o.edge) k o.here in absurd cc) in
                record { node = o.node; edge = o.edge; side = o.side; here = get_or-set_other nodes i o.node (Some e) None other ∙ o.here; few = o.few; head = o.head; place = o.place }
          ]
        ]
      ];
      owned = λ j f s there few. elim (filled_from nodes i j e f within there) [
        | inl k ↦ subst (λ (z : Edge). Has (with_three ends base i e lists (head_of ends z s)) (base + 3 * j + s)) k.1
            (subst (λ (z : ℕ). Has (with_three ends base i e lists (head_of ends e s)) (base + 3 * z + s)) (sym k.0) (three_owned ends base i e lists s few))
        | inr k ↦ with_old (head_of ends e 2) (base + 3 * i + 2) two (head_of ends f s) (base + 3 * j + s)
            (with_old (head_of ends e 1) (base + 3 * i + 1) one (head_of ends f s) (base + 3 * j + s)
            (with_old (head_of ends e 0) (base + 3 * i) lists (head_of ends f s) (base + 3 * j + s) (t.owned j f s k.1 few)))
      ];
    }

-- What the three links ask for and leave, one after another.
pub record Three (ends base : ℕ) (nodes : List (Option Edge)) (next prev next1 prev1 next2 prev2 : List ℕ) (lists : ℕ → List ℕ) (i : ℕ) (e : Edge) : Type 0 where
  pub within : base + 3 * i + 2 < length next
  pub one : CanLink next prev (1 + e.a) (base + 3 * i)
  pub two : IsLinked next prev next1 prev1 (1 + e.a) (base + 3 * i) → CanLink next1 prev1 (1 + e.b) (base + 3 * i + 1)
  pub three : IsLinked next prev next1 prev1 (1 + e.a) (base + 3 * i) → IsLinked next1 prev1 next2 prev2 (1 + e.b) (base + 3 * i + 1)
      → CanLink next2 prev2 (1 + ends + e.first / 256) (base + 3 * i + 2)
  pub all : (next3 prev3 : List ℕ) → IsLinked next prev next1 prev1 (1 + e.a) (base + 3 * i) → IsLinked next1 prev1 next2 prev2 (1 + e.b) (base + 3 * i + 1)
      → IsLinked next2 prev2 next3 prev3 (1 + ends + e.first / 256) (base + 3 * i + 2) → Laid next3 prev3 base (with_three ends base i e lists)

pub three : (ends base : ℕ) (nodes : List (Option Edge)) (free : List ℕ) (spare : ℕ) (next prev next1 prev1 next2 prev2 : List ℕ) (i : ℕ) (e : Edge)
    → (k : AreEdgesKept ends base nodes free spare next prev) → IsEdge ends e → i < length nodes → node_at nodes i ≡ None
    → Three ends base nodes next prev next1 prev1 next2 prev2 k.lists i e
three ends base nodes free spare next prev next1 prev1 next2 prev2 i e k sound within empty =
    let h0 = head_in ends base e 0 k.shape.base_is sound (omega arith) in
    let h1 = head_in ends base e 1 k.shape.base_is sound (omega arith) in
    let h2 = head_in ends base e 2 k.shape.base_is sound (omega arith) in
    let room : base + 3 * i + 2 < length next = omega (arith, k.shape.room, within) in
    let zero_is : base + 3 * i + 0 ≡ base + 3 * i = omega arith in
    let f0 = subst (IsFresh base k.lists) zero_is (fresh_node ends base nodes k.lists i 0 k.ties empty (omega arith)) in
    let l1 = λ (u : IsLinked next prev next1 prev1 (1 + e.a) (base + 3 * i)).
    laid_with next prev next1 prev1 base k.lists (1 + e.a) (base + 3 * i) u k.laid h0 (omega arith) (omega (arith, room)) f0 in
    let f1 : IsFresh base (with_place (1 + e.a) (base + 3 * i) k.lists) (base + 3 * i + 1) =
    fresh_with base (1 + e.a) (base + 3 * i) k.lists (base + 3 * i + 1) (fresh_node ends base nodes k.lists i 1 k.ties empty (omega arith)) (omega arith) in
    let l2 = λ (u : IsLinked next prev next1 prev1 (1 + e.a) (base + 3 * i)) (v : IsLinked next1 prev1 next2 prev2 (1 + e.b) (base + 3 * i + 1)).
    laid_with next1 prev1 next2 prev2 base (with_place (1 + e.a) (base + 3 * i) k.lists) (1 + e.b) (base + 3 * i + 1) v (l1 u) h1 (omega arith) (omega (arith, room, u.lengths.0)) f1 in
    let f2 : IsFresh base (with_place (1 + e.b) (base + 3 * i + 1) (with_place (1 + e.a) (base + 3 * i) k.lists)) (base + 3 * i + 2) =
    fresh_with base (1 + e.b) (base + 3 * i + 1) (with_place (1 + e.a) (base + 3 * i) k.lists) (base + 3 * i + 2)
    (fresh_with base (1 + e.a) (base + 3 * i) k.lists (base + 3 * i + 2) (fresh_node ends base nodes k.lists i 2 k.ties empty (omega arith)) (omega arith)) (omega arith) in
    record {
      within = room;
      one = can_link next prev base k.lists (1 + e.a) (base + 3 * i) k.laid h0 (omega arith) (omega (arith, room)) f0;
      two = λ u. can_link next1 prev1 base (with_place (1 + e.a) (base + 3 * i) k.lists) (1 + e.b) (base + 3 * i + 1) (l1 u) h1 (omega arith) (omega (arith, room, u.lengths.0)) f1;
      three = λ u v. can_link next2 prev2 base (with_place (1 + e.b) (base + 3 * i + 1) (with_place (1 + e.a) (base + 3 * i) k.lists)) (1 + ends + e.first / 256) (base + 3 * i + 2)
          (l2 u v) h2 (omega arith) (omega (arith, room, u.lengths.0, v.lengths.0)) f2;
      all = λ next3 prev3 u v w. laid_with next2 prev2 next3 prev3 base (with_place (1 + e.b) (base + 3 * i + 1) (with_place (1 + e.a) (base + 3 * i) k.lists)) (1 + ends + e.first / 256) (base + 3 * i + 2)
          w (l2 u v) h2 (omega arith) (omega (arith, room, u.lengths.0, v.lengths.0)) f2;
    }
