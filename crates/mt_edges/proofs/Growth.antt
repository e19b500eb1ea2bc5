-- More places, and more nodes.
use Rattle.std.proofs.Common.{◌≡◌, ◌≢◌, ℕ, zero, suc, ◌+◌, ◌-◌, ◌*◌, ◌<◌, ◌≤◌, List, [], ◌∷◌, ◌++◌, Option, None, Some, length, get_or, set, refl, sym, ap, ◌∙◌, subst, inl, inr, arith, replicate, length-append, length-set}
use Rattle.std.proofs.lemmas.Bool.{cases_eq, cases_lt}
use Rattle.std.proofs.lemmas.List.{get_or-replicate, get_or_append_left, get_or-append_right, get_or_past, get_or-set_other, get_or-set_same, length-replicate}
use Rattle.mt_edges.specs.declared.edge.Edge.{Edge}
use Rattle.mt_edges.specs.Private.Laid.{IsLonger, Laid}
use Rattle.mt_edges.specs.Private.Kept.{AreEdgesKept, IsRoomier, Spares, node_at, standing_pairs}
use Rattle.mt_edges.proofs.Chains.{chain_kept}

pub laid_longer : (next prev next' prev' : List ℕ) (base : ℕ) (lists : ℕ → List ℕ) → IsLonger next prev next' prev' → Laid next prev base lists → Laid next' prev' base lists
laid_longer next prev next' prev' base lists w l = record {
  some = l.some;
  heads = omega (arith, l.heads, w.next_length);
  both = w.both l.both;
  chain = λ h i. chain_kept next prev next' prev' h (lists h)
      (λ y at. w.next_kept y (elim at [ inl e ↦ omega (arith, e, i.1, l.heads) | inr r ↦ (l.nodes h y i r).1 ]))
      (λ y r. w.prev_kept y (omega (arith, (l.nodes h y i r).1, l.both)))
      (l.chain h i);
  nodes = λ h p i has. (let n = l.nodes h p i has in (n.0, omega (arith, n.1, w.next_length)));
  once = l.once;
  apart = l.apart;
}

-- no lists and no nodes yet
pub made : (ends base : ℕ) (next prev : List ℕ) → base ≡ ends + 39120 → next ≡ replicate base 0 → prev ≡ replicate base 0 → AreEdgesKept ends base [] [] 0 next prev
made ends base next prev is n p =
    let long : length next ≡ base = ap (λ (xs : List ℕ). length xs) n ∙ length-replicate base 0 in
    let back : length prev ≡ base = ap (λ (xs : List ℕ). length xs) p ∙ length-replicate base 0 in
    record {
      shape = record {
        base_is = is;
        room = omega (arith, long);
        sound = record { each = λ i e here. absurd cc; once = λ i j e f here there same. absurd cc };
        spares = record { count = refl; room = omega arith; empty = λ k l. absurd (omega arith); once = λ j k l m. absurd (omega arith) };
      };
      lists = λ k. [];
      laid = record {
        some = omega arith;
        heads = omega (arith, long);
        both = omega (arith, long, back);
        chain = λ h i. ap (λ (xs : List ℕ). get_or xs h 0) n ∙ get_or-replicate base h 0 0 i.1;
        nodes = λ h q i has. absurd has;
        once = λ h i. tt;
        apart = λ h k q i j has. absurd has;
      };
      ties = record { listed = λ h q i has. absurd has; owned = λ i e s here. absurd cc };
    }

past_one : (i : ℕ) → node_at (None ∷ []) i ≡ None
past_one zero = refl
past_one (suc i) = refl

-- a longer stack holds the same free nodes
spares_longer : (nodes : List (Option Edge)) (free free' : List ℕ) (spare : ℕ) → Spares nodes free spare → IsRoomier free free' → Spares nodes free' spare
spares_longer nodes free free' spare s w =
    let kept = λ (k : ℕ) (l : k < spare). w.kept k (omega (arith, l, s.count, s.room)) in
    record {
      count = s.count;
      room = omega (arith, s.room, w.longer);
      empty = λ k l. subst (λ (z : ℕ). (z < length nodes) × (node_at nodes z ≡ None)) (sym (kept k l)) (s.empty k l);
      once = λ j k l m t. s.once j k l m (sym (kept j (omega arith)) ∙ t ∙ kept k m);
    }

-- a node more changes none
pub standing_more : (nodes : List (Option Edge)) → standing_pairs (nodes ++ None ∷ []) ≡ standing_pairs nodes
standing_more [] = refl
standing_more (None ∷ nodes) = standing_more nodes
standing_more (Some e ∷ nodes) = ap (λ (z : List Edge). e ∷ z) (standing_more nodes)

node_more : (nodes : List (Option Edge)) (i : ℕ) → node_at (nodes ++ None ∷ []) i ≡ node_at nodes i
node_more nodes i =
    elim (cases_lt i (length nodes)) [
      | inl l ↦ get_or_append_left nodes (None ∷ []) None i l
      | inr g ↦ get_or-append_right nodes (None ∷ []) (length nodes) i None refl g ∙ past_one (i - length nodes) ∙ sym (get_or_past nodes i None g)
    ]

-- more places change nothing
pub kept_longer : (ends base : ℕ) (nodes : List (Option Edge)) (free free' : List ℕ) (spare : ℕ) (next prev next' prev' : List ℕ)
    → AreEdgesKept ends base nodes free spare next prev → IsLonger next prev next' prev' → IsRoomier free free' → AreEdgesKept ends base nodes free' spare next' prev'
kept_longer ends base nodes free free' spare next prev next' prev' k w roomier = record {
  shape = record {
    base_is = k.shape.base_is;
    room = omega (arith, k.shape.room, w.next_length);
    sound = k.shape.sound;
    spares = spares_longer nodes free free' spare k.shape.spares roomier;
  };
  lists = k.lists;
  laid = laid_longer next prev next' prev' base k.lists w k.laid;
  ties = k.ties;
}

-- a free node more
pub kept_more : (ends base : ℕ) (nodes : List (Option Edge)) (free : List ℕ) (spare : ℕ) (next prev : List ℕ)
    → AreEdgesKept ends base nodes free spare next prev → length nodes < length free → base + 3 * length nodes + 3 ≤ length next
    → AreEdgesKept ends base (nodes ++ None ∷ []) (set free spare (length nodes)) (spare + 1) next prev
kept_more ends base nodes free spare next prev k more longer =
    let s = k.shape.spares in
    let same = standing_more nodes in
    let one = length-append nodes (None ∷ []) in
    let few : spare < length free = omega (arith, s.count, more) in
    record {
      shape = record {
        base_is = k.shape.base_is;
        room = omega (arith, longer, one);
        sound = record {
          each = λ i e here. k.shape.sound.each i e (sym (node_more nodes i) ∙ here);
          once = λ i j e f here there same. k.shape.sound.once i j e f (sym (node_more nodes i) ∙ here) (sym (node_more nodes j) ∙ there) same;
        };
        spares = record {
          count = omega (arith, s.count, one, ap (λ (z : List Edge). length z) same);
          room = omega (arith, more, one, length-set free spare (length nodes));
          empty = λ i l. elim (cases_eq i spare) [
            | inl q ↦ subst (λ (z : ℕ). (z < length (nodes ++ None ∷ [])) × (node_at (nodes ++ None ∷ []) z ≡ None))
                (sym (ap (λ (z : ℕ). get_or (set free spare (length nodes)) z 0) q ∙ get_or-set_same free spare (length nodes) 0 few))
                (omega (arith, one), node_more nodes (length nodes) ∙ get_or_past nodes (length nodes) None (omega arith))
            | inr n ↦ (let old = s.empty i (omega (arith, l, n)) in
                subst (λ (z : ℕ). (z < length (nodes ++ None ∷ [])) × (node_at (nodes ++ None ∷ []) z ≡ None))
                (sym (get_or-set_other free spare i (length nodes) 0 n))
                (omega (arith, old.0, one), node_more nodes (get_or free i 0) ∙ old.1))
          ];
          once = λ j i l m t.
              let nj : j ≢ spare = omega arith in
              elim (cases_eq i spare) [
                | inl q ↦ (let old = s.empty j (omega (arith, l, q)) in
                    let same : get_or free j 0 ≡ length nodes = sym (get_or-set_other free spare j (length nodes) 0 nj) ∙ t
                    ∙ ap (λ (z : ℕ). get_or (set free spare (length nodes)) z 0) q ∙ get_or-set_same free spare (length nodes) 0 few in
                    absurd (omega (arith, old.0, same)))
                | inr n ↦ s.once j i l (omega (arith, m, n)) (sym (get_or-set_other free spare j (length nodes) 0 nj) ∙ t ∙ get_or-set_other free spare i (length nodes) 0 n)
              ];
        };
      };
      lists = k.lists;
      laid = k.laid;
      ties = record {
        listed = λ h p i has. (let o = k.ties.listed h p i has in
            record { node = o.node; edge = o.edge; side = o.side; here = node_more nodes o.node ∙ o.here; few = o.few; head = o.head; place = o.place });
        owned = λ i e s here few. k.ties.owned i e s (sym (node_more nodes i) ∙ here) few;
      };
    }
