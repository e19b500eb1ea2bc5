-- What a write of one link leaves of the chains.
use Rattle.std.proofs.Common.{◌≡◌, ◌≢◌, ℕ, ◌<◌, ◌≤◌, ◌⊎◌, List, [], ◌∷◌, length, get_or, refl, sym, ap, ◌∙◌, subst, inl, inr, arith}
use Rattle.std.proofs.lemmas.Bool.{cases_eq, eq-eqb, ne_eqb}
use Rattle.mt_edges.specs.Private.Laid.{AreDistinct, Chain, Has, IsHead, IsLinked, IsUnlinked, Laid, without_place}

-- two places differ where one stands in a list and the other does not
pub differ : (xs : List ℕ) (p q : ℕ) → Has xs p → (Has xs q → ⊥) → p ≢ q
differ xs p q has lacks = λ e. lacks (subst (Has xs) e has)

-- a list without a place that it lacks
pub without-absent : (xs : List ℕ) (p : ℕ) → (Has xs p → ⊥) → without_place p xs ≡ xs
without-absent [] p lacks = refl
without-absent (x ∷ xs) p lacks =
    let other : x ≡ p → ⊥ = λ e. lacks (inl (sym e)) in
    rw (ne_eqb x p other, without-absent xs p (λ h. lacks (inr h))) refl

-- what stands in it
pub Has-without : (xs : List ℕ) (p q : ℕ) → Has (without_place p xs) q → Has xs q × (q ≢ p)
Has-without [] p q has = absurd has
Has-without (x ∷ xs) p q has =
    elim (cases_eq x p) [
      | inl e ↦ let h = rw (eq-eqb x p e) at has in let r = Has-without xs p q h in (inr r.0, r.1)
      | inr n ↦ elim (rw (ne_eqb x p n) at has) [
        | inl e ↦ (inl e, λ k. n (sym e ∙ k))
        | inr h ↦ let r = Has-without xs p q h in (inr r.0, r.1)
      ]
    ]

pub without-Has : (xs : List ℕ) (p q : ℕ) → Has xs q → q ≢ p → Has (without_place p xs) q
without-Has [] p q has other = absurd has
without-Has (x ∷ xs) p q has other =
    elim (cases_eq x p) [
      | inl e ↦ rw (eq-eqb x p e) (elim has [ inl k ↦ absurd (other (k ∙ e)) | inr h ↦ without-Has xs p q h other ])
      | inr n ↦ rw (ne_eqb x p n) (elim has [ inl k ↦ inl k | inr h ↦ inr (without-Has xs p q h other) ])
    ]

pub AreDistinct-without : (xs : List ℕ) (p : ℕ) → AreDistinct xs → AreDistinct (without_place p xs)
AreDistinct-without [] p apart = tt
AreDistinct-without (x ∷ xs) p apart =
    elim (cases_eq x p) [
      | inl e ↦ rw (eq-eqb x p e) (AreDistinct-without xs p apart.1)
      | inr n ↦ rw (ne_eqb x p n) (λ h. apart.0 (Has-without xs p x h).0, AreDistinct-without xs p apart.1)
    ]

-- a chain stays where the links at its places stay
pub chain_kept : (next prev next' prev' : List ℕ) (u : ℕ) (xs : List ℕ)
    → ((y : ℕ) → Has (u ∷ xs) y → get_or next' y 0 ≡ get_or next y 0)
    → ((y : ℕ) → Has xs y → get_or prev' y 0 ≡ get_or prev y 0)
    → Chain next prev u xs → Chain next' prev' u xs
chain_kept next prev next' prev' u [] n p chain = n u (inl refl) ∙ chain
chain_kept next prev next' prev' u (x ∷ xs) n p chain = (
  n u (inl refl) ∙ chain.0,
  p x (inl refl) ∙ chain.1,
  chain_kept next prev next' prev' x xs (λ y h. n y (inr h)) (λ y h. p y (inr h)) chain.2,
)

-- what stands before a place of a chain, and after it
pub before_in : (next prev : List ℕ) (u : ℕ) (xs : List ℕ) (p : ℕ) → Chain next prev u xs → Has xs p → Has (u ∷ xs) (get_or prev p 0)
before_in next prev u [] p chain has = absurd has
before_in next prev u (x ∷ xs) p chain has =
    elim has [
      | inl e ↦ inl (ap (λ (z : ℕ). get_or prev z 0) e ∙ chain.1)
      | inr h ↦ inr (before_in next prev x xs p chain.2 h)
    ]

pub behind_in : (next prev : List ℕ) (u : ℕ) (xs : List ℕ) (p : ℕ) → Chain next prev u xs → Has (u ∷ xs) p
    → (get_or next p 0 ≡ 0) ⊎ Has xs (get_or next p 0)
behind_in next prev u [] p chain has = elim has [ inl e ↦ inl (ap (λ (z : ℕ). get_or next z 0) e ∙ chain) | inr h ↦ absurd h ]
behind_in next prev u (x ∷ xs) p chain has =
    elim has [
      | inl e ↦ inr (inl (ap (λ (z : ℕ). get_or next z 0) e ∙ chain.0))
      | inr h ↦ elim (behind_in next prev x xs p chain.2 h) [ inl z ↦ inl z | inr k ↦ inr (inr k) ]
    ]

-- a place is put after the head
pub chain_linked : (next prev next' prev' : List ℕ) (h p : ℕ) (xs : List ℕ) → IsLinked next prev next' prev' h p → Chain next prev h xs
    → AreDistinct xs → (Has xs h → ⊥) → (Has xs p → ⊥) → Chain next' prev' h (p ∷ xs)
chain_linked next prev next' prev' h p [] w chain apart no_head fresh = (w.first, w.back, w.rest ∙ chain)
chain_linked next prev next' prev' h p (x ∷ xs) w chain apart no_head fresh = (
  w.first,
  w.back,
  (
    w.rest ∙ chain.0,
    subst (λ (z : ℕ). get_or prev' z 0 ≡ p) chain.0 w.rest_back,
    chain_kept next prev next' prev' x xs
        (λ y k. w.next_kept y (differ (x ∷ xs) y h k no_head) (differ (x ∷ xs) y p k fresh))
        (λ y k. w.prev_kept y (differ (x ∷ xs) y p (inr k) fresh) (λ z. apart.0 (subst (Has xs) (z ∙ chain.0) k)))
        chain.2,
  ),
)

-- the first place is taken out
chain_first : (next prev next' prev' : List ℕ) (u x : ℕ) (xs : List ℕ) (p : ℕ) → IsUnlinked next prev next' prev' p → x ≡ p
    → Chain next prev u (x ∷ xs) → AreDistinct (u ∷ x ∷ xs) → Chain next' prev' u (without_place p xs)
chain_first next prev next' prev' u x [] p w e chain apart =
    let pu : get_or prev p 0 ≡ u = subst (λ (z : ℕ). get_or prev z 0 ≡ u) e chain.1 in
    let q : get_or next p 0 ≡ 0 = subst (λ (z : ℕ). get_or next z 0 ≡ 0) e chain.2 in
    subst (λ (z : ℕ). get_or next' z 0 ≡ 0) pu (w.joined ∙ q)
chain_first next prev next' prev' u x (y ∷ ys) p w e chain apart =
    let pu : get_or prev p 0 ≡ u = subst (λ (z : ℕ). get_or prev z 0 ≡ u) e chain.1 in
    let q : get_or next p 0 ≡ y = subst (λ (z : ℕ). get_or next z 0 ≡ y) e chain.2.0 in
    let gone : Has (y ∷ ys) p → ⊥ = λ k. apart.1.0 (subst (Has (y ∷ ys)) (sym e) k) in
    rw (without-absent (y ∷ ys) p gone) (
      subst (λ (z : ℕ). get_or next' z 0 ≡ y) pu (w.joined ∙ q),
      subst (λ (z : ℕ). get_or prev' z 0 ≡ u) q (w.back ∙ pu),
      chain_kept next prev next' prev' y ys
          (λ z k. w.next_kept z (λ t. apart.0 (inr (subst (Has (y ∷ ys)) (t ∙ pu) k))))
          (λ z k. w.prev_kept z (λ t. apart.1.1.0 (subst (Has ys) (t ∙ q) k)))
          chain.2.2,
    )

-- a place is taken out
pub chain_unlinked : (next prev next' prev' : List ℕ) (u : ℕ) (xs : List ℕ) (p : ℕ) → IsUnlinked next prev next' prev' p
    → Chain next prev u xs → Has xs p → AreDistinct (u ∷ xs) → (Has xs 0 → ⊥) → Chain next' prev' u (without_place p xs)
chain_unlinked next prev next' prev' u [] p w chain has apart positive = absurd has
chain_unlinked next prev next' prev' u (x ∷ xs) p w chain has apart positive =
    elim (cases_eq x p) [
      | inl e ↦ rw (eq-eqb x p e) (chain_first next prev next' prev' u x xs p w e chain apart)
      | inr n ↦
          let later : Has xs p = elim has [ inl k ↦ absurd (n (sym k)) | inr k ↦ k ] in
          let u_other : u ≢ get_or prev p 0 = λ k. apart.0 (subst (Has (x ∷ xs)) (sym k) (before_in next prev x xs p chain.2 later)) in
          let x_other : x ≢ get_or next p 0 = λ k. elim (behind_in next prev x xs p chain.2 (inr later)) [
            | inl z ↦ positive (inl (sym (k ∙ z)))
            | inr q ↦ apart.1.0 (subst (Has xs) (sym k) q)
          ] in
          rw (ne_eqb x p n) (
            w.next_kept u u_other ∙ chain.0,
            w.prev_kept x x_other ∙ chain.1,
            chain_unlinked next prev next' prev' x xs p w chain.2 later apart.1 (λ k. positive (inr k)),
          )
    ]

-- the head of a chain stands in no list
pub head_apart : (next prev : List ℕ) (base : ℕ) (lists : ℕ → List ℕ) (h k : ℕ) → Laid next prev base lists → IsHead base h → IsHead base k → Has (lists k) h → ⊥
head_apart next prev base lists h k l i j has = absurd (omega (arith, (l.nodes k h j has).0, i.1))

pub zero_apart : (next prev : List ℕ) (base : ℕ) (lists : ℕ → List ℕ) (k : ℕ) → Laid next prev base lists → IsHead base k → Has (lists k) 0 → ⊥
zero_apart next prev base lists k l i has = absurd (omega (arith, (l.nodes k 0 i has).0, l.some))

-- what the links of another list are told by
other_chain : (next prev next' prev' : List ℕ) (base : ℕ) (lists : ℕ → List ℕ) (k : ℕ) → Laid next prev base lists → IsHead base k
    → ((y : ℕ) → (y ≡ k) ⊎ Has (lists k) y → get_or next' y 0 ≡ get_or next y 0)
    → ((y : ℕ) → Has (lists k) y → get_or prev' y 0 ≡ get_or prev y 0)
    → Chain next' prev' k (lists k)
other_chain next prev next' prev' base lists k l i n p = chain_kept next prev next' prev' k (lists k) n p (l.chain k i)

-- a place that stands in no list is linked
pub laid_linked : (next prev next' prev' : List ℕ) (base : ℕ) (lists lists' : ℕ → List ℕ) (h p : ℕ) → IsLinked next prev next' prev' h p
    → Laid next prev base lists → IsHead base h → base ≤ p → p < length next → ((k : ℕ) → IsHead base k → Has (lists k) p → ⊥)
    → lists' h ≡ p ∷ lists h → ((k : ℕ) → k ≢ h → lists' k ≡ lists k)
    → Laid next' prev' base lists'
laid_linked next prev next' prev' base lists lists' h p w l head node within fresh same other =
    let members = λ (k x : ℕ) (i : IsHead base k) (has : Has (lists' k) x).
    elim (cases_eq k h) as (λ _. Has (lists k) x ⊎ ((k ≡ h) × (x ≡ p))) [
      | inl e ↦ elim (subst (λ (xs : List ℕ). Has xs x) (ap lists' e ∙ same) has) [
        | inl q ↦ inr (e, q)
        | inr r ↦ inl (subst (λ (z : ℕ). Has (lists z) x) (sym e) r)
      ]
      | inr n ↦ inl (subst (λ (xs : List ℕ). Has xs x) (other k n) has)
    ] in
    record {
      some = l.some;
      heads = omega (arith, l.heads, w.lengths.0);
      both = omega (arith, l.both, w.lengths.0, w.lengths.1);
      chain = λ k i. elim (cases_eq k h) [
        | inl e ↦ subst (λ (z : ℕ). Chain next' prev' z (lists' z)) (sym e) (subst (λ (xs : List ℕ). Chain next' prev' h xs) (sym same)
            (chain_linked next prev next' prev' h p (lists h) w (l.chain h head) (l.once h head) (head_apart next prev base lists h h l head head) (fresh h head)))
        | inr n ↦ subst (λ (xs : List ℕ). Chain next' prev' k xs) (sym (other k n))
            (other_chain next prev next' prev' base lists k l i
            (λ y at. elim at [
              | inl e ↦ w.next_kept y (λ t. n (sym e ∙ t)) (λ t. absurd (omega (arith, i.1, node, e, t)))
              | inr r ↦ w.next_kept y (λ t. head_apart next prev base lists h k l head i (subst (Has (lists k)) t r)) (λ t. fresh k i (subst (Has (lists k)) t r))
            ])
            (λ y r. w.prev_kept y (λ t. fresh k i (subst (Has (lists k)) t r))
            (λ t. elim (behind_in next prev h (lists h) h (l.chain h head) (inl refl)) [
              | inl z ↦ zero_apart next prev base lists k l i (subst (Has (lists k)) (t ∙ z) r)
              | inr q ↦ n (sym (l.apart h k (get_or next h 0) head i q (subst (Has (lists k)) t r)))
            ])))
      ];
      nodes = λ k x i has. elim (members k x i has) [
        | inl r ↦ (let n = l.nodes k x i r in (n.0, omega (arith, n.1, w.lengths.0)))
        | inr e ↦ (omega (arith, node, e.1), omega (arith, within, e.1, w.lengths.0))
      ];
      once = λ k i. elim (cases_eq k h) [
        | inl e ↦ subst (λ (z : ℕ). AreDistinct (lists' z)) (sym e) (subst AreDistinct (sym same) (fresh h head, l.once h head))
        | inr n ↦ subst AreDistinct (sym (other k n)) (l.once k i)
      ];
      apart = λ j k x i i' has has'. elim (members j x i has) [
        | inl r ↦ elim (members k x i' has') [
          | inl r' ↦ l.apart j k x i i' r r'
          | inr e' ↦ absurd (fresh j i (subst (Has (lists j)) e'.1 r))
        ]
        | inr e ↦ elim (members k x i' has') [
          | inl r' ↦ absurd (fresh k i' (subst (Has (lists k)) e.1 r'))
          | inr e' ↦ e.0 ∙ sym e'.0
        ]
      ];
    }

-- a place is taken out of its list
pub laid_unlinked : (next prev next' prev' : List ℕ) (base : ℕ) (lists : ℕ → List ℕ) (h p : ℕ) → IsUnlinked next prev next' prev' p
    → Laid next prev base lists → IsHead base h → Has (lists h) p
    → Laid next' prev' base (λ k. without_place p (lists k))
laid_unlinked next prev next' prev' base lists h p w l head has =
    let whole : AreDistinct (h ∷ lists h) = (head_apart next prev base lists h h l head head, l.once h head) in
    record {
      some = l.some;
      heads = omega (arith, l.heads, w.lengths.0);
      both = omega (arith, l.both, w.lengths.0, w.lengths.1);
      chain = λ k i. elim (cases_eq k h) [
        | inl e ↦ subst (λ (z : ℕ). Chain next' prev' z (without_place p (lists z))) (sym e)
            (chain_unlinked next prev next' prev' h (lists h) p w (l.chain h head) has whole (zero_apart next prev base lists h l head))
        | inr n ↦ subst (λ (xs : List ℕ). Chain next' prev' k xs) (sym (without-absent (lists k) p (λ r. n (sym (l.apart h k p head i has r)))))
            (other_chain next prev next' prev' base lists k l i
            (λ y at. w.next_kept y (λ t. elim (before_in next prev h (lists h) p (l.chain h head) has) [
              | inl b ↦ elim at [
                | inl e ↦ n (sym e ∙ t ∙ b)
                | inr r ↦ head_apart next prev base lists h k l head i (subst (Has (lists k)) (t ∙ b) r)
              ]
              | inr q ↦ elim at [
                | inl e ↦ head_apart next prev base lists k h l i head (subst (Has (lists h)) (sym t ∙ e) q)
                | inr r ↦ n (sym (l.apart h k (get_or prev p 0) head i q (subst (Has (lists k)) t r)))
              ]
            ]))
            (λ y r. w.prev_kept y (λ t. elim (behind_in next prev h (lists h) p (l.chain h head) (inr has)) [
              | inl z ↦ zero_apart next prev base lists k l i (subst (Has (lists k)) (t ∙ z) r)
              | inr q ↦ n (sym (l.apart h k (get_or next p 0) head i q (subst (Has (lists k)) t r)))
            ])))
      ];
      nodes = λ k x i r. (let n = l.nodes k x i (Has-without (lists k) p x r).0 in (n.0, omega (arith, n.1, w.lengths.0)));
      once = λ k i. AreDistinct-without (lists k) p (l.once k i);
      apart = λ j k x i i' r r'. l.apart j k x i i' (Has-without (lists j) p x r).0 (Has-without (lists k) p x r').0;
    }

-- a list is let go as a whole: its head leads to the end, and its places keep their links
pub laid_cleared : (next prev next' : List ℕ) (base : ℕ) (linked lists : ℕ → List ℕ) (h : ℕ) → Laid next prev base linked → IsHead base h
    → length next' ≡ length next → get_or next' h 0 ≡ 0 → ((y : ℕ) → y ≢ h → get_or next' y 0 ≡ get_or next y 0)
    → lists h ≡ [] → ((k : ℕ) → IsHead base k → k ≢ h → linked k ≡ lists k)
    → Laid next' prev base lists
laid_cleared next prev next' base linked lists h l head same first kept none others =
    let members = λ (k x : ℕ) (i : IsHead base k) (has : Has (lists k) x).
    elim (cases_eq k h) as (λ _. Has (linked k) x × (k ≢ h)) [
      | inl e ↦ absurd (subst (λ (xs : List ℕ). Has xs x) (ap lists e ∙ none) has)
      | inr n ↦ (subst (λ (xs : List ℕ). Has xs x) (sym (others k i n)) has, n)
    ] in
    record {
      some = l.some;
      heads = omega (arith, l.heads, same);
      both = omega (arith, l.both, same);
      chain = λ k i. elim (cases_eq k h) [
        | inl e ↦ subst (λ (z : ℕ). Chain next' prev z (lists z)) (sym e) (subst (λ (xs : List ℕ). Chain next' prev h xs) (sym none) first)
        | inr n ↦ subst (λ (xs : List ℕ). Chain next' prev k xs) (others k i n)
            (other_chain next prev next' prev base linked k l i
            (λ y at. kept y (λ t. elim at [
              | inl e ↦ n (sym e ∙ t)
              | inr r ↦ head_apart next prev base linked h k l head i (subst (Has (linked k)) t r)
            ]))
            (λ y r. refl))
      ];
      nodes = λ k x i has. (let n = l.nodes k x i (members k x i has).0 in (n.0, omega (arith, n.1, same)));
      once = λ k i. elim (cases_eq k h) [
        | inl e ↦ subst (λ (z : ℕ). AreDistinct (lists z)) (sym e) (subst AreDistinct (sym none) tt)
        | inr n ↦ subst AreDistinct (others k i n) (l.once k i)
      ];
      apart = λ j k x i i' has has'. l.apart j k x i i' (members j x i has).0 (members k x i' has').0;
    }
