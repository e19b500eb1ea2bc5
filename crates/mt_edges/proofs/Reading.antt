-- Walks that read a list.
use Rattle.std.proofs.Common.{◌≡◌, ◌≢◌, ℕ, zero, suc, ◌+◌, ◌-◌, ◌*◌, ◌/◌, ◌<◌, ◌≤◌, ◌⊎◌, List, [], ◌∷◌, ◌++◌, Option, None, Some, true, false, eqb, Contains, All, length, get_or, refl, sym, ap, ◌∙◌, subst, inl, inr, arith, append_assoc, length-append, leb, ltb, ◌&&◌}
use Rattle.std.proofs.lemmas.Bool.{eqb-true, or_cases, or_left, or_right, and_parts, cases_Bool, cases_eq, cases_lt, eq-eqb, ltb-true, leb-true, lt-ltb, le-leb, ne_eqb}
use Rattle.std.proofs.lemmas.List.{append-nil, get_or_append_left, get_or-append_right}
use Rattle.std.proofs.lemmas.List.Elements.{All-contains_itself, All-weaker, Contains-append_cases, Contains-append_left, Contains-append_right, Contains-get_or}
use Rattle.mt_edges.specs.declared.edge.Edge.{Edge}
use Rattle.mt_edges.specs.Private.Laid.{AreDistinct, Chain, Has, IsHead, Laid, without_place}
use Rattle.mt_edges.specs.Pairs.{AreDistinctPairs, HaveSameEnds, IsEach, IsEdge, touches}
use Rattle.mt_edges.specs.Private.Kept.{AreEdgesGathered, AreEdgesKept, Owned, ReadsWalk, Sound, StandsIn, Ties, first_place, gathered, head_of, in_range_of, left_at, node_at, standing_pairs}
use Rattle.mt_edges.proofs.Chains.{AreDistinct-without, Has-without, without-absent, zero_apart}
use Rattle.mt_edges.proofs.Nodes.{found, stands}
use Rattle.mt_edges.proofs.Walks.{begins, chain_at, first_some, side_cases}

-- a list of places below n that stand once has at most n of them
without_length : (xs : List ℕ) (p : ℕ) → AreDistinct xs → length xs ≤ length (without_place p xs) + 1
without_length [] p once = omega arith
without_length (x ∷ xs) p once =
    elim (cases_eq x p) [
      | inl e ↦ rw (eq-eqb x p e, without-absent xs p (λ h. once.0 (subst (Has xs) (sym e) h))) (omega arith)
      | inr n ↦ rw (ne_eqb x p n) (omega (arith, without_length xs p once.1))
    ]

pub few_below : (n : ℕ) (xs : List ℕ) → AreDistinct xs → ((p : ℕ) → Has xs p → p < n) → length xs ≤ n
few_below zero [] once below = omega arith
few_below zero (x ∷ xs) once below = absurd (omega (arith, below x (inl refl)))
few_below (suc n) xs once below =
    let less = few_below n (without_place n xs) (AreDistinct-without xs n once)
    (λ p h. (let old = Has-without xs n p h in omega (arith, below p old.0, old.1))) in
    omega (arith, less, without_length xs n once)

-- the measure of a walk
pub left_is : (next prev : List ℕ) (fuel u : ℕ) (xs : List ℕ) → Chain next prev u xs → (Has xs 0 → ⊥) → length xs < fuel → left_at next fuel (first_place xs) ≡ length xs
left_is next prev zero u xs chain some fits = absurd (omega arith)
left_is next prev (suc fuel) u [] chain some fits = refl
left_is next prev (suc fuel) u (x ∷ xs) chain some fits =
    let positive : x ≡ 0 → ⊥ = λ e. some (inl (sym e)) in
    rw (ne_eqb x 0 positive) (ap (λ (z : ℕ). suc z)
    (ap (left_at next fuel) (begins next prev x xs chain.2) ∙ left_is next prev fuel x xs chain.2 (λ h. some (inr h)) (omega arith)))

-- two lists whose pairs differ, also from one to the other
pub apart_joined : (xs ys : List Edge) → AreDistinctPairs xs → AreDistinctPairs ys → ((e f : Edge) → Contains xs e → Contains ys f → ¬ HaveSameEnds e f) → AreDistinctPairs (xs ++ ys)
apart_joined xs ys one two across = λ i j d less within.
    elim (cases_lt j (length xs)) [
      | inl l ↦ (let a = get_or_append_left xs ys d i (omega arith) in let b = get_or_append_left xs ys d j l in
          λ same. one i j d less l (rw (a, b) at same))
      | inr g ↦ (let b = get_or-append_right xs ys (length xs) j d refl g in
          let in_ys : j - length xs < length ys = omega (arith, length-append xs ys) in
          elim (cases_lt i (length xs)) [
            | inl l ↦ (let a = get_or_append_left xs ys d i l in
                λ same. across (get_or xs i d) (get_or ys (j - length xs) d) (Contains-get_or xs i d l) (Contains-get_or ys (j - length xs) d in_ys) (rw (a, b) at same))
            | inr k ↦ (let a = get_or-append_right xs ys (length xs) i d refl k in
                λ same. two (i - length xs) (j - length xs) d (omega arith) in_ys (rw (a, b) at same))
          ])
    ]

-- what the range lets through
in_range_has : (from to : ℕ) (o : Option Edge) (e : Edge) → Contains (in_range_of from to o) e → (o ≡ Some e) × (from ≤ e.first) × (e.first < to)
in_range_has from to None e has = absurd (omega (arith, has.1))
in_range_has from to (Some f) e has =
    elim (cases_Bool (leb from f.first && ltb f.first to)) [
      | inl pass ↦ (let h : Contains (f ∷ []) e = rw pass at has in
          let first : h.0 ≡ 0 = omega (arith, h.1) in
          let same : f ≡ e = subst (λ (z : ℕ). get_or (f ∷ []) z e ≡ e) first h.2 in
          let parts = and_parts (leb from f.first) (ltb f.first to) pass in
          (ap (λ (z : Edge). Some z) same, subst (λ (z : Edge). from ≤ z.first) same (leb-true from f.first parts.0), subst (λ (z : Edge). z.first < to) same (ltb-true f.first to parts.1)))
      | inr out ↦ (let h : Contains [] e = rw out at has in absurd (omega (arith, h.1)))
    ]

has_in_range : (from to : ℕ) (e : Edge) → from ≤ e.first → e.first < to → in_range_of from to (Some e) ≡ e ∷ []
has_in_range from to e above below = rw (le-leb from e.first above, lt-ltb e.first to below) refl

-- the pairs at some places
gathered_from : (nodes : List (Option Edge)) (base from to : ℕ) (ps : List ℕ) (e : Edge) → Contains (gathered nodes base from to ps) e
    → (p : ℕ) × Has ps p × (node_at nodes ((p - base) / 3) ≡ Some e) × (from ≤ e.first) × (e.first < to)
gathered_from nodes base from to [] e has = absurd (omega (arith, has.1))
gathered_from nodes base from to (p ∷ ps) e has =
    elim (Contains-append_cases (in_range_of from to (node_at nodes ((p - base) / 3))) (gathered nodes base from to ps) e has) [
      | inl h ↦ (let k = in_range_has from to (node_at nodes ((p - base) / 3)) e h in (p, inl refl, k.0, k.1, k.2))
      | inr h ↦ (let k = gathered_from nodes base from to ps e h in (k.0, inr k.1, k.2, k.3, k.4))
    ]

gathered_has : (nodes : List (Option Edge)) (base from to : ℕ) (ps : List ℕ) (p : ℕ) (e : Edge) → Has ps p → node_at nodes ((p - base) / 3) ≡ Some e → from ≤ e.first → e.first < to
    → Contains (gathered nodes base from to ps) e
gathered_has nodes base from to [] p e has here above below = absurd has
gathered_has nodes base from to (q ∷ ps) p e has here above below =
    elim has [
      | inl k ↦ (let there : node_at nodes ((q - base) / 3) ≡ Some e = subst (λ (z : ℕ). node_at nodes ((z - base) / 3) ≡ Some e) k here in
          let one : in_range_of from to (node_at nodes ((q - base) / 3)) ≡ e ∷ [] = ap (in_range_of from to) there ∙ has_in_range from to e above below in
          Contains-append_left (in_range_of from to (node_at nodes ((q - base) / 3))) (gathered nodes base from to ps) e
          (subst (λ (z : List Edge). Contains z e) (sym one) (let first : 0 < length (e ∷ []) = omega arith in (0, first, refl))))
      | inr h ↦ Contains-append_right (in_range_of from to (node_at nodes ((q - base) / 3))) (gathered nodes base from to ps) e (gathered_has nodes base from to ps p e h here above below)
    ]

-- one place more
pub gathered_more : (nodes : List (Option Edge)) (base from to : ℕ) (ps : List ℕ) (p : ℕ)
    → gathered nodes base from to (ps ++ p ∷ []) ≡ gathered nodes base from to ps ++ in_range_of from to (node_at nodes ((p - base) / 3))
gathered_more nodes base from to [] p = append-nil (in_range_of from to (node_at nodes ((p - base) / 3)))
gathered_more nodes base from to (q ∷ ps) p =
    ap (λ (z : List Edge). in_range_of from to (node_at nodes ((q - base) / 3)) ++ z) (gathered_more nodes base from to ps p)
    ∙ sym (append_assoc (in_range_of from to (node_at nodes ((q - base) / 3))) (gathered nodes base from to ps) (in_range_of from to (node_at nodes ((p - base) / 3))))

-- the heads of a pair differ
heads_differ : (ends : ℕ) (e : Edge) (s t : ℕ) → IsEdge ends e → s < 3 → t < 3 → head_of ends e s ≡ head_of ends e t → s ≡ t
heads_differ ends e zero zero sound few few' same = refl
heads_differ ends e zero (suc zero) sound few few' same = absurd (omega (arith, sound.order))
heads_differ ends e zero (suc (suc t)) sound few few' same = absurd (omega (arith, sound.order, sound.ends_in))
heads_differ ends e (suc zero) zero sound few few' same = absurd (omega (arith, sound.order))
heads_differ ends e (suc zero) (suc zero) sound few few' same = refl
heads_differ ends e (suc zero) (suc (suc t)) sound few few' same = absurd (omega (arith, sound.ends_in))
heads_differ ends e (suc (suc s)) zero sound few few' same = absurd (omega (arith, sound.order, sound.ends_in))
heads_differ ends e (suc (suc s)) (suc zero) sound few few' same = absurd (omega (arith, sound.ends_in))
heads_differ ends e (suc (suc s)) (suc (suc t)) sound few few' same = omega arith

-- the pair at an owned place is that of its owner
owner_at : (ends base : ℕ) (nodes : List (Option Edge)) (h p : ℕ) (e : Edge) → (o : Owned ends base nodes h p) → node_at nodes ((p - base) / 3) ≡ Some e
    → (o.node ≡ (p - base) / 3) × (o.edge ≡ e)
owner_at ends base nodes h p e o here =
    let n : o.node ≡ (p - base) / 3 = omega (arith, o.place, o.few) in
    let there : node_at nodes ((p - base) / 3) ≡ Some o.edge = subst (λ (z : ℕ). node_at nodes z ≡ Some o.edge) n o.here in
    (n, cc)

apart_one : (from to : ℕ) (o : Option Edge) → AreDistinctPairs (in_range_of from to o)
apart_one from to None = λ i j d less within. absurd (omega (arith, within))
apart_one from to (Some e) =
    elim (cases_Bool (leb from e.first && ltb e.first to)) [
      | inl pass ↦ rw pass (λ i j d less within. absurd (omega (arith, less, within)))
      | inr out ↦ rw out (λ i j d less within. absurd (omega (arith, within)))
    ]

gathered_apart : (ends base : ℕ) (nodes : List (Option Edge)) (h from to : ℕ) (ps : List ℕ) → Sound ends nodes → AreDistinct ps
    → ((p : ℕ) → Has ps p → Owned ends base nodes h p) → AreDistinctPairs (gathered nodes base from to ps)
gathered_apart ends base nodes h from to [] sound once owned = λ i j d less within. absurd (omega (arith, within))
gathered_apart ends base nodes h from to (p ∷ ps) sound once owned =
    apart_joined (in_range_of from to (node_at nodes ((p - base) / 3))) (gathered nodes base from to ps)
    (apart_one from to (node_at nodes ((p - base) / 3)))
    (gathered_apart ends base nodes h from to ps sound once.1 (λ q k. owned q (inr k)))
    (λ e f in_e in_f same.
    let a = in_range_has from to (node_at nodes ((p - base) / 3)) e in_e in
    let b = gathered_from nodes base from to ps f in_f in
    let o = owned p (inl refl) in
    let q = owned b.0 (inr b.1) in
    let oe = owner_at ends base nodes h p e o a.0 in
    let qf = owner_at ends base nodes h b.0 f q b.2 in
    let nodes_same : (p - base) / 3 ≡ (b.0 - base) / 3 = sound.once ((p - base) / 3) ((b.0 - base) / 3) e f a.0 b.2 same in
    let here : node_at nodes ((p - base) / 3) ≡ Some f = subst (λ (z : ℕ). node_at nodes z ≡ Some f) (sym nodes_same) b.2 in
    let one : Some e ≡ Some f = sym a.0 ∙ here in
    let pair : e ≡ f = cc in
    let head_e : h ≡ head_of ends e o.side = subst (λ (z : Edge). h ≡ head_of ends z o.side) oe.1 o.head in
    let head_f : h ≡ head_of ends e q.side = subst (λ (z : Edge). h ≡ head_of ends z q.side) (qf.1 ∙ sym pair) q.head in
    let sides : o.side ≡ q.side = heads_differ ends e o.side q.side (sound.each ((p - base) / 3) e a.0) o.few q.few (sym head_e ∙ head_f) in
    let places : p ≡ b.0 = omega (arith, o.place, q.place, oe.0, qf.0, nodes_same, sides) in
    once.0 (subst (Has ps) (sym places) b.1))

-- a whole list, gathered
pub gathered_each : (ends base : ℕ) (nodes : List (Option Edge)) (lists : ℕ → List ℕ) (h from to : ℕ) → Sound ends nodes → Ties ends base nodes lists → IsHead base h → AreDistinct (lists h)
    → IsEach (λ e. StandsIn ends h e × (from ≤ e.first) × (e.first < to)) (standing_pairs nodes) (gathered nodes base from to (lists h))
gathered_each ends base nodes lists h from to sound ties head once = record {
  exact = λ e. (
    λ has.
        (let g = gathered_from nodes base from to (lists h) e has in
        let o = ties.listed h g.0 head g.1 in
        let oe = owner_at ends base nodes h g.0 e o g.2 in
        (stands nodes ((g.0 - base) / 3) e g.2, ((o.side, o.few, subst (λ (z : Edge). h ≡ head_of ends z o.side) oe.1 o.head), g.3, g.4))),
    λ has.
        (let f = found nodes e has.0 in
        let s = has.1.0 in
        let in_list : Has (lists h) (base + 3 * f.0 + s.0) = subst (λ (z : ℕ). Has (lists z) (base + 3 * f.0 + s.0)) (sym s.2) (ties.owned f.0 e s.0 f.1 s.1) in
        let n : f.0 ≡ (base + 3 * f.0 + s.0 - base) / 3 = omega (arith, s.1) in
        gathered_has nodes base from to (lists h) (base + 3 * f.0 + s.0) e in_list (subst (λ (z : ℕ). node_at nodes z ≡ Some e) n f.1) has.1.1 has.1.2),
  );
  apart = gathered_apart ends base nodes h from to (lists h) sound once (λ p has. ties.listed h p head has);
}

-- the walk begins
pub reads_begin : (ends base : ℕ) (nodes : List (Option Edge)) (free : List ℕ) (spare : ℕ) (next prev : List ℕ) (head : ℕ)
    → AreEdgesKept ends base nodes free spare next prev → IsHead base head → (place : ℕ) → place ≡ get_or next head 0 → (r : ReadsWalk ends base nodes free spare next prev head place) × (r.done ≡ [])
reads_begin ends base nodes free spare next prev head k i place is =
    (record { kept = k; head_is = i; done = []; todo = k.lists head; here = refl; reached = is ∙ begins next prev head (k.lists head) (k.laid.chain head i) }, refl)

-- the places of a list end to end
chain_behind : (next prev : List ℕ) (u : ℕ) (done todo : List ℕ) → Chain next prev u (done ++ todo) → (w : ℕ) × Chain next prev w todo
chain_behind next prev u [] todo chain = (u, chain)
chain_behind next prev u (d ∷ done) todo chain = chain_behind next prev d done todo chain.2

Has-front : (xs ys : List ℕ) (p : ℕ) → Has ys p → Has (xs ++ ys) p
Has-front [] ys p has = has
Has-front (x ∷ xs) ys p has = inr (Has-front xs ys p has)

-- what is reached
pub record ReadTurn (ends base : ℕ) (nodes : List (Option Edge)) (free : List ℕ) (spare : ℕ) (next prev : List ℕ) (head place : ℕ) (done : List ℕ) : Type 0 where
  pub above : base ≤ place
  pub edge : Edge
  pub here : node_at nodes ((place - base) / 3) ≡ Some edge
  pub owned : Owned ends base nodes head place
  pub on : (place' : ℕ) → place' ≡ get_or next place 0 → (r : ReadsWalk ends base nodes free spare next prev head place') × (r.done ≡ done ++ place ∷ [])
  pub smaller : left_at next (suc (length next)) (get_or next place 0) < left_at next (suc (length next)) place

left_of : (next prev : List ℕ) (base : ℕ) (lists : ℕ → List ℕ) (head : ℕ) (done todo : List ℕ) → Laid next prev base lists → IsHead base head → lists head ≡ done ++ todo
    → left_at next (suc (length next)) (first_place todo) ≡ length todo
left_of next prev base lists head done todo l i here =
    let whole = subst (λ (xs : List ℕ). Chain next prev head xs) here (l.chain head i) in
    let at = chain_behind next prev head done todo whole in
    let none : Has todo 0 → ⊥ = λ h. zero_apart next prev base lists head l i (subst (λ (xs : List ℕ). Has xs 0) (sym here) (Has-front done todo 0 h)) in
    let few = few_below (length next) (lists head) (l.once head i) (λ p h. (l.nodes head p i h).1) in
    left_is next prev (suc (length next)) at.0 todo at.1 none (omega (arith, few, ap (λ (xs : List ℕ). length xs) here, length-append done todo))

pub read_turn : (ends base : ℕ) (nodes : List (Option Edge)) (free : List ℕ) (spare : ℕ) (next prev : List ℕ) (head place : ℕ)
    → (r : ReadsWalk ends base nodes free spare next prev head place) → place ≢ 0 → ReadTurn ends base nodes free spare next prev head place r.done
read_turn ends base nodes free spare next prev head place r some =
    let f = first_some r.todo (λ z. some (r.reached ∙ z)) in
    let list : r.todo ≡ place ∷ f.0 = f.1 ∙ ap (λ (z : ℕ). z ∷ f.0) (sym r.reached) in
    let whole : r.kept.lists head ≡ r.done ++ place ∷ f.0 = r.here ∙ ap (λ (xs : List ℕ). r.done ++ xs) list in
    let has : Has (r.kept.lists head) place = subst (λ (xs : List ℕ). Has xs place) (sym whole) (Has-front r.done (place ∷ f.0) place (inl refl)) in
    let o = r.kept.ties.listed head place r.head_is has in
    let n : o.node ≡ (place - base) / 3 = omega (arith, o.place, o.few) in
    let longer : r.kept.lists head ≡ (r.done ++ place ∷ []) ++ f.0 = whole ∙ sym (append_assoc r.done (place ∷ []) f.0) in
    let next_is : get_or next place 0 ≡ first_place f.0 = chain_at next prev head r.done place f.0 (subst (λ (xs : List ℕ). Chain next prev head xs) whole (r.kept.laid.chain head r.head_is)) in
    let before = left_of next prev base r.kept.lists head r.done (place ∷ f.0) r.kept.laid r.head_is whole in
    let after = left_of next prev base r.kept.lists head (r.done ++ place ∷ []) f.0 r.kept.laid r.head_is longer in
    let less : length f.0 < length (place ∷ f.0) = omega arith in
    record {
      above = omega (arith, o.place);
      edge = o.edge;
      here = subst (λ (z : ℕ). node_at nodes z ≡ Some o.edge) n o.here;
      owned = o;
      on = λ place' is. (record { kept = r.kept; head_is = r.head_is; done = r.done ++ place ∷ []; todo = f.0; here = longer; reached = is ∙ next_is }, refl);
      smaller = subst (λ (z : ℕ). left_at next (suc (length next)) z < left_at next (suc (length next)) place) (sym next_is)
          (subst (λ (z : ℕ). z < left_at next (suc (length next)) place) (sym after) (subst (λ (z : ℕ). length f.0 < z) (sym before) less));
    }

-- the walk is at its end
read_all : (base : ℕ) (xs : List ℕ) → 0 < base → 0 ≡ first_place xs → ((p : ℕ) → Has xs p → base ≤ p) → xs ≡ []
read_all base [] some is above = refl
read_all base (x ∷ xs) some is above = absurd (omega (arith, is, above x (inl refl)))

pub reads_end : (ends base : ℕ) (nodes : List (Option Edge)) (free : List ℕ) (spare : ℕ) (next prev : List ℕ) (head place : ℕ)
    → (r : ReadsWalk ends base nodes free spare next prev head place) → place ≡ 0 → r.kept.lists head ≡ r.done
reads_end ends base nodes free spare next prev head place r over =
    let above : (p : ℕ) → Has r.todo p → base ≤ p = λ p has.
    (r.kept.laid.nodes head p r.head_is (subst (λ (xs : List ℕ). Has xs p) (sym r.here) (Has-front r.done r.todo p has))).0 in
    r.here ∙ ap (λ (xs : List ℕ). r.done ++ xs) (read_all base r.todo r.kept.laid.some (sym over ∙ r.reached) above) ∙ append-nil r.done

pub gathered_all : (ends base : ℕ) (nodes : List (Option Edge)) (free : List ℕ) (spare : ℕ) (next prev : List ℕ) (head place from to : ℕ) (old new : List Edge)
    → (r : ReadsWalk ends base nodes free spare next prev head place) → place ≡ 0 → new ≡ old ++ gathered nodes base from to r.done
    → AreEdgesGathered ends head from to (standing_pairs nodes) old new
gathered_all ends base nodes free spare next prev head place from to old new r over is =
    let all = reads_end ends base nodes free spare next prev head place r over in
    record {
      found = gathered nodes base from to r.done;
      is = is;
      each = subst (λ (xs : List ℕ). IsEach (λ e. StandsIn ends head e × (from ≤ e.first) × (e.first < to)) (standing_pairs nodes) (gathered nodes base from to xs)) all
          (gathered_each ends base nodes r.kept.lists head from to r.kept.shape.sound r.kept.ties r.head_is (r.kept.laid.once head r.head_is));
    }

pub gathered_step : (nodes : List (Option Edge)) (base from to : ℕ) (done done' : List ℕ) (place : ℕ) (e : Edge) (old now then' : List Edge)
    → done' ≡ done ++ place ∷ [] → node_at nodes ((place - base) / 3) ≡ Some e → now ≡ old ++ gathered nodes base from to done → then' ≡ now ++ in_range_of from to (Some e)
    → then' ≡ old ++ gathered nodes base from to done'
gathered_step nodes base from to done done' place e old now then' longer here was is =
    is ∙ ap (λ (xs : List Edge). xs ++ in_range_of from to (Some e)) was
    ∙ append_assoc old (gathered nodes base from to done) (in_range_of from to (Some e))
    ∙ ap (λ (o : Option Edge). old ++ (gathered nodes base from to done ++ in_range_of from to o)) (sym here)
    ∙ ap (λ (xs : List Edge). old ++ xs) (sym (gathered_more nodes base from to done place))
    ∙ ap (λ (ps : List ℕ). old ++ gathered nodes base from to ps) (sym longer)

-- no pair at the places so far has these ends
abbrev pub NoneYet : List (Option Edge) → ℕ → ℕ → ℕ → List ℕ → Type 0
NoneYet nodes base a b done = (p : ℕ) (e : Edge) → Has done p → node_at nodes ((p - base) / 3) ≡ Some e → ¬ ((e.a ≡ a) × (e.b ≡ b))

Has-push : (xs : List ℕ) (p q : ℕ) → Has (xs ++ p ∷ []) q → Has xs q ⊎ (q ≡ p)
Has-push [] p q has = elim has [ inl e ↦ inr e | inr h ↦ absurd h ]
Has-push (x ∷ xs) p q has = elim has [ inl e ↦ inl (inl e) | inr h ↦ elim (Has-push xs p q h) [ inl k ↦ inl (inr k) | inr e ↦ inr e ] ]

pub none_more : (nodes : List (Option Edge)) (base a b : ℕ) (done done' : List ℕ) (place : ℕ) (e : Edge) → NoneYet nodes base a b done → done' ≡ done ++ place ∷ []
    → node_at nodes ((place - base) / 3) ≡ Some e → ¬ ((e.a ≡ a) × (e.b ≡ b)) → NoneYet nodes base a b done'
none_more nodes base a b done done' place e so_far longer here other p f has there =
    elim (Has-push done place p (subst (λ (xs : List ℕ). Has xs p) longer has)) [
      | inl h ↦ so_far p f h there
      | inr k ↦ (let at : node_at nodes ((place - base) / 3) ≡ Some f = subst (λ (z : ℕ). node_at nodes ((z - base) / 3) ≡ Some f) k there in
          let same : e ≡ f = cc in subst (λ (z : Edge). ¬ ((z.a ≡ a) × (z.b ≡ b))) same other)
    ]

pub none_found : (ends base : ℕ) (nodes : List (Option Edge)) (free : List ℕ) (spare : ℕ) (next prev : List ℕ) (a b place : ℕ)
    → (r : ReadsWalk ends base nodes free spare next prev (1 + a) place) → place ≡ 0 → NoneYet nodes base a b r.done
    → All (λ e. ¬ ((e.a ≡ a) × (e.b ≡ b))) (standing_pairs nodes)
none_found ends base nodes free spare next prev a b place r over so_far =
    let all = reads_end ends base nodes free spare next prev (1 + a) place r over in
    All-weaker (Contains (standing_pairs nodes)) (λ (e : Edge). ¬ ((e.a ≡ a) × (e.b ≡ b)))
    (λ e has same.
    (let f = found nodes e has in
    let in_list : Has (r.kept.lists (1 + e.a)) (base + 3 * f.0 + 0) = r.kept.ties.owned f.0 e 0 f.1 (omega arith) in
    let in_done : Has r.done (base + 3 * f.0 + 0) = subst (λ (xs : List ℕ). Has xs (base + 3 * f.0 + 0)) (ap (λ (z : ℕ). r.kept.lists (1 + z)) same.0 ∙ all) in_list in
    let n : f.0 ≡ (base + 3 * f.0 + 0 - base) / 3 = omega arith in
    so_far (base + 3 * f.0 + 0) e in_done (subst (λ (z : ℕ). node_at nodes z ≡ Some e) n f.1) same))
    (standing_pairs nodes) (All-contains_itself (standing_pairs nodes))

-- what is known of a pair that stands
pub sound_of : (ends : ℕ) (nodes : List (Option Edge)) (e : Edge) → Sound ends nodes → Contains (standing_pairs nodes) e → IsEdge ends e
sound_of ends nodes e s has = let f = found nodes e has in s.each f.0 e f.1

pub one_of : (ends : ℕ) (nodes : List (Option Edge)) (e f : Edge) → Sound ends nodes → Contains (standing_pairs nodes) e → Contains (standing_pairs nodes) f → HaveSameEnds e f → e ≡ f
one_of ends nodes e f s has has' same =
    let i = found nodes e has in
    let j = found nodes f has' in
    let n = s.once i.0 j.0 e f i.1 j.1 same in
    let here : node_at nodes j.0 ≡ Some e = subst (λ (z : ℕ). node_at nodes z ≡ Some e) n i.1 in
    let there : node_at nodes j.0 ≡ Some f = j.1 in
    cc

-- no two pairs that stand have the same ends
pub standing_apart : (ends : ℕ) (nodes : List (Option Edge)) → ((i j : ℕ) (e f : Edge) → node_at nodes i ≡ Some e → node_at nodes j ≡ Some f → HaveSameEnds e f → i ≡ j) → AreDistinctPairs (standing_pairs nodes)
standing_apart ends [] once = λ i j d less within. absurd (omega (arith, within))
standing_apart ends (None ∷ nodes) once = standing_apart ends nodes (λ i j e f a b same. omega (arith, once (suc i) (suc j) e f a b same))
standing_apart ends (Some e ∷ nodes) once =
    apart_joined (e ∷ []) (standing_pairs nodes) (λ i j d less within. absurd (omega (arith, less, within)))
    (standing_apart ends nodes (λ i j g f a b same. omega (arith, once (suc i) (suc j) g f a b same)))
    (λ g f in_one in_rest same.
    let first : in_one.0 ≡ 0 = omega (arith, in_one.1) in
    let is : e ≡ g = subst (λ (z : ℕ). get_or (e ∷ []) z g ≡ g) first in_one.2 in
    let j = found nodes f in_rest in
    absurd (omega (arith, once 0 (suc j.0) g f (ap (λ (z : Edge). Some z) is) j.1 same)))

-- an end that is none has no pairs
pub none_each : (nodes : List (Option Edge)) (end : ℕ) → ((i : ℕ) (e : Edge) → node_at nodes i ≡ Some e → touches end e ≡ false)
    → IsEach (λ e. touches end e ≡ true) (standing_pairs nodes) []
none_each nodes end none = record {
  exact = λ e. ((λ has. absurd (let below = has.1 in omega (arith, below))), (λ has. absurd (let at = found nodes e has.0 in let not = none at.0 e at.1 in let is = has.1 in cc)));
  apart = λ i j d before below. absurd (omega arith);
}

-- the pairs of an end
pub of_each : (ends : ℕ) (nodes : List (Option Edge)) (end : ℕ) (new : List Edge) → Sound ends nodes → end < ends
    → AreEdgesGathered ends (1 + end) 0 4294967295 (standing_pairs nodes) [] new → IsEach (λ e. touches end e ≡ true) (standing_pairs nodes) new
of_each ends nodes end new s within g =
    subst (IsEach (λ e. touches end e ≡ true) (standing_pairs nodes)) (sym g.is) (record {
      exact = λ e. (
        λ has.
            (let k = g.each.exact e in let old = k.0 has in (
              old.0,
              elim (side_cases ends end e old.1.0.0 within old.1.0.1 old.1.0.2) [
                | inl z ↦ or_left (eqb e.a end) (eqb e.b end) (eq-eqb e.a end z.1)
                | inr z ↦ or_right (eqb e.a end) (eqb e.b end) (eq-eqb e.b end z.1)
              ],
            )),
        λ has.
            (let k = g.each.exact e in
            let sound = sound_of ends nodes e s has.0 in
            k.1 (
              has.0,
              (
                elim (or_cases (eqb e.a end) (eqb e.b end) has.1) [
                  | inl a ↦ (0, omega arith, omega (arith, eqb-true e.a end a))
                  | inr b ↦ (1, omega arith, omega (arith, eqb-true e.b end b))
                ],
                omega arith,
                omega (arith, sound.span, sound.early),
              ),
            )),
      );
      apart = g.each.apart;
    })

-- the head of a bucket has the pairs of that bucket
bucket_side : (ends b : ℕ) (e : Edge) (s : ℕ) → IsEdge ends e → s < 3 → 1 + ends + b ≡ head_of ends e s → e.first / 256 ≡ b
bucket_side ends b e zero sound few is = absurd (omega (arith, sound.order, sound.ends_in))
bucket_side ends b e (suc zero) sound few is = absurd (omega (arith, sound.ends_in))
bucket_side ends b e (suc (suc s)) sound few is = omega arith

-- the pairs that are due, of the buckets so far
abbrev pub DueBelow : List (Option Edge) → ℕ → ℕ → ℕ → List Edge → Type 0
DueBelow nodes from to b found = IsEach (λ e. (from ≤ e.first) × (e.first < to) × (e.first / 256 < b)) (standing_pairs nodes) found

pub due_more : (ends : ℕ) (nodes : List (Option Edge)) (from to b : ℕ) (old new : List Edge) → Sound ends nodes → DueBelow nodes from to b old
    → AreEdgesGathered ends (1 + ends + b) from to (standing_pairs nodes) old new → DueBelow nodes from to (b + 1) new
due_more ends nodes from to b old new s before g =
    subst (DueBelow nodes from to (b + 1)) (sym g.is) (record {
      exact = λ e. (
        λ has.
            elim (Contains-append_cases old g.found e has) [
              | inl h ↦ (let k = before.exact e in let was = k.0 h in (was.0, (was.1.0, was.1.1, omega (arith, was.1.2))))
              | inr h ↦ (let k = g.each.exact e in let was = k.0 h in
                  let here = bucket_side ends b e was.1.0.0 (sound_of ends nodes e s was.0) was.1.0.1 was.1.0.2 in
                  (was.0, (was.1.1, was.1.2, omega (arith, here))))
            ],
        λ has.
            elim (cases_lt (e.first / 256) b) [
              | inl l ↦ (let k = before.exact e in Contains-append_left old g.found e (k.1 (has.0, (has.1.0, has.1.1, l))))
              | inr m ↦ (let k = g.each.exact e in Contains-append_right old g.found e (k.1 (has.0, ((2, omega arith, omega (arith, m, has.1.2)), has.1.0, has.1.1))))
            ],
      );
      apart = apart_joined old g.found before.apart g.each.apart (λ e f in_old in_found same.
          let ke = before.exact e in
          let kf = g.each.exact f in
          let was = ke.0 in_old in
          let now = kf.0 in_found in
          let one = one_of ends nodes e f s was.0 now.0 same in
          let here = bucket_side ends b f now.1.0.0 (sound_of ends nodes f s now.0) now.1.0.1 now.1.0.2 in
          let there : f.first / 256 < b = subst (λ (z : Edge). z.first / 256 < b) one was.1.2 in
          absurd (omega (arith, here, there)));
    })

pub due_all : (ends : ℕ) (nodes : List (Option Edge)) (from to b : ℕ) (found : List Edge) → Sound ends nodes → DueBelow nodes from to b found
    → ((e : Edge) → IsEdge ends e → e.first < to → from ≤ e.first → e.first / 256 < b)
    → IsEach (λ e. (from ≤ e.first) × (e.first < to)) (standing_pairs nodes) found
due_all ends nodes from to b found s below all = record {
  exact = λ e. (
    λ has. (let k = below.exact e in let was = k.0 has in (was.0, (was.1.0, was.1.1))),
    λ has. (let k = below.exact e in k.1 (has.0, (has.1.0, has.1.1, all e (sound_of ends nodes e s has.0) has.1.1 has.1.0))),
  );
  apart = below.apart;
}

pub all_sound : (ends : ℕ) (nodes : List (Option Edge)) → Sound ends nodes → All (IsEdge ends) (standing_pairs nodes)
all_sound ends nodes s = All-weaker (Contains (standing_pairs nodes)) (IsEdge ends) (λ e has. sound_of ends nodes e s has) (standing_pairs nodes) (All-contains_itself (standing_pairs nodes))

pub all_apart : (ends : ℕ) (nodes : List (Option Edge)) → Sound ends nodes → AreDistinctPairs (standing_pairs nodes)
all_apart ends nodes s = standing_apart ends nodes s.once

-- an end out of range has no pair
pub out_of_range : (ends : ℕ) (nodes : List (Option Edge)) (a b : ℕ) → Sound ends nodes → ends ≤ a → All (λ e. ¬ ((e.a ≡ a) × (e.b ≡ b))) (standing_pairs nodes)
out_of_range ends nodes a b s past =
    All-weaker (Contains (standing_pairs nodes)) (λ (e : Edge). ¬ ((e.a ≡ a) × (e.b ≡ b)))
    (λ e has same. (let k = sound_of ends nodes e s has in absurd (omega (arith, k.order, k.ends_in, same.0)))) (standing_pairs nodes) (All-contains_itself (standing_pairs nodes))

-- no pair is due in an empty range
pub none_due : (ends : ℕ) (nodes : List (Option Edge)) (from to end : ℕ) → Sound ends nodes → end ≤ from → (to ≤ end) ⊎ (10014400 ≤ end) → IsEach (λ e. (from ≤ e.first) × (e.first < to)) (standing_pairs nodes) []
none_due ends nodes from to end s past is = record {
  exact = λ e. (
    λ has. absurd (omega (arith, has.1)),
    λ has. (let k = sound_of ends nodes e s has.0 in absurd (elim is [ inl l ↦ omega (arith, l, has.1.0, has.1.1) | inr m ↦ omega (arith, m, k.span, k.early, has.1.0) ])),
  );
  apart = λ i j d less within. absurd (omega (arith, within));
}
