-- A flight has at most one hit with each other flight.
use Rattle.std.proofs.Common.{◌≡◌, ◌≢◌, ⊎_elim, Bool, true, false, ℕ, ◌≤◌, List, [], ◌∷◌, Some, Contains, All, AllPairs, length, map, get_or, refl, sym, ◌∙◌, ap, subst, if◌then◌else◌, arith}
use Rattle.std.proofs.lemmas.Bool.{cases_lt}
use Rattle.std.proofs.lemmas.List.{get_or_default, length-map}
use Rattle.std.proofs.lemmas.List.Elements.{All-map, Contains-append_right}
use Rattle.std.proofs.lemmas.List.Kept.{AllPairs-cons}
use Rattle.std.proofs.lemmas.Map.Made.{IsDistinct-from_AllPairs, is_member-Decides, length-le_from_is_member}
use Rattle.std.proofs.lemmas.Map.Views.{All-after_first}
use Rattle.std.proofs.lemmas.Slice.Eq.{bytes_eq-Decides}
use Rattle.std.specs.Cmp.{IsEquivalence, tied_itself}
use Rattle.std.specs.List.Sorted.{IsStrictlySortedBy}
use Rattle.std.specs.Str.{bytes_eq}
use Rattle.std.specs.declared.cmp.Ordering.TheVariants.{Less}
use Rattle.mt_base.specs.declared.flight.Record.{Record}
use Rattle.mt_base.specs.declared.hit.Hit.{Hit}
use Rattle.mt_base.specs.Conflict.{IsConflict}
use Rattle.mt_base.specs.Picture.{HaveOwnCalls, State, flight_of, trajectory_of, window_end}
use Rattle.mt_base.specs.Tables.{Setup}
use Rattle.mt_base.specs.Trajectory.{Trajectory}
use Rattle.mt_base.specs.WhatIf.{AreHitsOf, IsHit, hit_cmp}
use Rattle.mt_base.proofs.HitOrder.{total}
use Rattle.mt_base.proofs.Members.{Contains-cases, Contains-head, Contains-none}
use Rattle.mt_probe.proofs.Spans.{one_conflict}

laws : IsEquivalence bytes_eq
laws = record {
  refl = λ x. (bytes_eq-Decides x x).1 refl;
  symm = λ x y. by_test x y (bytes_eq x y) (bytes_eq y x) refl refl;
  congr = λ x y z same. ap (λ (w : List ℕ). bytes_eq w z) ((bytes_eq-Decides x y).0 same);
} where
  by_test : (x y : List ℕ) (a b : Bool) → bytes_eq x y ≡ a → bytes_eq y x ≡ b → bytes_eq x y ≡ bytes_eq y x
  by_test x y true b e d = e ∙ sym ((bytes_eq-Decides y x).1 (sym ((bytes_eq-Decides x y).0 e)))
  by_test x y false true e d = (bytes_eq-Decides x y).1 (sym ((bytes_eq-Decides y x).0 d)) ∙ sym d
  by_test x y false false e d = e ∙ sym d

-- a flight that is found is there
pub found_in : (call : List ℕ) (rs : List Record) (r : Record) → flight_of rs call ≡ Some r → Contains rs r
found_in call [] r is = absurd (cc)
found_in call (q ∷ rs) r is = by_test (bytes_eq q.call call) (found_in call rs r) is where
  by_test : (b : Bool) → (flight_of rs call ≡ Some r → Contains rs r) → (if b then Some q else flight_of rs call) ≡ Some r → Contains (q ∷ rs) r
  by_test true rest is = let same : q ≡ r = cc in subst (Contains (q ∷ rs)) same (Contains-head q rs)
  by_test false rest is = Contains-append_right (q ∷ []) rs r (rest is)

-- of a callsign there is one
same_call : (rs : List Record) (f g : Record) → HaveOwnCalls rs → Contains rs f → Contains rs g → f.call ≡ g.call → f ≡ g
same_call rs f g own (i, i_below, f_is) (j, j_below, g_is) same = ⊎_elim
    (λ before. absurd (own i j g before j_below (ap (λ (r : Record). r.call) (get_or_default rs i g f i_below ∙ f_is) ∙ same ∙ sym (ap (λ (r : Record). r.call) g_is))))
    (λ rest. ⊎_elim
    (λ after. absurd (own j i f after i_below (ap (λ (r : Record). r.call) (get_or_default rs j f g j_below ∙ g_is) ∙ sym same ∙ sym (ap (λ (r : Record). r.call) f_is))))
    (λ not. let at : i ≡ j = omega (arith, rest, not) in
    sym f_is ∙ ap (λ (k : ℕ). get_or rs k f) at ∙ get_or_default rs j f g j_below ∙ g_is) (cases_lt j i))
    (cases_lt i j)

module _ (setup : Setup) (s : State) (call : List ℕ) (t : Trajectory) (own : HaveOwnCalls s.records) where
  -- and one hit with it
  one_with : (h g : Hit) → IsHit setup s call t h → IsHit setup s call t g → h.with ≡ g.with → h ≡ g
  one_with h g is also same =
      let flight = same_call s.records is.flight also.flight own is.flies also.flies (sym is.with_is ∙ same ∙ also.with_is) in
      let span : IsConflict setup.rules t (trajectory_of setup is.flight.path) s.now (window_end s.now) (Some (g.first, g.last)) =
      subst (λ (f : Record). IsConflict setup.rules t (trajectory_of setup f.path) s.now (window_end s.now) (Some (g.first, g.last))) (sym flight) also.span in
      let spans = one_conflict setup.rules t (trajectory_of setup is.flight.path) s.now (window_end s.now) (Some (h.first, h.last)) (Some (g.first, g.last)) is.span span in
      let pair : (h.first, h.last) ≡ (g.first, g.last) = cc in
      let first : h.first ≡ g.first = ap (λ (p : ℕ × ℕ). p.0) pair in
      let last : h.last ≡ g.last = ap (λ (p : ℕ × ℕ). p.1) pair in
      λ i. record { first = first i; with = same i; last = last i }

  calls_apart : (hits : List Hit) → IsStrictlySortedBy hit_cmp hits → ((h : Hit) → Contains hits h → IsHit setup s call t h)
      → AllPairs (λ a b. a ≢ b) (map (λ (h : Hit). h.with) hits)
  unfolding IsStrictlySortedBy
  calls_apart [] sorted are = λ i j d before below. absurd (omega arith)
  calls_apart (h ∷ hits) sorted are = AllPairs-cons (λ a b. a ≢ b) h.with (map (λ (g : Hit). g.with) hits)
      (All-map (λ a. h.with ≢ a) (λ (g : Hit). g.with) hits (λ k d below same.
      let later = All-after_first hit_cmp h hits sorted k d below in
      let there : Contains hits (get_or hits k d) = (k, below, get_or_default hits k (get_or hits k d) d below) in
      let one = one_with h (get_or hits k d) (are h (Contains-head h hits)) (are (get_or hits k d) (Contains-append_right (h ∷ []) hits (get_or hits k d) there)) same in
      let tied = tied_itself total h in
      let less : hit_cmp h h ≡ Less = subst (λ (g : Hit). hit_cmp h g ≡ Less) (sym one) later in
      cc))
      (calls_apart hits sorted.1 (λ g held. are g (Contains-append_right (h ∷ []) hits g held)))

  -- so there are fewer than flights
  pub few_hits : (flight : Record) (hits : List Hit) → Contains s.records flight → flight.call ≡ call → length s.records ≤ 1024 → AreHitsOf setup s call t hits
      → length hits ≤ 1023
  few_hits flight hits there own_call few are =
      let withs = map (λ (h : Hit). h.with) hits in
      let calls = map (λ (r : Record). r.call) s.records in
      let others : All (λ a. call ≢ a) withs = All-map (λ a. call ≢ a) (λ (h : Hit). h.with) hits (λ k d below same.
      let is = (are.exact (get_or hits k d)).0 (k, below, get_or_default hits k (get_or hits k d) d below) in
      is.other (sym is.with_is ∙ sym same)) in
      let apart = AllPairs-cons (λ a b. a ≢ b) call withs others (calls_apart hits are.sorted (λ h held. (are.exact h).0 held)) in
      let distinct = IsDistinct-from_AllPairs bytes_eq-Decides (call ∷ withs) apart in
      let fewer = length-le_from_is_member laws (call ∷ withs) calls distinct (λ q member.
      (is_member-Decides bytes_eq-Decides calls q).1 (among q ((is_member-Decides bytes_eq-Decides (call ∷ withs) q).0 member))) in
      omega (arith, fewer, length-map hits (λ (h : Hit). h.with), length-map s.records (λ (r : Record). r.call)) where
        call_of : (r : Record) (rs : List Record) → Contains rs r → Contains (map (λ (q : Record). q.call) rs) r.call
        call_of r [] held = absurd (Contains-none r held)
        call_of r (q ∷ rs) held = ⊎_elim
            (λ same. subst (Contains (map (λ (p : Record). p.call) (q ∷ rs))) (ap (λ (p : Record). p.call) same) (Contains-head q.call (map (λ (p : Record). p.call) rs)))
            (λ rest. Contains-append_right (q.call ∷ []) (map (λ (p : Record). p.call) rs) r.call (call_of r rs rest)) (Contains-cases q rs r held)

        with_of : (q : List ℕ) (hs : List Hit) → ((h : Hit) → Contains hs h → IsHit setup s call t h) → Contains (map (λ (h : Hit). h.with) hs) q
            → Contains (map (λ (r : Record). r.call) s.records) q
        with_of q [] are held = absurd (Contains-none q held)
        with_of q (h ∷ hs) are held = ⊎_elim
            (λ same. let is = are h (Contains-head h hs) in
            subst (Contains (map (λ (r : Record). r.call) s.records)) (sym is.with_is ∙ same) (call_of is.flight s.records is.flies))
            (λ rest. with_of q hs (λ g there. are g (Contains-append_right (h ∷ []) hs g there)) rest) (Contains-cases h.with (map (λ (g : Hit). g.with) hs) q held)

        among : (q : List ℕ) → Contains (call ∷ map (λ (h : Hit). h.with) hits) q → Contains (map (λ (r : Record). r.call) s.records) q
        among q held = ⊎_elim
            (λ same. subst (Contains (map (λ (r : Record). r.call) s.records)) (own_call ∙ same) (call_of flight s.records there))
            (λ rest. with_of q hits (λ h in_hits. (are.exact h).0 in_hits) rest) (Contains-cases call (map (λ (h : Hit). h.with) hits) q held)
