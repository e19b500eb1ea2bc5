-- For callers: what stands in a list of pairs after a call.
use Rattle.std.proofs.Common.{◌≡◌, ◌↔◌, ℕ, ◌<◌, ◌⊎◌, List, [], ◌∷◌, true, false, Contains, length, get_or, refl, sym, subst, inl, inr, arith}
use Rattle.std.proofs.lemmas.Bool.{cases_Bool, both_ways}
use Rattle.std.proofs.lemmas.List.Elements.{Contains-append_cases, Contains-append_left, Contains-append_right}
use Rattle.mt_edges.specs.declared.edge.Edge.{Edge}
use Rattle.mt_edges.specs.Pairs.{IsWith, touches, without_end}

Contains-one : (e x : Edge) → Contains (e ∷ []) x → e ≡ x
Contains-one e x has = let first : has.0 ≡ 0 = omega (arith, has.1) in subst (λ (z : ℕ). get_or (e ∷ []) z x ≡ x) first has.2

one-Contains : (e : Edge) → Contains (e ∷ []) e
one-Contains e = let first : 0 < length (e ∷ []) = omega arith in (0, first, refl)

-- after `add`: the old pairs, and the new one
pub Contains-with : (old new : List Edge) (e x : Edge) → IsWith old e new → Contains new x ↔ (Contains old x ⊎ (e ≡ x))
Contains-with old new e x w = (
  λ has. elim (Contains-append_cases w.front (e ∷ w.back) x (subst (λ (z : List Edge). Contains z x) w.is has)) [
    | inl h ↦ inl (subst (λ (z : List Edge). Contains z x) (sym w.was) (Contains-append_left w.front w.back x h))
    | inr h ↦ elim (Contains-append_cases (e ∷ []) w.back x h) [
      | inl k ↦ inr (Contains-one e x k)
      | inr k ↦ inl (subst (λ (z : List Edge). Contains z x) (sym w.was) (Contains-append_right w.front w.back x k))
    ]
  ],
  λ has. subst (λ (z : List Edge). Contains z x) (sym w.is) (elim has [
    | inl h ↦ elim (Contains-append_cases w.front w.back x (subst (λ (z : List Edge). Contains z x) w.was h)) [
      | inl k ↦ Contains-append_left w.front (e ∷ w.back) x k
      | inr k ↦ Contains-append_right w.front (e ∷ w.back) x (Contains-append_right (e ∷ []) w.back x k)
    ]
    | inr q ↦ Contains-append_right w.front (e ∷ w.back) x (Contains-append_left (e ∷ []) w.back x (subst (Contains (e ∷ [])) q (one-Contains e)))
  ]),
)

-- after `drop_all`: the pairs that have not that end
pub Contains-without : (end : ℕ) (edges : List Edge) (x : Edge) → Contains (without_end end edges) x ↔ (Contains edges x × (touches end x ≡ false))
Contains-without end [] x = (λ has. absurd (omega (arith, has.1)), λ has. absurd (omega (arith, has.0.1)))
Contains-without end (e ∷ edges) x =
    let rest = Contains-without end edges x in
    elim (cases_Bool (touches end e)) [
      | inl t ↦ rw t (
        λ has. (let k = rest.0 has in (Contains-append_right (e ∷ []) edges x k.0, k.1)),
        λ has. elim (Contains-append_cases (e ∷ []) edges x has.0) [
          | inl h ↦ absurd (both_ways (touches end x) has.1 (subst (λ (z : Edge). touches end z ≡ true) (Contains-one e x h) t))
          | inr h ↦ rest.1 (h, has.1)
        ],
      )
      | inr f ↦ rw f (
        λ has. elim (Contains-append_cases (e ∷ []) (without_end end edges) x has) [
          | inl h ↦ (Contains-append_left (e ∷ []) edges x h, subst (λ (z : Edge). touches end z ≡ false) (Contains-one e x h) f)
          | inr h ↦ (let k = rest.0 h in (Contains-append_right (e ∷ []) edges x k.0, k.1))
        ],
        λ has. elim (Contains-append_cases (e ∷ []) edges x has.0) [
          | inl h ↦ Contains-append_left (e ∷ []) (without_end end edges) x h
          | inr h ↦ Contains-append_right (e ∷ []) (without_end end edges) x (rest.1 (h, has.1))
        ],
      )
    ]
