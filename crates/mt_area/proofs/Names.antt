-- Whether a name stands among the first areas of a list.
use Rattle.std.proofs.Common.{◌≡◌, ℕ, ◌+◌, ◌<◌, ◌≤◌, ⊎_elim, false, true, true≢false, List, [], Contains, length, take, get_or, sym, ◌∙◌, ap, subst, arith}
use Rattle.std.proofs.lemmas.List.{take_all}
use Rattle.std.proofs.lemmas.List.Elements.{Contains-get_or, Contains-push_cases}
use Rattle.std.specs.Cmp.Lexicographic.{pointwise, bytes_decides}
use Rattle.std.specs.Prelude.{nat_eq}
use Rattle.mt_base.specs.declared.area.Area.{Area}
use Rattle.mt_area.specs.Adding.{IsTaken}
use Rattle.mt_base.proofs.Members.{take_push}

pub not_taken_more : (areas : List Area) (i : ℕ) (area : Area) (name : List ℕ) → i < length areas → area ≡ get_or areas i area → false ≡ pointwise nat_eq area.name name
    → ¬ IsTaken (take i areas) name → ¬ IsTaken (take (i + 1) areas) name
not_taken_more areas i area name below is differs none taken = ⊎_elim
    (λ before. none (record { area = taken.area; there = before; named = taken.named }))
    (λ same. true≢false (sym ((bytes_decides area.name name).1 (ap (λ (a : Area). a.name) same ∙ taken.named)) ∙ sym differs))
    (Contains-push_cases (take i areas) area taken.area (rw (take_push areas i area below is) at taken.there))

pub none_taken : (name : List ℕ) → ¬ IsTaken [] name
none_taken name taken = omega (arith, taken.there.1)

pub taken_nowhere : (areas : List Area) (i : ℕ) (name : List ℕ) → length areas ≤ i → ¬ IsTaken (take i areas) name → ¬ IsTaken areas name
taken_nowhere areas i name all none = rw (take_all i areas all) at none

pub taken_here : (areas : List Area) (i : ℕ) (area : Area) (name : List ℕ) → i < length areas → area ≡ get_or areas i area → true ≡ pointwise nat_eq area.name name
    → IsTaken areas name
taken_here areas i area name below is same = record {
  area = area;
  there = subst (Contains areas) (sym is) (Contains-get_or areas i area below);
  named = (bytes_decides area.name name).0 (sym same);
}
