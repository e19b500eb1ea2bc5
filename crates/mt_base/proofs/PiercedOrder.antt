use Rattle.std.proofs.Common.{◌≡◌, sym, ◌∙◌, subst, true, List}
use Rattle.std.specs.List.Sorted.{IsSorted}
use Rattle.std.specs.Cmp.{IsTotalOrder, IsEquivalence, Equal-is}
use Rattle.std.specs.Ordering.{ordering_then, nat_cmp, eq_by_cmp}
use Rattle.std.specs.Cmp.Lexicographic.{slice_cmp}
use Rattle.std.specs.declared.cmp.Ordering.{Ordering}
use Rattle.std.specs.declared.cmp.Ordering.TheVariants.{Equal}
use Rattle.std.specs.FinMap.{nat_cmp-IsAntisymmetric}
use Rattle.mt_base.specs.declared.area.Pierced.{Pierced}
use Rattle.mt_base.specs.Picture.{kind_cmp}
use Rattle.mt_base.specs.Pierced.{pierced_cmp}
use Rattle.mt_base.specs.contracts.area.PiercedOrd.TheImpl as pierced
use Rattle.mt_base.specs.contracts.area.PiercedOrd.TheImpl.Laws as order_laws
use Rattle.mt_base.specs.contracts.area.PiercedPartialEq.TheImpl as pierced_eq
use Rattle.mt_base.specs.contracts.area.PiercedEq.TheImpl.Laws as eq_laws
use Rattle.mt_base.proofs.ConflictOrder.{kinds, one_kind, one_text, then_first, then_second}

pub order_is : pierced.ghosts.cmp ≡ pierced_cmp
order_is = λ i x y. ordering_then (nat_cmp x.first y.first) (ordering_then (slice_cmp nat_cmp x.call y.call)
    (ordering_then (kinds x.kind y.kind i) (ordering_then (slice_cmp nat_cmp x.area y.area) (nat_cmp x.last y.last))))

pub total : IsTotalOrder pierced_cmp
total = rw (← order_is) order_laws.total-law

pub ties : (x y : Pierced) → pierced_eq.ghosts.eq x y ≡ eq_by_cmp pierced_cmp x y
ties = let P : (Pierced → Pierced → Ordering) → Type 0 = λ R. (x y : Pierced) → pierced_eq.ghosts.eq x y ≡ eq_by_cmp R x y in
    subst P order_is order_laws.matches_eq-law

-- what decides where the first seconds are equal, then the callsigns, then the kinds
abbrev behind_kind : Pierced → Pierced → Ordering
behind_kind x y = ordering_then (slice_cmp nat_cmp x.area y.area) (nat_cmp x.last y.last)

abbrev behind_call : Pierced → Pierced → Ordering
behind_call x y = ordering_then (kind_cmp x.kind y.kind) (behind_kind x y)

abbrev behind_first : Pierced → Pierced → Ordering
behind_first x y = ordering_then (slice_cmp nat_cmp x.call y.call) (behind_call x y)

-- two of which neither is told before the other are one
pub one_pierced : (x y : Pierced) → pierced_cmp x y ≡ Equal → x ≡ y
one_pierced x y e =
    let e1 = then_second (nat_cmp x.first y.first) (behind_first x y) e in
    let e2 = then_second (slice_cmp nat_cmp x.call y.call) (behind_call x y) e1 in
    let e3 = then_second (kind_cmp x.kind y.kind) (behind_kind x y) e2 in
    let first = nat_cmp-IsAntisymmetric x.first y.first (then_first (nat_cmp x.first y.first) (behind_first x y) e) in
    let call = one_text x.call y.call (then_first (slice_cmp nat_cmp x.call y.call) (behind_call x y) e1) in
    let kind = one_kind x.kind y.kind (then_first (kind_cmp x.kind y.kind) (behind_kind x y) e2) in
    let area = one_text x.area y.area (then_first (slice_cmp nat_cmp x.area y.area) (nat_cmp x.last y.last) e3) in
    let last = nat_cmp-IsAntisymmetric x.last y.last (then_second (slice_cmp nat_cmp x.area y.area) (nat_cmp x.last y.last) e3) in
    λ i. record { first = first i; call = call i; kind = kind i; area = area i; last = last i }

pub same : (x y : Pierced) → pierced_eq.ghosts.eq x y ≡ true → x ≡ y
same x y e = one_pierced x y ((Equal-is (pierced_cmp x y)).0 (sym (ties x y) ∙ e))

pub equal : IsEquivalence pierced_eq.ghosts.eq
equal = eq_laws.laws-law

pub sorted_by : (ps : List Pierced) → IsSorted pierced.ghosts.cmp ps → IsSorted pierced_cmp ps
sorted_by ps up = let P : (Pierced → Pierced → Ordering) → Type 0 = λ R. IsSorted R ps in subst P order_is up
