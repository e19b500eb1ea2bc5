use Rattle.std.proofs.Common.{◌≡◌, sym, ◌∙◌, subst, refl, true, List}
use Rattle.std.specs.List.Sorted.{IsSorted}
use Rattle.std.specs.Cmp.{IsTotalOrder, IsEquivalence, Equal-is}
use Rattle.std.specs.Ordering.{ordering_then, nat_cmp, eq_by_cmp}
use Rattle.std.specs.Cmp.Lexicographic.{slice_cmp}
use Rattle.std.specs.declared.cmp.Ordering.{Ordering}
use Rattle.std.specs.declared.cmp.Ordering.TheVariants.{Equal}
use Rattle.std.specs.FinMap.{nat_cmp-IsAntisymmetric}
use Rattle.mt_base.specs.declared.hit.Hit.{Hit}
use Rattle.mt_base.specs.WhatIf.{hit_cmp}
use Rattle.mt_base.specs.contracts.hit.HitOrd.TheImpl as hit
use Rattle.mt_base.specs.contracts.hit.HitOrd.TheImpl.Laws as order_laws
use Rattle.mt_base.specs.contracts.hit.HitPartialEq.TheImpl as hit_eq
use Rattle.mt_base.specs.contracts.hit.HitEq.TheImpl.Laws as eq_laws
use Rattle.mt_base.proofs.ConflictOrder.{one_text, then_first, then_second}

pub order_is : hit.ghosts.cmp ≡ hit_cmp
order_is = refl

pub total : IsTotalOrder hit_cmp
total = rw (← order_is) order_laws.total-law

pub ties : (x y : Hit) → hit_eq.ghosts.eq x y ≡ eq_by_cmp hit_cmp x y
ties = let P : (Hit → Hit → Ordering) → Type 0 = λ R. (x y : Hit) → hit_eq.ghosts.eq x y ≡ eq_by_cmp R x y in
    subst P order_is order_laws.matches_eq-law

-- two hits of which neither is before the other are one
one_hit : (x y : Hit) → hit_cmp x y ≡ Equal → x ≡ y
one_hit x y e =
    let e1 = then_second (nat_cmp x.first y.first) (ordering_then (slice_cmp nat_cmp x.with y.with) (nat_cmp x.last y.last)) e in
    let first = nat_cmp-IsAntisymmetric x.first y.first
    (then_first (nat_cmp x.first y.first) (ordering_then (slice_cmp nat_cmp x.with y.with) (nat_cmp x.last y.last)) e) in
    let with_ = one_text x.with y.with (then_first (slice_cmp nat_cmp x.with y.with) (nat_cmp x.last y.last) e1) in
    let last = nat_cmp-IsAntisymmetric x.last y.last (then_second (slice_cmp nat_cmp x.with y.with) (nat_cmp x.last y.last) e1) in
    λ i. record { first = first i; with = with_ i; last = last i }

pub same : (x y : Hit) → hit_eq.ghosts.eq x y ≡ true → x ≡ y
same x y e = one_hit x y ((Equal-is (hit_cmp x y)).0 (sym (ties x y) ∙ e))

pub equal : IsEquivalence hit_eq.ghosts.eq
equal = eq_laws.laws-law

pub sorted_by : (hs : List Hit) → IsSorted hit.ghosts.cmp hs → IsSorted hit_cmp hs
sorted_by hs up = let P : (Hit → Hit → Ordering) → Type 0 = λ R. IsSorted R hs in subst P order_is up
