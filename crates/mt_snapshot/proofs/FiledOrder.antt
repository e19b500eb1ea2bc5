-- The order of filled places.
use Rattle.std.proofs.Common.{◌≡◌, sym, ◌∙◌, subst, refl, true, List}
use Rattle.std.specs.List.Sorted.{IsSorted}
use Rattle.std.specs.Cmp.{IsTotalOrder, IsEquivalence, Equal-is}
use Rattle.std.specs.Ordering.{ordering_then, nat_cmp, eq_by_cmp}
use Rattle.std.specs.declared.cmp.Ordering.{Ordering}
use Rattle.std.specs.declared.cmp.Ordering.TheVariants.{Equal}
use Rattle.std.specs.FinMap.{nat_cmp-IsAntisymmetric}
use Rattle.mt_base.proofs.ConflictOrder.{then_first, then_second}
use Rattle.mt_snapshot.specs.declared.order.Filed.{Filed}
use Rattle.mt_snapshot.specs.contracts.order.FiledOrd.TheImpl as filed
use Rattle.mt_snapshot.specs.contracts.order.FiledOrd.TheImpl.Laws as order_laws
use Rattle.mt_snapshot.specs.contracts.order.FiledPartialEq.TheImpl as filed_eq
use Rattle.mt_snapshot.specs.contracts.order.FiledEq.TheImpl.Laws as eq_laws

abbrev pub place_cmp : Filed → Filed → Ordering
place_cmp x y = ordering_then (nat_cmp x.at y.at) (nat_cmp x.place y.place)

pub order_is : filed.ghosts.cmp ≡ place_cmp
order_is = refl

pub total : IsTotalOrder place_cmp
total = rw (← order_is) order_laws.total-law

pub ties : (x y : Filed) → filed_eq.ghosts.eq x y ≡ eq_by_cmp place_cmp x y
ties = let P : (Filed → Filed → Ordering) → Type 0 = λ R. (x y : Filed) → filed_eq.ghosts.eq x y ≡ eq_by_cmp R x y in
    subst P order_is order_laws.matches_eq-law

-- two of which neither is before the other are one
one_place : (x y : Filed) → place_cmp x y ≡ Equal → x ≡ y
one_place x y e =
    let at = nat_cmp-IsAntisymmetric x.at y.at (then_first (nat_cmp x.at y.at) (nat_cmp x.place y.place) e) in
    let place = nat_cmp-IsAntisymmetric x.place y.place (then_second (nat_cmp x.at y.at) (nat_cmp x.place y.place) e) in
    λ i. record { at = at i; place = place i }

pub same : (x y : Filed) → filed_eq.ghosts.eq x y ≡ true → x ≡ y
same x y e = one_place x y ((Equal-is (place_cmp x y)).0 (sym (ties x y) ∙ e))

pub equal : IsEquivalence filed_eq.ghosts.eq
equal = eq_laws.laws-law

pub sorted_by : (xs : List Filed) → IsSorted filed.ghosts.cmp xs → IsSorted place_cmp xs
sorted_by xs up = let P : (Filed → Filed → Ordering) → Type 0 = λ R. IsSorted R xs in subst P order_is up
