use Rattle.std.proofs.Common.{◌≡◌, ℕ, refl, sym, ◌∙◌, subst, true, List}
use Rattle.std.specs.List.Sorted.{IsSorted}
use Rattle.std.specs.Cmp.{IsTotalOrder, IsEquivalence, Equal-is}
use Rattle.std.specs.Ordering.{ordering_then, nat_cmp, eq_by_cmp}
use Rattle.std.specs.Cmp.Lexicographic.{slice_cmp}
use Rattle.std.specs.declared.cmp.Ordering.{Ordering}
use Rattle.std.specs.declared.cmp.Ordering.TheVariants.{Less, Equal, Greater}
use Rattle.std.specs.FinMap.{slice_cmp-IsAntisymmetric, nat_cmp-IsAntisymmetric}
use Rattle.mt_base.specs.declared.conflict.Conflict.{Conflict}
use Rattle.mt_base.specs.declared.conflict.Kind.{Kind}
use Rattle.mt_base.specs.declared.conflict.Kind.TheVariants.{Actual, Tentative}
use Rattle.mt_base.specs.Picture.{conflict_cmp, kind_cmp}
use Rattle.mt_base.specs.contracts.conflict.ConflictOrd.TheImpl as conflict
use Rattle.mt_base.specs.contracts.conflict.ConflictOrd.TheImpl.Laws as order_laws
use Rattle.mt_base.specs.contracts.conflict.ConflictPartialEq.TheImpl as conflict_eq
use Rattle.mt_base.specs.contracts.conflict.ConflictEq.TheImpl.Laws as eq_laws
use Rattle.mt_base.specs.contracts.conflict.KindOrd.TheImpl as kind

pub kinds : (x y : Kind) → kind.ghosts.cmp x y ≡ kind_cmp x y
kinds Actual Actual = refl
kinds Actual Tentative = refl
kinds Tentative Actual = refl
kinds Tentative Tentative = refl

pub order_is : conflict.ghosts.cmp ≡ conflict_cmp
order_is = λ i x y. ordering_then (nat_cmp x.first y.first) (ordering_then (slice_cmp nat_cmp x.a y.a) (ordering_then (slice_cmp nat_cmp x.b y.b)
    (ordering_then (kinds x.ka y.ka i) (ordering_then (kinds x.kb y.kb i) (nat_cmp x.last y.last)))))

pub total : IsTotalOrder conflict_cmp
total = rw (← order_is) order_laws.total-law

pub ties : (x y : Conflict) → conflict_eq.ghosts.eq x y ≡ eq_by_cmp conflict_cmp x y
ties = let P : (Conflict → Conflict → Ordering) → Type 0 = λ R. (x y : Conflict) → conflict_eq.ghosts.eq x y ≡ eq_by_cmp R x y in
    subst P order_is order_laws.matches_eq-law

-- what decides where the first seconds are equal, then the lesser callsigns, then the greater
abbrev behind_greater : Conflict → Conflict → Ordering
behind_greater x y = ordering_then (kind_cmp x.ka y.ka) (ordering_then (kind_cmp x.kb y.kb) (nat_cmp x.last y.last))

abbrev behind_lesser : Conflict → Conflict → Ordering
behind_lesser x y = ordering_then (slice_cmp nat_cmp x.b y.b) (behind_greater x y)

abbrev behind_first : Conflict → Conflict → Ordering
behind_first x y = ordering_then (slice_cmp nat_cmp x.a y.a) (behind_lesser x y)

-- where two orders one after the other answer that nothing is before, each does
pub then_first : (o p : Ordering) → ordering_then o p ≡ Equal → o ≡ Equal
then_first Less p e = cc
then_first Equal p e = refl
then_first Greater p e = cc

pub then_second : (o p : Ordering) → ordering_then o p ≡ Equal → p ≡ Equal
then_second Less p e = cc
then_second Equal p e = e
then_second Greater p e = cc

pub one_text : (s t : List ℕ) → slice_cmp nat_cmp s t ≡ Equal → s ≡ t
one_text = slice_cmp-IsAntisymmetric nat_cmp-IsAntisymmetric

pub one_kind : (x y : Kind) → kind_cmp x y ≡ Equal → x ≡ y
one_kind Actual Actual e = refl
one_kind Actual Tentative e = cc
one_kind Tentative Actual e = cc
one_kind Tentative Tentative e = refl

-- two conflicts of which neither is published before the other are one
pub one_conflict : (x y : Conflict) → conflict_cmp x y ≡ Equal → x ≡ y
one_conflict x y e =
    let e1 = then_second (nat_cmp x.first y.first) (behind_first x y) e in
    let e2 = then_second (slice_cmp nat_cmp x.a y.a) (behind_lesser x y) e1 in
    let e3 = then_second (slice_cmp nat_cmp x.b y.b) (behind_greater x y) e2 in
    let e4 = then_second (kind_cmp x.ka y.ka) (ordering_then (kind_cmp x.kb y.kb) (nat_cmp x.last y.last)) e3 in
    let first = nat_cmp-IsAntisymmetric x.first y.first (then_first (nat_cmp x.first y.first) (behind_first x y) e) in
    let a = one_text x.a y.a (then_first (slice_cmp nat_cmp x.a y.a) (behind_lesser x y) e1) in
    let b = one_text x.b y.b (then_first (slice_cmp nat_cmp x.b y.b) (behind_greater x y) e2) in
    let ka = one_kind x.ka y.ka (then_first (kind_cmp x.ka y.ka) (ordering_then (kind_cmp x.kb y.kb) (nat_cmp x.last y.last)) e3) in
    let kb = one_kind x.kb y.kb (then_first (kind_cmp x.kb y.kb) (nat_cmp x.last y.last) e4) in
    let last = nat_cmp-IsAntisymmetric x.last y.last (then_second (kind_cmp x.kb y.kb) (nat_cmp x.last y.last) e4) in
    λ i. record { first = first i; a = a i; b = b i; ka = ka i; kb = kb i; last = last i }

pub same : (x y : Conflict) → conflict_eq.ghosts.eq x y ≡ true → x ≡ y
same x y e = one_conflict x y ((Equal-is (conflict_cmp x y)).0 (sym (ties x y) ∙ e))

pub equal : IsEquivalence conflict_eq.ghosts.eq
equal = eq_laws.laws-law

pub sorted_by : (cs : List Conflict) → IsSorted conflict.ghosts.cmp cs → IsSorted conflict_cmp cs
sorted_by cs up = let P : (Conflict → Conflict → Ordering) → Type 0 = λ R. IsSorted R cs in subst P order_is up
