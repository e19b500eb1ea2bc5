-- The order of filing is one.
use Rattle.std.proofs.Common.{◌≡◌, ◌≢◌, ⊎_elim, Bool, true, false, ℕ, suc, ◌<◌, List, [], ◌∷◌, Option, Some, None, Contains, map, get_or, nat_lt, refl, sym, ap, subst, if◌then◌else◌, arith}
use Rattle.std.proofs.lemmas.Bool.Decides.{nat_tests}
use Rattle.std.proofs.lemmas.Cmp.{nat_cmp_total}
use Rattle.std.proofs.lemmas.List.Elements.{All-contains, All-contains_itself, All-from_recursion, Contains-append_right, recursion_from_All}
use Rattle.std.specs.Cmp.{IsTotalOrder, nat_cmp_is}
use Rattle.std.specs.List.{AllByRecursion}
use Rattle.std.specs.List.Sorted.{IsStrictlySortedBy}
use Rattle.std.specs.Ordering.{nat_cmp}
use Rattle.std.specs.declared.cmp.Ordering.TheVariants.{Less}
use Rattle.mt_base.proofs.OneOrder.{one_order}
use Rattle.mt_probe.specs.declared.flight.Flight.{Flight}
use Rattle.mt_probe.specs.Filing.{FilingOrderLaw, filed_cmp}
use Rattle.mt_probe.specs.Shot.{filed_among, flights_in, in_order, records_in}
use Rattle.mt_base.proofs.Members.{Contains-cases, Contains-head, Contains-none}
use Rattle.mt_probe.proofs.Order.{all_filed, all_ordered, all_placed}

less_is : (x y : ℕ) → x < y → nat_cmp x y ≡ Less
less_is x y before = sym (nat_cmp_is x y Less before)

total : IsTotalOrder filed_cmp
total = record {
  antisymm = λ f g. nat_cmp_total.antisymm f.filed g.filed;
  trans = λ f g h. nat_cmp_total.trans f.filed g.filed h.filed;
  congr = λ f g h. nat_cmp_total.congr f.filed g.filed h.filed;
}

all_later : (f g : Flight) (hs : List Flight) → filed_cmp f g ≡ Less → AllByRecursion (λ h. filed_cmp g h ≡ Less) hs → AllByRecursion (λ h. filed_cmp f h ≡ Less) hs
all_later f g [] before all = tt
all_later f g (h ∷ hs) before all = (total.trans f g h before all.0, all_later f g hs before all.1)

filed_sorted : (f : Flight) (gs : List Flight) → AllByRecursion (λ g. g.filed ≢ f.filed) gs → IsStrictlySortedBy filed_cmp gs
    → IsStrictlySortedBy filed_cmp (filed_among f gs)
unfolding IsStrictlySortedBy
filed_sorted f [] apart up = (tt, tt)
filed_sorted f (g ∷ gs) apart up = by_test (nat_lt f.filed g.filed) refl (filed_sorted f gs apart.1 up.1) where
  by_test : (b : Bool) → nat_lt f.filed g.filed ≡ b → IsStrictlySortedBy filed_cmp (filed_among f gs)
      → IsStrictlySortedBy filed_cmp (if b then f ∷ g ∷ gs else g ∷ filed_among f gs)
  by_test true e rest =
      let before : f.filed < g.filed = grind (arith, nat_tests) in
      let less = less_is f.filed g.filed before in ((less, all_later f g gs less up.0), (up.0, up.1))
  by_test false e rest =
      let differ = apart.0 in
      let after : g.filed < f.filed = grind (arith, nat_tests) in (all_filed (λ h. filed_cmp g h ≡ Less) f gs (less_is g.filed f.filed after) up.0, rest)

ordered_sorted : (slots : List (Option Flight)) → ((i j : ℕ) (f g : Flight) → i ≢ j → get_or slots i None ≡ Some f → get_or slots j None ≡ Some g → f.filed ≢ g.filed)
    → IsStrictlySortedBy filed_cmp (in_order (flights_in slots))
unfolding IsStrictlySortedBy
ordered_sorted [] differ = tt
ordered_sorted (None ∷ slots) differ = ordered_sorted slots (λ i j f g other f_is g_is. differ (suc i) (suc j) f g (λ same. other (omega (arith, same))) f_is g_is)
ordered_sorted (Some f ∷ slots) differ = filed_sorted f (in_order (flights_in slots))
    (all_ordered (λ g. g.filed ≢ f.filed) (flights_in slots)
    (all_placed (λ g. g.filed ≢ f.filed) slots (λ j g is. differ (suc j) 0 g f (λ same. absurd (omega (arith, same))) is refl)))
    (ordered_sorted slots (λ i j g h other g_is h_is. differ (suc i) (suc j) g h (λ same. other (omega (arith, same))) g_is h_is))

there_filed : (f : Flight) (gs : List Flight) → Contains (filed_among f gs) f
there_filed f [] = Contains-head f []
there_filed f (g ∷ gs) = by_test (nat_lt f.filed g.filed) (there_filed f gs) where
  by_test : (b : Bool) → Contains (filed_among f gs) f → Contains (if b then f ∷ g ∷ gs else g ∷ filed_among f gs) f
  by_test true rest = Contains-head f (g ∷ gs)
  by_test false rest = Contains-append_right (g ∷ []) (filed_among f gs) f rest

still_filed : (f : Flight) (gs : List Flight) (h : Flight) → Contains gs h → Contains (filed_among f gs) h
still_filed f [] h held = absurd (Contains-none h held)
still_filed f (g ∷ gs) h held = by_test (nat_lt f.filed g.filed) (λ rest. still_filed f gs h rest) where
  by_test : (b : Bool) → (Contains gs h → Contains (filed_among f gs) h) → Contains (if b then f ∷ g ∷ gs else g ∷ filed_among f gs) h
  by_test true rest = Contains-append_right (f ∷ []) (g ∷ gs) h held
  by_test false rest = ⊎_elim
      (λ same. subst (λ (k : Flight). Contains (g ∷ filed_among f gs) k) same (Contains-head g (filed_among f gs)))
      (λ later. Contains-append_right (g ∷ []) (filed_among f gs) h (rest later)) (Contains-cases g gs h held)

ordered_has : (fs : List Flight) (f : Flight) → Contains fs f → Contains (in_order fs) f
ordered_has [] f held = absurd (Contains-none f held)
ordered_has (g ∷ gs) f held = ⊎_elim
    (λ same. subst (λ (k : Flight). Contains (filed_among g (in_order gs)) k) same (there_filed g (in_order gs)))
    (λ rest. still_filed g (in_order gs) f (ordered_has gs f rest)) (Contains-cases g gs f held)

has_ordered : (fs : List Flight) (f : Flight) → Contains (in_order fs) f → Contains fs f
has_ordered fs f held = All-contains (Contains fs) (in_order fs) f
    (All-from_recursion (Contains fs) (in_order fs) (all_ordered (Contains fs) fs (recursion_from_All (Contains fs) fs (All-contains_itself fs)))) held

pub filing_order : FilingOrderLaw
unfolding records_in
filing_order shot flights sound filed = ap (map (λ f. f.card)) (one_order total flights (in_order (flights_in shot.slots)) filed.sorted
    (ordered_sorted shot.slots (λ i j f g other f_is g_is. (sound.apart i j f g other f_is g_is).filings))
    (λ f held. ordered_has (flights_in shot.slots) f ((filed.members f).0 held))
    (λ f held. (filed.members f).1 (has_ordered (flights_in shot.slots) f held)))
