-- A table that has the slices of the trajectories of a snapshot.
use Rattle.std.proofs.Common.{◌≡◌, ◌≢◌, ⊎_elim, ℕ, zero, suc, ◌+◌, ◌*◌, ◌/◌, ◌<◌, List, [], ◌∷◌, Option, Some, None, length, get_or, option_and_then, option_map, replicate, refl, sym, ◌∙◌, ap, subst, length-set, arith}
use Rattle.std.specs.Option.{IfSome}
use Rattle.std.proofs.Math.ListN.{set}
use Rattle.std.proofs.lemmas.Bool.{cases_eq}
use Rattle.std.proofs.lemmas.List.{get_or-set_same, get_or-set_other, length-replicate}
use Rattle.mt_base.specs.declared.conflict.Kind.{Kind}
use Rattle.mt_base.specs.declared.conflict.Kind.TheVariants.{Actual, Tentative}
use Rattle.mt_base.specs.declared.rules.Rules.{Rules}
use Rattle.mt_cover.specs.Sliced.{Sliced, slices_of}
use Rattle.mt_probe.specs.declared.flight.Flight.{Flight}
use Rattle.mt_meet.specs.declared.table.Met.{Met}
use Rattle.mt_meet.specs.Meeting.{AreMet, IsNextMet, MeetAt}
use Rattle.mt_meet.specs.Searching.{IsSearched, MeetOnlyMarked, item_at}
use Rattle.mt_meet.specs.declared.marked_parts.MarkedParts.{MarkedParts}
use Rattle.mt_meet.specs.declared.search.Search.{Search}
use Rattle.mt_meet.proofs.Meetings.{within}
use Rattle.mt_probe.specs.Meeting.{AreMetItems, slices_at, slices_by}
use Rattle.mt_probe.specs.Private.Boxed.{AreSlicesOf, HasSlicesOf, HoldsSlices, IsNextMetOf, IsSearchedIn, MeetOnlyMarkedOn, item_of, table_with}
use Rattle.mt_probe.specs.Items.{kind_at, path_of}
use Rattle.mt_probe.specs.Putting.{IsKindKept, made_beside}
use Rattle.mt_probe.specs.Shot.{Shot}
use Rattle.mt_probe.proofs.Covered.{even_half, even_kind, odd_half, odd_kind}

pub slices_even : (rules : Rules) (slots : List (Option Flight)) (i : ℕ) → slices_at rules slots (2 * i) ≡ slices_by rules Actual (get_or slots i None)
slices_even rules slots i = ap (λ (kind : Kind). slices_by rules kind (get_or slots ((2 * i) / 2) None)) (even_kind i)
    ∙ ap (λ (j : ℕ). slices_by rules Actual (get_or slots j None)) (even_half i)

pub slices_odd : (rules : Rules) (slots : List (Option Flight)) (i : ℕ) → slices_at rules slots (2 * i + 1) ≡ slices_by rules Tentative (get_or slots i None)
slices_odd rules slots i = ap (λ (kind : Kind). slices_by rules kind (get_or slots ((2 * i + 1) / 2) None)) (odd_kind i)
    ∙ ap (λ (j : ℕ). slices_by rules Tentative (get_or slots j None)) (odd_half i)

-- with the slices of what is put at a place
module _ (rules : Rules) (slots : List (Option Flight)) (i : ℕ) (x : Option Flight) (table : List (Option Sliced)) (below : i < length slots)
    (holds : HoldsSlices rules slots table) where
  abbrev flown : Option Sliced
  flown = slices_by rules Actual x

  abbrev marked : Option Sliced
  marked = slices_by rules Tentative x

  there : get_or (set slots i x) i None ≡ x
  there = get_or-set_same slots i x None below

  abbrev first : List (Option Sliced)
  first = set table (2 * i) flown

  at_even : get_or (set first (2 * i + 1) marked) (2 * i) None ≡ flown
  at_even = get_or-set_other first (2 * i + 1) (2 * i) marked None (λ same. omega (arith, same)) ∙ get_or-set_same table (2 * i) flown None (omega (arith, holds.items, below))

  at_odd : get_or (set first (2 * i + 1) marked) (2 * i + 1) None ≡ marked
  at_odd = get_or-set_same first (2 * i + 1) marked None (omega (arith, holds.items, below, length-set table (2 * i) flown))

  at_other : (k : ℕ) → k / 2 ≢ i → get_or (set first (2 * i + 1) marked) k None ≡ slices_at rules (set slots i x) k
  at_other k apart =
      get_or-set_other first (2 * i + 1) k marked None (λ same. apart (ap (λ (n : ℕ). n / 2) same ∙ odd_half i))
      ∙ get_or-set_other table (2 * i) k flown None (λ same. apart (ap (λ (n : ℕ). n / 2) same ∙ even_half i))
      ∙ holds.held k
      ∙ sym (ap (slices_by rules (kind_at k)) (get_or-set_other slots i (k / 2) x None apart))

  at_own : (k : ℕ) → k / 2 ≡ i → get_or (set first (2 * i + 1) marked) k None ≡ slices_at rules (set slots i x) k
  at_own k half = ⊎_elim
      (λ even. subst (λ (n : ℕ). get_or (set first (2 * i + 1) marked) n None ≡ slices_at rules (set slots i x) n) (sym even)
      (at_even ∙ sym (slices_even rules (set slots i x) i ∙ ap (slices_by rules Actual) there)))
      (λ uneven. let odd : k ≡ 2 * i + 1 = omega (arith, half, uneven) in
      subst (λ (n : ℕ). get_or (set first (2 * i + 1) marked) n None ≡ slices_at rules (set slots i x) n) (sym odd)
      (at_odd ∙ sym (slices_odd rules (set slots i x) i ∙ ap (slices_by rules Tentative) there)))
      (cases_eq k (2 * i))

  pub holds_with : HoldsSlices rules (set slots i x) (table_with rules i x table)
  holds_with = record {
    items = length-set first (2 * i + 1) marked ∙ length-set table (2 * i) flown ∙ holds.items ∙ ap (λ (n : ℕ). 2 * n) (sym (length-set slots i x));
    held = λ k. ⊎_elim (at_own k) (at_other k) (cases_eq (k / 2) i);
  }

-- the slices of a kind of trajectory that stays are in the table already
pub slices_kept : (rules : Rules) (kind : Kind) (old new : Option Flight) → option_and_then (path_of kind) new ≡ option_and_then (path_of kind) old
    → slices_by rules kind new ≡ slices_by rules kind old
slices_kept rules kind old new same = by_path new ∙ ap (option_map (slices_of rules)) same ∙ sym (by_path old) where
  by_path : (x : Option Flight) → slices_by rules kind x ≡ option_map (slices_of rules) (option_and_then (path_of kind) x)
  by_path None = refl
  by_path (Some f) = refl

slices_at_item : (rules : Rules) (slots : List (Option Flight)) (slot : ℕ) (kind : Kind)
    → slices_at rules slots (item_of slot kind) ≡ slices_by rules kind (get_or slots slot None)
slices_at_item rules slots slot Actual = slices_even rules slots slot
slices_at_item rules slots slot Tentative = slices_odd rules slots slot

pub slices_stay : (shot : Shot) (table : List (Option Sliced)) (slot : ℕ) (flight : Option Flight) (kind : Kind)
    → HoldsSlices shot.setup.rules shot.slots table → IsKindKept shot slot flight kind → HasSlicesOf shot.setup.rules table slot flight kind
slices_stay shot table slot flight kind holds kept =
    holds.held (item_of slot kind) ∙ slices_at_item shot.setup.rules shot.slots slot kind
    ∙ sym (slices_kept shot.setup.rules kind (get_or shot.slots slot None) flight kept)

-- what stands in a list already may be set once more
pub set_again : {X : Type 0} (xs : List (Option X)) (i : ℕ) (x : Option X) → i < length xs → get_or xs i None ≡ x → set xs i x ≡ xs
set_again [] i x below same = absurd (omega (arith, below))
set_again (y ∷ ys) zero x below same = ap (λ (z : Option _). z ∷ ys) (sym same)
set_again (y ∷ ys) (suc i) x below same = ap (λ (zs : List (Option _)). y ∷ zs) (set_again ys i x (omega (arith, below)) same)

-- empty places
nothing_there : (rules : Rules) (n place : ℕ) (kind : Kind) → slices_by rules kind (get_or (replicate n None) place None) ≡ None
nothing_there rules zero place kind = refl
nothing_there rules (suc n) zero kind = refl
nothing_there rules (suc n) (suc place) kind = nothing_there rules n place kind

nothing_kept : (n item : ℕ) → get_or {A = Option Sliced} (replicate n None) item None ≡ None
nothing_kept zero item = refl
nothing_kept (suc n) zero = refl
nothing_kept (suc n) (suc item) = nothing_kept n item

pub opening_holds : (rules : Rules) (n : ℕ) → HoldsSlices rules (replicate n None) (replicate (2 * n) None)
opening_holds rules n = record {
  items = length-replicate (2 * n) None ∙ ap (λ (m : ℕ). 2 * m) (sym (length-replicate n None));
  held = λ item. nothing_kept (2 * n) item ∙ sym (nothing_there rules n (item / 2) (kind_at item));
}

-- what was met in the table was met among the trajectories
pub met_items : (shot : Shot) (mine : Sliced) (table : List (Option Sliced)) (list : List Met) → HoldsSlices shot.setup.rules shot.slots table
    → AreMet shot.setup.rules mine table list → AreMetItems shot mine list
met_items shot mine table list holds met = record {
  rising = met.rising;
  exact = λ m held. let is = met.exact m held in record { theirs = is.theirs; there = sym (holds.held m.item) ∙ is.there; hull = is.hull };
  complete = λ item theirs k there meet. met.complete item theirs k (holds.held item ∙ there) meet;
}

pub next_met : (shot : Shot) (mine : Sliced) (table : List (Option Sliced)) (from : ℕ) (next : Option Met) → HoldsSlices shot.setup.rules shot.slots table
    → IsNextMet shot.setup.rules mine table from next → IsNextMetOf shot mine from next
next_met shot mine table from None holds none = λ item late theirs k there meet.
    let at = holds.held item ∙ there in none item late (within table item theirs at) theirs k at meet
next_met shot mine table from (Some met) holds first = record {
  begun = first.begun;
  is = record { theirs = first.is.theirs; there = sym (holds.held met.item) ∙ first.is.there; hull = first.is.hull };
  none_before = λ item late below theirs k there meet. first.none_before item late below theirs k (holds.held item ∙ there) meet;
}

pub if_some : {X : Type 0} (x : Option X) (P Q : X → Type 0) → ((y : X) → P y → Q y) → IfSome x P → IfSome x Q
if_some None P Q on h = h
if_some (Some y) P Q on h = on y h

-- slices that are given for a kind of trajectory are those of that kind
pub given_of : {A : Type 0} (value : A → Sliced) (rules : Rules) (stays : Option Kind) (kind : Kind) (x : Option Flight) (slices given : Option A)
    → IfSome slices (λ s. AreSlicesOf rules (made_beside stays) x (value s)) → IfSome given (λ s. (slices ≡ Some s) × (made_beside stays ≡ kind))
    → IfSome given (λ s. AreSlicesOf rules kind x (value s))
given_of {A} value rules stays kind x slices given made of = if_some given _ _
    (λ s is. subst (λ (k : Kind). AreSlicesOf rules k x (value s)) is.1
    (subst (λ (o : Option A). IfSome o (λ y. AreSlicesOf rules (made_beside stays) x (value y))) is.0 made)) of

-- a search through the table is one through the trajectories
module _ (shot : Shot) (mine : Sliced) (rules : Rules) (rules_is : rules ≡ shot.setup.rules) (table : List (Option Sliced))
    (holds : HoldsSlices shot.setup.rules shot.slots table) where
  on_table : (page : ℕ) (marks : MarkedParts) → MeetOnlyMarkedOn shot mine page marks → MeetOnlyMarked (record { rules = rules; sliced = mine }) table page marks
  on_table page marks of place within theirs k there meet =
      of place within theirs k (sym (holds.held (item_at page place)) ∙ there) (subst (λ (r : Rules). MeetAt r mine theirs k) rules_is meet)

  off_table : (page : ℕ) (marks : MarkedParts) → MeetOnlyMarked (record { rules = rules; sliced = mine }) table page marks → MeetOnlyMarkedOn shot mine page marks
  off_table page marks of place within theirs k there meet =
      of place within theirs k (holds.held (item_at page place) ∙ there) (subst (λ (r : Rules). MeetAt r mine theirs k) (sym rules_is) meet)

  pub to_table : (search : Search) → IsSearchedIn shot mine search → IsSearched (record { rules = rules; sliced = mine }) table search
  to_table search of = if_some search.block _ _
      (λ block marks. (on_table (2 * block) search.even marks.0, on_table (2 * block + 1) search.odd marks.1)) of

  pub from_table : (search : Search) → IsSearched (record { rules = rules; sliced = mine }) table search → IsSearchedIn shot mine search
  from_table search of = if_some search.block _ _
      (λ block marks. (off_table (2 * block) search.even marks.0, off_table (2 * block + 1) search.odd marks.1)) of
