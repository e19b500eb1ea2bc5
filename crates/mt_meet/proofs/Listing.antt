-- The items that meet some slices, item by item.
use Rattle.std.proofs.Common.{◌≡◌, ◌≤◌, ◌<◌, ◌+◌, ◌-◌, ℕ, List, [], ◌∷◌, ◌++◌, Option, Some, None, Contains, length, get_or, ⊎_elim, refl, sym, subst, arith}
use Rattle.std.specs.List.{All, AllPairs}
use Rattle.std.proofs.lemmas.Bool.{cases_lt}
use Rattle.std.proofs.lemmas.List.Elements.{All-push, Contains-append_left, Contains-push, Contains-push_cases}
use Rattle.std.proofs.lemmas.List.Quantifiers.{all_pairs_push}
use Rattle.mt_base.specs.declared.rules.Rules.{Rules}
use Rattle.mt_cover.specs.Sliced.{Sliced}
use Rattle.mt_meet.specs.declared.table.Met.{Met}
use Rattle.mt_meet.specs.Meeting.{AreMet, IsFirstMet, IsItemListed, IsMetAt, IsMetIn, MeetAt, MeetNone}
use Rattle.mt_meet.proofs.Meetings.{within}

-- those of the first n items
pub record AreMetBefore (rules : Rules) (mine : Sliced) (table : List (Option Sliced)) (n : ℕ) (list : List Met) : Type 0 where
  pub rising : AllPairs (λ (m n : Met). m.item < n.item) list
  pub before : All (λ (m : Met). m.item < n) list
  pub exact : (met : Met) → Contains list met → IsMetIn rules mine table met
  pub complete : (item : ℕ) (theirs : Sliced) (k : ℕ) → item < n → get_or table item None ≡ Some theirs → MeetAt rules mine theirs k → IsItemListed list item

module _ (rules : Rules) (mine : Sliced) (table : List (Option Sliced)) where
  pub none_before : AreMetBefore rules mine table 0 []
  none_before = record {
    rising = λ i j d before below. absurd (omega arith);
    before = λ k d below. absurd (omega arith);
    exact = λ met held. absurd (omega (arith, held.1));
    complete = λ item theirs k below. absurd (omega (arith, below));
  }

  -- further on, where none of the items between meets them
  pub none_more : (n m : ℕ) (list : List Met) → n ≤ m → MeetNone rules mine table n m → AreMetBefore rules mine table n list → AreMetBefore rules mine table m list
  none_more n m list on none so_far = record {
    rising = so_far.rising;
    before = λ k d below. let h = so_far.before k d below in omega (arith, h, on);
    exact = so_far.exact;
    complete = λ item theirs k below there meet. ⊎_elim
        (λ early. so_far.complete item theirs k early there meet)
        (λ late. absurd (none item late below theirs k there meet))
        (cases_lt item n);
  }

  pub one_more : (n : ℕ) (list : List Met) (met : Met) → IsMetAt rules mine table n (Some met) → AreMetBefore rules mine table n list
      → AreMetBefore rules mine table (n + 1) (list ++ met ∷ [])
  one_more n list met is so_far = record {
    rising = all_pairs_push (λ (m n : Met). m.item < n.item) list met so_far.rising (λ k d below. let h = so_far.before k d below in omega (arith, h, is.0));
    before = All-push (λ (m : Met). m.item < n + 1) list met (λ k d below. let h = so_far.before k d below in omega (arith, h)) (omega (arith, is.0));
    exact = λ one held. ⊎_elim (λ old. so_far.exact one old) (λ same. subst (IsMetIn rules mine table) same is.1) (Contains-push_cases list met one held);
    complete = λ item theirs k below there meet. ⊎_elim
        (λ early. let it = so_far.complete item theirs k early there meet in
        record { met = it.met; held = Contains-append_left list (met ∷ []) it.met it.held; is = it.is })
        (λ late. record { met = met; held = Contains-push list met; is = omega (arith, is.0, late, below) })
        (cases_lt item n);
  }

  pub next_more : (n : ℕ) (list : List Met) (met : Met) → IsFirstMet rules mine table n met → AreMetBefore rules mine table n list
      → AreMetBefore rules mine table (met.item + 1) (list ++ met ∷ [])
  next_more n list met first so_far = one_more met.item list met (refl, first.is) (none_more n met.item list first.begun first.none_before so_far)

  pub all_before : (n : ℕ) (list : List Met) → MeetNone rules mine table n (length table) → AreMetBefore rules mine table n list → AreMet rules mine table list
  all_before n list none so_far = record {
    rising = so_far.rising;
    exact = so_far.exact;
    complete = λ item theirs k there meet. ⊎_elim
        (λ early. so_far.complete item theirs k early there meet)
        (λ late. absurd (none item late (within table item theirs there) theirs k there meet))
        (cases_lt item n);
  }

-- the first one that is met, over several pages
module _ (rules : Rules) (mine : Sliced) (table : List (Option Sliced)) where
  pub none_at : (from n : ℕ) → MeetNone rules mine table from n → IsMetAt rules mine table n None → MeetNone rules mine table from (n + 1)
  none_at from n before at = λ item late below. ⊎_elim
      (λ early. before item late early)
      (λ last. let same : item ≡ n = omega (arith, last, below) in subst (λ (i : ℕ). IsMetAt rules mine table i None) (sym same) at)
      (cases_lt item n)

  pub none_until : (from n m end : ℕ) → m ≤ n + (from - n) → MeetNone rules mine table from n → MeetNone rules mine table m end → MeetNone rules mine table from end
  none_until from n m end on before after = λ item late below. ⊎_elim
      (λ early. before item late early) (λ later. after item (omega (arith, on, late, later)) below) (cases_lt item n)

  pub first_at : (from n : ℕ) (met : Met) → from ≤ n → MeetNone rules mine table from n → IsMetAt rules mine table n (Some met) → IsFirstMet rules mine table from met
  first_at from n met on before is = record {
    begun = omega (arith, on, is.0);
    is = is.1;
    none_before = λ item late below. before item late (omega (arith, below, is.0));
  }

  -- from one item on, or from where a page begins if that is later
  pub first_after : (from n start : ℕ) (met : Met) → start ≡ n + (from - n) → MeetNone rules mine table from n → IsFirstMet rules mine table start met
      → IsFirstMet rules mine table from met
  first_after from n start met is before first = record {
    begun = omega (arith, is, first.begun);
    is = first.is;
    none_before = λ item late below. ⊎_elim
        (λ early. before item late early) (λ later. first.none_before item (omega (arith, is, late, later)) below) (cases_lt item n);
  }
