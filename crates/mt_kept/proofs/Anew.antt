-- A list of conflicts made anew, conflict by conflict of the shown ones.
use Rattle.std.proofs.Common.{◌≡◌, ℕ, ◌+◌, ◌<◌, ◌⊎◌, inl, inr, ⊎_elim, ◌↔◌, true, List, [], ◌∷◌, ◌++◌, length, take, get_or, Contains, subst, arith}
use Rattle.std.specs.List.{filter}
use Rattle.std.specs.List.Sorted.{IsStrictlySortedBy}
use Rattle.std.proofs.lemmas.List.Elements.{Contains-append_cases, Contains-append_left, Contains-append_right, Contains-push, Contains-push_cases}
use Rattle.mt_base.specs.declared.conflict.Conflict.{Conflict}
use Rattle.mt_base.specs.Picture.{conflict_cmp}
use Rattle.mt_base.proofs.ConflictOrder.{total}
use Rattle.mt_base.proofs.Members.{Contains-cases, Contains-filter, Contains-none, distinct_append, take_push}
use Rattle.mt_kept.specs.declared.stale.Stale.{Stale}
use Rattle.mt_kept.specs.Private.Stale.{stays}
use Rattle.mt_kept.specs.Private.Merging.{AreMerging, AreOthersAdded, ComesBefore, IsParted, Rise}
use Rattle.mt_kept.proofs.InOrder.{not_before}
use Rattle.mt_kept.proofs.Leaving.{before_is_other, behind_is_other}
use Rattle.mt_kept.proofs.Merged.{next_ahead, rise_of, this_ahead}

-- before the first of the shown ones
pub merging_none : (list hidden shown : List Conflict) → IsStrictlySortedBy conflict_cmp list → IsStrictlySortedBy conflict_cmp hidden
    → AreMerging list hidden shown 0 [] list hidden
merging_none list hidden shown sorted hidden_sorted = record {
  rise = λ i j d before below. absurd (omega (arith, below));
  rest_rise = rise_of list sorted;
  gone_rise = rise_of hidden hidden_sorted;
  before = λ x y held there. absurd (Contains-none x held);
  ahead = λ x y held there. absurd (Contains-none x held);
  exact = λ c. (
    (λ either. ⊎_elim (λ held. absurd (Contains-none c held)) (λ held. inl held) either),
    (λ either. ⊎_elim (λ held. inr held) (λ held. absurd (Contains-none c held)) either),
  );
}

-- two conflicts don't each come before the other
not_both : (x y : Conflict) → ComesBefore x y → ¬ ComesBefore y x
not_both x y first second = not_before x (total.trans x y x first second)

-- one more of the shown ones
module _ (list hidden shown merged rest gone before after first later mid : List Conflict) (n : ℕ) (x : Conflict) (rise : Rise shown) (inside : n < length shown)
    (is : x ≡ get_or shown n x) (so_far : AreMerging list hidden shown n merged rest gone) (parted : IsParted x rest before after)
    (apart : IsParted x gone first later) (come : AreOthersAdded before first merged mid) where
  split : (c : Conflict) → Contains mid c → Contains merged c ⊎ Contains come.added c
  split c held = Contains-append_cases merged come.added c (rw come.is at held)

  old_held : (c : Conflict) → Contains merged c → Contains (mid ++ x ∷ []) c
  old_held c held = rw come.is (Contains-append_left (merged ++ come.added) (x ∷ []) c (Contains-append_left merged come.added c held))

  fresh_held : (c : Conflict) → Contains come.added c → Contains (mid ++ x ∷ []) c
  fresh_held c held = rw come.is (Contains-append_left (merged ++ come.added) (x ∷ []) c (Contains-append_right merged come.added c held))

  this_held : (c : Conflict) → x ≡ c → Contains (mid ++ x ∷ []) c
  this_held c same = subst (Contains (mid ++ x ∷ [])) same (Contains-push mid x)

  -- those that were added are of the rest, come before this one, and aren't hidden
  fresh_first : (c : Conflict) → Contains come.added c → ComesBefore c x
  fresh_first c held = parted.first c ((come.exact c).0 held).0

  fresh_rest : (c : Conflict) → Contains come.added c → Contains rest c
  fresh_rest c held = parted.parts c (inl ((come.exact c).0 held).0)

  fresh_stays : (c : Conflict) → Contains come.added c → ¬ Contains gone c
  fresh_stays c held hid = ⊎_elim
      (λ low. ((come.exact c).0 held).1 low)
      (λ other. ⊎_elim
      (λ same. behind_is_other c x (fresh_first c held) same)
      (λ high. not_both c x (fresh_first c held) (apart.second c high)) other)
      (apart.whole c hid)

  after_stays : (c : Conflict) → Contains after c → ¬ Contains later c → ¬ Contains gone c
  after_stays c held away hid = ⊎_elim
      (λ low. not_both c x (apart.first c low) (parted.second c held))
      (λ other. ⊎_elim (λ same. before_is_other x c (parted.second c held) same) away other)
      (apart.whole c hid)

  under : (c : Conflict) → Contains mid c → ComesBefore c x
  under c held = ⊎_elim (λ old. so_far.ahead c x old (this_ahead shown n x inside is)) (λ fresh. fresh_first c fresh) (split c held)

  one : (c : Conflict) → Contains (x ∷ []) c → x ≡ c
  one c held = ⊎_elim (λ same. same) (λ none. absurd (Contains-none c none)) (Contains-cases x [] c held)

  more : take (n + 1) shown ≡ take n shown ++ x ∷ []
  more = take_push shown n x inside is

  this : (c : Conflict) → x ≡ c → Contains (take (n + 1) shown) c
  this c same = rw more (subst (Contains (take n shown ++ x ∷ [])) same (Contains-push (take n shown) x))

  known : (c : Conflict) → Contains merged c ⊎ (Contains rest c × (¬ Contains gone c))
      → (Contains list c × (¬ Contains hidden c)) ⊎ Contains (take (n + 1) shown) c
  known c held = ⊎_elim (λ old. inl old) (λ old. inr (rw more (Contains-append_left (take n shown) (x ∷ []) c old))) ((so_far.exact c).0 held)

  placed : (c : Conflict) → Contains merged c ⊎ (Contains rest c × (¬ Contains gone c))
      → Contains (mid ++ x ∷ []) c ⊎ (Contains after c × (¬ Contains later c))
  placed c either = ⊎_elim
      (λ old. inl (old_held c old))
      (λ h. ⊎_elim
      (λ low. inl (fresh_held c ((come.exact c).1 (low, (λ hid. h.1 (apart.parts c (inl hid)))))))
      (λ other. ⊎_elim (λ same. inl (this_held c same)) (λ high. inr (high, (λ hid. h.1 (apart.parts c (inr hid))))) other)
      (parted.whole c h.0)) either

  pub merging_more : AreMerging list hidden shown (n + 1) (mid ++ x ∷ []) after later
  merging_more = record {
    rise = distinct_append ComesBefore mid (x ∷ [])
        (rw come.is (distinct_append ComesBefore merged come.added so_far.rise come.rise (λ a b held there. so_far.before a b held (fresh_rest b there))))
        (λ i j d low below. absurd (omega (arith, low, below)))
        (λ a b held there. subst (ComesBefore a) (one b there) (under a held));
    rest_rise = parted.after_rise;
    gone_rise = apart.after_rise;
    before = λ a b held there. ⊎_elim
        (λ early. ⊎_elim
        (λ old. so_far.before a b old (parted.parts b (inr there)))
        (λ fresh. parted.across a b ((come.exact a).0 fresh).0 there) (split a early))
        (λ same. subst (λ y. ComesBefore y b) same (parted.second b there)) (Contains-push_cases mid x a held);
    ahead = λ a b held there.
        let next = next_ahead shown n x b rise is there in
        ⊎_elim
        (λ early. ⊎_elim
        (λ old. so_far.ahead a b old next.0)
        (λ fresh. total.trans a x b (fresh_first a fresh) next.1) (split a early))
        (λ same. subst (λ y. ComesBefore y b) same next.1) (Contains-push_cases mid x a held);
    exact = λ c. (
      (λ either. ⊎_elim
          (λ held. ⊎_elim
          (λ early. ⊎_elim (λ old. known c (inl old)) (λ fresh. known c (inr (fresh_rest c fresh, fresh_stays c fresh))) (split c early))
          (λ same. inr (this c same)) (Contains-push_cases mid x c held))
          (λ h. known c (inr (parted.parts c (inr h.0), after_stays c h.0 h.1))) either),
      (λ either. ⊎_elim
          (λ held. placed c ((so_far.exact c).1 (inl held)))
          (λ held. ⊎_elim (λ old. placed c ((so_far.exact c).1 (inr old))) (λ same. inl (this_held c same))
          (Contains-push_cases (take n shown) x c (rw more at held))) either),
    );
  }

-- after the last of the shown ones, with the rest of the list
pub merged_all : (list hidden shown merged rest gone new : List Conflict) (n : ℕ) → take n shown ≡ shown → AreMerging list hidden shown n merged rest gone
    → AreOthersAdded rest gone merged new
    → Rise new × ((c : Conflict) → Contains new c ↔ ((Contains list c × (¬ Contains hidden c)) ⊎ Contains shown c))
merged_all list hidden shown merged rest gone new n all m come = (
  rw come.is (distinct_append ComesBefore merged come.added m.rise come.rise (λ a b held there. m.before a b held ((come.exact b).0 there).0)),
  (λ c. (
    (λ held. (rw all at (m.exact c)).0 (⊎_elim (λ old. inl old) (λ fresh. inr ((come.exact c).0 fresh))
        (Contains-append_cases merged come.added c (rw come.is at held)))),
    (λ either. rw come.is (⊎_elim
        (λ old. Contains-append_left merged come.added c old)
        (λ h. Contains-append_right merged come.added c ((come.exact c).1 h)) ((rw all at (m.exact c)).1 either))),
  )),
)

-- the conflicts that stay, with those that come
pub renewed_list : (stale : Stale) (old kept come new : List Conflict) → kept ≡ filter (stays stale) old
    → ((c : Conflict) → Contains new c ↔ ((Contains kept c × (¬ Contains [] c)) ⊎ Contains come c))
    → (c : Conflict) → Contains new c ↔ ((Contains old c × (stays stale c ≡ true)) ⊎ Contains come c)
renewed_list stale old kept come new is exact c = (
  (λ held. ⊎_elim
      (λ h. inl ((Contains-filter (stays stale) old c).0 (rw is at h.0)))
      (λ some. inr some) ((exact c).0 held)),
  (λ either. (exact c).1 (⊎_elim
      (λ h. inl (rw is ((Contains-filter (stays stale) old c).1 h), Contains-none c))
      (λ some. inr some) either)),
)
