-- The conflicts of a list without those of another, conflict by conflict of the others.
use Rattle.std.proofs.Common.{◌≡◌, ℕ, ◌+◌, ◌<◌, ◌⊎◌, inl, inr, ⊎_elim, List, [], ◌∷◌, ◌++◌, length, take, get_or, Contains, subst, arith}
use Rattle.std.specs.List.Sorted.{IsStrictlySortedBy}
use Rattle.std.proofs.lemmas.List.Elements.{Contains-append_cases, Contains-append_left, Contains-append_right, Contains-push, Contains-push_cases}
use Rattle.mt_base.specs.declared.conflict.Conflict.{Conflict}
use Rattle.mt_base.specs.Picture.{conflict_cmp}
use Rattle.mt_base.proofs.ConflictOrder.{total}
use Rattle.mt_base.proofs.Members.{Contains-none, distinct_append, take_push}
use Rattle.mt_kept.specs.Private.Merging.{AreLeaving, AreOthersAdded, ComesBefore, IsParted, Rise}
use Rattle.mt_kept.proofs.InOrder.{not_before}
use Rattle.mt_kept.proofs.Merged.{next_ahead, rise_of, this_ahead}

-- one conflict that comes before another isn't that one
pub before_is_other : (x y : Conflict) → ComesBefore x y → ¬ (x ≡ y)
before_is_other x y less same = not_before y (subst (λ z. ComesBefore z y) same less)

pub behind_is_other : (x y : Conflict) → ComesBefore x y → ¬ (y ≡ x)
behind_is_other x y less same = not_before x (subst (ComesBefore x) same less)

-- before the first of the others
pub leaving_none : (list others : List Conflict) → IsStrictlySortedBy conflict_cmp list → AreLeaving list others 0 [] list
leaving_none list others sorted = record {
  rise = λ i j d before below. absurd (omega (arith, below));
  rest_rise = rise_of list sorted;
  before = λ x y held there. absurd (Contains-none x held);
  ahead = λ x y held there. absurd (Contains-none x held);
  exact = λ c. (
    (λ either. ⊎_elim (λ held. absurd (Contains-none c held)) (λ held. (held, Contains-none c)) either),
    (λ h. inr h.0),
  );
}

-- one more of the others
module _ (list others kept rest before after : List Conflict) (n : ℕ) (x : Conflict) (rise : Rise others) (inside : n < length others)
    (is : x ≡ get_or others n x) (so_far : AreLeaving list others n kept rest) (parted : IsParted x rest before after) where
  more : take (n + 1) others ≡ take n others ++ x ∷ []
  more = take_push others n x inside is

  this : (c : Conflict) → x ≡ c → Contains (take (n + 1) others) c
  this c same = rw more (subst (Contains (take n others ++ x ∷ [])) same (Contains-push (take n others) x))

  -- one that stays, and isn't this one
  stays : (c : Conflict) → Contains kept c ⊎ Contains rest c → ¬ (x ≡ c) → Contains list c × (¬ Contains (take (n + 1) others) c)
  stays c held other =
      let h = (so_far.exact c).0 held in
      (h.0, (λ gone. ⊎_elim h.1 other (Contains-push_cases (take n others) x c (rw more at gone))))

  -- one that is left out, or stays
  placed : (c : Conflict) → ¬ Contains (take (n + 1) others) c → Contains kept c ⊎ Contains rest c → Contains (kept ++ before) c ⊎ Contains after c
  placed c away either = ⊎_elim
      (λ old. inl (Contains-append_left kept before c old))
      (λ held. ⊎_elim
      (λ fresh. inl (Contains-append_right kept before c fresh))
      (λ other. ⊎_elim (λ same. absurd (away (this c same))) (λ later. inr later) other)
      (parted.whole c held)) either

  pub leaving_more : AreLeaving list others (n + 1) (kept ++ before) after
  leaving_more = record {
    rise = distinct_append ComesBefore kept before so_far.rise parted.before_rise (λ a b held there. so_far.before a b held (parted.parts b (inl there)));
    rest_rise = parted.after_rise;
    before = λ a b held there. ⊎_elim
        (λ old. so_far.before a b old (parted.parts b (inr there)))
        (λ fresh. parted.across a b fresh there) (Contains-append_cases kept before a held);
    ahead = λ a b held there.
        let next = next_ahead others n x b rise is there in
        ⊎_elim (λ old. so_far.ahead a b old next.0) (λ fresh. total.trans a x b (parted.first a fresh) next.1) (Contains-append_cases kept before a held);
    exact = λ c. (
      (λ either. ⊎_elim
          (λ held. ⊎_elim
          (λ old. stays c (inl old) (behind_is_other c x (so_far.ahead c x old (this_ahead others n x inside is))))
          (λ fresh. stays c (inr (parted.parts c (inl fresh))) (behind_is_other c x (parted.first c fresh)))
          (Contains-append_cases kept before c held))
          (λ held. stays c (inr (parted.parts c (inr held))) (before_is_other x c (parted.second c held))) either),
      (λ h. placed c h.1 ((so_far.exact c).1 (h.0, (λ gone. h.1 (rw more (Contains-append_left (take n others) (x ∷ []) c gone)))))),
    );
  }

-- after the last of the others, with the rest of the list
pub others_added : (list others kept rest old new : List Conflict) (n : ℕ) → take n others ≡ others → AreLeaving list others n kept rest
    → new ≡ old ++ (kept ++ rest) → AreOthersAdded list others old new
others_added list others kept rest old new n all m is = record {
  added = kept ++ rest;
  is = is;
  rise = distinct_append ComesBefore kept rest m.rise m.rest_rise m.before;
  exact = λ c. (
    (λ held. (rw all at (m.exact c)).0 (Contains-append_cases kept rest c held)),
    (λ h. ⊎_elim (λ old. Contains-append_left kept rest c old) (λ later. Contains-append_right kept rest c later) ((rw all at (m.exact c)).1 h)),
  );
}
