-- Callsigns in rows, as one list.
use Rattle.std.proofs.Common.{◌≡◌, ◌≢◌, ◌⊎◌, inl, inr, ⊎_elim, ℕ, zero, suc, ◌<◌, ◌↔◌, List, [], ◌∷◌, Option, Some, None, Contains, length, get_or, set, refl, sym, ◌∙◌, ap, subst, arith}
use Rattle.std.proofs.lemmas.List.{get_or-set_same, get_or-set_other, length-set}
use Rattle.std.proofs.lemmas.List.Elements.{Contains-append_left, Contains-append_right, Contains-append_cases}
use Rattle.mt_names.specs.declared.names.Named.{Named}
use Rattle.mt_names.specs.Naming.{IsPlaceOf}
use Rattle.mt_names.specs.Private.Naming.{IsOtherName}
use Rattle.mt_names.specs.Private.Rows.{AreOwnRows, AreSameRows, one_list, row_of}
use Rattle.mt_names.proofs.Placing.{decide}

-- ---- a callsign is listed exactly where it is in its row
in_list : (rows : List (List Named)) (i : ℕ) (n : Named) → Contains (get_or rows i []) n → Contains (one_list rows) n
in_list [] i n held = held
in_list (row ∷ rows) zero n held = Contains-append_left row (one_list rows) n held
in_list (row ∷ rows) (suc i) n held = Contains-append_right row (one_list rows) n (in_list rows i n held)

in_some : (rows : List (List Named)) (n : Named) → Contains (one_list rows) n → (i : ℕ) × Contains (get_or rows i []) n
in_some [] n held = (zero, held)
in_some (row ∷ rows) n held = ⊎_elim
    (λ here. (zero, here))
    (λ later. let it = in_some rows n later in (suc it.0, it.1))
    (Contains-append_cases row (one_list rows) n held)

module _ (rows : List (List Named)) (are : AreOwnRows rows) where
  in_own : (n : Named) (i : ℕ) → row_of n.call ≡ i → Contains (one_list rows) n → Contains (get_or rows i []) n
  in_own n i is held =
      let it = in_some rows n held in
      subst (λ (k : ℕ). Contains (get_or rows k []) n) (sym (are.own it.0 n it.1) ∙ is) it.1

  pub found : (call : List ℕ) (row : List Named) → get_or rows (row_of call) [] ≡ row → (place : Option ℕ) → IsPlaceOf row call place → IsPlaceOf (one_list rows) call place
  found call row is (Some slot) held =
      let n : Named = record { call = call; slot = slot } in
      in_list rows (row_of call) n (subst (λ (r : List Named). Contains r n) (sym is) held)
  found call row is None none = λ n held own.
      none n (subst (λ (r : List Named). Contains r n) is (in_own n (row_of call) (ap row_of own) held)) own

-- ---- what a row put in the stead of another leaves
module _ (rows after : List (List Named)) (call : List ℕ) (new : List Named) (are : AreOwnRows rows) (same : AreSameRows rows after)
    (many : length after ≡ 32) (inside : row_of call < 32) where
  abbrev place : ℕ
  place = row_of call

  there : (i : ℕ) → i ≡ place → get_or (set after place new) i [] ≡ new
  there i is = subst (λ (k : ℕ). get_or (set after place new) k [] ≡ new) (sym is) (get_or-set_same after place new [] (omega (arith, many, inside)))

  away : (i : ℕ) → i ≢ place → get_or (set after place new) i [] ≡ get_or rows i []
  away i other = get_or-set_other after place i new [] other ∙ same i

  own_rows : ((n : Named) → Contains new n → row_of n.call ≡ place) → AreOwnRows (set after place new)
  own_rows of_new = record {
    full = λ some. length-set after place new ∙ many;
    own = λ i n held. ⊎_elim
        (λ is. of_new n (subst (λ (r : List Named). Contains r n) (there i is) held) ∙ sym is)
        (λ other. are.own i n (subst (λ (r : List Named). Contains r n) (away i other) held))
        (decide i place);
  }

  -- one of another row is another
  other_row : (n : Named) → row_of n.call ≢ place → Contains (one_list rows) n → IsOtherName (one_list rows) call n
  other_row n other held = record { listed = held; other = λ own. other (ap row_of own) }

  in_new : (n : Named) → IsOtherName (get_or rows place []) call n → IsOtherName (one_list rows) call n
  in_new n it = record { listed = in_list rows place n it.listed; other = it.other }

  in_old : (n : Named) → row_of n.call ≡ place → IsOtherName (one_list rows) call n → IsOtherName (get_or rows place []) call n
  in_old n is it = record { listed = in_own rows are n place is it.listed; other = it.other }

  module _ (own : AreOwnRows (set after place new)) (n : Named) where
    held_here : row_of n.call ≡ place → Contains (one_list (set after place new)) n → Contains new n
    held_here is held = subst (λ (r : List Named). Contains r n) (there place refl) (in_own (set after place new) own n place is held)

    held_away : row_of n.call ≢ place → Contains (one_list (set after place new)) n → Contains (one_list rows) n
    held_away other held = in_list rows (row_of n.call) n (subst (λ (r : List Named). Contains r n) (away (row_of n.call) other)
        (in_own (set after place new) own n (row_of n.call) refl held))

    put_here : Contains new n → Contains (one_list (set after place new)) n
    put_here held = in_list (set after place new) place n (subst (λ (r : List Named). Contains r n) (sym (there place refl)) held)

    put_away : row_of n.call ≢ place → Contains (one_list rows) n → Contains (one_list (set after place new)) n
    put_away other held = in_list (set after place new) (row_of n.call) n (subst (λ (r : List Named). Contains r n) (sym (away (row_of n.call) other))
        (in_own rows are n (row_of n.call) refl held))

  -- without a callsign
  module _ (members : (n : Named) → Contains new n ↔ IsOtherName (get_or rows place []) call n) where
    pub without_own : AreOwnRows (set after place new)
    without_own = own_rows (λ n held. are.own place n ((members n).0 held).listed)

    pub without_listed : (n : Named) → Contains (one_list (set after place new)) n ↔ IsOtherName (one_list rows) call n
    without_listed n = (
      (λ held. ⊎_elim
          (λ is. in_new n ((members n).0 (held_here without_own n is held)))
          (λ other. other_row n other (held_away without_own n other held))
          (decide (row_of n.call) place)),
      (λ it. ⊎_elim
          (λ is. put_here without_own n ((members n).1 (in_old n is it)))
          (λ other. put_away without_own n other it.listed)
          (decide (row_of n.call) place)),
    )

  -- with a callsign at a place
  module _ (slot : ℕ) (members : (n : Named) → Contains new n ↔ ((n ≡ record { call = call; slot = slot }) ⊎ IsOtherName (get_or rows place []) call n)) where
    of_own : (n : Named) → n ≡ record { call = call; slot = slot } → row_of n.call ≡ place
    of_own n is = ap (λ (m : Named). row_of m.call) is

    pub with_own : AreOwnRows (set after place new)
    with_own = own_rows (λ n held. ⊎_elim (of_own n) (λ other. are.own place n other.listed) ((members n).0 held))

    pub with_listed : (n : Named) → Contains (one_list (set after place new)) n ↔ ((n ≡ record { call = call; slot = slot }) ⊎ IsOtherName (one_list rows) call n)
    with_listed n = (
      (λ held. ⊎_elim
          (λ is. ⊎_elim (λ own. inl own) (λ other. inr (in_new n other)) ((members n).0 (held_here with_own n is held)))
          (λ other. inr (other_row n other (held_away with_own n other held)))
          (decide (row_of n.call) place)),
      (λ it. ⊎_elim
          (λ own. put_here with_own n ((members n).1 (inl own)))
          (λ other. ⊎_elim
          (λ is. put_here with_own n ((members n).1 (inr (in_old n is other))))
          (λ away. put_away with_own n away other.listed)
          (decide (row_of n.call) place))
          it),
    )
