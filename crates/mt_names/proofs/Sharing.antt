-- Rows that are shared: copies of their table, and what stands in it once a row is replaced.
use Rattle.std.proofs.Common.{◌≡◌, ◌⊎◌, inl, inr, true, ℕ, zero, suc, ◌+◌, ◌<◌, ◌↔◌, List, [], ◌∷◌, Contains, length, get_or, set, nat_eq, nat_lt, Option, refl, sym, ◌∙◌, ap, subst, arith}
use Rattle.std.specs.Arc.{arc_value}
use Rattle.std.specs.List.{AllZip, AllClonesOf}
use Rattle.std.specs.declared.sync.Arc.{Arc}
use Rattle.std.proofs.lemmas.Bool.Decides.{nat_tests}
use Rattle.std.proofs.lemmas.List.{length-map, map-set, get_or-map}
use Rattle.mt_names.specs.declared.names.Named.{Named}
use Rattle.mt_names.specs.Naming.{IsPlaceOf}
use Rattle.mt_names.specs.Private.Naming.{IsOtherName}
use Rattle.mt_names.specs.Private.Rows.{AreOwnRows, AreSameRows, callsigns, one_list, row_of}
use Rattle.mt_names.proofs.Rows.{found, with_listed, with_own, without_listed, without_own}

module _ {Z : Type 0} where
  -- a table and its copy
  pub copied : (rows copies : List (Arc (List Named) Z)) → AllZip (λ x y. arc_value y ≡ arc_value x) rows copies → callsigns copies ≡ callsigns rows
  copied [] [] zip = refl
  copied [] (y ∷ ys) zip = absurd zip
  copied (x ∷ xs) [] zip = absurd zip
  copied (x ∷ xs) (y ∷ ys) zip = ap (λ (r : List Named). r ∷ callsigns ys) zip.0 ∙ ap (λ (rs : List (List Named)). arc_value x ∷ rs) (copied xs ys zip.1)

  -- a table of empty rows
  pub none_in : (row : Arc (List Named) Z) → arc_value row ≡ [] → (rows : List (Arc (List Named) Z)) → AllClonesOf (λ x y. arc_value y ≡ arc_value x) row rows
      → (i : ℕ) → get_or (callsigns rows) i [] ≡ []
  none_in row empty [] all i = refl
  none_in row empty (x ∷ xs) all zero = elim all.0 [ inl e ↦ ap arc_value e ∙ empty | inr copy ↦ copy ∙ empty ]
  none_in row empty (x ∷ xs) all (suc i) = none_in row empty xs all.1 i

  pub no_rows : (rows : List (Arc (List Named) Z)) → nat_eq (length rows) 0 ≡ true → (i : ℕ) → get_or (callsigns rows) i [] ≡ []
  no_rows [] none i = refl
  no_rows (x ∷ xs) none i = absurd (let e : length xs + 1 ≡ 0 = grind (arith, nat_tests) in omega (arith, e))

  -- the row at a place, read
  pub row_at : (rows : List (Arc (List Named) Z)) (place : ℕ) (row : Arc (List Named) Z) → place < length rows → row ≡ get_or rows place row
      → get_or (callsigns rows) place [] ≡ arc_value row
  row_at rows place row inside is = get_or-map arc_value rows place row [] inside ∙ ap arc_value (sym is)

  -- the place found in the row of a callsign
  pub found_at : (rows items : List (Arc (List Named) Z)) (call : List ℕ) (place : ℕ) (shared : Arc (List Named) Z) (row : List Named) → AreOwnRows (callsigns rows)
      → items ≡ rows → place ≡ row_of call → true ≡ nat_lt place (length items) → shared ≡ get_or items place shared → row ≡ arc_value shared
      → (slot : Option ℕ) → IsPlaceOf row call slot → IsPlaceOf (one_list (callsigns rows)) call slot
  found_at rows items call place shared row are same at test shared_is row_is slot held =
      let inside : place < length items = grind (arith, nat_tests) in
      let is = ap (λ (xs : List (Arc (List Named) Z)). get_or (callsigns xs) (row_of call) []) (sym same)
      ∙ ap (λ (k : ℕ). get_or (callsigns items) k []) (sym at) ∙ row_at items place shared inside shared_is ∙ sym row_is in
      found (callsigns rows) are call row is slot held

  -- one row in the stead of another
  module _ (rows after : List (Arc (List Named) Z)) (call : List ℕ) (place : ℕ) (old new : Arc (List Named) Z) (was row : List Named)
      (are : AreOwnRows (callsigns rows)) (same : AreSameRows (callsigns rows) (callsigns after)) (many : length after ≡ 32) (at : place ≡ row_of call)
      (below : place < 32) (old_is : old ≡ get_or after place old) (was_is : was ≡ arc_value old) (new_is : arc_value new ≡ row) where
    long : length (callsigns after) ≡ 32
    long = length-map after arc_value ∙ many

    inside : row_of call < 32
    inside = subst (λ (k : ℕ). k < 32) at below

    was_row : was ≡ get_or (callsigns rows) (row_of call) []
    was_row = was_is ∙ sym (row_at after place old (omega (arith, many, below)) old_is) ∙ ap (λ (k : ℕ). get_or (callsigns after) k []) at ∙ same (row_of call)

    table_is : set (callsigns after) (row_of call) row ≡ callsigns (set after place new)
    table_is = sym (map-set arc_value after place new ∙ ap (λ (k : ℕ). set (callsigns after) k (arc_value new)) at ∙ ap (set (callsigns after) (row_of call)) new_is)

    module _ (members : (n : Named) → Contains row n ↔ IsOtherName was call n) where
      in_row : (n : Named) → Contains row n ↔ IsOtherName (get_or (callsigns rows) (row_of call) []) call n
      in_row = subst (λ (w : List Named). (n : Named) → Contains row n ↔ IsOtherName w call n) was_row members

      pub taken_own : AreOwnRows (callsigns (set after place new))
      taken_own = subst AreOwnRows table_is (without_own (callsigns rows) (callsigns after) call row are same long inside in_row)

      pub taken_listed : (list : List Named) → one_list (callsigns rows) ≡ list → (n : Named) → Contains (one_list (callsigns (set after place new))) n ↔ IsOtherName list call n
      taken_listed list is = subst (λ (xs : List Named). (n : Named) → Contains (one_list (callsigns (set after place new))) n ↔ IsOtherName xs call n) is
          (subst (λ (rs : List (List Named)). (n : Named) → Contains (one_list rs) n ↔ IsOtherName (one_list (callsigns rows)) call n) table_is
          (without_listed (callsigns rows) (callsigns after) call row are same long inside in_row))

    module _ (slot : ℕ) (members : (n : Named) → Contains row n ↔ ((n ≡ record { call = call; slot = slot }) ⊎ IsOtherName was call n)) where
      in_row_too : (n : Named) → Contains row n ↔ ((n ≡ record { call = call; slot = slot }) ⊎ IsOtherName (get_or (callsigns rows) (row_of call) []) call n)
      in_row_too = subst (λ (w : List Named). (n : Named) → Contains row n ↔ ((n ≡ record { call = call; slot = slot }) ⊎ IsOtherName w call n)) was_row members

      pub put_own : AreOwnRows (callsigns (set after place new))
      put_own = subst AreOwnRows table_is (with_own (callsigns rows) (callsigns after) call row are same long inside slot in_row_too)

      pub put_listed : (list : List Named) → one_list (callsigns rows) ≡ list → (n : Named) → Contains (one_list (callsigns (set after place new))) n
          ↔ ((n ≡ record { call = call; slot = slot }) ⊎ IsOtherName list call n)
      put_listed list is = subst (λ (xs : List Named). (n : Named) → Contains (one_list (callsigns (set after place new))) n ↔ ((n ≡ record { call = call; slot = slot }) ⊎ IsOtherName xs call n)) is
          (subst (λ (rs : List (List Named)). (n : Named) → Contains (one_list rs) n ↔ ((n ≡ record { call = call; slot = slot }) ⊎ IsOtherName (one_list (callsigns rows)) call n)) table_is
          (with_listed (callsigns rows) (callsigns after) call row are same long inside slot in_row_too))
