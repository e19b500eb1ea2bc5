-- The advice, from what was found of all candidates.
use Rattle.std.proofs.Common.{◌≡◌, ℕ, suc, ◌<◌, ◌≤◌, List, [], ◌∷◌, ◌++◌, Option, Some, None, Ok, Result, IfOk, length, map, refl, sym, ◌∙◌, ap, subst, arith, slice_index_or}
use Rattle.std.proofs.lemmas.List.{length-map, map-append}
use Rattle.std.proofs.lemmas.List.Elements.{All-from_recursion}
use Rattle.std.specs.List.{AllByRecursion}
use Rattle.std.specs.Prelude.{is_some, ⊤}
use Rattle.mt_memory.specs.declared.Memory.{Memory}
use Rattle.mt_base.specs.declared.clearance.Clearance.{Clearance}
use Rattle.mt_base.specs.declared.hit.Hit.{Hit}
use Rattle.mt_base.specs.Advice.{AreAdvised, WasFound, candidates_in, free_of}
use Rattle.mt_base.specs.Advice.{Tried as TriedClearance}
use Rattle.mt_base.specs.WhatIf.{IsWhatIf}
use Rattle.mt_base.proofs.FewAdvised.{few_in}
use Rattle.mt_board.specs.Probing.{free_probe}
use Rattle.mt_probe.specs.Hits.{IsFreeOrConflicting, Trial, told_of}
use Rattle.mt_probe.specs.Shot.{Shot, state_in_shot}
use Rattle.mt_snapshot.specs.Advised.{IsAdvisedOn, IsFreeFor}
use Rattle.mt_snapshot.specs.Private.Trying.{AreAdviceCandidates, AreFreeOf, free_among}

abbrev tries_of : List (Option Trial) → List (Result (Option Trial) Memory)
tries_of found = map Ok found

abbrev clearances_of : List Trial → List Clearance
clearances_of ps = map (λ (p : Trial). p.clearance) ps

-- some clearances, each with what was found of it, as the advice speaks of them
abbrev tried_by : List Clearance → List (Option Trial) → List TriedClearance
tried_by [] found = []
tried_by (c ∷ cs) [] = []
tried_by (c ∷ cs) (f ∷ found) = record { clearance = c; free = is_some f } ∷ tried_by cs found

few_probes : (found : List (Option Trial)) → length (free_among found) ≤ length found
few_probes [] = omega arith
few_probes (None ∷ found) = let rest = few_probes found in omega (arith, rest)
few_probes (Some p ∷ found) = let rest = few_probes found in omega (arith, rest)

module _ (shot : Shot) (call : List ℕ) where
  -- what was found of some clearances, one for each
  abbrev AreFoundOf : List Clearance → List (Option Trial) → Type 0
  AreFoundOf [] [] = ⊤
  AreFoundOf [] (f ∷ found) = ⊥
  AreFoundOf (c ∷ cs) [] = ⊥
  AreFoundOf (c ∷ cs) (f ∷ found) = IsFreeOrConflicting shot call c None f × AreFoundOf cs found

  found_of : (cs : List Clearance) (found : List (Option Trial)) → length (tries_of found) ≡ length cs
      → ((i : ℕ) (t : Result (Option Trial) Memory) (d : Clearance) → i < length cs
      → IfOk (slice_index_or (tries_of found) i t) (IsFreeOrConflicting shot call (slice_index_or cs i d) None)) → AreFoundOf cs found
  found_of [] [] len each = tt
  found_of [] (f ∷ found) len each = absurd (omega (arith, len))
  found_of (c ∷ cs) [] len each = absurd (omega (arith, len))
  found_of (c ∷ cs) (f ∷ found) len each =
      (each 0 (Ok f) c (omega arith), found_of cs found (omega (arith, len)) (λ i t d below. each (suc i) t d (omega (arith, below))))

  -- what the advice says of them
  all_clearances : (cs : List Clearance) (found : List (Option Trial)) → AreFoundOf cs found
      → map (λ (t : TriedClearance). t.clearance) (tried_by cs found) ≡ cs
  all_clearances [] found are = refl
  all_clearances (c ∷ cs) [] are = absurd are
  all_clearances (c ∷ cs) (f ∷ found) are = ap (λ (ds : List Clearance). c ∷ ds) (all_clearances cs found are.1)

  was_found : (c : Clearance) (f : Option Trial) → IsFreeOrConflicting shot call c None f → WasFound shot.setup (state_in_shot shot) call c (is_some f)
  was_found c None conflicts = conflicts
  was_found c (Some p) free =
      subst (λ (hits : List Hit). IsWhatIf shot.setup (state_in_shot shot) call c None (Ok hits)) free.free free.probe.hits_are

  each_tried : (cs : List Clearance) (found : List (Option Trial)) → AreFoundOf cs found
      → AllByRecursion (λ (t : TriedClearance). WasFound shot.setup (state_in_shot shot) call t.clearance t.free) (tried_by cs found)
  each_tried [] found are = tt
  each_tried (c ∷ cs) [] are = absurd are
  each_tried (c ∷ cs) (f ∷ found) are = (was_found c f are.0, each_tried cs found are.1)

  free_clearances : (cs : List Clearance) (found : List (Option Trial)) → AreFoundOf cs found → clearances_of (free_among found) ≡ free_of (tried_by cs found)
  free_clearances [] [] are = refl
  free_clearances [] (f ∷ found) are = absurd are
  free_clearances (c ∷ cs) [] are = absurd are
  free_clearances (c ∷ cs) (None ∷ found) are = free_clearances cs found are.1
  free_clearances (c ∷ cs) (Some p ∷ found) are = rw (are.0.probe.clearance_is, free_clearances cs found are.1) refl

  advised : (cs : List Clearance) (found : List (Option Trial)) → cs ≡ candidates_in shot.setup (state_in_shot shot) call → AreFoundOf cs found
      → AreAdvised shot.setup (state_in_shot shot) call (clearances_of (free_among found))
  advised cs found asked are = record {
    tried = tried_by cs found;
    all = all_clearances cs found are ∙ asked;
    each = All-from_recursion (λ (t : TriedClearance). WasFound shot.setup (state_in_shot shot) call t.clearance t.free) (tried_by cs found) (each_tried cs found are);
    free = free_clearances cs found are;
  }

  -- the free ones
  each_free : (cs : List Clearance) (found : List (Option Trial)) → AreFoundOf cs found → AllByRecursion (IsFreeFor shot call) (free_among found)
  each_free [] [] are = tt
  each_free [] (f ∷ found) are = absurd are
  each_free (c ∷ cs) [] are = absurd are
  each_free (c ∷ cs) (None ∷ found) are = each_free cs found are.1
  each_free (c ∷ cs) (Some p ∷ found) are =
      (subst (λ (x : Clearance). IsFreeOrConflicting shot call x None (Some p)) (sym are.0.probe.clearance_is) are.0, each_free cs found are.1)

  told_free : (p : Trial) → IsFreeFor shot call p → told_of p ≡ free_probe call shot.now shot.version p.clearance
  told_free p free = rw (free.probe.call_is, free.probe.eff_is, free.probe.shot_is, free.free) refl

  all_told : (ps : List Trial) → AllByRecursion (IsFreeFor shot call) ps → map told_of ps ≡ map (free_probe call shot.now shot.version) (clearances_of ps)
  all_told [] free = refl
  all_told (p ∷ ps) free = rw (told_free p free.0, all_told ps free.1) refl

  few_free : (cs : List Clearance) (found : List (Option Trial)) → cs ≡ candidates_in shot.setup (state_in_shot shot) call
      → length (tries_of found) ≡ length cs → length (free_among found) ≤ 16
  few_free cs found asked len =
      let all : length cs ≡ length (candidates_in shot.setup (state_in_shot shot) call) = ap (λ (ds : List Clearance). length ds) asked in
      let some = few_probes found in
      let sixteen = few_in shot.setup (state_in_shot shot) call in
      let tries : length (tries_of found) ≡ length found = length-map {B = Result (Option Trial) Memory} found Ok in
      omega (arith, all, some, sixteen, len, tries)

  -- the advice
  pub advised_on : (cs : List Clearance) (tries : List (Result (Option Trial) Memory)) (free : List Trial) → AreAdviceCandidates shot call cs → length tries ≡ length cs
      → ((i : ℕ) (t : Result (Option Trial) Memory) (d : Clearance) → i < length cs
      → IfOk (slice_index_or tries i t) (IsFreeOrConflicting shot call (slice_index_or cs i d) None))
      → AreFreeOf tries free → IsAdvisedOn shot call shot.now shot.version free
  advised_on cs tries free asked len each of = record {
    eff_is = refl;
    version_is = refl;
    clearances = clearances_of free;
    advice = (asked.passed, rw of.are (advised cs of.found asked.are are));
    told = all_told free all_free;
    each = All-from_recursion (IsFreeFor shot call) free all_free;
    few = rw of.are (few_free cs of.found asked.are (rw of.all at len));
  } where
    are : AreFoundOf cs of.found
    are = found_of cs of.found (rw of.all at len) (rw of.all at each)

    all_free : AllByRecursion (IsFreeFor shot call) free
    all_free = rw of.are (each_free cs of.found are)

free_more : (found : List (Option Trial)) (f : Option Trial) → free_among (found ++ f ∷ []) ≡ free_among found ++ free_among (f ∷ [])
free_more [] f = refl
free_more (None ∷ found) f = free_more found f
free_more (Some p ∷ found) f = ap (λ (ps : List Trial). p ∷ ps) (free_more found f)

-- one try more
pub one_try : (tries : List (Result (Option Trial) Memory)) (t : Result (Option Trial) Memory) (free new : List Trial) (f : Option Trial) → AreFreeOf tries free
    → t ≡ Ok f → new ≡ free ++ free_among (f ∷ []) → AreFreeOf (tries ++ t ∷ []) new
one_try tries t free new f of gives is = record {
  found = of.found ++ f ∷ [];
  all = rw (of.all, gives) (sym (map-append Ok of.found (f ∷ [])));
  are = rw (is, of.are) (sym (free_more of.found f));
}
