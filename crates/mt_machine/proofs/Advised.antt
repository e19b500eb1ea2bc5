-- An advice, one clearance more at a time.
use Rattle.std.proofs.Common.{◌≡◌, Bool, true, false, ℕ, ◌+◌, ◌<◌, ◌≤◌, List, [], ◌∷◌, ◌++◌, All, Ok, length, map, take, get_or, refl, sym, ◌∙◌, ap, if◌then◌else◌, arith}
use Rattle.std.proofs.lemmas.List.{append-nil, length-map, map-append, take_more}
use Rattle.std.proofs.lemmas.List.Elements.{All-from_recursion, All-push, filter-append, recursion_from_All}
use Rattle.std.specs.List.{AllByRecursion, filter}
use Rattle.mt_advise.specs.Trying.{CanBeTried}
use Rattle.mt_base.specs.declared.clearance.Clearance.{Clearance}
use Rattle.mt_base.specs.Advice.{IsAdvice, Tried, WasFound, candidates_in, free_of}
use Rattle.mt_base.specs.Picture.{State}
use Rattle.mt_base.specs.Tables.{Setup}
use Rattle.mt_base.proofs.FewAdvised.{few_filtered, few_in}
use Rattle.mt_machine.specs.Advising.{IsClearanceFree}
use Rattle.mt_machine.specs.Private.Advising.{AreCandidatesOrRefused, AreFreeAmong}

module _ (setup : Setup) (s : State) (call : List ℕ) where
  abbrev IsFound : Tried → Type 0
  IsFound t = WasFound setup s call t.clearance t.free

  abbrev Among : List Clearance → List Clearance → Type 0
  Among clearances free = AreFreeAmong setup s call clearances free

  -- one more that is tried
  one_more : (clearances free : List Clearance) (c : Clearance) (b : Bool) → Among clearances free → WasFound setup s call c b
      → Among (clearances ++ c ∷ []) (if b then free ++ c ∷ [] else free)
  one_more clearances free c b among found = record {
    tried = among.tried ++ one b ∷ [];
    all = map-append (λ (t : Tried). t.clearance) among.tried (one b ∷ []) ∙ ap (λ (cs : List Clearance). cs ++ c ∷ []) among.all;
    each = All-push IsFound among.tried (one b) among.each found;
    free_is = by_test b;
  } where
    one : Bool → Tried
    one b = record { clearance = c; free = b }

    behind : (b : Bool) → free_of (among.tried ++ one b ∷ []) ≡ free_of among.tried ++ free_of (one b ∷ [])
    behind b = ap (map (λ (t : Tried). t.clearance)) (filter-append (λ (t : Tried). t.free) among.tried (one b ∷ []))
        ∙ map-append (λ (t : Tried). t.clearance) (filter (λ (t : Tried). t.free) among.tried) (filter (λ (t : Tried). t.free) (one b ∷ []))

    by_test : (b : Bool) → (if b then free ++ c ∷ [] else free) ≡ free_of (among.tried ++ one b ∷ [])
    by_test true = rw (behind true, among.free_is) refl
    by_test false = rw (behind false, among.free_is) (sym (append-nil (free_of among.tried)))

  pub tried_more : (all free : List Clearance) (i : ℕ) (c : Clearance) (b : Bool) → i < length all → c ≡ get_or all i c → Among (take i all) free
      → WasFound setup s call c b → Among (take (i + 1) all) (if b then free ++ c ∷ [] else free)
  tried_more all free i c b below is among found =
      let more : take (i + 1) all ≡ take i all ++ c ∷ [] = take_more all i c below ∙ ap (λ (x : Clearance). take i all ++ x ∷ []) (sym is) in
      rw more (one_more (take i all) free c b among found)

  -- the advice
  pub advice_is : (tried free : List Clearance) → AreCandidatesOrRefused setup s call (Ok tried) → Among tried free → IsAdvice setup s call (Ok free)
  advice_is tried free asked among =
      (asked.0, record { tried = among.tried; all = among.all ∙ asked.1; each = among.each; free = among.free_is })

  free_each : (ts : List Tried) → AllByRecursion IsFound ts → AllByRecursion (CanBeTried setup s call) (map (λ (t : Tried). t.clearance) ts)
      → AllByRecursion (IsClearanceFree setup s call) (free_of ts)
  free_each [] found can = tt
  free_each (t ∷ ts) found can = by_test t.free found.0 (free_each ts found.1 can.1) where
    by_test : (b : Bool) → WasFound setup s call t.clearance b → AllByRecursion (IsClearanceFree setup s call) (free_of ts)
        → AllByRecursion (IsClearanceFree setup s call) (map (λ (u : Tried). u.clearance) (if b then t ∷ filter (λ u. u.free) ts else filter (λ u. u.free) ts))
    by_test true follows rest = (record { bounded = can.0.bounded; follows = follows }, rest)
    by_test false found rest = rest

  pub each_free : (tried free : List Clearance) → AreCandidatesOrRefused setup s call (Ok tried) → Among tried free → All (IsClearanceFree setup s call) free
  each_free tried free asked among = rw among.free_is (All-from_recursion (IsClearanceFree setup s call) (free_of among.tried)
      (free_each among.tried (recursion_from_All IsFound among.tried among.each)
      (rw among.all (recursion_from_All (CanBeTried setup s call) tried asked.2))))

  pub few_free : (tried free : List Clearance) → AreCandidatesOrRefused setup s call (Ok tried) → Among tried free → length free ≤ 16
  few_free tried free asked among =
      let kept = filter (λ (t : Tried). t.free) among.tried in
      let few = few_filtered (λ (t : Tried). t.free) among.tried in
      let sixteen = few_in setup s call in
      let all : length among.tried ≡ length (candidates_in setup s call) =
      sym (length-map among.tried (λ (t : Tried). t.clearance)) ∙ ap (λ (cs : List Clearance). length cs) (among.all ∙ asked.1) in
      rw (among.free_is, length-map kept (λ (t : Tried). t.clearance)) (omega (arith, few, sixteen, all))
