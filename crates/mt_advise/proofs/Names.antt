-- Names, each where it first stands.
use Rattle.std.proofs.Common.{◌≡◌, Bool, true, false, not, ◌||◌, ℕ, suc, ◌<◌, List, [], ◌∷◌, ◌++◌, map, take, length, refl, sym, ◌∙◌, ap, if◌then◌else◌, get_or}
use Rattle.std.proofs.Math.Seq.{take-suc}
use Rattle.std.proofs.lemmas.List.{append-nil, append_assoc, map-append}
use Rattle.std.proofs.lemmas.List.Elements.{filter-append}
use Rattle.std.specs.List.{filter, list_any}
use Rattle.std.specs.Str.{bytes_eq}
use Rattle.mt_base.specs.declared.clearance.Clearance.{Clearance}
use Rattle.mt_base.specs.declared.clearance.Clearance.TheVariants.{Direct}
use Rattle.mt_base.specs.Advice.{each_once}

-- with one name more
pub one_name : (ns : List (List ℕ)) (m : List ℕ)
    → each_once (ns ++ m ∷ []) ≡ (if list_any (λ k. bytes_eq k m) ns then each_once ns else each_once ns ++ m ∷ [])
one_name [] m = refl
one_name (n ∷ ns) m = by_test (bytes_eq n m) refl (list_any (λ k. bytes_eq k m) ns) (one_name ns m) where
  p : List ℕ → Bool
  p = λ k. not (bytes_eq n k)

  by_test : (e : Bool) → bytes_eq n m ≡ e → (b : Bool) → each_once (ns ++ m ∷ []) ≡ (if b then each_once ns else each_once ns ++ m ∷ [])
      → n ∷ filter p (each_once (ns ++ m ∷ [])) ≡ (if e || b then n ∷ filter p (each_once ns) else (n ∷ filter p (each_once ns)) ++ m ∷ [])
  by_test true e true is = rw is refl
  by_test false e true is = rw is refl
  by_test true e false is = ap (λ ks. n ∷ ks) (rw is (filter-append p (each_once ns) (m ∷ []) ∙ (rw e (append-nil (filter p (each_once ns))))))
  by_test false e false is = ap (λ ks. n ∷ ks) (rw is (filter-append p (each_once ns) (m ∷ []) ∙ rw e refl))

-- a turn of the loop over the names
pub name_more : (names : List (List ℕ)) (i : ℕ) (m : List ℕ) (old list new : List Clearance) → i < length names → m ≡ get_or names i m
    → list ≡ old ++ map Direct (each_once (take i names)) → (b : Bool) → b ≡ list_any (λ k. bytes_eq k m) (take i names)
    → new ≡ (if b then list else list ++ Direct m ∷ []) → new ≡ old ++ map Direct (each_once (take (suc i) names))
name_more names i m old list new below at is b held new_is =
    let snoc : take (suc i) names ≡ take i names ++ m ∷ [] = take-suc names i m below ∙ ap (λ (k : List ℕ). take i names ++ k ∷ []) (sym at) in
    new_is ∙ by_test b (one_name (take i names) m ∙ rw (← held) refl) ∙ ap (λ ns. old ++ map Direct (each_once ns)) (sym snoc) where
      by_test : (b : Bool) → each_once (take i names ++ m ∷ []) ≡ (if b then each_once (take i names) else each_once (take i names) ++ m ∷ [])
          → (if b then list else list ++ Direct m ∷ []) ≡ old ++ map Direct (each_once (take i names ++ m ∷ []))
      by_test true e = is ∙ rw e refl
      by_test false e = rw (is, e, map-append Direct (each_once (take i names)) (m ∷ [])) (append_assoc old (map Direct (each_once (take i names))) (Direct m ∷ []))
