use Rattle.std.proofs.Common.{Ok, Err, ◌≡◌, Bool, true, false, List, [], ◌∷◌, ◌++◌, map, Result, IsOk, refl, subst}
use Rattle.std.specs.List.{AllByRecursion}
use Rattle.std.specs.Prelude.{⊤}
use Rattle.mt_base.specs.Checks.{check_answer, next, judged}

one_passed : {A F : Type 0} (name : F) (test : Bool) (rest : Result A F) → IsOk (next (check_answer (name, test)) rest) → (test ≡ true) × IsOk rest
unfolding check_answer
one_passed name true rest ok = (refl, ok)
one_passed name false rest ok = cc

one_passes : {A F : Type 0} (name : F) (test : Bool) (rest : Result A F) → test ≡ true → IsOk rest → IsOk (next (check_answer (name, test)) rest)
unfolding check_answer
one_passes name true rest passes ok = ok
one_passes name false rest passes ok = cc

-- checks are passed exactly where each test holds
pub all_passed : {A F : Type 0} (cs : List (F × Bool)) (x : A) → IsOk (judged cs x) → AllByRecursion (λ c. c.1 ≡ true) cs
all_passed [] x ok = tt
all_passed (c ∷ cs) x ok = let p = one_passed c.0 c.1 (judged cs x) ok in (p.0, all_passed cs x p.1)

pub all_pass : {A F : Type 0} (cs : List (F × Bool)) (x : A) → AllByRecursion (λ c. c.1 ≡ true) cs → IsOk (judged cs x)
all_pass [] x pass = refl
all_pass (c ∷ cs) x pass = one_passes c.0 c.1 (judged cs x) pass.0 (all_pass cs x pass.1)

-- what was passed is the answer
pub answer_is : {A F : Type 0} (cs : List (F × Bool)) (x y : A) → judged cs x ≡ Ok y → x ≡ y
answer_is [] x y e = cc
answer_is {F = F} (c ∷ cs) x y e = answer_is cs x y (rest_is (check_answer c) e) where
  rest_is : (r : Result ⊤ F) → next r (judged cs x) ≡ Ok y → judged cs x ≡ Ok y
  rest_is (Ok _) e = e
  rest_is (Err f) e = cc

refused_at_front : {A F : Type 0} (P : F → Type 0) (name : F) (test : Bool) (rest : Result A F) (e : F) → P name → (rest ≡ Err e → P e)
    → next (check_answer (name, test)) rest ≡ Err e → P e
unfolding check_answer
refused_at_front P name true rest e has behind is = behind is
refused_at_front P name false rest e has behind is = let same : name ≡ e = cc in subst P same has

-- a refusal is that of a check, and so has what each of them has
pub refused_has : {A F : Type 0} (P : F → Type 0) (cs : List (F × Bool)) (x : A) (e : F) → AllByRecursion (λ c. P c.0) cs → judged cs x ≡ Err e → P e
refused_has P [] x e all is = cc
refused_has P (c ∷ cs) x e all is = refused_at_front P c.0 c.1 (judged cs x) e all.0 (refused_has P cs x e all.1) is

-- a last check
pub next-ok : {F : Type 0} (r : Result ⊤ F) → next r (Ok (tt {0})) ≡ r
next-ok (Ok _) = refl
next-ok (Err e) = refl

-- checks after others are made where those are passed
pub judged-append : {A F : Type 0} (cs ds : List (F × Bool)) (x : A) → judged (cs ++ ds) x ≡ next (judged cs (tt {0})) (judged ds x)
judged-append [] ds x = refl
judged-append {A = A} {F = F} (c ∷ cs) ds x = rw (judged-append cs ds x) (regroup (check_answer c)) where
  regroup : (r : Result ⊤ F) → next r (next (judged cs (tt {0})) (judged ds x)) ≡ next (next r (judged cs (tt {0}))) (judged ds x)
  regroup (Ok _) = refl
  regroup (Err e) = refl

-- the same answer with its refusal renamed
abbrev pub renamed : {A F G : Type 0} → (F → G) → Result A F → Result A G
renamed f (Ok x) = Ok x
renamed f (Err e) = Err (f e)

renamed_at_front : {A F G : Type 0} (f : F → G) (name : F) (test : Bool) (rest : Result A F)
    → next (check_answer (f name, test)) (renamed f rest) ≡ renamed f (next (check_answer (name, test)) rest)
unfolding check_answer
renamed_at_front f name true rest = refl
renamed_at_front f name false rest = refl

-- checks whose refusals are renamed
pub judged-map : {A F G : Type 0} (f : F → G) (cs : List (F × Bool)) (x : A) → judged (map (λ c. (f c.0, c.1)) cs) x ≡ renamed f (judged cs x)
judged-map f [] x = refl
judged-map f (c ∷ cs) x = rw (judged-map f cs x) (renamed_at_front f c.0 c.1 (judged cs x))

-- what is answered where all checks are passed, and where one is not, whatever stands for the answer
pub judged-answer : {A F : Type 0} (cs : List (F × Bool)) (x : A) → judged cs x ≡ next (judged cs (tt {0})) (Ok x)
judged-answer [] x = refl
judged-answer {A = A} {F = F} (c ∷ cs) x = rw (judged-answer cs x) (regroup (check_answer c)) where
  regroup : (r : Result ⊤ F) → next r (next (judged cs (tt {0})) (Ok x)) ≡ next (next r (judged cs (tt {0}))) (Ok x)
  regroup (Ok _) = refl
  regroup (Err e) = refl
