-- A check that passes and one that refuses; and the same checks, whatever stands for the answer.
use Rattle.std.proofs.Common.{◌≡◌, Bool, true, false, ℕ, List, [], ◌∷◌, ◌++◌, Option, Some, None, Result, Ok, Err, ◌∙◌, append_assoc, arith, refl, sym}
use Rattle.std.proofs.lemmas.Bool.Decides.{nat_tests}
use Rattle.std.specs.Option.{option_map_or}
use Rattle.std.specs.Prelude.{⊤, is_some, nat_le}
use Rattle.mt_base.specs.declared.command.Refusal.{Refusal}
use Rattle.mt_base.specs.declared.command.Refusal.TheVariants.{Fixed, Future}
use Rattle.mt_base.specs.declared.flight.Course.{Course}
use Rattle.mt_base.specs.declared.flight.Mark.{Mark}
use Rattle.mt_base.specs.declared.flight.Record.{Record}
use Rattle.mt_base.specs.Checks.{check_answer, judged, next}
use Rattle.mt_base.specs.WhatIf.{course_in, mark_in}
use Rattle.mt_base.proofs.CheckLemmas.{judged-answer, judged-append, next-ok}

pub check-true : {F : Type 0} (refusal : F) → check_answer (refusal, true) ≡ Ok (tt {0})
unfolding check_answer
check-true refusal = refl

pub check-false : {F : Type 0} (refusal : F) → check_answer (refusal, false) ≡ Err refusal
unfolding check_answer
check-false refusal = refl

refusal_of_next : {A F : Type 0} (r : Result ⊤ F) (x : A) (e : F) → Err e ≡ next r (Ok x) → Err e ≡ r
refusal_of_next (Ok _) x e is = cc
refusal_of_next (Err f) x e is = cc

pass_of_next : {A F : Type 0} (r : Result ⊤ F) (x y : A) → Ok y ≡ next r (Ok x) → Ok (tt {0}) ≡ r
pass_of_next (Ok _) x y is = refl
pass_of_next (Err f) x y is = cc

pub refused_alike : {A F : Type 0} (cs : List (F × Bool)) (x : A) (e : F) → Err e ≡ judged cs x → Err e ≡ judged cs (tt {0})
refused_alike cs x e is = refusal_of_next (judged cs (tt {0})) x e (is ∙ judged-answer cs x)

pub passed_alike : {A F : Type 0} (cs : List (F × Bool)) (x y : A) → Ok y ≡ judged cs x → Ok (tt {0}) ≡ judged cs (tt {0})
passed_alike cs x y is = pass_of_next (judged cs (tt {0})) x y (is ∙ judged-answer cs x)

-- a flight that is planned, or has a tentative clearance, is there
pub planned_is_there : (flight : Option Record) (course : Course) → course_in flight ≡ Some course → is_some flight ≡ true
planned_is_there None course is = cc
planned_is_there (Some flight) course is = refl

pub marked_is_there : (flight : Option Record) (mark : Mark) → mark_in flight ≡ Some mark → is_some flight ≡ true
marked_is_there None mark is = cc
marked_is_there (Some flight) mark is = refl

-- what the first two checks refuse, no further check is made of
pub refused_early : {F : Type 0} (r s rest : Result ⊤ F) (e : F) → next r (next s (Ok (tt {0}))) ≡ Err e → Err e ≡ next r (next s rest)
refused_early (Err f) s rest e is = sym is
refused_early (Ok _) (Err f) rest e is = sym is
refused_early (Ok _) (Ok _) rest e is = cc

-- no second is above itself
pub never_future : (cs : List (Refusal × Bool)) (eff : ℕ) → judged (cs ++ (Future, nat_le eff eff) ∷ []) (tt {0}) ≡ judged cs (tt {0})
never_future cs eff =
    let same : nat_le eff eff ≡ true = grind (arith, nat_tests) in
    judged-append cs ((Future, nat_le eff eff) ∷ []) (tt {0}) ∙ (rw (same, check-true Future) (next-ok (judged cs (tt {0}))))

-- checks that are made where two checks and those after them are passed
pub by_parts : {F : Type 0} (r s t rest : Result ⊤ F) → next r (next s (next t rest)) ≡ next (next r (next s t)) rest
by_parts (Err e) s t rest = refl
by_parts (Ok _) (Err e) t rest = refl
by_parts (Ok _) (Ok _) t rest = refl

-- what is checked of a clearance, the moment apart: the moment and what stands after it are checked where that is passed
pub moment_last : (there : Refusal × Bool) (course : Option Course) (f : Course → List (Refusal × Bool)) (moment : Refusal × Bool) (rest : List (Refusal × Bool))
    → judged ((there ∷ (Fixed, is_some course) ∷ option_map_or (λ course. f course ++ moment ∷ []) course []) ++ rest) (tt {0})
    ≡ next (judged (there ∷ (Fixed, is_some course) ∷ option_map_or f course []) (tt {0})) (judged (moment ∷ rest) (tt {0}))
moment_last there None f moment rest = rw (check-false Fixed) (refused_second (check_answer there)) where
  refused_second : (r : Result ⊤ Refusal) → next r (Err Fixed) ≡ next (next r (Err Fixed)) (judged (moment ∷ rest) (tt {0}))
  refused_second (Err e) = refl
  refused_second (Ok _) = refl
moment_last there (Some course) f moment rest =
    rw (append_assoc (f course) (moment ∷ []) rest, judged-append (f course) (moment ∷ rest) (tt {0}))
    (by_parts (check_answer there) (check_answer (Fixed, true)) (judged (f course) (tt {0})) (judged (moment ∷ rest) (tt {0})))
