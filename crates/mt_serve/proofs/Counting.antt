-- Sessions counted, one by one.
use Rattle.std.proofs.Common.{◌≡◌, ◌≤◌, ◌+◌, Bool, true, false, cond, List, [], ◌∷◌, ◌++◌, length, filter, sym, subst, ap, ◌∙◌, arith}
use Rattle.mt_base.proofs.FewAdvised.{few_filtered}
use Rattle.mt_serve.specs.Sitting.{SessionRun}
use Rattle.mt_serve.specs.declared.counts.Counts.{Counts}
use Rattle.mt_base.specs.StrikeOut.{one_if}
use Rattle.mt_serve.specs.Summary.{counted, is_faulted, is_starved_session}
use Rattle.mt_serve.specs.Private.Summary.{with_outcome}
use Rattle.mt_serve.proofs.Accepts.{length_push}

length_cond : {A : Type 0} (b : Bool) (y : A) (xs : List A) → length (cond b (y ∷ xs) xs) ≡ length xs + one_if b
length_cond true y xs = omega arith
length_cond false y xs = omega arith

-- how many pass a test, with one more
filter_push : {A : Type 0} (test : A → Bool) (xs : List A) (x : A) → length (filter test (xs ++ x ∷ [])) ≡ length (filter test xs) + one_if (test x)
filter_push test [] x = length_cond (test x) x []
filter_push test (y ∷ xs) x =
    omega (arith, length_cond (test y) y (filter test (xs ++ x ∷ [])), length_cond (test y) y (filter test xs), filter_push test xs x)

pub counted_more : {L : Type 0} (past : List (SessionRun L)) (x : SessionRun L) → counted (past ++ x ∷ []) ≡ with_outcome x.outcome (counted past)
counted_more {L} past x =
    ap (λ n. record { sessions = n; faulted = (counted (past ++ x ∷ [])).faulted; starved = (counted (past ++ x ∷ [])).starved }) (length_push past x)
    ∙ ap (λ n. record { sessions = length past + 1; faulted = n; starved = (counted (past ++ x ∷ [])).starved }) (filter_push (λ (m : SessionRun L). is_faulted m.outcome) past x)
    ∙ ap (λ n. record { sessions = length past + 1; faulted = (with_outcome x.outcome (counted past)).faulted; starved = n }) (filter_push (λ (m : SessionRun L). is_starved_session m.outcome) past x)

pub counted_parts : {L : Type 0} (past : List (SessionRun L)) (counts : Counts) → counts ≡ counted past → (counts.faulted ≤ counts.sessions) × (counts.starved ≤ counts.sessions)
counted_parts {L} past counts is = subst (λ (c : Counts). (c.faulted ≤ c.sessions) × (c.starved ≤ c.sessions)) (sym is)
    (few_filtered (λ (m : SessionRun L). is_faulted m.outcome) past, few_filtered (λ (m : SessionRun L). is_starved_session m.outcome) past)
