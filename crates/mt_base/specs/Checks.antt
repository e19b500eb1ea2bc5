use Rattle.std.specs.Prelude.{Bool, List, [], ◌∷◌, Result, Ok, Err, ⊤, if◌then◌else◌}

-- a check: a refusal, and the test that must pass. It is opaque, so that a proof goes by what each check answers and opens no test.
unfoldable pub check_answer : {F : Type 0} → F × Bool → Result ⊤ F
check_answer c = if c.1 then Ok (tt {0}) else Err c.0

-- the answer of the check before, where it failed; else the next answer
abbrev pub next : {A F : Type 0} → Result ⊤ F → Result A F → Result A F
next (Ok _) r = r
next (Err e) r = Err e

-- the first failing check's refusal, else x
abbrev pub judged : {A F : Type 0} → List (F × Bool) → A → Result A F
judged [] x = Ok x
judged (c ∷ cs) x = next (check_answer c) (judged cs x)
