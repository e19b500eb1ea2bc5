-- The text of the summary of serving, in parts.
use Rattle.std.proofs.Common.{◌≡◌, ◌∙◌, ap, ℕ, List, ◌++◌, codes, decimal, append_assoc}
use Rattle.json.proofs.OnLiterals.{json_on_literals}
use Rattle.mt_serve.specs.declared.closing.Closing.{Closing}
use Rattle.mt_serve.specs.Closing.{closing_text}

-- a key and its number
abbrev part : List ℕ → ℕ → List ℕ
part key n = key ++ decimal n

parts_are : (c : Closing) → codes "{\"conflicts\":" ++ (decimal c.conflicts ++ (codes ",\"entries\":" ++ (decimal c.entries ++ (codes ",\"faulted\":" ++ (decimal c.faulted
    ++ (codes ",\"flights\":" ++ (decimal c.flights ++ (codes ",\"sessions\":" ++ (decimal c.sessions ++ (codes ",\"starved\":" ++ (decimal c.starved ++ codes "}\n"))))))))))) ≡ closing_text c
unfolding json_on_literals
parts_are c = simp append_assoc

-- parts put one after another
joined : (l k1 n1 k2 n2 k3 n3 k4 n4 k5 n5 k6 n6 end : List ℕ)
    → (((((((l ++ (k1 ++ n1)) ++ (k2 ++ n2)) ++ (k3 ++ n3)) ++ (k4 ++ n4)) ++ (k5 ++ n5)) ++ (k6 ++ n6)) ++ end)
    ≡ l ++ (k1 ++ (n1 ++ (k2 ++ (n2 ++ (k3 ++ (n3 ++ (k4 ++ (n4 ++ (k5 ++ (n5 ++ (k6 ++ (n6 ++ end))))))))))))
joined l k1 n1 k2 n2 k3 n3 k4 n4 k5 n5 k6 n6 end = simp append_assoc

pub line_is : (c : Closing) (l0 l1 l2 l3 l4 l5 l6 l7 : List ℕ) → l1 ≡ l0 ++ part (codes "{\"conflicts\":") c.conflicts
    → l2 ≡ l1 ++ part (codes ",\"entries\":") c.entries → l3 ≡ l2 ++ part (codes ",\"faulted\":") c.faulted
    → l4 ≡ l3 ++ part (codes ",\"flights\":") c.flights → l5 ≡ l4 ++ part (codes ",\"sessions\":") c.sessions
    → l6 ≡ l5 ++ part (codes ",\"starved\":") c.starved → l7 ≡ l6 ++ codes "}\n" → l7 ≡ l0 ++ closing_text c
line_is c l0 l1 l2 l3 l4 l5 l6 l7 e1 e2 e3 e4 e5 e6 e7 = rw (e7, e6, e5, e4, e3, e2, e1)
    (joined l0 (codes "{\"conflicts\":") (decimal c.conflicts) (codes ",\"entries\":") (decimal c.entries) (codes ",\"faulted\":") (decimal c.faulted)
    (codes ",\"flights\":") (decimal c.flights) (codes ",\"sessions\":") (decimal c.sessions) (codes ",\"starved\":") (decimal c.starved) (codes "}\n")
    ∙ ap (λ (text : List ℕ). l0 ++ text) (parts_are c))
