-- The text of a summary, in parts.
use Rattle.std.proofs.Common.{◌≡◌, ◌∙◌, ℕ, List, [], ◌++◌, codes, decimal, append_assoc}
use Rattle.json.proofs.OnLiterals.{json_on_literals}
use Rattle.mt_load.specs.declared.summary.Summary.{Summary}
use Rattle.mt_load.specs.Summary.{summary_text}

-- a key and its number
abbrev part : List ℕ → ℕ → List ℕ
part key n = key ++ decimal n

pub parts_are : (s : Summary) → codes "{\"again\":" ++ (decimal s.again ++ (codes ",\"conflicts\":" ++ (decimal s.conflicts ++ (codes ",\"entries\":" ++ (decimal s.entries
    ++ (codes ",\"flights\":" ++ (decimal s.flights ++ (codes ",\"tests\":" ++ (decimal s.tests ++ codes "}\n"))))))))) ≡ summary_text s
unfolding json_on_literals
parts_are s = simp append_assoc

-- parts put one after another
joined : (k1 n1 k2 n2 k3 n3 k4 n4 k5 n5 end : List ℕ)
    → (((((([] ++ (k1 ++ n1)) ++ (k2 ++ n2)) ++ (k3 ++ n3)) ++ (k4 ++ n4)) ++ (k5 ++ n5)) ++ end)
    ≡ k1 ++ (n1 ++ (k2 ++ (n2 ++ (k3 ++ (n3 ++ (k4 ++ (n4 ++ (k5 ++ (n5 ++ end)))))))))
joined k1 n1 k2 n2 k3 n3 k4 n4 k5 n5 end = simp append_assoc

pub line_is : (s : Summary) (l0 l1 l2 l3 l4 l5 l6 : List ℕ) → l0 ≡ [] → l1 ≡ l0 ++ part (codes "{\"again\":") s.again
    → l2 ≡ l1 ++ part (codes ",\"conflicts\":") s.conflicts → l3 ≡ l2 ++ part (codes ",\"entries\":") s.entries
    → l4 ≡ l3 ++ part (codes ",\"flights\":") s.flights → l5 ≡ l4 ++ part (codes ",\"tests\":") s.tests → l6 ≡ l5 ++ codes "}\n" → l6 ≡ summary_text s
line_is s l0 l1 l2 l3 l4 l5 l6 e0 e1 e2 e3 e4 e5 e6 = rw (e6, e5, e4, e3, e2, e1, e0)
    (joined (codes "{\"again\":") (decimal s.again) (codes ",\"conflicts\":") (decimal s.conflicts) (codes ",\"entries\":") (decimal s.entries)
    (codes ",\"flights\":") (decimal s.flights) (codes ",\"tests\":") (decimal s.tests) (codes "}\n") ∙ parts_are s)
