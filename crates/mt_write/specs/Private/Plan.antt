-- No public contract names these: they are of private steps and of proofs.
-- The entry of a plan: what stands before its route, and what stands after it.
use Rattle.std.specs.Prelude.{ℕ, Bool, List, ◌++◌, codes, decimal}
use Rattle.serde_json.specs.Data.{boolean, string}
use Rattle.serde_json.specs.Written.{compact_text}

-- what stands before the route
abbrev pub plan_front : ℕ → List ℕ → ℕ → ℕ → List ℕ
plan_front at call from level =
    codes "{\"at\":" ++ (decimal at ++ (codes ",\"call\":" ++ (compact_text (string call) ++ (
    codes ",\"do\":\"plan\",\"from\":" ++ (decimal from ++ (codes ",\"level\":" ++ (decimal level ++ codes ",\"route\":")))))))

-- what stands after the route
abbrev pub plan_back : Bool → List ℕ → ℕ → List ℕ
plan_back rvsm kind who =
    codes ",\"rvsm\":" ++ (compact_text (boolean rvsm) ++ (codes ",\"type\":" ++ (compact_text (string kind) ++ (codes ",\"who\":" ++ (decimal who ++ codes "}")))))
