-- The pieces of the entry of a plan, joined, are its compact text.
use Rattle.std.proofs.Common.{◌≡◌, ℕ, Bool, List, [], ◌++◌, decimal, codes, refl, append_assoc}
use Rattle.json.proofs.OnLiterals.{json_on_literals}
use Rattle.json.specs.Print.{escape}
use Rattle.serde_json.specs.Data.{array, boolean, object, string}
use Rattle.serde_json.specs.Written.{compact_text}
use Rattle.mt_base.specs.declared.command.Command.TheVariants.{Plan}
use Rattle.mt_write.specs.Entry.{entry_members, values}
use Rattle.mt_write.specs.Private.Plan.{plan_back, plan_front}

-- a text that began empty, piece by piece from its end to its beginning
pub made_of_nine : (a b c d e f g h i t0 t1 t2 t3 t4 t5 t6 t7 t8 t9 : List ℕ) → t0 ≡ [] → t1 ≡ i ++ t0 → t2 ≡ h ++ t1
    → t3 ≡ g ++ t2 → t4 ≡ f ++ t3 → t5 ≡ e ++ t4 → t6 ≡ d ++ t5 → t7 ≡ c ++ t6 → t8 ≡ b ++ t7 → t9 ≡ a ++ t8
    → t9 ≡ a ++ (b ++ (c ++ (d ++ (e ++ (f ++ (g ++ (h ++ (i ++ []))))))))
made_of_nine a b c d e f g h i t0 t1 t2 t3 t4 t5 t6 t7 t8 t9 e0 e1 e2 e3 e4 e5 e6 e7 e8 e9 = rw (e9, e8, e7, e6, e5, e4, e3, e2, e1, e0) refl

pub front_text : (at from level : ℕ) (call letters : List ℕ) → letters ≡ escape call
    → codes "{\"at\":" ++ (decimal at ++ (codes ",\"call\":\"" ++ (letters ++ (codes "\",\"do\":\"plan\",\"from\":" ++ (decimal from ++ (codes ",\"level\":" ++ (decimal level ++ (codes ",\"route\":" ++ []))))))))
    ≡ plan_front at call from level
unfolding json_on_literals
front_text at from level call letters p = simp (p, append_assoc)

pub back_text : (rvsm : Bool) (kind letters : List ℕ) (who : ℕ) → letters ≡ escape kind
    → codes ",\"rvsm\":" ++ (compact_text (boolean rvsm) ++ (codes ",\"type\":\"" ++ (letters ++ (codes "\",\"who\":" ++ (decimal who ++ (codes "}" ++ []))))))
    ≡ plan_back rvsm kind who
unfolding json_on_literals
back_text rvsm kind letters who p = simp (p, append_assoc)

pub plan_text : (who : ℕ) (call kind : List ℕ) (route : List (List ℕ)) (at from level : ℕ) (rvsm : Bool)
    → plan_front at call from level ++ (compact_text (array (values string route)) ++ plan_back rvsm kind who)
    ≡ compact_text (object (entry_members who (Plan call kind route at from level rvsm)))
unfolding json_on_literals
plan_text who call kind route at from level rvsm = simp append_assoc
