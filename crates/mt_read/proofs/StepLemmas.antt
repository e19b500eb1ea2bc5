-- The rules' own checks are the table's.
use Rattle.std.proofs.Common.{◌≡◌, Bool, true, false, map, List, [], ◌∷◌, Result, Ok, Err, refl}
use Rattle.std.specs.Bool.{⊤}
use Rattle.mt_base.specs.declared.rules.RuleName.{RuleName}
use Rattle.mt_base.specs.declared.rules.Rules.{Rules}
use Rattle.mt_base.specs.Rules.{rule_checks}
use Rattle.mt_base.specs.Checks.{check_answer, judged, next}
use Rattle.mt_read.specs.declared.key.Fault.{Fault}
use Rattle.mt_read.specs.declared.key.Fault.TheVariants.{Range}
use Rattle.mt_read.specs.declared.key.Key.TheVariants as key
use Rattle.mt_read.specs.Rules.{rule_bounds}

-- a refusal of a rule, at its key
abbrev pub ruled : Result ⊤ RuleName → Result ⊤ Fault
ruled (Ok u) = Ok u
ruled (Err name) = Err (Range (key.Rule name))

ruled_next : (name : RuleName) (test : Bool) (r : Result ⊤ RuleName) (s : Result ⊤ Fault) → s ≡ ruled r
    → next (check_answer (Range (key.Rule name), test)) s ≡ ruled (next (check_answer (name, test)) r)
unfolding check_answer
ruled_next name true r s e = e
ruled_next name false r s e = refl

ruled_checks : (cs : List (RuleName × Bool)) → judged (map (λ c. (Range (key.Rule c.0), c.1)) cs) (tt {0}) ≡ ruled (judged cs (tt {0}))
ruled_checks [] = refl
ruled_checks (c ∷ cs) = ruled_next c.0 c.1 _ _ (ruled_checks cs)

pub judged_rules : (rules : Rules) → judged (rule_bounds rules) (tt {0}) ≡ ruled (judged (rule_checks rules) (tt {0}))
unfolding rule_bounds
judged_rules rules = ruled_checks (rule_checks rules)
