-- Checks that are passed.
use Rattle.std.proofs.Common.{◌≡◌, Bool, true, false, not, ℕ, ◌≤◌, List, [], ◌∷◌, ◌++◌, Ok, Err, IsOk, refl, sym, ◌∙◌, ap, arith}
use Rattle.std.proofs.lemmas.Int.{ints}
use Rattle.std.specs.List.{AllByRecursion}
use Rattle.std.specs.Prelude.{Result, int_lt, pos, ℤ}
use Rattle.mt_base.specs.declared.command.Command.{Command}
use Rattle.mt_base.specs.declared.command.Entry.{Entry}
use Rattle.mt_base.specs.Checks.{judged}
use Rattle.mt_base.specs.Decision.{checks, decision_of, filled, look_at}
use Rattle.mt_base.specs.Picture.{State}
use Rattle.mt_base.specs.Tables.{Setup}
use Rattle.mt_base.proofs.CheckLemmas.{all_pass, all_passed, answer_is}

-- each of these checks is passed
abbrev pub Pass : {F : Type 0} → List (F × Bool) → Type 0
Pass cs = AllByRecursion (λ c. c.1 ≡ true) cs

pub passed : {A F : Type 0} (cs : List (F × Bool)) (x y : A) → judged cs x ≡ Ok y → Pass cs
passed cs x y is = all_passed cs x (rw is refl)

pub all_ok : {A F : Type 0} (cs : List (F × Bool)) (x : A) → Pass cs → judged cs x ≡ Ok x
all_ok {A = A} {F = F} cs x pass = answered (judged cs x) refl (all_pass cs x pass) where
  answered : (r : Result A F) → judged cs x ≡ r → IsOk r → judged cs x ≡ Ok x
  answered (Ok y) e ok = e ∙ ap Ok (sym (answer_is cs x y e))
  answered (Err f) e ok = cc

-- what an entry passed
pub passed_by : (setup : Setup) (s : State) (who : ℕ) (c : Command) (e : Entry) → decision_of setup s who c ≡ Ok e → Pass (checks setup (look_at s c) who c)
passed_by setup s who c e is = passed (checks setup (look_at s c) who c) (record { who = who; command = filled s.now c }) e is

pub none_is : (b : Bool) → not b ≡ true → b ≡ false
none_is true e = cc
none_is false e = refl

-- the checks after others, and others in their place
pub pass_behind : {F : Type 0} (front back : List (F × Bool)) → Pass (front ++ back) → Pass back
pass_behind [] back pass = pass
pass_behind (c ∷ cs) back pass = pass_behind cs back pass.1

pub pass_other : {F : Type 0} (front back other : List (F × Bool)) → (Pass back → Pass other) → Pass (front ++ back) → Pass (front ++ other)
pass_other [] back other change pass = change pass
pass_other (c ∷ cs) back other change pass = (pass.0, pass_other cs back other change pass.1)

-- room for one more entry, where there are fewer
pub room_for_fewer : (m n : ℕ) (most : ℤ) → m ≤ n → int_lt (pos n) most ≡ true → int_lt (pos m) most ≡ true
room_for_fewer m n most fewer room = grind (arith, ints)
