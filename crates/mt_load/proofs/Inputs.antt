-- What holds of each kind of request holds of the whole input.
use Rattle.std.proofs.Common.{ℕ, ◌<◌, [], ◌∷◌, ◌++◌, All}
use Rattle.std.proofs.lemmas.List.Elements.{All-append, All-from_recursion}
use Rattle.mt_base.specs.declared.command.Command.TheVariants.{Tick}
use Rattle.mt_read.specs.declared.request.Request.{Request}
use Rattle.mt_read.specs.declared.request.Request.TheVariants.{Begin, Change, TypeLine}
use Rattle.mt_load.specs.Input.{bands, each_below, fix, inputs, kind_name, plan_of}
use Rattle.mt_load.proofs.Lists.{all_below}

pub all_inputs : (P : Request → Type 0) (flights number : ℕ) → ((k : ℕ) → k < 64 → P (fix k)) → P (TypeLine kind_name bands) → P Begin
    → ((n : ℕ) → P (plan_of number n)) → P (Change (Tick 60)) → All P (inputs flights number)
all_inputs P flights number of_fix of_kind of_begin of_plan of_tick =
    let fixes = each_below fix 64 in
    let kinds = TypeLine kind_name bands ∷ [] in
    let begin = Begin ∷ [] in
    let plans = each_below (plan_of number) flights in
    let tick = Change (Tick 60) ∷ [] in
    let are_fixes = all_below P fix 64 of_fix in
    let are_plans = all_below P (plan_of number) flights (λ n below. of_plan n) in
    let to_kinds = All-append P fixes kinds are_fixes (All-from_recursion P kinds (of_kind, tt)) in
    let to_begin = All-append P (fixes ++ kinds) begin to_kinds (All-from_recursion P begin (of_begin, tt)) in
    let to_plans = All-append P (fixes ++ kinds ++ begin) plans to_begin are_plans in
    All-append P (fixes ++ kinds ++ begin ++ plans) tick to_plans (All-from_recursion P tick (of_tick, tt))
