-- The members are gone over from the last, and the last of a key is the one that stands.
use Rattle.std.proofs.Common.{◌≡◌, ◌+◌, ◌-◌, [], ◌∷◌, ◌++◌, take, Bool, true, false, cond, Some, bytes_eq, get_or, sym, ap, ◌∙◌, arith}
use Rattle.std.proofs.lemmas.List.{take_more}
use Rattle.serde_json.specs.Find.{get_member}
use Rattle.mt_json.specs.View.{view, members_view}
use Rattle.mt_json.proofs.Members.{get_member-more}
use Rattle.mt_json.proofs.fields.Fields.get.Goals as goal

pub returns-then-eq : goal.returns-then-eq
returns-then-eq c =
    let xs = c.args.self.now.list.now in
    let i = c.loop-left.left - 1 in
    let m = get_or xs i c.index-self-left.result in
    let key = c.args.key.now in
    let next : c.loop-left.left ≡ i + 1 = omega arith in
    let front : take c.loop-left.left xs ≡ take i xs ++ m ∷ [] = ap (λ k. take k xs) next ∙ take_more xs i c.index-self-left.result (omega arith) in
    let step = c.loop-left.invariant.0 ∙ ap (λ ys. get_member key (members_view ys)) front ∙ get_member-more key (take i xs) m in
    let pick = λ (b : Bool). cond b (Some (view m.1)) (get_member key (members_view (take i xs))) in
    let same : bytes_eq m.0.now key ≡ true = grind arith in
    sym (step ∙ ap pick same)

pub loop-left-preserved : goal.loop-left-preserved
loop-left-preserved c =
    let xs = c.args.self.now.list.now in
    let i = c.loop-left.left - 1 in
    let m = get_or xs i c.index-self-left.result in
    let key = c.args.key.now in
    let next : c.loop-left.left ≡ i + 1 = omega arith in
    let front : take c.loop-left.left xs ≡ take i xs ++ m ∷ [] = ap (λ k. take k xs) next ∙ take_more xs i c.index-self-left.result (omega arith) in
    let step = c.loop-left.invariant.0 ∙ ap (λ ys. get_member key (members_view ys)) front ∙ get_member-more key (take i xs) m in
    let pick = λ (b : Bool). cond b (Some (view m.1)) (get_member key (members_view (take i xs))) in
    let other : bytes_eq m.0.now key ≡ false = grind arith in
    (step ∙ ap pick other, omega arith)
