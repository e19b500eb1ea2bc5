use Rattle.std.proofs.Common.{inl, inr, ◌⊎◌, ◌≡◌, true}
use Rattle.mt_ws.proofs.FirstLines.{first_line, start_by_line}
use Rattle.mt_ws.proofs.beginning.by_first_line.Goals.{then-whole-via-then-whole, then-whole-via-else-whole+then-ended}
use Rattle.mt_ws.proofs.beginning.by_first_line.Goals as goal

pub returns-then-whole : goal.returns-then-whole
returns-then-whole c =
    let told : (c.cut-whole.result.1 ≡ true) ⊎ (c.args.ended ≡ true) =
    elim c.then-whole.branch [ then-whole-via-then-whole w ↦ inl w.if-whole.true | then-whole-via-else-whole+then-ended w ↦ inr w.if-ended.true ] in
    start_by_line c.args.head.now c.cut-whole.result.0.now c.args.ended c.start_of_line.result c.requires
    (first_line c.args.head.now c.cut-whole.result.0.now c.cut-whole.result.1 c.args.ended c.cut-whole.ensures told) c.start_of_line.ensures
