use Rattle.std.proofs.Common.{◌∙◌, FitsSigned, rules, w32, w64}
use Rattle.std.proofs.lemmas.Int.{to_z-of_z}
use Rattle.mt_meet.proofs.Layers.{end_below_by, not_end_below}
use Rattle.mt_meet.proofs.heights.end_below.Goals as goal

pub returns-then-from-top : goal.returns-then-from-top
returns-then-from-top c =
    let first : FitsSigned w32 c.args.a.now.high = search rules in
    let second : FitsSigned w32 c.args.b.now.high = search rules in
    let top = to_z-of_z w64 c.level_of-top.result (record { sfits = c.level_of-top.type_inv }) ∙ c.level_of-top.ensures in
    let one = to_z-of_z w64 c.from.result (record { sfits = c.from.type_inv }) ∙ c.from.ensures ∙ to_z-of_z w32 c.args.a.now.high first in
    let other = to_z-of_z w64 c.from-then-from-top.result (record { sfits = c.from-then-from-top.type_inv }) ∙ c.from-then-from-top.ensures
    ∙ to_z-of_z w32 c.args.b.now.high second in
    rw (other, top) (end_below_by _ c.args.a.now c.args.b.now (rw (one, top) at c.if-from-top.true))

pub returns-else-from-top : goal.returns-else-from-top
returns-else-from-top c =
    let first : FitsSigned w32 c.args.a.now.high = search rules in
    let top = to_z-of_z w64 c.level_of-top.result (record { sfits = c.level_of-top.type_inv }) ∙ c.level_of-top.ensures in
    let one = to_z-of_z w64 c.from.result (record { sfits = c.from.type_inv }) ∙ c.from.ensures ∙ to_z-of_z w32 c.args.a.now.high first in
    rw (one, top) (not_end_below _ c.args.a.now c.args.b.now (rw (one, top) at c.if-from-top.false))
