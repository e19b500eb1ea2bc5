use Rattle.std.proofs.Common.{◌∙◌, w64}
use Rattle.std.proofs.lemmas.Int.{to_z-of_z}
use mir.Syntax.{w128}
use Rattle.mt_pair.proofs.Turns.{falling_by, not_falling}
use Rattle.mt_pair.proofs.Wholes.{line_fits}
use Rattle.mt_pair.proofs.turning.line_is_later.Goals as goal

pub returns-then-line_at-ge0 : goal.returns-then-line_at-ge0
returns-then-line_at-ge0 c =
    let s = line_fits c.args.line c.args.k c.requires.bounded c.requires.short in
    let value = to_z-of_z w64 c.line_at.result (record { sfits = c.line_at.type_inv }) ∙ c.line_at.ensures in
    rw (to_z-of_z w128 c.args.line.b s.wide_b) (falling_by _ _ (rw value at c.if-line_at-ge0.true))

pub returns-else-line_at-ge0 : goal.returns-else-line_at-ge0
returns-else-line_at-ge0 c =
    let value = to_z-of_z w64 c.line_at.result (record { sfits = c.line_at.type_inv }) ∙ c.line_at.ensures in
    rw value (not_falling _ _ (rw value at c.if-line_at-ge0.false))
