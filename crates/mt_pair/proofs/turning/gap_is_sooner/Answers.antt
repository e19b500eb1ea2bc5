use Rattle.std.proofs.Common.{◌∙◌, w64}
use Rattle.std.proofs.lemmas.Int.{to_z-of_z}
use Rattle.mt_pair.proofs.Turns.{sooner_by, not_sooner}
use Rattle.mt_pair.proofs.turning.gap_is_sooner.Goals as goal

pub returns-then-gap_at-ge0 : goal.returns-then-gap_at-ge0
returns-then-gap_at-ge0 c =
    let value = to_z-of_z w64 c.gap_at.result (record { sfits = c.gap_at.type_inv }) ∙ c.gap_at.ensures in
    let slope = to_z-of_z w64 c.slope_at.result (record { sfits = c.slope_at.type_inv }) ∙ c.slope_at.ensures in
    rw slope (sooner_by _ _ (rw value at c.if-gap_at-ge0.true))

pub returns-else-gap_at-ge0 : goal.returns-else-gap_at-ge0
returns-else-gap_at-ge0 c =
    let value = to_z-of_z w64 c.gap_at.result (record { sfits = c.gap_at.type_inv }) ∙ c.gap_at.ensures in
    rw value (not_sooner _ _ (rw value at c.if-gap_at-ge0.false))
