use Rattle.std.proofs.Common.{inr, ⊎_elim}
use Rattle.std.proofs.lemmas.Bool.Decides.{not_from_Decides}
use Rattle.mt_area.proofs.volume.lie_apart.Goals as goal

pub returns-else-are_west_or_east : goal.returns-else-are_west_or_east
returns-else-are_west_or_east c = (
  (λ t. inr (inr (rw c.items-corners.ensures at (c.are_south_or_north.ensures.0 t)))),
  (λ apart. ⊎_elim
      (λ heights. absurd (not_from_Decides _ c.are_heights_apart.ensures c.if-are_heights_apart.false heights))
      (λ beside. ⊎_elim
      (λ one. absurd (not_from_Decides _ c.are_west_or_east.ensures c.if-are_west_or_east.false (rw c.items-corners.ensures one)))
      (λ two. c.are_south_or_north.ensures.1 (rw c.items-corners.ensures two)) beside)
      apart),
)
