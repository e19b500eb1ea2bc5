use Rattle.std.proofs.Common.{inl, inr, ⊎_elim}
use Rattle.std.proofs.lemmas.Bool.Decides.{not_from_Decides}
use Rattle.mt_area.proofs.volume.are_west_or_east.Goals as goal

pub returns-then-are_west : goal.returns-then-are_west
returns-then-are_west c = ((λ t. inl (c.are_west.ensures.0 t)), (λ either. c.if-are_west.true))

pub returns-else-are_west : goal.returns-else-are_west
returns-else-are_west c = (
  (λ t. inr (c.are_east.ensures.0 t)),
  (λ either. ⊎_elim (λ one. absurd (not_from_Decides _ c.are_west.ensures c.if-are_west.false one)) (λ two. c.are_east.ensures.1 two) either),
)
