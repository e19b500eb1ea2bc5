use Rattle.std.proofs.Common.{inl, inr, ⊎_elim}
use Rattle.std.proofs.lemmas.Bool.Decides.{not_from_Decides}
use Rattle.mt_area.proofs.volume.are_south_or_north.Goals as goal

pub returns-then-are_south : goal.returns-then-are_south
returns-then-are_south c = ((λ t. inl (c.are_south.ensures.0 t)), (λ either. c.if-are_south.true))

pub returns-else-are_south : goal.returns-else-are_south
returns-else-are_south c = (
  (λ t. inr (c.are_north.ensures.0 t)),
  (λ either. ⊎_elim (λ one. absurd (not_from_Decides _ c.are_south.ensures c.if-are_south.false one)) (λ two. c.are_north.ensures.1 two) either),
)
