-- No public contract names these: they are of private steps and of proofs.
use Rattle.std.specs.Prelude.{ℕ, ◌<◌, List, Contains, Option}
use Rattle.mt_base.specs.declared.rules.Rules.{Rules}
use Rattle.mt_base.specs.Picture.{NamedTrajectory}
use Rattle.mt_edges.specs.declared.edge.Edge.{Edge}
use Rattle.mt_edges.specs.Pairs.{AreDistinctPairs}
use Rattle.mt_kept.specs.Losing.{IsPair, Joins, LoseSeparation, TouchesOne}

-- `AreKept`, `AvoidsAll`: exactly the pairs of the places, each once; no end of a pair is among some places. Each two places with a loss second have one.
pub record AreKept (rules : Rules) (places : List (Option NamedTrajectory)) (edges : List Edge) : Type 0 where
  pub sound : (e : Edge) → Contains edges e → IsPair rules places e
  pub complete : (a b k : ℕ) → a < b → LoseSeparation rules places a b k → Joins edges a b
  pub once : AreDistinctPairs edges

abbrev pub AvoidsAll : List ℕ → Edge → Type 0
AvoidsAll some e = ¬ TouchesOne some e
