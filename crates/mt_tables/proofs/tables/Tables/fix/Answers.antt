use Rattle.std.proofs.lemmas.Map.Entries.{All-lookup}
use Rattle.mt_base.specs.Bounds.{IsInPlane}
use Rattle.mt_tables.proofs.tables.Tables.fix.Goals as goal

pub returns-clause-plane : goal.returns-clause-plane
returns-clause-plane c = rw (c.copied.ensures, c.get.ensures.value) (All-lookup (λ p. IsInPlane p.x p.y) _ _ c.self.invariant.fixes)
