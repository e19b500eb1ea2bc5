use Rattle.std.proofs.Common.{nat_eq}
use Rattle.std.proofs.lemmas.Map.Entries.{All-lookup}
use Rattle.std.specs.Cmp.Lexicographic.{pointwise}
use Rattle.mt_base.specs.Bounds.{AreBoundedBands}
use Rattle.mt_tables.proofs.tables.Tables.bands.Goals as goal

pub returns-clause-bounded : goal.returns-clause-bounded
returns-clause-bounded c =
    let found = All-lookup AreBoundedBands (pointwise nat_eq c.args.name) c.self.inside.types.entries c.self.invariant.types in
    rw c.items.ensures (rw (← c.in_ok-bands.ensures.value) at found)
