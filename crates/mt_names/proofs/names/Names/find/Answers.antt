use Rattle.std.proofs.Common.{subst, List}
use Rattle.mt_names.specs.declared.names.Named.{Named}
use Rattle.mt_names.specs.Naming.{IsPlaceOf}
use Rattle.mt_names.proofs.Sharing.{found_at}
use Rattle.mt_names.proofs.names.Names.find.Goals as goal

pub returns-in-Some : goal.returns-in-Some
returns-in-Some c =
    let there = c.in-Some.ensures.lookup in
    subst (λ (s : List Named). IsPlaceOf s c.args.call c.find.result) c.self.view_is
    (found_at c.self.inside.rows.items c.deref.result.now c.args.call c.row_of.result c.in-Some.row.now c.deref-in-Some.result.now c.self.invariant
    c.deref.ensures.value c.row_of.ensures.row there.0 there.1 c.deref-in-Some.ensures c.find.result c.find.ensures)
