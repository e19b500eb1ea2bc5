use Rattle.std.proofs.Common.{refl, sym}
use Rattle.std.proofs.lemmas.Result.{err_from_is_err_and}
use Rattle.mt_tables.proofs.Added.{bounded_with_type, type_last, type_refused}
use Rattle.mt_tables.proofs.tables.Tables.add_type.Goals as goal

pub returns-in_err-check_type-clause-answer : goal.returns-in_err-check_type-clause-answer
returns-in_err-check_type-clause-answer c =
    let p = err_from_is_err_and c.from_residual.result c.from_residual.ensures.1 in
    rw (p.1, p.2) (type_refused c.args.self.now c.args.name c.args.bands.now _ (sym c.in_err-check_type.ensures))

pub invariant_of-self-2 : goal.invariant_of-self-2
invariant_of-self-2 c =
    let last = type_last c.self.inside.fixes.entries c.self.inside.types c.args.name c.args.bands.now (rw (← c.self.view_is) at c.in_ok-check_type.ensures) in
    rw (c.in_ok-insert.ensures.entries, c.in_ok-bands.ensures, last)
    (bounded_with_type _ c.args.name c.args.bands.now c.self.invariant c.requires)

pub returns-clause-ok : goal.returns-clause-ok
returns-clause-ok c =
    let last = type_last c.self.inside.fixes.entries c.self.inside.types c.args.name c.args.bands.now (rw (← c.self.view_is) at c.in_ok-check_type.ensures) in
    rw (c.in_ok-insert.ensures.entries, c.in_ok-bands.ensures, last, ← c.self.view_is) refl
