use Rattle.std.proofs.Common.{◌≡◌, ◌++◌, ◌∷◌, [], w64, refl, sym}
use Rattle.std.proofs.lemmas.Int.{to_z-of_z}
use Rattle.std.proofs.lemmas.Result.{err_from_is_err_and}
use Rattle.mt_tables.proofs.Added.{bounded_with_fix, fix_last, fix_refused}
use Rattle.mt_tables.proofs.tables.Tables.add_fix.Goals as goal

pub returns-in_err-check_fix-clause-answer : goal.returns-in_err-check_fix-clause-answer
returns-in_err-check_fix-clause-answer c =
    let p = err_from_is_err_and c.from_residual.result c.from_residual.ensures.1 in
    rw (p.1, p.2) (fix_refused c.args.self.now c.args.name _ (sym c.in_err-check_fix.ensures))

at_end : (c : goal.In_ok-insert) → c.insert.new.self.entries ≡ c.self.inside.fixes.entries ++ (c.args.name, record { x = c.args.x; y = c.args.y }) ∷ []
at_end c = rw (c.in_ok-insert.ensures.entries, to_z-of_z w64 c.args.x c.ranges.x, to_z-of_z w64 c.args.y c.ranges.y)
    (fix_last c.self.inside.fixes c.self.inside.types.entries c.args.name (record { x = c.args.x; y = c.args.y })
    (rw (← c.self.view_is) at c.in_ok-check_fix.ensures))

pub invariant_of-self-2 : goal.invariant_of-self-2
invariant_of-self-2 c = rw (at_end c) (bounded_with_fix _ c.args.name (record { x = c.args.x; y = c.args.y }) c.self.invariant c.requires)

pub returns-clause-ok : goal.returns-clause-ok
returns-clause-ok c = rw (at_end c, ← c.self.view_is) refl
