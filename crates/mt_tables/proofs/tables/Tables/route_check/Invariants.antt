use Rattle.std.proofs.Common.{◌≡◌, ◌++◌, drop}
use Rattle.mt_base.specs.Checks.{judged}
use Rattle.mt_base.specs.Tables.{fix_checks, length_checks}
use Rattle.mt_tables.proofs.tables.Tables.route_check.Given as goal

abbrev pub invariant-loop-name : goal.invariant-loop-name
invariant-loop-name l =
    judged (fix_checks l.self l.names ++ length_checks l.names) (tt {0}) ≡ judged (fix_checks l.self (drop l.name-index l.names) ++ length_checks l.names) (tt {0})
