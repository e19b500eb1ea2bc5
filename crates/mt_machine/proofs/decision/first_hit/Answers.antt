use Rattle.std.proofs.Common.{sym, ◌∙◌}
use Rattle.mt_base.specs.Picture.{flight_of}
use Rattle.mt_base.specs.Tables.{Setup, setup_with}
use Rattle.mt_machine.proofs.Clearances.{passed_what_if}
use Rattle.mt_change.proofs.Decisions.{first_of_hits}
use Rattle.mt_machine.proofs.decision.first_hit.Goals as goal

pub unreachable-requires : goal.unreachable-requires
unreachable-requires g c =
    let setup : Setup = setup_with c.args.rules.now c.args.tables.now in
    let passed = passed_what_if setup c.args.plain.now.now (flight_of c.args.plain.now.records c.in-Accept.call) c.in-Accept.call c.in-Accept.clearance
    c.in-Accept.eff _ (rw c.in-Accept.is at c.requires.passed.1) in
    let refused = rw c.in_default-2.is at c.in_ok-found.ensures.exact in
    let both = sym refused ∙ passed in
    cc

pub returns : goal.returns
returns g c =
    let setup : Setup = setup_with c.args.rules.now c.args.tables.now in
    let exact = rw c.in-Ok.is at c.in_ok-found.ensures.exact in
    rw (c.copied.ensures, c.first.ensures.value, c.items.ensures)
    (first_of_hits setup c.args.plain.now c.args.command.now c.in-Ok.found (rw c.in-Accept.is exact.1))
