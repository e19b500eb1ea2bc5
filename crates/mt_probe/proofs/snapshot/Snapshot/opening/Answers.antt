use Rattle.std.proofs.Common.{List, ap}
use Rattle.mt_base.specs.declared.flight.Record.{Record}
use Rattle.mt_base.specs.Picture.{State}
use Rattle.mt_base.specs.Tables.{Setup}
use Rattle.mt_probe.proofs.Boxes.{opening_holds}
use Rattle.mt_probe.proofs.Placed.{opening_records, opening_sound}
use Rattle.mt_probe.proofs.snapshot.Snapshot.opening.Goals as goal

pub invariant_of-result : goal.invariant_of-result
invariant_of-result c =
    let setup : Setup = record { rules = c.args.rules; tables = c.args.tables.value } in
    rw (c.in_ok-new.ensures.ok, c.in_ok-make.ensures, c.in_ok-make-2.ensures) (record {
      sound = opening_sound setup c.places-count.result 0 c.requires c.places-count.ensures;
      holds = opening_holds c.args.rules c.places-count.result;
      indexed = c.in_ok-make-3.ensures c.places-count.result;
    })

pub returns-clause-state : goal.returns-clause-state
returns-clause-state c =
    rw (c.in_ok-new.ensures.ok, c.in_ok-make.ensures)
    (ap (λ (rs : List Record). let s : State = record { now = 0; records = rs; version = 0 } in s) (opening_records c.places-count.result))
