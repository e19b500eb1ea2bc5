use Rattle.mt_probe.proofs.Strands.{outer_made, planned_made}
use Rattle.mt_probe.proofs.preparing.strand_of.Goals as goal
use Rattle.mt_probe.proofs.preparing.strand_of.Goals.{in-Planned+in_ok-strand-in-Planned, in-Outer+in_ok-strand-in-Outer}

pub returns : goal.returns
returns c =
    let setup = c.args.snapshot.now.setup in
    elim c.match-card.branch [
      | in-Planned+in_ok-strand-in-Planned w ↦
          let path = rw (w.rules.ensures.rules, w.tables.ensures) at w.in_ok-strand-in-Planned.ensures.rows in
          rw (c.in_ok-new.ensures.ok, w.strand-is) (planned_made setup c.args.card.now w.in-Planned.course c.args.kind w.in_ok-strand-in-Planned.strand
          w.in-Planned.is c.requires.makes path)
      | in-Outer+in_ok-strand-in-Outer w ↦
          rw (c.in_ok-new.ensures.ok, w.strand-is) (outer_made setup c.args.card.now w.in-Outer.stretch c.args.kind w.in_ok-strand-in-Outer.strand
          w.in-Outer.is c.requires.makes w.in_ok-strand-in-Outer.ensures)
    ]
