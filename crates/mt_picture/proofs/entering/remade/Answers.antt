use Rattle.std.proofs.Common.{◌+◌, ap, ℕ}
use Rattle.mt_probe.specs.declared.flight.Made.{Made}
use Rattle.mt_probe.specs.Shot.{flight_at}
use Rattle.mt_picture.proofs.Remade.{as_commit, as_mark, as_other}
use Rattle.mt_picture.proofs.entering.remade.Goals as goal

pub returns-in-Tentative : goal.returns-in-Tentative
returns-in-Tentative c =
    let shot = c.args.held.now.snapshot in
    let made : Made = record { strand = c.args.strand; stamp = c.version-stamp.result + 1 } in
    rw c.in-Tentative.is (as_mark (flight_at shot c.args.slot) (shot.version + 1) c.args.card c.in_ok-flight.flight c.in_ok-flight.ensures made
    (ap (λ (n : ℕ). n + 1) (rw c.snapshot.ensures.value at c.version-stamp.ensures.version)) _ _ _)

pub returns-in-Commit : goal.returns-in-Commit
returns-in-Commit c =
    let shot = c.args.held.now.snapshot in
    let made : Made = record { strand = c.args.strand; stamp = c.version-stamp.result + 1 } in
    rw c.in-Commit.is (as_commit (flight_at shot c.args.slot) (shot.version + 1) c.args.card c.in_ok-flight.flight c.in_ok-flight.ensures made
    (ap (λ (n : ℕ). n + 1) (rw c.snapshot.ensures.value at c.version-stamp.ensures.version)) _)

pub returns-in_default : goal.returns-in_default
returns-in_default c =
    let shot = c.args.held.now.snapshot in
    let made : Made = record { strand = c.args.strand; stamp = c.version-stamp.result + 1 } in
    as_other (flight_at shot c.args.slot) (shot.version + 1) c.args.card c.in_ok-flight.flight c.in_ok-flight.ensures made
    (ap (λ (n : ℕ). n + 1) (rw c.snapshot.ensures.value at c.version-stamp.ensures.version)) c.args.command.now c.in_default.not-Tentative c.in_default.not-Commit
