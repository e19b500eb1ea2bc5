use Rattle.std.proofs.Common.{ℕ, ◌++◌, refl, ◌∙◌, ap, length, arith, inl, inr}
use Rattle.std.proofs.lemmas.List.{length-append}
use Rattle.mt_ws.specs.declared.cause.WsCause.TheVariants as Cause
use Rattle.mt_ws.proofs.Cutting.{cut_none, cut_one}
use Rattle.mt_ws.proofs.Faults.{send_fails, kept_line, fits}
use Rattle.mt_ws.proofs.ws_link.WsLinkSink.write_some.Goals as goal

pub returns-in-Err-clause-writes : goal.returns-in-Err-clause-writes
returns-in-Err-clause-writes g c =
    let part = c.cut-whole.result.0.now in
    let line = c.args.self.now.line in
    let short = c.bytes.ensures.short in
    rw c.fail_write-in-Err.ensures.same (record {
      part = part;
      whole = c.cut-whole.result.1;
      cut = c.cut-whole.ensures;
      line = kept_line line part c.bytes-before.result.now c.add.new.self c.cut.new.self c.bytes-before.ensures.same c.add.ensures c.cut.ensures;
      cause = c.in-Err.cause;
      kept = refl;
      fails = send_fails g.S.Read.remaining g.S.Write.contents c.args.self.now.socket c.send_line.new.socket (line ++ part) c.bytes.result.now c.in-Err.cause
          (c.bytes.ensures.same ∙ c.add.ensures) (fits line part c.add.new.self c.add.ensures short) c.in-Err.ensures;
    })

pub returns-then-part-before-clause-writes : goal.returns-then-part-before-clause-writes
returns-then-part-before-clause-writes g c =
    rw c.fail_write.ensures.same (record {
      part = c.cut-whole.result.0.now;
      whole = c.cut-whole.result.1;
      cut = c.cut-whole.ensures;
      line = refl;
      cause = Cause.Long;
      kept = refl;
      fails = (omega (arith, length-append {A = ℕ}, ap length c.bytes-before.ensures.same), refl);
    })

pub returns-then-not-whole-clause-writes : goal.returns-then-not-whole-clause-writes
returns-then-not-whole-clause-writes g c =
    inl (record {
      part = c.cut-whole.result.0.now;
      cut = rw c.if-not-whole.true at c.cut-whole.ensures;
      count = refl;
      short = omega (arith, length-append {A = ℕ}, ap length c.bytes-before.ensures.same);
      line = c.add.ensures;
      socket = refl;
      cause = refl;
    })

pub returns-in-Ok-clause-writes : goal.returns-in-Ok-clause-writes
returns-in-Ok-clause-writes g c =
    inr (record {
      part = c.cut-whole.result.0.now;
      cut = rw c.if-not-whole.false at c.cut-whole.ensures;
      count = refl;
      short = omega (arith, length-append {A = ℕ}, ap length c.bytes-before.ensures.same);
      line = c.clear.ensures;
      sent = rw (c.bytes.ensures.same ∙ c.add.ensures) at c.in-Ok.ensures;
      cause = refl;
    })

pub returns-then-part-before-clause-cause : goal.returns-then-part-before-clause-cause
returns-then-part-before-clause-cause g c = record { later = c.fail_write.ensures.count.0; failed = c.fail_write.ensures.count.1 }

pub returns-then-part-before-clause-kept : goal.returns-then-part-before-clause-kept
returns-then-part-before-clause-kept g c = rw c.fail_write.ensures.same (refl, refl, refl)

pub returns-in-Err-clause-cause : goal.returns-in-Err-clause-cause
returns-in-Err-clause-cause g c = record { later = c.fail_write-in-Err.ensures.count.0; failed = c.fail_write-in-Err.ensures.count.1 }

pub returns-in-Err-clause-kept : goal.returns-in-Err-clause-kept
returns-in-Err-clause-kept g c = rw c.fail_write-in-Err.ensures.same (refl, refl, refl)

pub returns-then-not-whole-clause-bound : goal.returns-then-not-whole-clause-bound
returns-then-not-whole-clause-bound g c =
    let size = cut_none c.args.piece.now c.cut-whole.result.0.now (rw c.if-not-whole.true at c.cut-whole.ensures) in
    (omega (arith, size, c.requires), omega (arith, size))

pub returns-in-Ok-clause-bound : goal.returns-in-Ok-clause-bound
returns-in-Ok-clause-bound g c =
    let size = cut_one c.args.piece.now c.cut-whole.result.0.now (rw c.if-not-whole.false at c.cut-whole.ensures) in
    (omega arith, omega (arith, size))
