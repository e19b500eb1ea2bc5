use Rattle.std.proofs.Common.{◌∙◌, refl, sym, arith}
use Rattle.mt_lines.proofs.Streams.{told_as, untold}
use Rattle.mt_top.proofs.Opened.{begins, over, read_ends, same_error, unbegun, unopened, write_ends}
use Rattle.mt_top.proofs.opening.open.Goals as goal

pub returns-in_default-clause-over : goal.returns-in_default-clause-over
returns-in_default-clause-over g c = unopened _ _

pub returns-then-not-is_done-clause-over : goal.returns-then-not-is_done-clause-over
returns-then-not-is_done-clause-over g c =
    let status = c.of-status.ensures in
    rw status (over _ _ _ _ c.answer_all.new.self.script c.answer_all.result (rw status at (sym c.if-not-is_done.ensures)) c.answer_all.ensures.means)

pub returns-then-not-have_begun-clause-over : goal.returns-then-not-have_begun-clause-over
returns-then-not-have_begun-clause-over g c =
    unbegun _ _ _ _ c.answer_all.new.self.script (sym c.if-not-have_begun.ensures) c.answer_all.result (rw c.of-status.ensures at (sym c.if-not-is_done.ensures)) c.answer_all.ensures.means

pub returns-clause-begins : goal.returns-clause-begins
returns-clause-begins g c =
    begins _ _ _ _ c.answer_all.new.self.script c.into_picture.result.0 c.into_picture.ensures.picture (sym c.if-not-have_begun.ensures) c.answer_all.result
    (rw c.of-status.ensures at (sym c.if-not-is_done.ensures)) c.answer_all.ensures.setting c.answer_all.ensures.means

pub returns-clause-opening : goal.returns-clause-opening
returns-clause-opening g c = rw c.into_picture.ensures.picture (c.answer_all.ensures.setting.empty refl (sym c.if-not-have_begun.ensures))

-- the streams
pub returns-in_default-clause-input : goal.returns-in_default-clause-input
returns-in_default-clause-input g c = record { fault = untold (omega arith) (λ is. cc); kept = g.met.S.Source.reads_to_itself _ }

pub returns-in_default-clause-output : goal.returns-in_default-clause-output
returns-in_default-clause-output g c = record { fault = untold (omega arith) (λ is. cc); kept = g.met.K.Sink.writes_to_itself _ }

pub returns-then-not-is_done-clause-input : goal.returns-then-not-is_done-clause-input
returns-then-not-is_done-clause-input g c = record {
  fault = told_as (λ is. read_ends c.answer_all.result (sym c.of-status.ensures ∙ same_error is)) c.answer_all.ensures.input.fault;
  kept = c.answer_all.ensures.input.kept;
}

pub returns-then-not-is_done-clause-output : goal.returns-then-not-is_done-clause-output
returns-then-not-is_done-clause-output g c = record {
  fault = told_as (λ is. write_ends c.answer_all.result (sym c.of-status.ensures ∙ same_error is)) c.answer_all.ensures.output.fault;
  kept = c.answer_all.ensures.output.kept;
}

pub returns-then-not-have_begun-clause-input : goal.returns-then-not-have_begun-clause-input
returns-then-not-have_begun-clause-input g c = record { fault = untold c.answer_all.ensures.input.fault.later (λ is. cc); kept = c.answer_all.ensures.input.kept }

pub returns-then-not-have_begun-clause-output : goal.returns-then-not-have_begun-clause-output
returns-then-not-have_begun-clause-output g c = record { fault = untold c.answer_all.ensures.output.fault.later (λ is. cc); kept = c.answer_all.ensures.output.kept }

pub returns-clause-input : goal.returns-clause-input
returns-clause-input g c = record { fault = untold c.answer_all.ensures.input.fault.later (λ is. cc); kept = c.answer_all.ensures.input.kept }

pub returns-clause-output : goal.returns-clause-output
returns-clause-output g c = record { fault = untold c.answer_all.ensures.output.fault.later (λ is. cc); kept = c.answer_all.ensures.output.kept }
