use Rattle.mt_lines.proofs.Streams.{told_as, untold}
use Rattle.std.proofs.Common.{arith}
use Rattle.mt_top.proofs.Opened.{read_ends, replayed, wanted, write_ends}
use Rattle.mt_top.proofs.lines.Lines.answer_input.Goals as goal

pub returns-in-Ok-clause-means : goal.returns-in-Ok-clause-means
returns-in-Ok-clause-means g c =
    rw c.of.ensures (replayed _ _ _ _ (g.A.Answers.world c.answer_all-ending.new.self.script) g.A.Answers.replied c.keeps.ensures c.answer_all-ending.result c.answer_all-ending.ensures.means)

pub returns-in-Ok-clause-input : goal.returns-in-Ok-clause-input
returns-in-Ok-clause-input g c =
    rw c.of.ensures (record { fault = told_as (λ is. read_ends c.answer_all-ending.result is) c.answer_all-ending.ensures.input.fault; kept = c.answer_all-ending.ensures.input.kept })

pub returns-in-Ok-clause-output : goal.returns-in-Ok-clause-output
returns-in-Ok-clause-output g c =
    rw c.of.ensures (record { fault = told_as (λ is. write_ends c.answer_all-ending.result is) c.answer_all-ending.ensures.output.fault; kept = c.answer_all-ending.ensures.output.kept })

-- memory wanted before the first line is told as that, not as a fault
pub returns-in-Err-clause-means : goal.returns-in-Err-clause-means
returns-in-Err-clause-means g c = wanted g.A.Answers.replied _ _

pub returns-in-Err-clause-input : goal.returns-in-Err-clause-input
returns-in-Err-clause-input g c = record { fault = untold (omega arith) (λ is. cc); kept = g.met.S.Source.reads_to_itself _ }

pub returns-in-Err-clause-output : goal.returns-in-Err-clause-output
returns-in-Err-clause-output g c = record { fault = untold (omega arith) (λ is. cc); kept = g.met.K.Sink.writes_to_itself _ }
