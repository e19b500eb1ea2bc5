use Rattle.std.proofs.Common.{Err, ap, refl, ◌∙◌}
use Rattle.mt_lines.proofs.Streams.{behind, told_as, untold}
use Rattle.mt_top.proofs.SummedUp.{closes, says_later, unserved}
use Rattle.mt_top.proofs.serving.serve.Goals as goal

pub returns-clause-means : goal.returns-clause-means
returns-clause-means g c =
    unserved g.D.Link.Source g.D.Link.Sink c.args.task.port c.args.task.sessions c.args.task.workers _ _ 0 0 c.in-Ok.opened.0 _ _ _ _
    (rw c.in-Err-serve.ensures.uncalled refl) c.in-Ok.ensures.begins

-- memory wanted for serving is told as that, not as a fault
pub returns-clause-door : goal.returns-clause-door
returns-clause-door g c = λ is. cc

pub returns-clause-input : goal.returns-clause-input
returns-clause-input g c = record { fault = untold c.open.ensures.input.fault.later (λ is. cc); kept = c.open.ensures.input.kept }

pub returns-clause-output : goal.returns-clause-output
returns-clause-output g c = record { fault = untold c.open.ensures.output.fault.later (λ is. cc); kept = c.open.ensures.output.kept }

-- the picture didn't begin
pub returns-in-Err-clause-input : goal.returns-in-Err-clause-input
returns-in-Err-clause-input g c = record { fault = told_as (λ is. c.in-Err.is ∙ ap Err is) c.open.ensures.input.fault; kept = c.open.ensures.input.kept }

pub returns-in-Err-clause-output : goal.returns-in-Err-clause-output
returns-in-Err-clause-output g c = record { fault = told_as (λ is. c.in-Err.is ∙ ap Err is) c.open.ensures.output.fault; kept = c.open.ensures.output.kept }

-- the links were served
pub returns-in-Ok-serve-clause-means : goal.returns-in-Ok-serve-clause-means
returns-in-Ok-serve-clause-means g c =
    closes g.D.Link.Source g.D.Link.Sink c.args.task.port c.args.task.sessions c.args.task.workers _ _ _ _ c.in-Ok.opened.0 c.in-Ok-serve.served.picture c.in-Ok-serve.served.counts
    c.in-Ok-serve.served.faulted c.in-Ok-serve.ensures.served _ _ _ _ _ c.in-Ok.ensures.begins c.close.result
    (says_later _ _ _ _ _ _ c.close.result _ _ c.open.ensures.output.fault.later c.close.ensures.said)

pub returns-in-Ok-serve-clause-input : goal.returns-in-Ok-serve-clause-input
returns-in-Ok-serve-clause-input g c = record { fault = untold c.open.ensures.input.fault.later (λ is. rw is at c.close.ensures.said); kept = c.open.ensures.input.kept }

pub returns-in-Ok-serve-clause-output : goal.returns-in-Ok-serve-clause-output
returns-in-Ok-serve-clause-output g c = record {
  fault = behind c.open.ensures.output.fault.later c.close.ensures.output.fault;
  kept = g.met.K.Sink.writes_on _ _ _ c.open.ensures.output.kept c.close.ensures.output.kept;
}
