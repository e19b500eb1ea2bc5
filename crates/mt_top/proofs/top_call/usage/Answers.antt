use Rattle.std.proofs.Common.{refl}
use Rattle.mt_lines.proofs.Streams.{untold}
use Rattle.mt_top.specs.Run.{UsageMeans, usage_line}
use Rattle.mt_top.specs.declared.status.Status.TheVariants.{Usage, WriteFault}
use Rattle.mt_top.proofs.WordLemmas.{wrote}
use Rattle.mt_top.proofs.top_call.usage.Goals as goal

pub returns-in-Ok-clause-means : goal.returns-in-Ok-clause-means
returns-in-Ok-clause-means g c = λ left. wrote (UsageMeans Usage) left _ _ usage_line c.in-Ok.ensures.ok (λ input. (refl, refl))

pub returns-in-Err-clause-means : goal.returns-in-Err-clause-means
returns-in-Err-clause-means g c =
    let (front, rest, line_is, appended) = c.in-Err.ensures.err in
    λ left. wrote (UsageMeans WriteFault) left _ _ front appended (λ input. (refl, (rest, line_is)))

pub returns-in-Ok-clause-output : goal.returns-in-Ok-clause-output
returns-in-Ok-clause-output g c = record { fault = untold c.put_all.ensures.cause.later (λ is. cc); kept = c.put_all.ensures.kept }

pub returns-in-Err-clause-output : goal.returns-in-Err-clause-output
returns-in-Err-clause-output g c = record {
  fault = record { cause = λ is. rw c.in-Err.is at c.put_all.ensures.cause.failed; later = c.put_all.ensures.cause.later };
  kept = c.put_all.ensures.kept;
}
