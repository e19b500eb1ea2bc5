use Rattle.std.proofs.Common.{refl, subst, sym, ◌∙◌, arith}
use Rattle.mt_lines.proofs.Answering.{nothing}
use Rattle.mt_lines.proofs.Streams.{untold}
use Rattle.mt_top.specs.Load.{IsSummaryLine, LoadMeans}
use Rattle.mt_top.specs.declared.status.Status.TheVariants.{Done, WriteFault}
use Rattle.mt_top.proofs.WordLemmas.{wrote}
use Rattle.mt_top.proofs.load.load.Goals as goal

pub returns-in_default-clause-means : goal.returns-in_default-clause-means
returns-in_default-clause-means g c = λ left. nothing left _

pub returns-in-Ok-put_all-clause-means : goal.returns-in-Ok-put_all-clause-means
returns-in-Ok-put_all-clause-means g c =
    let summed = subst (IsSummaryLine c.args.flights c.args.number) (sym c.deref.ensures.value) c.in-Ok.ensures in
    λ left. wrote (LoadMeans c.args.flights c.args.number Done) left _ _ c.deref.result.now c.in-Ok-put_all.ensures.ok (λ input. (refl, summed))

pub returns-clause-means : goal.returns-clause-means
returns-clause-means g c =
    let (front, rest, line_is, appended) = c.in-Err.ensures.err in
    λ left. wrote (LoadMeans c.args.flights c.args.number WriteFault) left _ _ front appended
    (λ input. (refl, (rest, subst (IsSummaryLine c.args.flights c.args.number) (sym c.deref.ensures.value ∙ line_is) c.in-Ok.ensures)))

pub returns-in_default-clause-output : goal.returns-in_default-clause-output
returns-in_default-clause-output g c = record { fault = untold (omega arith) (λ is. cc); kept = g.met.K.Sink.writes_to_itself _ }

pub returns-in-Ok-put_all-clause-output : goal.returns-in-Ok-put_all-clause-output
returns-in-Ok-put_all-clause-output g c = record { fault = untold c.put_all.ensures.cause.later (λ is. cc); kept = c.put_all.ensures.kept }

pub returns-clause-output : goal.returns-clause-output
returns-clause-output g c = record {
  fault = record { cause = λ is. rw c.in-Err.is at c.put_all.ensures.cause.failed; later = c.put_all.ensures.cause.later };
  kept = c.put_all.ensures.kept;
}
