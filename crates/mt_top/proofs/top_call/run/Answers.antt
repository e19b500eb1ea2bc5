use Rattle.std.proofs.Common.{None, Some, ap, refl, ◌∙◌}
use Rattle.mt_args.specs.declared.task.Task.TheVariants.{Load, Replay, Serve, Standby}
use Rattle.mt_top.specs.declared.status.Status.TheVariants.{ReadFault, DoorFault}
use Rattle.mt_top.specs.Load.{LoadMeans}
use Rattle.mt_top.specs.Run.{UsageMeans}
use Rattle.mt_top.specs.Script.{IsReplied}
use Rattle.mt_top.specs.Standby.{IsStoodBy}
use Rattle.mt_top.proofs.WordLemmas.{asked_for, faultless, no_door, refuted, uncalled}
use Rattle.mt_top.proofs.top_call.run.Goals as goal

pub returns-in_default-clause-means : goal.returns-in_default-clause-means
returns-in_default-clause-means g c =
    asked_for g.D.Link.Source g.D.Link.Sink _ _ _ _ c.args.words.now None c.usage.result _ _ _ _ c.in_default.ensures.task
    (uncalled _ _ _ _ _ _ _ refl (c.usage.ensures.means _))

pub returns-in-Replay-clause-means : goal.returns-in-Replay-clause-means
returns-in-Replay-clause-means g c =
    asked_for g.D.Link.Source g.D.Link.Sink _ _ _ _ c.args.words.now (Some Replay) c.answer_input.result _ _ _ _ (c.in-Ok.ensures.task ∙ ap Some c.in-Replay.is)
    (uncalled _ _ _ _ _ _ _ refl c.answer_input.ensures.means)

pub returns-in-Standby-clause-means : goal.returns-in-Standby-clause-means
returns-in-Standby-clause-means g c =
    asked_for g.D.Link.Source g.D.Link.Sink _ _ _ _ c.args.words.now (Some Standby) c.answer_input-in-Standby.result _ _ _ _ (c.in-Ok.ensures.task ∙ ap Some c.in-Standby.is)
    (uncalled _ _ _ _ _ _ _ refl c.answer_input-in-Standby.ensures.means)

pub returns-in-Load-clause-means : goal.returns-in-Load-clause-means
returns-in-Load-clause-means g c =
    asked_for g.D.Link.Source g.D.Link.Sink _ _ _ _ c.args.words.now (Some (Load c.in-Load.flights c.in-Load.number)) c.load.result _ _ _ _
    (c.in-Ok.ensures.task ∙ ap Some c.in-Load.is)
    (uncalled _ _ _ _ _ _ _ refl (c.load.ensures.means _))

pub returns-in-Serve-clause-means : goal.returns-in-Serve-clause-means
returns-in-Serve-clause-means g c =
    asked_for g.D.Link.Source g.D.Link.Sink _ _ _ _ c.args.words.now (Some (Serve c.in-Serve.port c.in-Serve.sessions c.in-Serve.workers)) c.serve.result _ _ _ _
    (c.in-Ok.ensures.task ∙ ap Some c.in-Serve.is) c.serve.ensures.means

-- the usage line and a load run end by no fault but one of the output
pub returns-in_default-clause-read : goal.returns-in_default-clause-read
returns-in_default-clause-read g c = λ is. absurd (refuted UsageMeans c.usage.result ReadFault _ _ (λ input left written never. never) c.usage.ensures.means is)

pub returns-in_default-clause-door : goal.returns-in_default-clause-door
returns-in_default-clause-door g c = λ is. absurd (refuted UsageMeans c.usage.result DoorFault _ _ (λ input left written never. never) c.usage.ensures.means is)

pub returns-in_default-clause-complete : goal.returns-in_default-clause-complete
returns-in_default-clause-complete g c = λ reads writes doors. faultless c.usage.result
    (refuted UsageMeans c.usage.result ReadFault _ _ (λ input left written never. never) c.usage.ensures.means)
    (λ is. writes (c.usage.ensures.output.fault.cause is))
    (refuted UsageMeans c.usage.result DoorFault _ _ (λ input left written never. never) c.usage.ensures.means)

pub returns-in-Load-clause-read : goal.returns-in-Load-clause-read
returns-in-Load-clause-read g c =
    λ is. absurd (refuted (LoadMeans c.in-Load.flights c.in-Load.number) c.load.result ReadFault _ _ (λ input left written never. never) c.load.ensures.means is)

pub returns-in-Load-clause-door : goal.returns-in-Load-clause-door
returns-in-Load-clause-door g c =
    λ is. absurd (refuted (LoadMeans c.in-Load.flights c.in-Load.number) c.load.result DoorFault _ _ (λ input left written never. never) c.load.ensures.means is)

pub returns-in-Load-clause-complete : goal.returns-in-Load-clause-complete
returns-in-Load-clause-complete g c = λ reads writes doors. faultless c.load.result
    (refuted (LoadMeans c.in-Load.flights c.in-Load.number) c.load.result ReadFault _ _ (λ input left written never. never) c.load.ensures.means)
    (λ is. writes (c.load.ensures.output.fault.cause is))
    (refuted (LoadMeans c.in-Load.flights c.in-Load.number) c.load.result DoorFault _ _ (λ input left written never. never) c.load.ensures.means)

-- a replay doesn't call the door
pub returns-in-Replay-clause-read : goal.returns-in-Replay-clause-read
returns-in-Replay-clause-read g c = c.answer_input.ensures.input.fault.cause

pub returns-in-Replay-clause-write : goal.returns-in-Replay-clause-write
returns-in-Replay-clause-write g c = c.answer_input.ensures.output.fault.cause

pub returns-in-Replay-clause-door : goal.returns-in-Replay-clause-door
returns-in-Replay-clause-door g c = λ is. absurd (no_door IsReplied c.answer_input.result _ _ _ _ c.answer_input.ensures.means is)

pub returns-in-Replay-clause-complete : goal.returns-in-Replay-clause-complete
returns-in-Replay-clause-complete g c = λ reads writes doors. faultless c.answer_input.result (λ is. reads (c.answer_input.ensures.input.fault.cause is))
    (λ is. writes (c.answer_input.ensures.output.fault.cause is)) (no_door IsReplied c.answer_input.result _ _ _ _ c.answer_input.ensures.means)

pub returns-in-Replay-clause-reads : goal.returns-in-Replay-clause-reads
returns-in-Replay-clause-reads g c = c.answer_input.ensures.input.kept

pub returns-in-Replay-clause-writes : goal.returns-in-Replay-clause-writes
returns-in-Replay-clause-writes g c = c.answer_input.ensures.output.kept

-- a standby doesn't call the door
pub returns-in-Standby-clause-read : goal.returns-in-Standby-clause-read
returns-in-Standby-clause-read g c = c.answer_input-in-Standby.ensures.input.fault.cause

pub returns-in-Standby-clause-write : goal.returns-in-Standby-clause-write
returns-in-Standby-clause-write g c = c.answer_input-in-Standby.ensures.output.fault.cause

pub returns-in-Standby-clause-door : goal.returns-in-Standby-clause-door
returns-in-Standby-clause-door g c = λ is. absurd (no_door IsStoodBy c.answer_input-in-Standby.result _ _ _ _ c.answer_input-in-Standby.ensures.means is)

pub returns-in-Standby-clause-complete : goal.returns-in-Standby-clause-complete
returns-in-Standby-clause-complete g c = λ reads writes doors. faultless c.answer_input-in-Standby.result (λ is. reads (c.answer_input-in-Standby.ensures.input.fault.cause is))
    (λ is. writes (c.answer_input-in-Standby.ensures.output.fault.cause is)) (no_door IsStoodBy c.answer_input-in-Standby.result _ _ _ _ c.answer_input-in-Standby.ensures.means)

pub returns-in-Standby-clause-reads : goal.returns-in-Standby-clause-reads
returns-in-Standby-clause-reads g c = c.answer_input-in-Standby.ensures.input.kept

pub returns-in-Standby-clause-writes : goal.returns-in-Standby-clause-writes
returns-in-Standby-clause-writes g c = c.answer_input-in-Standby.ensures.output.kept

pub returns-in-Serve-clause-read : goal.returns-in-Serve-clause-read
returns-in-Serve-clause-read g c = c.serve.ensures.input.fault.cause

pub returns-in-Serve-clause-write : goal.returns-in-Serve-clause-write
returns-in-Serve-clause-write g c = c.serve.ensures.output.fault.cause

pub returns-in-Serve-clause-complete : goal.returns-in-Serve-clause-complete
returns-in-Serve-clause-complete g c = λ reads writes doors. faultless c.serve.result (λ is. reads (c.serve.ensures.input.fault.cause is))
    (λ is. writes (c.serve.ensures.output.fault.cause is)) (λ is. doors (c.serve.ensures.door is))

pub returns-in-Serve-clause-reads : goal.returns-in-Serve-clause-reads
returns-in-Serve-clause-reads g c = c.serve.ensures.input.kept

pub returns-in-Serve-clause-writes : goal.returns-in-Serve-clause-writes
returns-in-Serve-clause-writes g c = c.serve.ensures.output.kept

pub returns-in_default-clause-write : goal.returns-in_default-clause-write
returns-in_default-clause-write g c = c.usage.ensures.output.fault.cause

pub returns-in_default-clause-writes : goal.returns-in_default-clause-writes
returns-in_default-clause-writes g c = c.usage.ensures.output.kept

pub returns-in-Load-clause-write : goal.returns-in-Load-clause-write
returns-in-Load-clause-write g c = c.load.ensures.output.fault.cause

pub returns-in-Load-clause-writes : goal.returns-in-Load-clause-writes
returns-in-Load-clause-writes g c = c.load.ensures.output.kept
