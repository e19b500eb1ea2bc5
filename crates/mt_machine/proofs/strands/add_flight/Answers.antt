use Rattle.std.proofs.Common.{arith}
use Rattle.std.proofs.lemmas.Grind.{common_steps}
use Rattle.std.proofs.lemmas.List.Elements.{All-push}
use Rattle.mt_base.specs.declared.conflict.Kind.TheVariants.{Tentative}
use Rattle.mt_base.specs.Picture.{NamedTrajectory}
use Rattle.mt_track.specs.Named.{HasName}
use Rattle.mt_machine.proofs.strands.add_flight.Goals as goal

pub add-requires : goal.add-requires
add-requires c = λ k d below named. c.requires.free k d below named.0

pub add-requires-2 : goal.add-requires-2
add-requires-2 c = rw c.in_ok-add.ensures.ok
    (All-push (λ (t : NamedTrajectory). ¬ HasName c.args.flight.now.call Tentative t) c.args.roster.now _
    (λ k d below named. c.requires.free k d below named.0) (λ named. cc))

pub returns : goal.returns
returns c = grind (arith, common_steps)
