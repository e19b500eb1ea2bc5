use Rattle.std.proofs.Common.{rules, subst, sym}
use Rattle.std.specs.Prelude.{All}
use Rattle.mt_load.specs.Input.{inputs}
use Rattle.mt_read.specs.Bounded.{IsBoundedRequest}
use Rattle.mt_world.specs.World.{opening_world}
use Rattle.mt_load.specs.Load.{AreRequestsAnswered}
use Rattle.mt_load.proofs.Numbers.{input_made_none}
use Rattle.mt_load.proofs.driving.drive.Goals as goal

pub ask_all-requires-clause-bounded : goal.ask_all-requires-clause-bounded
ask_all-requires-clause-bounded g c κs within = λ rules.
    subst (All (IsBoundedRequest rules)) (sym c.deref.ensures.value) (c.in_ok-requests.ensures.bounded rules)

pub advise_all-requires-clause-none : goal.advise_all-requires-clause-none
advise_all-requires-clause-none g c κs within =
    let asked : AreRequestsAnswered opening_world 0 (inputs c.args.flights c.args.number) c.ask_all.new.script = search rules in
    input_made_none c.args.flights c.args.number c.ask_all.new.script asked
