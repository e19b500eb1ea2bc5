use Rattle.std.proofs.lemmas.List.Elements.{All-rest}
use Rattle.mt_read.specs.Bounded.{IsBoundedRequest}
use Rattle.mt_load.proofs.driving.+ask_all.Goals as goal

pub ask_all-requires-clause-bounded : goal.ask_all-requires-clause-bounded
ask_all-requires-clause-bounded g t c κs within = λ rules.
    All-rest (IsBoundedRequest rules) c.in-Some.request.now c.in-Some.rest.now c.args.requests.now c.in-Some.ensures.cases.0 (c.requires.bounded rules)
