use Rattle.std.proofs.lemmas.Result.{IfOk-weaker}
use Rattle.mt_probe.proofs.Tried.{few, follows}
use Rattle.mt_probe.proofs.Whole.{few_flights, own_calls}
use Rattle.mt_probe.proofs.trying.probe_of.Goals as goal

pub probe_with-requires-clause-follows : goal.probe_with-requires-clause-follows
probe_with-requires-clause-follows c =
    follows c.args.snapshot.now c.args.call c.args.clearance c.args.eff c.args.card.now c.deref.result.now c.in_ok-found.found c.keeps.ensures.sound.rules
    c.requires.left (rw (← c.deref.ensures) at c.in_ok-strand.ensures) c.in_ok-found.ensures.hits

pub probe_with-requires-clause-short : goal.probe_with-requires-clause-short
probe_with-requires-clause-short c =
    let shot = c.args.snapshot.now in
    let sound = c.keeps.ensures.sound in
    record {
      few = few shot c.args.call c.args.clearance c.args.eff c.args.card.now c.deref.result.now c.in_ok-found.found (own_calls shot sound) (few_flights shot sound)
          c.requires.left c.in_ok-found.ensures.hits;
      named = c.in_ok-found.ensures.named;
    }

pub returns-clause-tested : goal.returns-clause-tested
returns-clause-tested c = IfOk-weaker c.probe_with.result _ _ (λ p is. rw is.1 c.in_ok-found.ensures.tested) c.probe_with.ensures
