use Rattle.std.proofs.Common.{inr, refl}
use Rattle.mt_world.proofs.Renewing.{all_settled}
use Rattle.mt_world.proofs.Tested.{none_settled, some_settled}
use Rattle.mt_world.proofs.centre.Centre.settle.Goals as goal

pub returns-clause-answered : goal.returns-clause-answered
returns-clause-answered c = inr (record {
  reply_is = refl;
  left = inr (all_settled c.args.self.now c.renew_all.new.self c.args.who c.in-Ok.calls
      c.in-Ok.ensures.exact
      (rw c.items.ensures at c.in_default-renew_all.ensures.ok) c.renew_all.ensures.kept);
})

pub returns-in_default-clause-tested : goal.returns-in_default-clause-tested
returns-in_default-clause-tested c = none_settled c.args.self.now c.args.who _

pub returns-clause-tested : goal.returns-clause-tested
returns-clause-tested c =
    some_settled c.args.self.now c.args.who c.in-Ok.calls _ _ c.in-Ok.ensures.exact (rw c.items.ensures at c.renew_all.ensures.tested)
