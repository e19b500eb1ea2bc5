use Rattle.std.proofs.Common.{◌<◌, arith}
use Rattle.mt_picture.specs.Story.{Story}
use Rattle.mt_world.proofs.Taking.{advised_result}
use Rattle.mt_world.proofs.centre.Centre.try_all.Goals as goal

pub returns-clause-advised : goal.returns-clause-advised
returns-clause-advised g c =
    let story : Story = c.self.inside.picture in
    let below : c.args.who < 16 = omega (arith, c.requires) in
    rw (← c.self.view_is) (advised_result c.self.inside.areas story c.self.inside.actors.items c.args.who c.index.result.now c.self.invariant below c.index.ensures c.advise.result
    (λ a. a.eff) (λ a. a.version) (λ a. a.probes.items) c.args.call c.advise.ensures.advised)
