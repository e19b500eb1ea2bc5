use Rattle.std.proofs.Common.{◌≡◌, ap, subst}
use Rattle.std.specs.Prelude.{OnErr}
use Rattle.mt_base.specs.Tables.{Setup}
use Rattle.mt_world.specs.World.{setup_of}
use Rattle.mt_world.proofs.Renewing.{Part, part_more}
use Rattle.mt_world.proofs.Tested.{more_renewed, none_renewed, one_renewed}
use Rattle.mt_world.proofs.centre.Centre.+renew_all.Goals as goal

pub returns-clause-err : goal.returns-clause-err
returns-clause-err n c =
    let same : setup_of c.renew.new.self ≡ setup_of c.args.self.now = ap setup_of c.renew.ensures.kept in
    part_more (setup_of c.args.self.now) c.args.who c.in-Some.call.now c.args.calls.now c.in-Some.rest.now c.args.self.now.history c.renew.new.self.history
    c.renew_all.new.self.history c.renew_all.result c.in-Some.ensures.cases.0 c.in_ok-renew.ensures.ok
    (subst (λ (setup : Setup). OnErr c.renew_all.result (Part setup c.args.who c.in-Some.rest.now c.renew.new.self.history c.renew_all.new.self.history)) same
    c.renew_all.ensures.err)

pub returns-clause-tested : goal.returns-clause-tested
returns-clause-tested n c =
    more_renewed c.args.self.now c.renew.new.self c.args.who c.in-Some.call.now c.args.calls.now c.in-Some.rest.now _ _ _ c.in-Some.ensures.cases.0
    c.renew.ensures.tested c.renew.ensures.kept c.in_ok-renew.ensures.ok c.renew_all.ensures.tested

pub returns-in_err-renew-clause-tested : goal.returns-in_err-renew-clause-tested
returns-in_err-renew-clause-tested n c =
    one_renewed c.args.self.now c.args.who c.in-Some.call.now c.args.calls.now c.in-Some.rest.now _ _ c.in-Some.ensures.cases.0 c.renew.ensures.tested

pub returns-in_default-clause-tested : goal.returns-in_default-clause-tested
returns-in_default-clause-tested n c = none_renewed c.args.self.now c.args.who c.args.calls.now _
