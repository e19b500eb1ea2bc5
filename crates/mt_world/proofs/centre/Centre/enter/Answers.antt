use Rattle.mt_world.specs.World.{picture_of}
use Rattle.mt_world.proofs.Tested.{unpublished}
use Rattle.mt_world.proofs.centre.Centre.enter.Goals as goal

pub returns-in_err-prep-clause-tested : goal.returns-in_err-prep-clause-tested
returns-in_err-prep-clause-tested c =
    unpublished c.args.self.now (picture_of c.args.self.now) c.args.who c.args.who c.args.command.now _ _ c.in_err-prep.ensures.tested

pub returns-clause-tested : goal.returns-clause-tested
returns-clause-tested c = record {
  between = c.prepared.new.tests;
  prep = c.in_ok-prep.prep;
  prepared = c.in_ok-prep.ensures.tested;
  published = c.publish.ensures.tested;
}
