use Rattle.std.proofs.Common.{◌≡◌, ◌<◌, arith}
use Rattle.mt_cover.proofs.Stand.{parts_joined}
use Rattle.mt_cover.proofs.walk.gather.Goals as goal

pub loop-gathered-preserved : goal.loop-gathered-preserved
loop-gathered-preserved c =
    let gathered = c.loop-gathered.invariant in
    let part = c.gather_part-part.ensures in
    let early : c.loop-gathered.gathered.until < c.args.end = omega (arith, c.loop-gathered-test.true, c.requires.within) in
    record {
      is = parts_joined _ _ _ _ _ _ _ _ _ _ c.requires.laid gathered.stands early c.requires.begun (omega (arith, gathered.begun)) part.on
          gathered.is part.is c.box_of_both.ensures.is;
      kept = c.box_of_both.ensures.kept;
      begun = omega (arith, gathered.begun, part.on);
      within = part.within;
      stands = part.stands;
    }

pub returns-clause-is : goal.returns-clause-is
returns-clause-is c =
    let e : c.loop-gathered.gathered.until ≡ c.args.to = omega (arith, c.loop-gathered.invariant.within, c.loop-gathered-test.false) in
    rw e at c.loop-gathered.invariant.is
