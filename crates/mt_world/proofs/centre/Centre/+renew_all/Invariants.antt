use Rattle.std.proofs.Common.{length}
use Rattle.mt_world.proofs.centre.Centre.+renew_all.Given as goal

abbrev pub decreases-renew_all : goal.decreases-renew_all
decreases-renew_all l = length l.calls.now
