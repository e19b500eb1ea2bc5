use Rattle.std.proofs.Common.{length}
use Rattle.mt_load.proofs.driving.+ask_all.Given as goal

abbrev pub decreases-ask_all : goal.decreases-ask_all
decreases-ask_all g l = length l.requests.now
