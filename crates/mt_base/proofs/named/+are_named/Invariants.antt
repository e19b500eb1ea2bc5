use Rattle.std.specs.Prelude.{length}
use Rattle.mt_base.proofs.named.+are_named.Given as goal

abbrev pub decreases-are_named : goal.decreases-are_named
decreases-are_named l = length l.names.now
