use Rattle.std.proofs.Common.{◌≡◌, ◌++◌, map, take}
use Rattle.mt_base.specs.declared.clearance.Clearance.TheVariants.{Direct}
use Rattle.mt_base.specs.Advice.{each_once}
use Rattle.mt_advise.proofs.directs.put_directs.Given as goal

abbrev pub invariant-loop-i : goal.invariant-loop-i
invariant-loop-i l = l.list.items ≡ l.fn.list.items ++ map Direct (each_once (take l.i l.names))
