use Rattle.std.proofs.Common.{◌↔◌, take, Contains}
use Rattle.std.specs.List.{filter}
use Rattle.mt_base.specs.declared.conflict.Conflict.{Conflict}
use Rattle.mt_kept.specs.Private.Made.{opens}
use Rattle.mt_kept.specs.Private.Window.{Shows}
use Rattle.mt_kept.proofs.showing.shown_of.Given as goal

abbrev pub invariant-loop-pair : goal.invariant-loop-pair
invariant-loop-pair l = (c : Conflict) → Contains l.list.items c ↔ Shows (filter (opens l.now) (take l.pair-index l.pairs)) c
