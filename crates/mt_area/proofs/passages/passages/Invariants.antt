use Rattle.std.proofs.Common.{[], take}
use Rattle.mt_track.specs.Named.{named}
use Rattle.mt_area.specs.Private.Telling.{AddsPierced, IsPiercedByOne}
use Rattle.mt_area.proofs.passages.passages.Given as goal

abbrev pub invariant-loop-area : goal.invariant-loop-area
invariant-loop-area l = AddsPierced (IsPiercedByOne l.now (take l.area-index l.areas) (named l.item)) [] l.found
