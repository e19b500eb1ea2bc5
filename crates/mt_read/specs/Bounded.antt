-- What a line asks for has its numbers within their bounds.
use Rattle.std.specs.Prelude.{ℕ, ◌+◌, ◌<◌, ◌≤◌, ◌^◌, IfSome, ⊤}
use Rattle.mt_base.specs.declared.rules.Rules.{Rules}
use Rattle.mt_base.specs.Area.{IsBoundedArea}
use Rattle.mt_base.specs.Bounds.{AreBoundedBands, AreWithinBounds, IsAskedFor, IsBoundedClearance, IsBoundedCommand, IsInPlane}
use Rattle.mt_board.specs.declared.ask.Ask.TheVariants as asks
use Rattle.mt_read.specs.declared.request.Request.{Request}
use Rattle.mt_read.specs.declared.request.Request.TheVariants as request
use Rattle.mt_read.specs.Rules.{rules_with}

-- at most 64 entries of a history
pub record IsEntrySpan (from to : ℕ) : Type 0 where
  pub begins : from ≤ 4194304
  pub forward : from ≤ to
  pub short : to ≤ from + 64

-- a request's numbers are within bounds, its rules as they would stand. A fix, the bands of a type, an area, a change that is asked for by itself, a
-- second, a stretch of the history, a clearance, the number of a probe, and the rules once they are set.
abbrev pub IsBoundedRequest : Rules → Request → Type 0
IsBoundedRequest rules (request.Fix name x y) = IsInPlane x y
IsBoundedRequest rules (request.TypeLine name bands) = AreBoundedBands bands
IsBoundedRequest rules (request.Area area) = IsBoundedArea area
IsBoundedRequest rules (request.Rule set) = AreWithinBounds (rules_with set rules)
IsBoundedRequest rules (request.Change command) = IsBoundedCommand command × IsAskedFor command
IsBoundedRequest rules (request.Probe call clearance eff) = IsBoundedClearance clearance × IfSome eff (λ second. second ≤ 10000000)
IsBoundedRequest rules (request.Accept probe) = (1 ≤ probe) × (probe < 2 ^ 63)
IsBoundedRequest rules (request.Ask (asks.Flight call sec)) = IfSome sec (λ s. s ≤ 10014400)
IsBoundedRequest rules (request.Ask (asks.History from to)) = IsEntrySpan from to
IsBoundedRequest rules request = ⊤

-- a bounded request by an actor up to 15
pub record IsBounded (rules : Rules) (asked : ℕ × Request) : Type 0 where
  pub who : asked.0 ≤ 15
  pub request : IsBoundedRequest rules asked.1
