-- No public contract names these: they are of private steps and of proofs.
use Rattle.std.specs.Prelude.{◌≡◌, ⊤, ℕ, List, Option, Some, None}
use Rattle.mt_ws.specs.declared.beginning.Start.{Start}
use Rattle.mt_ws.specs.declared.beginning.Start.TheVariants as starts
use Rattle.mt_ws.specs.declared.opening.LinkKind.{LinkKind}
use Rattle.mt_ws.specs.declared.opening.LinkKind.TheVariants as Kind
use Rattle.mt_ws.specs.Accepted.{IsFromHandshake}
use Rattle.mt_ws.specs.Beginning.{EndsAsRequest}

-- what a whole first line says that leaves open what it begins
abbrev pub IsStartOfLine : List ℕ → Start → Type 0
IsStartOfLine line starts.Lines = ¬ EndsAsRequest line
IsStartOfLine line starts.Web = ⊥
IsStartOfLine line starts.Foreign = EndsAsRequest line

-- what first bytes make of a stream
abbrev pub IsKindBy : {S : Type 0} → List ℕ → Option Start → S → LinkKind S → Type 0
IsKindBy head start stream (Kind.Lines front) = (start ≡ Some starts.Lines) × (front ≡ record { back = head; stream = stream })
IsKindBy head start stream (Kind.Web link) = (start ≡ Some starts.Web) × IsFromHandshake link
IsKindBy head start stream Kind.Over = start ≡ None
IsKindBy head start stream Kind.Foreign = start ≡ Some starts.Foreign
IsKindBy head start stream Kind.Broken = ⊤

-- a WebSocket from its handshake, or none
abbrev pub IsWebOrBroken : {S : Type 0} → LinkKind S → Type 0
IsWebOrBroken (Kind.Web link) = IsFromHandshake link
IsWebOrBroken Kind.Broken = ⊤
IsWebOrBroken kind = ⊥
