-- No public contract names these: they are of private steps and of proofs.
use Rattle.std.specs.Prelude.{ℕ, List, Option, Ok}
use Rattle.tungstenite.specs.Socket.{Socket}
use Rattle.mt_ws.specs.declared.pull.Pulled.{Pulled}
use Rattle.mt_ws.specs.declared.pull.Pulled.TheVariants.{Data, End, Fault}
use Rattle.mt_ws.specs.Messages.{IsData}
use Rattle.mt_ws.specs.Pulling.{AnswersAfterPings, ClosesSocket, FailsBy}

module _ {S : Type 0} (remaining contents : S → Option (List ℕ)) where
  -- what a pull gives: a data message, the end, or a fault
  abbrev pub Pulls : Socket S → Socket S → Pulled → Type 0
  Pulls old new (Data m) = IsData m × AnswersAfterPings remaining contents old new (Ok m)
  Pulls old new (End failure) = ClosesSocket remaining contents failure old new
  Pulls old new (Fault cause) = FailsBy remaining contents old new cause
