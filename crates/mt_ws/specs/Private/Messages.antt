-- No public contract names these: they are of private steps and of proofs.
use Rattle.std.specs.Prelude.{ℕ, Option, None, Some, List, []}
use Rattle.tungstenite.specs.declared.message.Message.{Message}
use Rattle.mt_ws.specs.Messages.{payload_of}

-- the bytes of a data message, if there is one
abbrev pub bytes_in : Option Message → List ℕ
bytes_in None = []
bytes_in (Some message) = payload_of message
