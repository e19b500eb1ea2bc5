-- What a message is to a reader of lines, and a line to a peer.
use Rattle.std.specs.Prelude.{⊤, ℕ, ◌==◌, ◌-◌, Bool, true, false, not, ◌||◌, if◌then◌else◌, List, [], ◌++◌, length, slice_index}
use Rattle.std.specs.Str.{is_utf8}
use Rattle.tungstenite.specs.Content.{Content, text, binary}
use Rattle.tungstenite.specs.declared.message.Message.{Message}
use Rattle.tungstenite.specs.declared.message.Message.TheVariants as MessageKind
use Rattle.tungstenite.specs.declared.error.Error.{Error}
use Rattle.tungstenite.specs.declared.error.Error.TheVariants.{ConnectionClosed, OutOfMemory}
use Rattle.mt_io.specs.Gathering.{ending_of}

-- `payload_of`, `IsData`, `is_beat`: a data message's bytes; a data message; a ping or pong
abbrev pub payload_of : Message → List ℕ
payload_of (MessageKind.Text bytes) = bytes
payload_of (MessageKind.Binary bytes) = bytes
payload_of (MessageKind.Ping bytes) = []
payload_of (MessageKind.Pong bytes) = []
payload_of (MessageKind.Close frame) = []

abbrev pub IsData : Message → Type 0
IsData (MessageKind.Text bytes) = ⊤
IsData (MessageKind.Binary bytes) = ⊤
IsData (MessageKind.Ping bytes) = ⊥
IsData (MessageKind.Pong bytes) = ⊥
IsData (MessageKind.Close frame) = ⊥

abbrev pub is_beat : Message → Bool
is_beat (MessageKind.Ping bytes) = true
is_beat (MessageKind.Pong bytes) = true
is_beat m = false

-- no 0x0A stands at the end
abbrev pub is_unended : List ℕ → Bool
is_unended bytes = (length bytes == 0) || not (slice_index bytes (length bytes - 1) == 10)

-- a message's bytes, ending with 0x0A
abbrev pub with_ending : List ℕ → List ℕ
with_ending bytes = bytes ++ ending_of (is_unended bytes)

-- a line's message, text where UTF-8, else binary
abbrev pub line_content : List ℕ → Content
line_content line = if is_utf8 line then text line else binary line

-- an error for want of memory
abbrev pub is_memory : Error → Bool
is_memory OutOfMemory = true
is_memory e = false

-- an error after a close
abbrev pub is_after_close : Error → Bool
is_after_close ConnectionClosed = true
is_after_close e = false
