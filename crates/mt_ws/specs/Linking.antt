-- What a call on a link does, over any stream below a WebSocket: the bytes that it has left and those that it was given, as far as it tells
-- them, are the parameters. What a socket is and what its own calls do (`Reads`, `Flushed`, `Writes`, `WriteFails`, `Serves`) are definitions
-- of the kit's `tungstenite`.
use Rattle.std.specs.Prelude.{◌≡◌, ◌<◌, ◌≤◌, ◌⊎◌, ℕ, ◌+◌, Bool, true, false, List, [], ◌++◌, length, take, Option, Some, None, Result, Ok, Err}
use Rattle.tungstenite.specs.Socket.{Socket, Writes}
use Rattle.tungstenite.specs.Failure.{WriteFails, IsIo}
use Rattle.tungstenite.specs.Connection.{write_step}
use Rattle.tungstenite.specs.declared.message.Message.{Message}
use Rattle.tungstenite.specs.declared.error.Error.{Error}
use Rattle.tungstenite.specs.declared.error.Error.TheVariants.{WriteBufferFull}
use Rattle.mt_io.specs.declared.source.Failed.{Failed}
use Rattle.mt_io.specs.Gathering.{ending_of}
use Rattle.mt_io.specs.Lines.{IsPart}
use Rattle.mt_ws.specs.declared.cause.WsCause.{WsCause}
use Rattle.mt_ws.specs.declared.cause.WsCause.TheVariants as Cause
use Rattle.mt_ws.specs.declared.ws_link.WsLink.{WsLink}
use Rattle.mt_ws.specs.Messages.{IsData, payload_of, with_ending, line_content, is_memory}
use Rattle.mt_ws.specs.Pulling.{AnswersAfterPings, ClosesSocket, FailsBy}

-- a piece up to its first 0x0A, or all
pub record Cuts (piece part : List ℕ) (whole : Bool) : Type 0 where
  pub is_part : IsPart part
  pub rest : List ℕ
  pub piece_is : piece ≡ part ++ (ending_of whole ++ rest)
  pub all : whole ≡ false → rest ≡ []

module _ {S : Type 0} (remaining contents : S → Option (List ℕ)) where
  -- more of a message that was begun
  pub record GivesRest (old new : WsLink S) (bytes : List ℕ) : Type 0 where
    pub some : 0 < length bytes
    pub bytes_are : old.ungiven ≡ bytes ++ new.ungiven
    pub socket : new.socket ≡ old.socket
    pub ended : new.ended ≡ old.ended
    pub cause : new.cause ≡ old.cause

  -- the front of the next message
  pub record GivesNext (old new : WsLink S) (bytes : List ℕ) : Type 0 where
    pub none : old.ungiven ≡ []
    pub going : (old.ended ≡ false) × (new.ended ≡ false)
    pub message : Message
    pub is_data : IsData message
    pub answers : AnswersAfterPings remaining contents old.socket new.socket (Ok message)
    pub some : 0 < length bytes
    pub bytes_are : with_ending (payload_of message) ≡ bytes ++ new.ungiven
    pub cause : new.cause ≡ old.cause

  -- `GivesEnd`, `GivesFault`, `ReadsLink`: the end of the link, its fault, and all that a read may do
  pub record GivesEnd (old new : WsLink S) (bytes : List ℕ) : Type 0 where
    pub no_bytes : bytes ≡ []
    pub none : (old.ungiven ≡ []) × (new.ungiven ≡ [])
    pub ended : new.ended ≡ true
    pub met :
        ((old.ended ≡ true) × (new.socket ≡ old.socket))
        ⊎ ((old.ended ≡ false) × ((failure : Option Error) × ClosesSocket remaining contents failure old.socket new.socket))
    pub cause : new.cause ≡ old.cause

  pub record GivesFault (old new : WsLink S) : Type 0 where
    pub none : (old.ungiven ≡ []) × (new.ungiven ≡ [])
    pub going : (old.ended ≡ false) × (new.ended ≡ false)
    pub cause : WsCause
    pub kept : new.cause ≡ Some cause
    pub fails : FailsBy remaining contents old.socket new.socket cause

  abbrev pub ReadsLink : WsLink S → WsLink S → List ℕ → Result ℕ Failed → Type 0
  ReadsLink old new buf (Ok n) = GivesRest old new (take n buf) ⊎ GivesNext old new (take n buf) ⊎ GivesEnd old new (take n buf)
  ReadsLink old new buf (Err fault) = GivesFault old new

  -- a line sent as one message, or why not
  abbrev pub SendsMessage : Socket S → Socket S → List ℕ → Result (Unit {0}) WsCause → Type 0
  SendsMessage old new line (Ok done) = Writes contents old new (write_step old.conn (line_content line)) × (new.output ≡ [])
  SendsMessage old new line (Err (Cause.Read e)) = ⊥
  SendsMessage old new line (Err (Cause.Send e)) =
      WriteFails (write_step old.conn (line_content line)) e × (IsIo e → Writes contents old new (write_step old.conn (line_content line))) × (is_memory e ≡ false)
      × (e ≡ WriteBufferFull → new ≡ old)
  SendsMessage old new line (Err Cause.Pings) = ⊥
  SendsMessage old new line (Err Cause.Long) = ⊥
  SendsMessage old new line (Err Cause.Memory) = new ≡ old

  -- a piece without a line's end, kept
  pub record KeepsPiece (old new : WsLink S) (piece : List ℕ) (n : ℕ) : Type 0 where
    pub part : List ℕ
    pub cut : Cuts piece part false
    pub count : n ≡ length part
    pub short : length (old.line ++ part) ≤ 131072
    pub line : new.line ≡ old.line ++ part
    pub socket : new.socket ≡ old.socket
    pub cause : new.cause ≡ old.cause

  -- a line ended, and was sent as one message
  pub record SendsLine (old new : WsLink S) (piece : List ℕ) (n : ℕ) : Type 0 where
    pub part : List ℕ
    pub cut : Cuts piece part true
    pub count : n ≡ length part + 1
    pub short : length (old.line ++ part) ≤ 131072
    pub line : new.line ≡ []
    pub sent : SendsMessage old.socket new.socket (old.line ++ part) (Ok tt)
    pub cause : new.cause ≡ old.cause

  -- why a line could not be kept or sent
  abbrev pub SendFailsBy : Socket S → Socket S → List ℕ → WsCause → Type 0
  SendFailsBy old new line (Cause.Read e) = ⊥
  SendFailsBy old new line (Cause.Send e) = (length line ≤ 131072) × SendsMessage old new line (Err (Cause.Send e))
  SendFailsBy old new line Cause.Pings = ⊥
  SendFailsBy old new line Cause.Long = (131072 < length line) × (new ≡ old)
  SendFailsBy old new line Cause.Memory = (length line ≤ 131072) × (new ≡ old)

  -- `SendFault`, `WritesLink`: a write's fault, with nothing taken, and all that a write may do
  pub record SendFault (old new : WsLink S) (piece : List ℕ) : Type 0 where
    pub part : List ℕ
    pub whole : Bool
    pub cut : Cuts piece part whole
    pub line : new.line ≡ old.line
    pub cause : WsCause
    pub kept : new.cause ≡ Some cause
    pub fails : SendFailsBy old.socket new.socket (old.line ++ part) cause

  abbrev pub WritesLink : WsLink S → WsLink S → List ℕ → Result ℕ Failed → Type 0
  WritesLink old new piece (Ok n) = KeepsPiece old new piece n ⊎ SendsLine old new piece n
  WritesLink old new piece (Err fault) = SendFault old new piece

-- a link that has read and written nothing
pub record IsNew {S : Type 0} (socket : Socket S) (link : WsLink S) : Type 0 where
  pub over : link.socket ≡ socket
  pub none : link.ungiven ≡ []
  pub going : link.ended ≡ false
  pub empty : link.line ≡ []
  pub no_cause : link.cause ≡ None
  pub no_faults : (link.read_faults ≡ 0) × (link.write_faults ≡ 0)
