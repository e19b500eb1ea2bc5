-- What a link asks of its socket for the next message.
use Rattle.std.specs.Prelude.{◌≡◌, ◌≤◌, ◌⊎◌, ℕ, zero, suc, true, false, List, [], Option, None, Some, Result, Ok, Err}
use Rattle.tungstenite.specs.Socket.{Socket, Reads, Flushed}
use Rattle.tungstenite.specs.Failure.{IsIo}
use Rattle.tungstenite.specs.declared.message.Message.{Message}
use Rattle.tungstenite.specs.declared.message.Message.TheVariants.{Close}
use Rattle.tungstenite.specs.declared.message.CloseFrame.{CloseFrame}
use Rattle.tungstenite.specs.declared.error.Error.{Error}
use Rattle.mt_ws.specs.declared.cause.WsCause.{WsCause}
use Rattle.mt_ws.specs.declared.cause.WsCause.TheVariants as Cause
use Rattle.mt_ws.specs.Messages.{is_beat, is_memory, is_after_close}

module _ {S : Type 0} (remaining contents : S → Option (List ℕ)) where
  -- so many pings and pongs were read
  abbrev pub Beats : ℕ → Socket S → Socket S → Type 0
  Beats zero old new = new ≡ old
  Beats (suc n) old new = (middle : Socket S) × Beats n old middle × ((m : Message) × Reads remaining middle new (Ok m) × (is_beat m ≡ true))

  -- an answer after at most 4,096 pings and pongs
  pub record AnswersAfterPings (old new : Socket S) (result : Result Message Error) : Type 0 where
    pub beats : ℕ
    pub few : beats ≤ 4096
    pub middle : Socket S
    pub passed : Beats beats old middle
    pub read : Reads remaining middle new result

  -- nothing waits to be sent, or the stream failed
  abbrev pub IsSent : Option Error → Socket S → Type 0
  IsSent None new = new.output ≡ []
  IsSent (Some e) new = IsIo e

  -- a close was read and answered, or came before. What waited was sent, the reply to the close with it, unless the stream failed.
  abbrev pub ClosesSocket : Option Error → Socket S → Socket S → Type 0
  ClosesSocket failure old new =
      ((after : Socket S) × ((frame : Option CloseFrame) × AnswersAfterPings old after (Ok (Close frame))) × Flushed contents after new × IsSent failure new)
      ⊎ ((e : Error) × (is_after_close e ≡ true) × (failure ≡ None) × AnswersAfterPings old new (Err e))

  -- a read without message or end, by its cause
  abbrev pub FailsBy : Socket S → Socket S → WsCause → Type 0
  FailsBy old new (Cause.Read e) = AnswersAfterPings old new (Err e) × (is_memory e ≡ false) × (is_after_close e ≡ false)
  FailsBy old new (Cause.Send e) = ⊥
  FailsBy old new Cause.Pings = (n : ℕ) × (n ≡ 4097) × Beats n old new
  FailsBy old new Cause.Long = ⊥
  FailsBy old new Cause.Memory = (e : Error) × (is_memory e ≡ true) × AnswersAfterPings old new (Err e)
