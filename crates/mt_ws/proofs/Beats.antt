-- What the reads of a socket come to, until a message that is no ping and no pong.
use Rattle.std.proofs.Common.{◌≡◌, ◌≤◌, ℕ, ◌+◌, true, false, List, Option, Result, Ok, refl, arith, suc}
use Rattle.tungstenite.specs.Socket.{Socket, Reads, has_kind}
use Rattle.tungstenite.specs.declared.message.CloseFrame.{CloseFrame}
use Rattle.tungstenite.specs.declared.message.Message.TheVariants as MessageKind
use Rattle.tungstenite.specs.declared.message.Message.{Message}
use Rattle.tungstenite.specs.declared.error.Error.{Error}
use Rattle.mt_ws.specs.Messages.{is_beat, IsData}
use Rattle.mt_ws.specs.Pulling.{Beats, AnswersAfterPings}

-- one more
pub beats_on : {S : Type 0} (remaining contents : S → Option (List ℕ)) (n : ℕ) (old middle new : Socket S) (m : Message)
    → Beats remaining contents n old middle → Reads remaining middle new (Ok m) → is_beat m ≡ true → Beats remaining contents (n + 1) old new
beats_on remaining contents n old middle new m passed read beat =
    let e : n + 1 ≡ suc n = omega arith in
    rw e (middle, passed, (m, read, beat))

pub answers_by : {S : Type 0} (remaining contents : S → Option (List ℕ)) (n : ℕ) (old middle new : Socket S) (result : Result Message Error)
    → n ≤ 4096 → Beats remaining contents n old middle → Reads remaining middle new result → AnswersAfterPings remaining contents old new result
answers_by remaining contents n old middle new result few passed read = record { beats = n; few = few; middle = middle; passed = passed; read = read }

-- neither a close nor a ping nor a pong
pub is_data : (m : Message) → is_beat m ≡ false → has_kind 4 m ≡ false → IsData m
is_data (MessageKind.Text bytes) no_beat no_close = tt
is_data (MessageKind.Binary bytes) no_beat no_close = tt
is_data (MessageKind.Ping bytes) no_beat no_close = cc
is_data (MessageKind.Pong bytes) no_beat no_close = cc
is_data (MessageKind.Close frame) no_beat no_close = cc

pub close_is : (m : Message) → has_kind 4 m ≡ true → (frame : Option CloseFrame) × (m ≡ MessageKind.Close frame)
close_is (MessageKind.Text bytes) is = cc
close_is (MessageKind.Binary bytes) is = cc
close_is (MessageKind.Ping bytes) is = cc
close_is (MessageKind.Pong bytes) is = cc
close_is (MessageKind.Close frame) is = (frame, refl)
