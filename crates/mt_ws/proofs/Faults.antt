-- Why a line wasn't sent.
use Rattle.std.proofs.Common.{◌≡◌, ◌≤◌, ℕ, List, ◌++◌, length, take, Option, Err, subst}
use Rattle.std.proofs.Math.Seq.{take-append_seam}
use Rattle.tungstenite.specs.Socket.{Socket}
use Rattle.mt_ws.specs.declared.cause.WsCause.{WsCause}
use Rattle.mt_ws.specs.declared.cause.WsCause.TheVariants as Cause
use Rattle.mt_ws.specs.Linking.{SendsMessage, SendFailsBy}

send_fails_by : {S : Type 0} (remaining contents : S → Option (List ℕ)) (old new : Socket S) (line : List ℕ) (cause : WsCause)
    → length line ≤ 131072 → SendsMessage remaining contents old new line (Err cause) → SendFailsBy remaining contents old new line cause
send_fails_by remaining contents old new line (Cause.Read e) short sent = sent
send_fails_by remaining contents old new line (Cause.Send e) short sent = (short, sent)
send_fails_by remaining contents old new line Cause.Pings short sent = sent
send_fails_by remaining contents old new line Cause.Long short sent = absurd sent
send_fails_by remaining contents old new line Cause.Memory short sent = (short, sent)

pub send_fails : {S : Type 0} (remaining contents : S → Option (List ℕ)) (old new : Socket S) (line sent_line : List ℕ) (cause : WsCause)
    → sent_line ≡ line → length line ≤ 131072 → SendsMessage remaining contents old new sent_line (Err cause) → SendFailsBy remaining contents old new line cause
send_fails remaining contents old new line sent_line cause is short sent = send_fails_by remaining contents old new line cause short (subst (λ xs. SendsMessage remaining contents old new xs (Err cause)) is sent)

-- the part that was added is gone again
pub kept_line : (line part before added now : List ℕ) → before ≡ line → added ≡ line ++ part → now ≡ take (length before) added → now ≡ line
kept_line line part before added now was is cut = rw (cut, is, was) (take-append_seam line part)

pub fits : (line part added : List ℕ) → added ≡ line ++ part → length added ≤ 131072 → length (line ++ part) ≤ 131072
fits line part added is short = rw (← is) short
