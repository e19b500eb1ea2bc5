-- A WebSocket that a handshake gave.
use Rattle.std.specs.Prelude.{◌≡◌, false, Some}
use Rattle.tungstenite.specs.Heads.{Serves}
use Rattle.tungstenite.specs.Socket.{Socket}
use Rattle.mt_ws.specs.declared.ws_link.WsLink.{WsLink}
use Rattle.mt_ws.specs.Linking.{IsNew}

-- messages up to 131,072 bytes, frames masked
pub record HasLimits {S : Type 0} (socket : Socket S) : Type 0 where
  pub message : socket.conn.config.max_message_size ≡ Some 131072
  pub frame : socket.conn.config.max_frame_size ≡ Some 131072
  pub masked : socket.conn.config.accept_unmasked_frames ≡ false

-- a link fresh from its handshake
pub record IsFromHandshake {S : Type 0} (link : WsLink S) : Type 0 where
  pub serves : Serves link.socket
  pub bounded : HasLimits link.socket
  pub new : IsNew link.socket link
