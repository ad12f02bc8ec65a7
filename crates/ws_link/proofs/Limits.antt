-- Whatever is read, a connection keeps its limits.
use Rattle.std.proofs.Common.{◌≡◌, ℕ, List, [], ◌∷◌, ◌++◌, Bool, true, false, cond, not, Option, None, Some, Ok, Err, Result, refl, subst, sym, length, nat_lt}
use Rattle.board_links.specs.declared.link.Came.{Came}
use Rattle.board_links.specs.declared.link.Came.TheVariants as came
use Rattle.tungstenite.specs.Connection.{Connection, Effect, can_write, check_header, check_so_far, complete_message, decode_close, deliver, has_allowed_code, on_close, on_control, on_data, on_data_after, on_frame, on_message_bytes, on_opcode, on_short_control, read_step}
use Rattle.tungstenite.specs.Content.{Content}
use Rattle.tungstenite.specs.Frame.{Checked, after_check, check_size}
use Rattle.tungstenite.specs.FrameStatus.TheVariants.{Complete}
use Rattle.tungstenite.specs.Socket.{Run, Runs, Socket}
use Rattle.websocket.proofs.StreamLemmas.{TookFrame_from_read}
use Rattle.websocket.specs.declared.error.Error.{Error}
use Rattle.websocket.specs.declared.protocol.frame.coding.CloseCode.{CloseCode}
use Rattle.websocket.specs.declared.protocol.frame.coding.Control.{Control}
use Rattle.websocket.specs.declared.protocol.frame.coding.Control.TheVariants.{Close, Ping, Pong}
use Rattle.websocket.specs.declared.protocol.frame.coding.Data.{Data}
use Rattle.websocket.specs.declared.protocol.frame.coding.Data.TheVariants.{Continue, Text, Binary}
use Rattle.websocket.specs.declared.protocol.frame.coding.OpCode.{OpCode}
use Rattle.websocket.specs.declared.protocol.frame.coding.OpCode.TheVariants as Op
use Rattle.websocket.specs.declared.protocol.frame.header.FrameHeader.{FrameHeader}
use Rattle.websocket.specs.declared.protocol.incomplete.MessageType.{MessageType}
use Rattle.websocket.specs.declared.protocol.incomplete.MessageType.TheVariants as Kind
use Rattle.websocket.specs.declared.protocol.state.WebSocketState.{WebSocketState}
use Rattle.ws_link.specs.Frames.{Hears, IsLimited, line_limit}
use Rattle.ws_link.specs.Peers.{StaysLimited, TakesLines}
use Rattle.ws_link.specs.declared.ws_link.Peer.{Peer}
use Rattle.ws_link.specs.declared.ws_link.Peer.TheVariants as peer

abbrev Stays : Result Effect Error → Type 0
Stays (Ok effect) = IsLimited effect.next
Stays (Err e) = Unit {0}

either : (b : Bool) (x y : Result Effect Error) → Stays x → Stays y → Stays (cond b x y)
either true x y h k = h
either false x y h k = k

checked : (check : Checked Error) (x : Result Effect Error) → Stays x → Stays (after_check check x)
checked (Ok _) x h = h
checked (Err e) x h = tt

restated : (c : Connection) → IsLimited c → (state : WebSocketState) → IsLimited (record c { state = state })
restated c h state = record { messages = h.messages; frames = h.frames; begun = h.begun }

closed : (c : Connection) → IsLimited c → (payload : List ℕ) (writes allowed : Bool) (frame : Option (CloseCode × List ℕ)) → can_write c.state ≡ writes → has_allowed_code frame ≡ allowed → Stays (on_close c payload (Ok frame))
closed c h payload true true frame w a = rw (w, a) (restated c h _)
closed c h payload true false frame w a = rw (w, a) (restated c h _)
closed c h payload false allowed frame w a = rw w (restated c h _)

close_read : (c : Connection) → IsLimited c → (payload : List ℕ) (r : Result (Option (CloseCode × List ℕ)) Error) → Stays (on_close c payload r)
close_read c h payload (Err e) = tt
close_read c h payload (Ok frame) = closed c h payload (can_write c.state) (has_allowed_code frame) frame refl refl

short_control : (c : Connection) → IsLimited c → (control : Control) (payload : List ℕ) → Stays (on_short_control c control payload)
short_control c h Close payload = close_read c h payload (decode_close payload)
short_control c h Pong payload = h
short_control c h Ping payload = h

control_read : (c : Connection) → IsLimited c → (control : Control) (is_final : Bool) (payload : List ℕ) → Stays (on_control c control is_final payload)
unfolding on_control
control_read c h control is_final payload = either (not is_final) _ _ tt (either (nat_lt 125 (length payload)) _ _ tt (short_control c h control payload))

delivered : (c : Connection) → IsLimited c → (r : Result Content Error) → Stays (deliver c r)
delivered c h (Err e) = tt
delivered c h (Ok content) = record { messages = h.messages; frames = h.frames; begun = tt }

abbrev kept : Connection → MessageType → Bool → List ℕ → Result Effect Error
kept c kind is_final bytes =
    cond is_final (deliver c (complete_message kind bytes))
    (after_check (check_so_far kind bytes) (Ok (record { message = None; reply = None; next = record c { fragments = Some (kind, bytes) } })))

sized : (c : Connection) → IsLimited c → (kind : MessageType) (is_final : Bool) (bytes : List ℕ) (long : Bool) → nat_lt line_limit (length bytes) ≡ long
    → Stays (after_check (check_size (length bytes) (Some line_limit)) (kept c kind is_final bytes))
sized c h kind is_final bytes true is = rw is tt
sized c h kind is_final bytes false is =
    rw is (either is_final _ _ (delivered c h (complete_message kind bytes))
    (checked (check_so_far kind bytes) _ (record { messages = h.messages; frames = h.frames; begun = is })))

bytes_read : (c : Connection) → IsLimited c → (kind : MessageType) (is_final : Bool) (bytes : List ℕ) → Stays (on_message_bytes c kind is_final bytes)
unfolding on_message_bytes
bytes_read c h kind is_final bytes =
    subst (λ limit. Stays (after_check (check_size (length bytes) limit) (kept c kind is_final bytes))) (sym h.messages)
    (sized c h kind is_final bytes (nat_lt line_limit (length bytes)) refl)

data_after : (c : Connection) → IsLimited c → (so_far : Option (MessageType × List ℕ)) (kind : Data) (is_final : Bool) (payload : List ℕ) → Stays (on_data_after c so_far kind is_final payload)
data_after c h None Continue is_final payload = tt
data_after c h None Text is_final payload = bytes_read c h Kind.Text is_final payload
data_after c h None Binary is_final payload = bytes_read c h Kind.Binary is_final payload
data_after c h (Some p) Continue is_final payload = bytes_read c h p.0 is_final (p.1 ++ payload)
data_after c h (Some p) Text is_final payload = tt
data_after c h (Some p) Binary is_final payload = tt

data_read : (c : Connection) → IsLimited c → (kind : Data) (is_final : Bool) (payload : List ℕ) → Stays (on_data c kind is_final payload)
unfolding on_data
data_read c h kind is_final payload = data_after c h c.fragments kind is_final payload

opcode_read : (c : Connection) → IsLimited c → (op : OpCode) (is_final : Bool) (payload : List ℕ) → Stays (on_opcode c op is_final payload)
opcode_read c h (Op.Control control) is_final payload = control_read c h control is_final payload
opcode_read c h (Op.Data kind) is_final payload = data_read c h kind is_final payload

frame_read : (c : Connection) → IsLimited c → (header : FrameHeader) (payload : List ℕ) → Stays (on_frame c header payload)
unfolding on_frame
frame_read c h header payload = checked (check_header c header) _ (opcode_read c h header.opcode header.is_final payload)

step_limited : (c : Connection) (i : List ℕ) (p : ℕ × Effect) → read_step c i ≡ Ok (Complete p) → IsLimited c → IsLimited p.1.next
step_limited c i p e h =
    let took = TookFrame_from_read c i p e in
    subst Stays took.does (frame_read c h took.header took.payload)

runs_limited : (c c2 : Connection) (i i2 : List ℕ) (ps : Run) → Runs c i ps c2 i2 → IsLimited c → IsLimited c2
runs_limited c c2 i i2 [] r h = rw r.0 h
runs_limited c c2 i i2 (p ∷ ps) r h = runs_limited p.1.next c2 _ i2 ps r.1 (step_limited c i p r.0 h)

module _ {T : Type 0} where
  -- a receive that was told a line or nothing leaves a peer that takes lines alone
  pub still_limited : (rem : T → Option (List ℕ)) (old : Peer T) (mid new : Socket T) (answer : Came) → (TakesLines old → IsLimited mid.conn) → Hears rem mid new answer → StaysLimited old (peer.Open new) answer
  still_limited rem old mid new (came.Line bytes) limits h = λ takes. runs_limited mid.conn new.conn _ new.input h.0 h.1.frames (limits takes)
  still_limited rem old mid new came.TooLong limits h = tt
  still_limited rem old mid new came.Ended limits h = tt
  still_limited rem old mid new came.Quiet limits h = λ takes. runs_limited mid.conn new.conn _ new.input h.0 h.1.frames (limits takes)
  still_limited rem old mid new came.Failed limits h = tt
  still_limited rem old mid new came.NoMemory limits h = tt
