-- Whatever is read, a connection keeps its side.
use Rattle.std.proofs.Common.{◌≡◌, ℕ, List, [], ◌∷◌, ◌++◌, Bool, true, false, cond, not, Option, None, Some, Ok, Err, Result, refl, ap, subst, ◌∙◌, length, nat_lt}
use Rattle.tungstenite.specs.Connection.{Connection, Effect, can_write, check_header, check_so_far, complete_message, decode_close, deliver, has_allowed_code, on_close, on_control, on_data, on_data_after, on_frame, on_message_bytes, on_opcode, on_short_control, read_step}
use Rattle.tungstenite.specs.Content.{Content}
use Rattle.tungstenite.specs.Frame.{Checked, after_check, check_size}
use Rattle.tungstenite.specs.FrameStatus.TheVariants.{Complete}
use Rattle.tungstenite.specs.Socket.{Run, Runs}
use Rattle.websocket.proofs.StreamLemmas.{TookFrame_from_read}
use Rattle.websocket.specs.declared.error.Error.{Error}
use Rattle.websocket.specs.declared.protocol.frame.coding.CloseCode.{CloseCode}
use Rattle.websocket.specs.declared.protocol.frame.coding.Control.{Control}
use Rattle.websocket.specs.declared.protocol.frame.coding.Control.TheVariants.{Close, Ping, Pong}
use Rattle.websocket.specs.declared.protocol.frame.coding.Data.{Data}
use Rattle.websocket.specs.declared.protocol.frame.coding.Data.TheVariants.{Continue, Text, Binary}
use Rattle.websocket.specs.declared.protocol.frame.coding.OpCode.{OpCode}
use Rattle.websocket.specs.declared.protocol.frame.coding.OpCode.TheVariants as Op
use Rattle.websocket.specs.declared.protocol.frame.header.FrameHeader.{FrameHeader}
use Rattle.websocket.specs.declared.protocol.incomplete.MessageType.{MessageType}
use Rattle.websocket.specs.declared.protocol.incomplete.MessageType.TheVariants as Kind

abbrev Keeps : Connection → Result Effect Error → Type 0
Keeps c (Ok effect) = effect.next.role ≡ c.role
Keeps c (Err e) = Unit {0}

either : (c : Connection) (b : Bool) (x y : Result Effect Error) → Keeps c x → Keeps c y → Keeps c (cond b x y)
either c true x y h k = h
either c false x y h k = k

checked : (c : Connection) (check : Checked Error) (x : Result Effect Error) → Keeps c x → Keeps c (after_check check x)
checked c (Ok _) x h = h
checked c (Err e) x h = tt

closed : (c : Connection) (payload : List ℕ) (writes allowed : Bool) (frame : Option (CloseCode × List ℕ)) → can_write c.state ≡ writes → has_allowed_code frame ≡ allowed → Keeps c (on_close c payload (Ok frame))
closed c payload true true frame w a = rw (w, a) refl
closed c payload true false frame w a = rw (w, a) refl
closed c payload false allowed frame w a = rw w refl

close_read : (c : Connection) (payload : List ℕ) (r : Result (Option (CloseCode × List ℕ)) Error) → Keeps c (on_close c payload r)
close_read c payload (Err e) = tt
close_read c payload (Ok frame) = closed c payload (can_write c.state) (has_allowed_code frame) frame refl refl

short_control : (c : Connection) (control : Control) (payload : List ℕ) → Keeps c (on_short_control c control payload)
short_control c Close payload = close_read c payload (decode_close payload)
short_control c Pong payload = refl
short_control c Ping payload = refl

control_read : (c : Connection) (control : Control) (is_final : Bool) (payload : List ℕ) → Keeps c (on_control c control is_final payload)
unfolding on_control
control_read c control is_final payload = either c (not is_final) _ _ tt (either c (nat_lt 125 (length payload)) _ _ tt (short_control c control payload))

delivered : (c : Connection) (r : Result Content Error) → Keeps c (deliver c r)
delivered c (Err e) = tt
delivered c (Ok content) = refl

bytes_read : (c : Connection) (kind : MessageType) (is_final : Bool) (bytes : List ℕ) → Keeps c (on_message_bytes c kind is_final bytes)
unfolding on_message_bytes
bytes_read c kind is_final bytes =
    checked c (check_size (length bytes) c.config.max_message_size) _
    (either c is_final _ _ (delivered c (complete_message kind bytes)) (checked c (check_so_far kind bytes) _ refl))

data_after : (c : Connection) (so_far : Option (MessageType × List ℕ)) (kind : Data) (is_final : Bool) (payload : List ℕ) → Keeps c (on_data_after c so_far kind is_final payload)
data_after c None Continue is_final payload = tt
data_after c None Text is_final payload = bytes_read c Kind.Text is_final payload
data_after c None Binary is_final payload = bytes_read c Kind.Binary is_final payload
data_after c (Some p) Continue is_final payload = bytes_read c p.0 is_final (p.1 ++ payload)
data_after c (Some p) Text is_final payload = tt
data_after c (Some p) Binary is_final payload = tt

data_read : (c : Connection) (kind : Data) (is_final : Bool) (payload : List ℕ) → Keeps c (on_data c kind is_final payload)
unfolding on_data
data_read c kind is_final payload = data_after c c.fragments kind is_final payload

opcode_read : (c : Connection) (op : OpCode) (is_final : Bool) (payload : List ℕ) → Keeps c (on_opcode c op is_final payload)
opcode_read c (Op.Control control) is_final payload = control_read c control is_final payload
opcode_read c (Op.Data kind) is_final payload = data_read c kind is_final payload

frame_read : (c : Connection) (header : FrameHeader) (payload : List ℕ) → Keeps c (on_frame c header payload)
unfolding on_frame
frame_read c header payload = checked c (check_header c header) _ (opcode_read c header.opcode header.is_final payload)

step_keeps : (c : Connection) (i : List ℕ) (p : ℕ × Effect) → read_step c i ≡ Ok (Complete p) → p.1.next.role ≡ c.role
step_keeps c i p e =
    let took = TookFrame_from_read c i p e in
    subst (Keeps c) took.does (frame_read c took.header took.payload)

-- the side of the connection after a run of frames is that before it
pub runs_keep : (c c2 : Connection) (i i2 : List ℕ) (ps : Run) → Runs c i ps c2 i2 → c2.role ≡ c.role
runs_keep c c2 i i2 [] h = ap (λ (x : Connection). x.role) h.0
runs_keep c c2 i i2 (p ∷ ps) h = runs_keep p.1.next c2 _ i2 ps h.1 ∙ step_keeps c i p h.0
