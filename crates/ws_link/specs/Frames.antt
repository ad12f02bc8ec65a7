-- What the frames of a WebSocket tell a link, and what lines are as frames.
use Rattle.std.specs.Prelude.{◌≡◌, ◌⊎◌, ◌++◌, ◌∷◌, ◌-◌, ℕ, false, nat_lt, cond, if◌then◌else◌, List, [], length, map, take, drop, Option, None, Some, Err}
use Rattle.std.specs.List.{concat}
use Rattle.std.specs.Io.KnownBytes.{Appends, Consumes, IsAtEnd}
use Rattle.board_links.specs.declared.link.Came.{Came}
use Rattle.board_links.specs.declared.link.Came.TheVariants as came
use Rattle.game_sheet.specs.Lines.{lines}
use Rattle.tungstenite.specs.Connection.{Connection, Effect, read_step, whole_header}
use Rattle.tungstenite.specs.Content.{Content, text, binary, close, content_opcode}
use Rattle.tungstenite.specs.Frame.{encode_frame}
use Rattle.tungstenite.specs.Socket.{Replies, Run, Runs, Socket}
use Rattle.tungstenite.specs.Text.{is_utf8}
use Rattle.websocket.specs.declared.error.Error.{Error as FrameError}
use Rattle.websocket.specs.declared.error.Error.TheVariants as frame
use Rattle.websocket.specs.declared.error.ProtocolError.TheVariants.{ResetWithoutClosingHandshake}
use Rattle.websocket.specs.declared.protocol.incomplete.MessageType.{MessageType}

-- how many bytes a line may have
abbrev pub line_limit : ℕ
line_limit = 65536

-- how many bytes may be held of frames that aren't whole: a frame of a line's bytes with its header, and what one read brings
abbrev pub held_limit : ℕ
held_limit = 69646

-- the bytes so far of a message whose last frame is still to come are no more than a line's
abbrev pub FitsLine : Option (MessageType × List ℕ) → Type 0
FitsLine None = Unit {0}
FitsLine (Some begun) = nat_lt line_limit (length begun.1) ≡ false

-- a connection that takes no message and no frame of more bytes than a line has
pub record IsLimited (c : Connection) : Type 0 where
  pub messages : c.config.max_message_size ≡ Some line_limit
  pub frames : c.config.max_frame_size ≡ Some line_limit
  pub begun : FitsLine c.fragments

-- these bytes are a line, or too long for one
abbrev pub line_told : List ℕ → Came
line_told bytes = if nat_lt line_limit (length bytes) then came.TooLong else came.Line bytes

-- what a message tells: a text or a binary message is a line, a close is the end, and a ping or a pong tells nothing
abbrev pub tells : Content → Option Came
tells (text bytes) = Some (line_told bytes)
tells (binary bytes) = Some (line_told bytes)
tells (close why) = Some came.Ended
tells message = None

-- a frame that ends no message tells nothing
abbrev pub message_tells : Option Content → Option Came
message_tells None = None
message_tells (Some message) = tells message

abbrev pub frame_tells : Effect → Option Came
frame_tells effect = message_tells effect.message

-- no frame of the run tells anything
abbrev pub IsSilent : Run → Type 0
IsSilent [] = Unit {0}
IsSilent (p ∷ ps) = (frame_tells p.1 ≡ None) × IsSilent ps

-- the last frame of the run tells this, and none before it tells anything
abbrev pub Brings : Came → Run → Type 0
Brings came [] = ⊥
Brings came (p ∷ []) = frame_tells p.1 ≡ Some came
Brings came (p ∷ q ∷ ps) = (frame_tells p.1 ≡ None) × Brings came (q ∷ ps)

-- the protocol's word for a peer that has ended: a close was read, or the stream ended without one
abbrev pub IsOver : FrameError → Type 0
IsOver frame.ConnectionClosed = Unit {0}
IsOver (frame.Protocol why) = why ≡ ResetWithoutClosingHandshake
IsOver error = ⊥

-- the protocol's word for a message or a frame of too many bytes
abbrev pub IsLarge : FrameError → Type 0
IsLarge (frame.Capacity why) = Unit {0}
IsLarge error = ⊥

module _ {S : Type 0} where
  -- The frames of a run were read from the bytes left over and those that the stream gave, one after another, and the socket is where
  -- they led, on the same side. The bytes were the next of those that the stream tells, and what the frames asked for as replies, and nothing else,
  -- waits behind what waited to be sent.
  pub record ReadsRun (remaining : S → Option (List ℕ)) (old new : Socket S) (ps : Run) : Type 0 where
    pub got : List ℕ
    pub frames : Runs old.conn (old.input ++ got) ps new.conn new.input
    pub same_role : new.conn.role ≡ old.conn.role
    pub replies : Replies ps old.output new.output
    pub told : Consumes (remaining old.stream) (remaining new.stream) got

  -- frames that tell this were read
  abbrev pub Tells : (S → Option (List ℕ)) → Socket S → Socket S → Came → Type 0
  Tells remaining old new came = (ps : Run) × ReadsRun remaining old new ps × Brings came ps

  -- frames that tell nothing were read
  abbrev pub TellsNothing : (S → Option (List ℕ)) → Socket S → Socket S → Type 0
  TellsNothing remaining old new = (ps : Run) × ReadsRun remaining old new ps × IsSilent ps

  -- after frames that tell nothing, the header of a frame that is too large was read, or a frame that makes a message too large
  abbrev pub IsTooLarge : Socket S → Type 0
  IsTooLarge old =
      (ps : Run) × (got : List ℕ) × (c : Connection) × (i : List ℕ) × Runs old.conn (old.input ++ got) ps c i × IsSilent ps
      × ((x : FrameError) × (read_step c i ≡ Err x) × IsLarge x)

  -- after frames that tell nothing, the connection is over or the stream is at its end
  abbrev pub IsCutOff : (S → Option (List ℕ)) → Socket S → Socket S → Type 0
  IsCutOff remaining old new =
      (ps : Run) × (got : List ℕ) × (c : Connection) × (i : List ℕ) × Runs old.conn (old.input ++ got) ps c i × IsSilent ps
      × (((x : FrameError) × (read_step c i ≡ Err x) × IsOver x) ⊎ IsAtEnd (remaining new.stream))

  -- what a receive made of the socket, by its answer
  abbrev pub Hears : (S → Option (List ℕ)) → Socket S → Socket S → Came → Type 0
  Hears remaining old new (came.Line bytes) = Tells remaining old new (came.Line bytes)
  Hears remaining old new came.TooLong = Tells remaining old new came.TooLong ⊎ IsTooLarge old
  Hears remaining old new came.Ended = Tells remaining old new came.Ended ⊎ IsCutOff remaining old new
  Hears remaining old new came.Quiet = TellsNothing remaining old new
  Hears remaining old new came.Failed = Unit {0}
  Hears remaining old new came.NoMemory = Unit {0}

-- ---- sending

-- a line's message: a text where it is UTF-8, as every line of JSON is
abbrev pub message_of : List ℕ → Content
message_of bytes = cond (is_utf8 bytes) (text bytes) (binary bytes)

-- a server's frame of a line, whose newline, its last byte, is left out
abbrev pub frame_of : List ℕ → List ℕ
frame_of line =
    let bytes = take (length line - 1) line in
    encode_frame (whole_header (content_opcode (message_of bytes)) None) bytes

-- the frames of lines, one after another
abbrev pub frames_of : List ℕ → List ℕ
frames_of bytes = concat (map frame_of (lines bytes))

module _ {S : Type 0} where
  -- these frames, and nothing else, wait behind what waited to be sent; nothing else changes
  abbrev pub Says : Socket S → Socket S → List ℕ → Type 0
  Says old new bytes = new ≡ record old { output = old.output ++ frames_of bytes }

  -- some of what waited, from its first byte on, went to the stream, and nothing else; the rest waits
  pub record HandsOn (contents : S → Option (List ℕ)) (old new : Socket S) : Type 0 where
    pub count : ℕ
    pub sent : Appends (contents old.stream) (contents new.stream) (take count old.output)
    pub rest : new.output ≡ drop count old.output
    pub same_conn : new.conn ≡ old.conn
    pub same_input : new.input ≡ old.input
