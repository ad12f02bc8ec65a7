-- What has to be kept of a session's stream to go on with it: the lines that wait, how many of their bytes count, and the end.
use Rattle.std.specs.Prelude.{ℕ, ◌+◌, List, [], ◌∷◌, ◌++◌, Bool, true, false, nat_lt, Option, Some, None, option_map}
use Rattle.game_sheet.specs.declared.act.Bye.{Bye}
use Rattle.game_sheet.specs.declared.act.Bye.TheVariants as bye
use Rattle.wire_json.specs.declared.protocol.Protocol.{Protocol}
use Rattle.wire_json.specs.declared.server.ServerMsg.{ServerMsg}
use Rattle.wire_json.specs.ServerText.{text}
use Rattle.room_history.specs.Piece.{Piece, Line, Mark, End, State, Open, Ended, Closed, waiting_lines, waiting_size, counted_size}
use Rattle.room_history.specs.Session.{Session, stream_of, session_state}
use Rattle.room_history.specs.Stream.{most_waiting}
use Rattle.game_sheet.specs.Viewer.{Viewer}

pub record Outbox : Type 0 where
  pub waiting : List (List ℕ)
  pub count : ℕ
  pub end : Option Bye

-- the outbox of a stream; none where its end was handed out
abbrev pub outbox_in : State → List Piece → Option Outbox
outbox_in Open pieces = Some (record { waiting = waiting_lines pieces; count = waiting_size pieces; end = None })
outbox_in (Ended why) pieces = Some (record { waiting = waiting_lines pieces; count = waiting_size pieces; end = Some why })
outbox_in Closed pieces = None

abbrev pub outbox_of : Session → Option Outbox
outbox_of s = outbox_in (session_state s) (stream_of s)

-- a line joins those that wait, unless there would be too much, which ends the outbox
abbrev pub line_or_lagging : Bool → ServerMsg → Outbox → Outbox
line_or_lagging true message o = record o { end = Some bye.Lagging }
line_or_lagging false message o = record o { waiting = o.waiting ++ text message ∷ []; count = o.count + counted_size message }

-- an outbox that has ended changes no more
abbrev pub unless_ended : Option Bye → Outbox → Outbox → Outbox
unless_ended None o changed = changed
unless_ended (Some why) o changed = o

-- a Take leaves it empty, or takes its end
abbrev pub outbox_after_take : Option Bye → Option Outbox
outbox_after_take None = Some (record { waiting = []; count = 0; end = None })
outbox_after_take (Some why) = None

-- the outbox after one more piece of its stream, and after several, the latest first
abbrev pub outbox_with : Piece → Outbox → Option Outbox
outbox_with (Line message) o = Some (unless_ended o.end o (line_or_lagging (nat_lt most_waiting (o.count + counted_size message)) message o))
outbox_with Mark o = outbox_after_take o.end
outbox_with (End why) o = Some (unless_ended o.end o (record o { end = Some why }))

abbrev pub with_piece_in : Piece → Option Outbox → Option Outbox
with_piece_in piece None = None
with_piece_in piece (Some o) = outbox_with piece o

abbrev pub with_pieces_in : List Piece → Option Outbox → Option Outbox
with_pieces_in [] o = o
with_pieces_in (piece ∷ pieces) o = with_piece_in piece (with_pieces_in pieces o)

-- what has to be kept of a pass that is attached: its latest session's viewer and protocol, and the outbox
pub record Attachment : Type 0 where
  pub viewer : Viewer
  pub protocol : Protocol
  pub outbox : Outbox

abbrev pub with_outbox : Session → Outbox → Attachment
with_outbox s o = record { viewer = s.viewer; protocol = s.protocol; outbox = o }

abbrev pub attachment_of : List Session → Option Attachment
attachment_of [] = None
attachment_of (s ∷ before) = option_map (with_outbox s) (outbox_of s)
