-- What a link answers where its peer broke the protocol, or its stream refuses.
use Rattle.std.specs.Prelude.{◌≢◌}
use Rattle.board_links.specs.declared.link.Came.{Came}
use Rattle.board_links.specs.declared.link.Came.TheVariants as came
use Rattle.websocket.specs.declared.error.Error.{Error}
use Rattle.websocket.specs.declared.error.Error.TheVariants as error
use Rattle.ws_link.specs.Frames.{IsLarge, IsOver}

-- silence is the stream's answer alone, and a link doesn't fail for want of memory
abbrev pub Refused : Error → Came → Type 0
Refused cause came.Ended = IsOver cause
Refused cause came.TooLong = IsLarge cause
Refused cause came.Failed = cause ≢ error.OutOfMemory
Refused cause came.NoMemory = Unit {0}
Refused cause answer = ⊥

-- a stream that refuses brings no bytes and ends nothing
abbrev pub IsHalt : Came → Type 0
IsHalt came.Quiet = Unit {0}
IsHalt came.Failed = Unit {0}
IsHalt came.NoMemory = Unit {0}
IsHalt answer = ⊥
