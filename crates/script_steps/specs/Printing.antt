-- What the replies of rooms print, by their parts.
use Rattle.std.specs.Prelude.{ℕ, List, [], ◌++◌, Option, Some, None}
use Rattle.game_sheet.specs.declared.act.Bye.{Bye}
use Rattle.room_history.specs.declared.reply.RoomReply.{RoomReply}
use Rattle.room_history.specs.declared.reply.RoomReply.TheVariants.{Taken, NotAttached}
use Rattle.wire_json.specs.ServerText.{text}
use Rattle.wire_json.specs.declared.server.ServerMsg.TheVariants as message
use Rattle.hall_history.specs.Script.{all_to_session, to_session, unattached_text}

-- the end of a stream, where it is handed out
abbrev pub end_text : ℕ → Option Bye → List ℕ
end_text pass None = []
end_text pass (Some why) = to_session pass (text (message.Bye why))

-- what a Take or a Detach prints: each line behind the session's number, and the bye line
abbrev pub reply_text : ℕ → Option RoomReply → List ℕ
reply_text pass None = unattached_text pass
reply_text pass (Some NotAttached) = unattached_text pass
reply_text pass (Some (Taken bytes end)) = all_to_session pass bytes ++ end_text pass end
reply_text pass (Some told) = []
