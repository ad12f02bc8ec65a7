-- The message of each direct answer, and its line.
use Rattle.std.specs.Prelude.{ℕ, List}
use Rattle.any_game.specs.Names.{all_names}
use Rattle.wire_json.specs.declared.server.ServerMsg.{ServerMsg}
use Rattle.wire_json.specs.declared.server.ServerMsg.TheVariants as message
use Rattle.wire_json.specs.ServerText.{text}
use Rattle.game_hall.specs.declared.answer.Answer.{Answer}
use Rattle.game_hall.specs.declared.answer.Answer.TheVariants.{Games, Matches, Match, Created, Joined, Renamed, Left, Asked, Again, Refused}

abbrev pub message_of : Answer → ServerMsg
message_of Games = message.Games all_names
message_of (Matches rows) = message.Matches rows
message_of (Match row) = message.Match row
message_of (Created name) = message.Created name
message_of (Joined key name seat) = message.Joined key name seat
message_of (Renamed name seat) = message.Renamed name seat
message_of (Left name seat) = message.Left name seat
message_of (Asked name seat) = message.Asked name seat
message_of (Again ticket) = message.Again ticket
message_of (Refused refusal) = message.Refused refusal

abbrev pub line_of : Answer → List ℕ
line_of answer = text (message_of answer)
