-- How a room is asked what it shows a spectator.
use Rattle.std.specs.Prelude.{◌≡◌, ℕ, List, Option, Some, None, option_map, Result, Ok, Err}
use Rattle.any_game.specs.AnyRules.{any_rules}
use Rattle.any_game.specs.GameKind.{GameKind}
use Rattle.any_game.specs.declared.any_g.AnyG.{AnyG}
use Rattle.game_sheet.specs.MatchName.{Name}
use Rattle.game_sheet.specs.declared.memory.NoMemory.{NoMemory}
use Rattle.player_sight.specs.SnapshotData.{snapshot_data}
use Rattle.room_history.specs.Match.{Match}
use Rattle.room_history.specs.Room.{standing}
use Rattle.room_history.specs.Shown.{snapshot}
use Rattle.room_history.specs.declared.call.RoomCall.{RoomCall}
use Rattle.room_history.specs.declared.reply.RoomReply.{RoomReply}
use Rattle.room_history.specs.declared.reply.RoomReply.TheVariants as answer
use Rattle.room_object.specs.Entry.{Entry}
use Rattle.room_journal.specs.Coming.{StandsIn}
use Rattle.room_journal.specs.declared.room_book.RoomBook.{RoomBook}
use Rattle.wire_json.specs.declared.protocol.Protocol.TheVariants.{One}
use Rattle.wire_json.specs.declared.server.ServerMsg.{ServerMsg}
use Rattle.wire_json.specs.declared.server.ServerMsg.TheVariants.{Sync}

-- the match's name in a room
abbrev pub name_in : ℕ → Match GameKind AnyG → Name
name_in room m = record { room = room; serial = m.serial }

abbrev pub standing_name : ℕ → Option (Match GameKind AnyG) → Option Name
standing_name room standing = option_map (λ (m : Match GameKind AnyG). name_in room m) standing

-- the name that a Look is replied
abbrev pub name_said : RoomReply → Result (Option Name) NoMemory
name_said (answer.Looked row) = Ok (Some row.name)
name_said answer.NoMemory = Err record {}
name_said other = Ok None

-- the message that begins a spectator's session
abbrev pub sync_of : ℕ → Match GameKind AnyG → ServerMsg
sync_of room m = Sync (name_in room m) None One (snapshot_data (any_rules m.game).sheet (snapshot any_rules m None))

-- the book stands for a history by which this match stands, or none
pub record StillStands (stands : Option (Match GameKind AnyG)) (book : RoomBook) : Type 0 where
  pub h : List (Entry (RoomCall GameKind))
  pub in_room : StandsIn book.room book.book h
  pub same : standing any_rules book.room h ≡ stands
