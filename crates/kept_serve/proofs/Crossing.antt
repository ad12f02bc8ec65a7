-- Rooms that were opened cross threads.
use denote.RattleType.{RattleType}
use denote.Param.Send.{IsSend, IsSync, sendable}
use Rattle.std.proofs.Crossing.{crosses}
use Rattle.any_game.specs.contracts.any_g.AnyG as AnyG
use Rattle.any_game.specs.contracts.choice.AnyGame as AnyGame
use Rattle.any_game.specs.contracts.choice.AnyGameGame.TheImpl as game
use Rattle.card_games.specs.contracts.dealt.Dealt as Dealt
use Rattle.game_sheet.specs.contracts.sheet.Sheet as Sheet
use Rattle.kept_room.specs.contracts.room.KeptRoom as KeptRoom
use Rattle.kept_serve.specs.contracts.opened_room.OpenedRoom as OpenedRoom
use Rattle.match_master.specs.contracts.attachments.Attached as Attached
use Rattle.match_master.specs.contracts.book.Book as Book
use Rattle.match_master.specs.contracts.running_match.RunningMatch as RunningMatch
use Rattle.move_log.specs.contracts.kept_entry.KeptEntry as KeptEntry
use Rattle.reducer.specs.contracts.checkpoint.Checkpoint as Checkpoint
use Rattle.reducer.specs.contracts.checkpoint.Deed as Deed
use Rattle.reducer.specs.contracts.state.State as State
use Rattle.record_file.specs.contracts.append.RecordFile as RecordFile
use Rattle.room_journal.specs.contracts.room_book.RoomBook as RoomBook

sheet_send : IsSend Sheet.the_field.row
sheet_send = search (sendable, crosses) depth 60 fits 20000

dealt_send : IsSend Dealt.the_field.row
dealt_send = search (sendable, crosses) depth 60 fits 20000

game_send : IsSend AnyGame.the_row
game_send = let sheet = sheet_send in let dealt = dealt_send in search (sendable, crosses) depth 60 fits 20000

state_send : IsSend AnyG.the_row
state_send = search (sendable, crosses) depth 60 fits 20000

attached_send : IsSend Attached.the_field.row
attached_send = search (sendable, crosses) depth 60 fits 20000

entry_send : IsSend KeptEntry.the_field.row
entry_send = search (sendable, crosses) depth 60 fits 20000

state_sync : IsSync AnyG.the_row
state_sync = search (sendable, crosses) depth 60 fits 20000

checkpoint_sync : IsSync (Checkpoint.the_field AnyG.the_row).row
checkpoint_sync = let s = state_sync in search (sendable, crosses) depth 60 fits 20000

checkpoint_send : IsSend (Checkpoint.the_field AnyG.the_row).row
checkpoint_send = let s = state_send in search (sendable, crosses) depth 60 fits 20000

deed_send : IsSend Deed.the_field.row
deed_send = search (sendable, crosses) depth 60 fits 20000

state_of_send : IsSend (State.the_field AnyG.the_row).row
state_of_send = let s = checkpoint_send in let y = checkpoint_sync in let d = deed_send in search (sendable, crosses) depth 60 fits 20000

running_send : IsSend (RunningMatch.the_field AnyGame.the_row AnyG.the_row).row
running_send = let g = game_send in let s = state_of_send in let e = entry_send in search (sendable, crosses) depth 60 fits 20000

master_send : IsSend (Book.the_field AnyGame.the_row AnyG.the_row game.ghosts).row
master_send = let running = running_send in let attached = attached_send in search (sendable, crosses) depth 60 fits 20000

book_send : IsSend RoomBook.the_field.row
book_send = let master = master_send in search (sendable, crosses) depth 60 fits 20000

file_send : (T : RattleType) → IsSend T → IsSend (RecordFile.the_field T).row
file_send T s = search (sendable, crosses) depth 20

room_send : (T : RattleType) → IsSend T → IsSend (KeptRoom.the_field T).row
room_send T s = let book = book_send in let file = file_send T s in search (sendable, crosses) depth 20

pub opened_send : (T : RattleType) → IsSend T → IsSend (OpenedRoom.the_field T).row
opened_send T s = let room = room_send T s in search (sendable, crosses) depth 20
