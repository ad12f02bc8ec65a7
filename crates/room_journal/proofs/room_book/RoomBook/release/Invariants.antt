use Rattle.std.proofs.Common.{◌≡◌, List, ℕ}
use Rattle.any_game.specs.AnyRules.{any_rules}
use Rattle.any_game.specs.GameKind.{GameKind}
use Rattle.match_master.specs.Held.{StandsFor}
use Rattle.room_history.specs.declared.call.RoomCall.{RoomCall}
use Rattle.room_object.specs.Entry.{Entry}
use Rattle.room_journal.specs.Coming.{HasStayed}
use Rattle.room_journal.proofs.room_book.RoomBook.release.Given as goal

abbrev pub invariant-seats : goal.invariant-seats
invariant-seats l = record {
  same : l.self.book.room ≡ l.fn.self.book.room;
  room : l.self.room ≡ l.fn.self.room;
  stays : (room : ℕ) (h : List (Entry (RoomCall GameKind))) → StandsFor any_rules l.fn.self.book h → HasStayed room h l.self.book;
}
