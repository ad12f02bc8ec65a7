-- What the replies of calls count together.
use Rattle.std.specs.Prelude.{ℕ, ◌+◌, List, [], ◌∷◌}
use Rattle.room_history.specs.declared.reply.RoomReply.{RoomReply}
use Rattle.session_driver.specs.Calls.{Did}

abbrev pub counted : (RoomReply → ℕ) → List Did → ℕ
counted count [] = 0
counted count (made ∷ earlier) = counted count earlier + count made.reply
