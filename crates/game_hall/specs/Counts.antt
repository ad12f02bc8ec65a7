-- What a reply counts: whether an action was accepted or refused, and how many bytes were handed out.
use Rattle.std.specs.Prelude.{ℕ, length}
use Rattle.room_history.specs.Session.{bytes_handed_out}
use Rattle.room_history.specs.declared.reply.RoomReply.{RoomReply}
use Rattle.room_history.specs.declared.reply.RoomReply.TheVariants.{Verdict}
use Rattle.wire_json.specs.declared.verdict.Verdict.TheVariants.{Ok, No}

abbrev pub accepts : RoomReply → ℕ
accepts (Verdict (Ok number)) = 1
accepts told = 0

abbrev pub refuses : RoomReply → ℕ
refuses (Verdict (No number reason)) = 1
refuses told = 0

abbrev pub hands_out : RoomReply → ℕ
hands_out told = length (bytes_handed_out told)
