-- A refused action leaves the matches and every other pass as they were, and its own session is told why by the one line.
use Rattle.std.specs.Prelude.{ℕ, List}
use Rattle.game_trait.specs.Rules.{Rules}
use Rattle.room_object.specs.Entry.{Entry}
use Rattle.wire_json.specs.declared.submission.Submission.{Submission}
use Rattle.wire_json.specs.declared.verdict.Verdict.{Verdict}
use Rattle.wire_json.specs.declared.verdict.Verdict.TheVariants as verdict
use Rattle.room_history.specs.Others.{TellsRefusal}
use Rattle.room_history.specs.declared.call.RoomCall.{RoomCall}
use Rattle.room_history.specs.declared.call.RoomCall.TheVariants.{Submit}
use Rattle.room_history.specs.declared.reply.RoomReply.{RoomReply}
use Rattle.room_history.specs.declared.reply.RoomReply.TheVariants as answer

module _ {X G : Type 0} (rules : X → Rules G) (room : ℕ) (h : List (Entry (RoomCall X))) (pass : ℕ) where
  abbrev pub RefusedBy : Submission → Verdict → Type 0
  RefusedBy s (verdict.Ok number) = Unit {0}
  RefusedBy s (verdict.No number reason) = TellsRefusal rules room h pass s number reason

  abbrev pub RefusedWhere : Submission → RoomReply → Type 0
  RefusedWhere s (answer.Verdict v) = RefusedBy s v
  RefusedWhere s other = Unit {0}

  -- what the reply to a call after a history says of a refusal: something where the call is a submission and the reply a refusing verdict
  abbrev pub Refuses : RoomCall X → RoomReply → Type 0
  Refuses (Submit s) reply = RefusedWhere s reply
  Refuses call reply = Unit {0}
