-- A submission of an offered move, as a bot makes it: to the match that stands, with the key of the session's seat, at the match's own number.
use Rattle.std.specs.Prelude.{◌≡◌, ◌+◌, ℕ, false, List, Some, None, slice_get}
use Rattle.std.specs.List.{AllByRecursion}
use Rattle.any_game.specs.AnyRules.{any_rules}
use Rattle.any_game.specs.GameKind.{GameKind}
use Rattle.any_game.specs.declared.any_g.AnyG.{AnyG}
use Rattle.game_sheet.specs.declared.args.Arg.{Arg}
use Rattle.game_sheet.specs.declared.sheet.MoveRow.{MoveRow}
use Rattle.room_history.specs.Match.{Match, number_of}
use Rattle.room_history.specs.Room.{reply}
use Rattle.room_history.specs.Verdict.{first_reason}
use Rattle.room_history.specs.declared.call.RoomCall.{RoomCall}
use Rattle.room_history.specs.declared.call.RoomCall.TheVariants.{Submit}
use Rattle.room_history.specs.declared.reply.RoomReply.TheVariants as answer
use Rattle.room_object.specs.Entry.{Entry, entry}
use Rattle.wire_json.specs.declared.asked.Asked.TheVariants as asked
use Rattle.wire_json.specs.declared.verdict.Verdict.TheVariants as verdict
use Rattle.wire_json.specs.declared.submission.Submission.{Submission}
use Rattle.offered_moves.specs.OfferedLaw.{offers_at}

pub record Submits (room : ℕ) (m : Match GameKind AnyG) (key : List ℕ) (offer : ℕ × List Arg) (s : Submission) : Type 0 where
  pub name : s.name ≡ record { room = room; serial = m.serial }
  pub key_is : s.key ≡ key
  pub number : s.number ≡ number_of m
  -- the move by its name
  pub row : MoveRow
  pub named : slice_get (any_rules m.game).sheet.moves offer.0 ≡ Some row
  pub asked : s.asked ≡ asked.Move row.name offer.1

-- each move that a seat is offered is accepted where its player submits it so
abbrev pub OffersAreAccepted : ℕ → Match GameKind AnyG → ℕ → Type 0
OffersAreAccepted room m seat =
    AllByRecursion (λ (offer : ℕ × List Arg). (key : List ℕ) (s : Submission) → Submits room m key offer s → first_reason any_rules room m (Some (seat, key)) s ≡ None) (offers_at m.game m.first m.accepted seat)

-- and each is replied so, at the number one greater
abbrev pub OffersAreReplied : ℕ → List (Entry (RoomCall GameKind)) → Match GameKind AnyG → ℕ → ℕ → List ℕ → Type 0
OffersAreReplied room h m pass seat key =
    AllByRecursion (λ (offer : ℕ × List Arg). (s : Submission) → Submits room m key offer s → reply any_rules room h (entry pass (Submit s) false) ≡ answer.Verdict (verdict.Ok (number_of m + 1))) (offers_at m.game m.first m.accepted seat)
