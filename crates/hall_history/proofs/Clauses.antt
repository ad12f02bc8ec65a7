-- The laws of the hall, in the order in which their clauses state them.
use Rattle.std.proofs.Common.{◌≡◌, ℕ, List, ◌++◌, Option, Some, sym, ap, ◌∙◌}
use Rattle.std.specs.List.{concat}
use Rattle.game_trait.specs.Rules.{Rules}
use Rattle.game_hall.proofs.Running.{act_goes}
use Rattle.room_object.specs.Entry.{Entry}
use Rattle.room_history.specs.Alike.{AreAlike}
use Rattle.room_history.specs.Room.{session}
use Rattle.room_history.specs.Session.{Session}
use Rattle.room_history.specs.declared.call.RoomCall.{RoomCall}
use Rattle.room_history.specs.declared.call.RoomCall.TheVariants as call
use Rattle.room_history.proofs.Clauses.{are_sent_alike}
use Rattle.wire_json.specs.declared.client.ClientMsg.TheVariants as line
use Rattle.wire_json.specs.declared.submission.Submission.{Submission}
use Rattle.std.proofs.Common.{Ok}
use Rattle.hall_history.specs.Hall.{Hall, begun, core_of, new_hall}
use Rattle.hall_history.specs.Mark.{Mark}
use Rattle.hall_history.specs.Rooms.{history_of}
use Rattle.hall_history.specs.Script.{Step, runs_script}
use Rattle.hall_history.specs.Told.{handed_in, handed_out}
use Rattle.hall_history.proofs.Handing.{runs_handed}
use Rattle.hall_history.proofs.Placing.{empty_placed, none_there}
use Rattle.hall_history.proofs.Telling.{sent_is_handed}

pub act_there : {X : Type 0} (named : List ℕ → Option X) (tape : ℕ → List ℕ) (h : Hall X) (pass room : ℕ) (s : Submission)
    → h.at pass ≡ Some room → (begun named tape h pass (Ok (line.Act s))).call ≡ Some (room, call.Submit s)
act_there named tape h pass room s e = act_goes named (core_of h pass) room s (tape h.place) h.seed e

module _ {X G : Type 0} (rules : X → Rules G) where
  pub all_handed : (named : List ℕ → Option X) (tape : ℕ → List ℕ) (rooms : ℕ) (marks : List Mark) (steps : List Step) (pass room j : ℕ) (s : Session)
      → session rules room (history_of (runs_script named rules tape marks steps (new_hall rooms)).0.rooms room) pass j ≡ Some s
      → concat s.sent ≡ handed_out named rules tape pass room j marks steps (new_hall rooms)
  all_handed named tape rooms marks steps pass room j s e =
      let start : Hall X = new_hall rooms in
      sent_is_handed rules room pass j (history_of (runs_script named rules tape marks steps start).0.rooms room) s e
      ∙ runs_handed named rules tape pass room j marks steps start (empty_placed rules rooms)
      ∙ ap (λ x. handed_in rules room x pass j ++ handed_out named rules tape pass room j marks steps start) (none_there rules rooms room)

module _ {X Y G F : Type 0} (rules : X → Rules G) (others : Y → Rules F) where
  pub alike_handed : (named : List ℕ → Option X) (tape : ℕ → List ℕ) (rooms : ℕ) (marks : List Mark) (steps : List Step) (pass room j : ℕ) (s : Session)
      → session rules room (history_of (runs_script named rules tape marks steps (new_hall rooms)).0.rooms room) pass j ≡ Some s
      → (other_room : ℕ) (k : List (Entry (RoomCall Y))) (other i : ℕ) (t : Session) → session others other_room k other i ≡ Some t → AreAlike s t
      → handed_out named rules tape pass room j marks steps (new_hall rooms) ≡ concat t.sent
  alike_handed named tape rooms marks steps pass room j s e other_room k other i t f al =
      sym (all_handed rules named tape rooms marks steps pass room j s e)
      ∙ ap (λ l. concat l) (are_sent_alike rules others room (history_of (runs_script named rules tape marks steps (new_hall rooms)).0.rooms room) pass j s e other_room k other i t f al)
