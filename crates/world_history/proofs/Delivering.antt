-- Along a world, what Takes put on down links is what sessions were sent.
use Rattle.std.proofs.Common.{◌≡◌, ℕ, Bool, true, false, nat_lt, if◌then◌else◌, List, [], ◌∷◌, ◌++◌, length, drop, Option, Some, None, refl, sym, ap, ◌∙◌, append_assoc, append-nil}
use Rattle.std.specs.List.{concat}
use Rattle.game_trait.specs.Rules.{Rules}
use Rattle.game_sheet.specs.MatchName.{Name}
use Rattle.room_history.specs.Room.{session}
use Rattle.room_history.specs.Session.{Session}
use Rattle.room_history.specs.declared.call.RoomCall.TheVariants as call
use Rattle.room_history.specs.declared.reply.RoomReply.{RoomReply}
use Rattle.room_history.specs.declared.reply.RoomReply.TheVariants as reply
use Rattle.wire_json.specs.RefusalText.{refusal_text}
use Rattle.wire_json.specs.declared.refusal.Refusal.TheVariants.{NoMatch}
use Rattle.hall_history.specs.Adding.{IsAsking}
use Rattle.hall_history.specs.Parts.{frees_at}
use Rattle.hall_history.specs.Hall.{Hall, after_line}
use Rattle.hall_history.specs.Mark.{Mark}
use Rattle.hall_history.specs.Opening.{after_open, own_entry, own_pass, seat_key}
use Rattle.hall_history.specs.Placed.{IsPlaced}
use Rattle.hall_history.specs.Rooms.{history_of, with_entry}
use Rattle.hall_history.specs.Script.{first_mark}
use Rattle.hall_history.specs.Told.{handed_in}
use Rattle.world_history.specs.World.{World, Step, Nothing, Seeds, Opens, Attaches, Acts, Arrives, Takes, Reads, Drops, Leaves, Shows, new_world}
use Rattle.world_history.specs.WorldScript.{arrives, does, has_starved, leaves, leaves_by, refused_text, runs_world, takes}
use Rattle.world_history.specs.WorldTold.{delivered, delivered_by}
use Rattle.hall_history.proofs.Adds.{adds_one}
use Rattle.hall_history.proofs.Giving.{line_adds}
use Rattle.hall_history.proofs.Handing.{detach_handed, handed, plain_added, take_handed}
use Rattle.hall_history.proofs.Opens.{open_adds}
use Rattle.hall_history.proofs.Placing.{empty_placed, none_there}
use Rattle.hall_history.proofs.Telling.{adds_handed, sent_is_handed}
use Rattle.world_history.proofs.WorldPlacing.{acts_hall, does_placed, reads_hall}

module _ {X G : Type 0} (rules : X → Rules G) (pass room j : ℕ) where
  told_hall : (w : World X G) (c : ℕ) (hall : Hall X) (told : RoomReply) → (takes rules w c (hall, Some told)).0.hall ≡ hall
  told_hall w c hall (reply.Created serial) = refl
  told_hall w c hall reply.Joined = refl
  told_hall w c hall reply.Renamed = refl
  told_hall w c hall reply.Left = refl
  told_hall w c hall reply.Cleared = refl
  told_hall w c hall (reply.Looked row) = refl
  told_hall w c hall reply.Attached = refl
  told_hall w c hall (reply.Verdict v) = refl
  told_hall w c hall (reply.Taken bytes end) = refl
  told_hall w c hall reply.Detached = refl
  told_hall w c hall reply.Busy = refl
  told_hall w c hall reply.BadSeats = refl
  told_hall w c hall reply.NoStart = refl
  told_hall w c hall reply.NoMatch = refl
  told_hall w c hall reply.NoSeat = refl
  told_hall w c hall reply.SeatTaken = refl
  told_hall w c hall reply.BadName = refl
  told_hall w c hall reply.AlreadyAttached = refl
  told_hall w c hall reply.Unauthorized = refl
  told_hall w c hall reply.NotAttached = refl
  told_hall w c hall reply.NoMemory = refl

  takes_hall_is : (w : World X G) (c : ℕ) (o : Option ℕ) → (takes rules w c (frees_at rules w.hall c call.Take o)).0.hall ≡ (frees_at rules w.hall c call.Take o).0
  takes_hall_is w c None = refl
  takes_hall_is w c (Some at) = told_hall w c (frees_at rules w.hall c call.Take (Some at)).0 _

  leaves_handed : (w : World X G) (name : Name) (seat : ℕ) → handed rules pass room j (leaves rules w name seat).0.hall ≡ handed rules pass room j w.hall
  leaves_handed w name seat = by (nat_lt name.room (length w.hall.rooms))
    where
      by : (b : Bool) → handed rules pass room j (if b then leaves_by rules w name.room (own_entry (call.Leave name.serial seat (seat_key seat))) else (w, refused_text (refusal_text NoMatch))).0.hall ≡ handed rules pass room j w.hall
      by true =
          adds_handed rules room pass j own_pass w.hall.rooms (with_entry w.hall.rooms name.room (own_entry (call.Leave name.serial seat (seat_key seat))))
          (adds_one IsAsking own_pass w.hall.rooms name.room (call.Leave name.serial seat (seat_key seat)) false tt)
      by false = refl

module _ {X G : Type 0} (named : List ℕ → Option X) (rules : X → Rules G) (tape : ℕ → List ℕ) (pass room j : ℕ) where
  nothing : (h : Hall X) → handed rules pass room j h ≡ handed rules pass room j h ++ []
  nothing h = sym (append-nil (handed rules pass room j h))

  arrives_handed : (mark : Mark) (w : World X G) (c : ℕ) (waiting : List (List ℕ)) → handed rules pass room j (arrives named rules tape mark w c waiting).0.hall ≡ handed rules pass room j w.hall
  arrives_handed mark w c [] = refl
  arrives_handed mark w c (line ∷ rest) =
      adds_handed rules room pass j c w.hall.rooms (after_line named rules tape mark w.hall c line).0.rooms (line_adds named rules tape mark w.hall c line)

  step_delivers : (mark : Mark) (step : Step X) (w : World X G) → IsPlaced rules w.hall
      → handed rules pass room j (does named rules tape mark step w).0.hall ≡ handed rules pass room j w.hall ++ delivered_by rules pass room j step w
  step_delivers mark Nothing w p = nothing w.hall
  step_delivers mark (Seeds seed) w p = nothing w.hall
  step_delivers mark (Opens game seats) w p =
      adds_handed rules room pass j own_pass w.hall.rooms (after_open named rules tape w.hall game seats).0.rooms
      (plain_added own_pass w.hall.rooms (after_open named rules tape w.hall game seats).0.rooms (open_adds named rules tape w.hall game seats)) ∙ nothing w.hall
  step_delivers mark (Attaches c game name seat protocol) w p = detach_handed rules pass room j w.hall c (w.hall.at c) ∙ nothing w.hall
  step_delivers mark (Acts c asked) w p = ap (λ h. handed rules pass room j h) (acts_hall rules (has_starved mark) w c (w.clients c) asked) ∙ nothing w.hall
  step_delivers mark (Arrives c) w p = arrives_handed mark w c (w.up c) ∙ nothing w.hall
  step_delivers mark (Takes c) w p =
      ap (λ h. handed rules pass room j h) (takes_hall_is rules pass room j w c (w.hall.at c)) ∙ take_handed rules pass room j w.hall c p (w.hall.at c) refl
  step_delivers mark (Reads c) w p = ap (λ h. handed rules pass room j h) (reads_hall rules w c (w.clients c) (w.down c)) ∙ nothing w.hall
  step_delivers mark (Drops c) w p = detach_handed rules pass room j w.hall c (w.hall.at c) ∙ nothing w.hall
  step_delivers mark (Leaves name seat) w p = leaves_handed rules pass room j w name seat ∙ nothing w.hall
  step_delivers mark (Shows c) w p = nothing w.hall

  world_delivers : (marks : List Mark) (steps : List (Step X)) (w : World X G) → IsPlaced rules w.hall
      → handed rules pass room j (runs_world named rules tape marks steps w).0.hall ≡ handed rules pass room j w.hall ++ delivered named rules tape pass room j marks steps w
  world_delivers marks [] w p = nothing w.hall
  world_delivers marks (step ∷ steps) w p =
      let next = (does named rules tape (first_mark marks) step w).0 in
      world_delivers (drop 1 marks) steps next (does_placed named rules tape (first_mark marks) step w p)
      ∙ ap (λ l. l ++ delivered named rules tape pass room j (drop 1 marks) steps next) (step_delivers (first_mark marks) step w p)
      ∙ append_assoc (handed rules pass room j w.hall) (delivered_by rules pass room j step w) (delivered named rules tape pass room j (drop 1 marks) steps next)

module _ {X G : Type 0} (rules : X → Rules G) where
  pub all_delivered : (named : List ℕ → Option X) (tape : ℕ → List ℕ) (rooms : ℕ) (marks : List Mark) (steps : List (Step X)) (pass room j : ℕ) (s : Session)
      → session rules room (history_of (runs_world named rules tape marks steps (new_world rooms)).0.hall.rooms room) pass j ≡ Some s
      → concat s.sent ≡ delivered named rules tape pass room j marks steps (new_world rooms)
  all_delivered named tape rooms marks steps pass room j s e =
      sent_is_handed rules room pass j (history_of (runs_world named rules tape marks steps (new_world rooms)).0.hall.rooms room) s e
      ∙ world_delivers named rules tape pass room j marks steps (new_world rooms) (empty_placed rules rooms)
      ∙ ap (λ x. handed_in rules room x pass j ++ delivered named rules tape pass room j marks steps (new_world rooms)) (none_there rules rooms room)
