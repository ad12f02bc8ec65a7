-- Along a world the hall and its rooms go on to agree on who is attached where.
use Rattle.std.proofs.Common.{◌≡◌, ℕ, Bool, true, false, nat_lt, if◌then◌else◌, List, [], ◌∷◌, length, drop, Option, Some, None, refl, sym, ◌∙◌, subst}
use Rattle.game_trait.specs.Rules.{Rules}
use Rattle.game_sheet.specs.MatchName.{Name}
use Rattle.client_predict.specs.Acting.{act_no}
use Rattle.client_predict.specs.Client.{Held, Playing}
use Rattle.client_predict.specs.declared.told.ActNo.{ActNo}
use Rattle.room_history.specs.declared.call.RoomCall.TheVariants as call
use Rattle.room_history.specs.declared.reply.RoomReply.{RoomReply}
use Rattle.room_history.specs.declared.reply.RoomReply.TheVariants as reply
use Rattle.wire_json.specs.RefusalText.{refusal_text}
use Rattle.wire_json.specs.declared.asked.Asked.{Asked}
use Rattle.wire_json.specs.declared.refusal.Refusal.TheVariants.{NoMatch}
use Rattle.hall_history.specs.Freeing.{frees}
use Rattle.hall_history.specs.Hall.{Hall}
use Rattle.hall_history.specs.Mark.{Mark}
use Rattle.hall_history.specs.Opening.{own_entry, own_pass, seat_key}
use Rattle.hall_history.specs.Placed.{IsPlaced}
use Rattle.hall_history.specs.Script.{first_mark}
use Rattle.world_history.specs.World.{World, Step, Nothing, Seeds, Opens, Attaches, Acts, Arrives, Takes, Reads, Drops, Leaves, Shows}
use Rattle.world_history.specs.WorldScript.{acts, acts_in, arrives, does, has_starved, leaves, leaves_by, reads_in, refused_text, runs_world, takes}
use Rattle.hall_history.proofs.Opens.{open_placed}
use Rattle.hall_history.proofs.Placing.{frees_placed, line_placed, plain_rooms}

module _ {X G : Type 0} (rules : X → Rules G) where
  acts_in_hall : (w : World X G) (c : ℕ) (held : Held X G) (playing : Option (Playing G)) (asked : Asked) (why : Option ActNo) → (acts_in rules w c held playing asked why).0.hall ≡ w.hall
  acts_in_hall w c held playing asked (Some why) = refl
  acts_in_hall w c held None asked None = refl
  acts_in_hall w c held (Some p) asked None = refl

  pub acts_hall : (starved : Bool) (w : World X G) (c : ℕ) (client : Option (Held X G)) (asked : Asked) → (acts rules starved w c client asked).0.hall ≡ w.hall
  acts_hall starved w c None asked = refl
  acts_hall true w c (Some held) asked = refl
  acts_hall false w c (Some held) asked = acts_in_hall w c held held.client.playing asked (act_no held.client.gone held.client.playing)

  pub reads_hall : (w : World X G) (c : ℕ) (client : Option (Held X G)) (waiting : List (List ℕ)) → (reads_in rules w c client waiting).0.hall ≡ w.hall
  reads_hall w c None waiting = refl
  reads_hall w c (Some held) [] = refl
  reads_hall w c (Some held) (line ∷ rest) = refl

  takes_hall : (w : World X G) (c : ℕ) (hall : Hall X) (told : Option RoomReply) → IsPlaced rules w.hall → IsPlaced rules hall → IsPlaced rules (takes rules w c (hall, told)).0.hall
  takes_hall w c hall None p q = p
  takes_hall w c hall (Some (reply.Created serial)) p q = q
  takes_hall w c hall (Some reply.Joined) p q = q
  takes_hall w c hall (Some reply.Renamed) p q = q
  takes_hall w c hall (Some reply.Left) p q = q
  takes_hall w c hall (Some reply.Cleared) p q = q
  takes_hall w c hall (Some (reply.Looked row)) p q = q
  takes_hall w c hall (Some reply.Attached) p q = q
  takes_hall w c hall (Some (reply.Verdict v)) p q = q
  takes_hall w c hall (Some (reply.Taken bytes end)) p q = q
  takes_hall w c hall (Some reply.Detached) p q = q
  takes_hall w c hall (Some reply.Busy) p q = q
  takes_hall w c hall (Some reply.BadSeats) p q = q
  takes_hall w c hall (Some reply.NoStart) p q = q
  takes_hall w c hall (Some reply.NoMatch) p q = q
  takes_hall w c hall (Some reply.NoSeat) p q = q
  takes_hall w c hall (Some reply.SeatTaken) p q = q
  takes_hall w c hall (Some reply.BadName) p q = q
  takes_hall w c hall (Some reply.AlreadyAttached) p q = q
  takes_hall w c hall (Some reply.Unauthorized) p q = q
  takes_hall w c hall (Some reply.NotAttached) p q = q
  takes_hall w c hall (Some reply.NoMemory) p q = q

  leaves_placed : (w : World X G) (name : Name) (seat : ℕ) → IsPlaced rules w.hall → IsPlaced rules (leaves rules w name seat).0.hall
  leaves_placed w name seat p = by (nat_lt name.room (length w.hall.rooms))
    where
      by : (b : Bool) → IsPlaced rules (if b then leaves_by rules w name.room (own_entry (call.Leave name.serial seat (seat_key seat))) else (w, refused_text (refusal_text NoMatch))).0.hall
      by true q r = plain_rooms rules w.hall.rooms name.room own_pass (call.Leave name.serial seat (seat_key seat)) false tt q r ∙ p q r
      by false q r = p q r

module _ {X G : Type 0} (named : List ℕ → Option X) (rules : X → Rules G) (tape : ℕ → List ℕ) where
  arrives_placed : (mark : Mark) (w : World X G) (c : ℕ) (waiting : List (List ℕ)) → IsPlaced rules w.hall → IsPlaced rules (arrives named rules tape mark w c waiting).0.hall
  arrives_placed mark w c [] p = p
  arrives_placed mark w c (line ∷ rest) p = line_placed named rules tape mark w.hall c line p

  pub does_placed : (mark : Mark) (step : Step X) (w : World X G) → IsPlaced rules w.hall → IsPlaced rules (does named rules tape mark step w).0.hall
  does_placed mark Nothing w p = p
  does_placed mark (Seeds seed) w p = p
  does_placed mark (Opens game seats) w p = open_placed named rules tape w.hall game seats p
  does_placed mark (Attaches c game name seat protocol) w p = frees_placed rules w.hall c call.Detach p
  does_placed mark (Acts c asked) w p = subst (λ h. IsPlaced rules h) (sym (acts_hall rules (has_starved mark) w c (w.clients c) asked)) p
  does_placed mark (Arrives c) w p = arrives_placed mark w c (w.up c) p
  does_placed mark (Takes c) w p = takes_hall rules w c (frees rules w.hall c call.Take).0 (frees rules w.hall c call.Take).1 p (frees_placed rules w.hall c call.Take p)
  does_placed mark (Reads c) w p = subst (λ h. IsPlaced rules h) (sym (reads_hall rules w c (w.clients c) (w.down c))) p
  does_placed mark (Drops c) w p = frees_placed rules w.hall c call.Detach p
  does_placed mark (Leaves name seat) w p = leaves_placed rules w name seat p
  does_placed mark (Shows c) w p = p

  pub world_placed : (marks : List Mark) (steps : List (Step X)) (w : World X G) → IsPlaced rules w.hall → IsPlaced rules (runs_world named rules tape marks steps w).0.hall
  world_placed marks [] w p = p
  world_placed marks (step ∷ steps) w p =
      world_placed (drop 1 marks) steps (does named rules tape (first_mark marks) step w).0 (does_placed (first_mark marks) step w p)
