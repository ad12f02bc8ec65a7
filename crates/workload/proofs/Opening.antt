-- An open's calls make a match and let its players join, and so count nothing.
use Rattle.std.proofs.Common.{◌≡◌, ℕ, zero, suc, ◌+◌, Bool, true, false, nat_lt, if◌then◌else◌, List, length, Option, Some, None, refl}
use Rattle.game_sheet.specs.MatchName.{Name}
use Rattle.game_trait.specs.Rules.{Rules}
use Rattle.game_hall.specs.Core.{fresh}
use Rattle.game_hall.specs.Requests.{created_by, is_busy, makes, next, tries}
use Rattle.game_hall.specs.Requests.{refuses as is_refused}
use Rattle.game_hall.specs.Words.{seed_of}
use Rattle.game_hall.specs.declared.answer.Answer.{Answer}
use Rattle.game_hall.specs.declared.answer.Answer.TheVariants.{Created}
use Rattle.game_hall.specs.declared.next.Next.{Next}
use Rattle.game_hall.specs.declared.next.Next.TheVariants.{Calls, Says}
use Rattle.game_hall.specs.declared.request.Request.{Request}
use Rattle.game_hall.specs.declared.request.Request.TheVariants.{Creating}
use Rattle.hall_history.specs.Adding.{Adds}
use Rattle.hall_history.specs.Counts.{accepts, count_from, hands_out, refuses}
use Rattle.hall_history.specs.Hall.{Hall}
use Rattle.hall_history.specs.Opening.{after_open, joins, opening, own_pass, seated, seated_by}
use Rattle.hall_history.specs.Rooms.{History, Rooms}
use Rattle.hall_history.proofs.Adds.{adds_both, adds_none, adds_one, run_adds}
use Rattle.game_hall.proofs.Replies.{IsNoAction, IsNoTake}
use Rattle.room_history.specs.declared.call.RoomCall.{RoomCall}
use Rattle.room_history.specs.declared.call.RoomCall.TheVariants.{Create, Join}
use Rattle.room_history.specs.declared.reply.RoomReply.{RoomReply}
use Rattle.wire_json.specs.declared.refusal.Refusal.TheVariants.{Full}
use Rattle.workload.proofs.Adding.{Uncounted, adds_nothing, unaccepted, unhanded, unrefused}

abbrev IsMaking : {X : Type 0} → RoomCall X → Type 0
IsMaking (Create game seats seed) = Unit {0}
IsMaking (Join serial seat name key) = Unit {0}
IsMaking other = ⊥

making_no_action : {X : Type 0} (made : RoomCall X) → IsMaking made → IsNoAction made
making_no_action (Create game seats seed) m = tt
making_no_action (Join serial seat name key) m = tt
making_no_action other m = absurd m

making_no_take : {X : Type 0} (made : RoomCall X) → IsMaking made → IsNoTake made
making_no_take (Create game seats seed) m = tt
making_no_take (Join serial seat name key) m = tt
making_no_take other m = absurd m

-- a create's request goes on as one, or ends
abbrev CreateFits : {X : Type 0} → Next X → Type 0
CreateFits (Calls room made (Creating game seats seed r)) = IsMaking made
CreateFits (Calls room made request) = ⊥
CreateFits next = Unit {0}

create_makes : {X : Type 0} (room : ℕ) (made : RoomCall X) (request : Request) → CreateFits (Calls room made request) → IsMaking made
create_makes room made (Creating game seats seed r) h = h
create_makes room made other h = absurd h

module _ {X : Type 0} (named : List ℕ → Option X) (rooms : ℕ) where
  makes_fits : (found : Option X) (game : List ℕ) (seats : ℕ) (seed : List ℕ) (room : ℕ) → CreateFits (makes found game seats seed room)
  makes_fits None game seats seed room = tt
  makes_fits (Some x) game seats seed room = tt

  tries_fits : (game : List ℕ) (seats : ℕ) (seed : List ℕ) (room : ℕ) → CreateFits (tries named rooms game seats seed room)
  tries_fits game seats seed room = by (nat_lt room rooms)
    where
      by : (b : Bool) → CreateFits (if b then makes (named game) game seats seed room else is_refused Full)
      by true = makes_fits (named game) game seats seed room
      by false = tt

  create_goes : (room : ℕ) (made : RoomCall X) (request : Request) (told : RoomReply) → CreateFits (Calls room made request) → CreateFits (next named rooms request told)
  create_goes room made (Creating game seats seed r) told h = by (is_busy told)
    where
      by : (b : Bool) → CreateFits (if b then tries named rooms game seats seed (r + 1) else Says (created_by r told))
      by true = tries_fits game seats seed (r + 1)
      by false = tt
  create_goes room made other told h = absurd h

module _ {X : Type 0} where
  seated_adds : (name : Name) (seats : ℕ) (rooms : Rooms X) → Adds IsMaking own_pass rooms (seated name seats rooms)
  seated_adds name zero rooms = adds_none IsMaking own_pass rooms
  seated_adds name (suc seats) rooms =
      adds_both IsMaking own_pass rooms (seated name seats rooms) _ (seated_adds name seats rooms)
      (adds_one IsMaking own_pass (seated name seats rooms) name.room (joins {X = X} name.serial seats).call false tt)

  seated_by_adds : (said : Option Answer) (seats : ℕ) (rooms : Rooms X) → Adds IsMaking own_pass rooms (seated_by said seats rooms)
  seated_by_adds (Some (Created name)) seats rooms = seated_adds name seats rooms
  seated_by_adds other seats rooms = adds_none IsMaking own_pass rooms

module _ {X G : Type 0} (named : List ℕ → Option X) (rules : X → Rules G) (tape : ℕ → List ℕ) (h : Hall X) (game : List ℕ) (seats : ℕ) where
  open_makes : Adds IsMaking own_pass h.rooms (after_open named rules tape h game seats).0.rooms
  open_makes =
      let done = opening named rules tape h game seats in
      adds_both IsMaking own_pass h.rooms done.1.rooms _
      (run_adds named rules IsMaking own_pass CreateFits (length h.rooms) create_makes (create_goes named (length h.rooms)) (length h.rooms + 1)
      (fresh own_pass (length h.rooms)) (tries named (length h.rooms) game seats (seed_of h.seed (tape h.place)) 0) (record { rooms = h.rooms; luck = None })
      refl (tries_fits named (length h.rooms) game seats (seed_of h.seed (tape h.place)) 0))
      (seated_by_adds done.0.said seats done.1.rooms)

  open_adds_nothing : (count : RoomReply → ℕ) → Uncounted rules count IsMaking → count_from rules count 0 (after_open named rules tape h game seats).0.rooms ≡ count_from rules count 0 h.rooms
  open_adds_nothing count none = adds_nothing rules count IsMaking none own_pass h.rooms (after_open named rules tape h game seats).0.rooms open_makes

  pub open_accepts : count_from rules accepts 0 (after_open named rules tape h game seats).0.rooms ≡ count_from rules accepts 0 h.rooms
  open_accepts = open_adds_nothing accepts (λ room k e m. unaccepted rules room k e (making_no_action e.call m))

  pub open_refuses : count_from rules refuses 0 (after_open named rules tape h game seats).0.rooms ≡ count_from rules refuses 0 h.rooms
  open_refuses = open_adds_nothing refuses (λ room k e m. unrefused rules room k e (making_no_action e.call m))

  pub open_hands : count_from rules hands_out 0 (after_open named rules tape h game seats).0.rooms ≡ count_from rules hands_out 0 h.rooms
  open_hands = open_adds_nothing hands_out (λ room k e m. unhanded rules room k e (making_no_take e.call m))
