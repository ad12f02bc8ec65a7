-- An open attaches and frees nobody.
use Rattle.std.proofs.Common.{◌≡◌, ℕ, zero, suc, ◌+◌, Bool, true, false, nat_lt, if◌then◌else◌, List, [], ◌∷◌, ◌++◌, length, Option, Some, None, refl, ap, ◌∙◌}
use Rattle.game_sheet.specs.MatchName.{Name}
use Rattle.game_trait.specs.Rules.{Rules}
use Rattle.room_object.specs.Entry.{Entry}
use Rattle.room_history.specs.Presence.{is_attached}
use Rattle.room_history.specs.declared.call.RoomCall.{RoomCall}
use Rattle.room_history.specs.declared.reply.RoomReply.{RoomReply}
use Rattle.wire_json.specs.declared.refusal.Refusal.TheVariants.{Full}
use Rattle.game_hall.specs.Core.{fresh}
use Rattle.game_hall.specs.Requests.{created_by, is_busy, makes, next, refuses, tries}
use Rattle.game_hall.specs.Words.{seed_of}
use Rattle.game_hall.specs.declared.answer.Answer.{Answer}
use Rattle.game_hall.specs.declared.answer.Answer.TheVariants as answer
use Rattle.game_hall.specs.declared.next.Next.{Next}
use Rattle.game_hall.specs.declared.next.Next.TheVariants.{Calls, Says}
use Rattle.game_hall.specs.declared.request.Request.{Request}
use Rattle.game_hall.specs.declared.request.Request.TheVariants.{Creating, Listing, Looking, Joining, Renaming, Leaving, Syncing, Acting}
use Rattle.hall_history.specs.Adding.{Adds, AreOf, IsPlain}
use Rattle.hall_history.specs.Hall.{Hall}
use Rattle.hall_history.specs.Opening.{after_open, joins, opening, own_pass, seated, seated_by}
use Rattle.hall_history.specs.Placed.{IsPlaced}
use Rattle.hall_history.specs.Rooms.{History, Rooms, history_of}
use Rattle.hall_history.proofs.Adds.{adds_both, adds_none, adds_one, run_adds}
use Rattle.hall_history.proofs.Placing.{plain_entry}

-- a create's request goes on as one, or ends
abbrev pub CreateFits : {X : Type 0} → Next X → Type 0
CreateFits (Calls room made (Creating game seats seed r)) = IsPlain made
CreateFits (Calls room made request) = ⊥
CreateFits next = Unit {0}

create_plain : {X : Type 0} (room : ℕ) (made : RoomCall X) (request : Request) → CreateFits (Calls room made request) → IsPlain made
create_plain room made (Creating game seats seed r) h = h
create_plain room made (Listing game rows r) h = absurd h
create_plain room made Looking h = absurd h
create_plain room made (Joining name seat key) h = absurd h
create_plain room made (Renaming name seat) h = absurd h
create_plain room made (Leaving name seat) h = absurd h
create_plain room made (Syncing r) h = absurd h
create_plain room made (Acting ticket) h = absurd h

module _ {X : Type 0} (named : List ℕ → Option X) (rooms : ℕ) where
  makes_fits : (found : Option X) (game : List ℕ) (seats : ℕ) (seed : List ℕ) (room : ℕ) → CreateFits (makes found game seats seed room)
  makes_fits None game seats seed room = tt
  makes_fits (Some x) game seats seed room = tt

  tries_fits : (game : List ℕ) (seats : ℕ) (seed : List ℕ) (room : ℕ) → CreateFits (tries named rooms game seats seed room)
  tries_fits game seats seed room = by (nat_lt room rooms)
    where
      by : (b : Bool) → CreateFits (if b then makes (named game) game seats seed room else refuses Full)
      by true = makes_fits (named game) game seats seed room
      by false = tt

  create_goes : (room : ℕ) (made : RoomCall X) (request : Request) (told : RoomReply) → CreateFits (Calls room made request) → CreateFits (next named rooms request told)
  create_goes room made (Creating game seats seed r) told h = by (is_busy told)
    where
      by : (b : Bool) → CreateFits (if b then tries named rooms game seats seed (r + 1) else Says (created_by r told))
      by true = tries_fits game seats seed (r + 1)
      by false = tt
  create_goes room made (Listing game rows r) told h = absurd h
  create_goes room made Looking told h = absurd h
  create_goes room made (Joining name seat key) told h = absurd h
  create_goes room made (Renaming name seat) told h = absurd h
  create_goes room made (Leaving name seat) told h = absurd h
  create_goes room made (Syncing r) told h = absurd h
  create_goes room made (Acting ticket) told h = absurd h

module _ {X : Type 0} where
  seated_adds : (name : Name) (seats : ℕ) (rooms : Rooms X) → Adds IsPlain own_pass rooms (seated name seats rooms)
  seated_adds name zero rooms = adds_none IsPlain own_pass rooms
  seated_adds name (suc seats) rooms =
      adds_both IsPlain own_pass rooms (seated name seats rooms) _ (seated_adds name seats rooms)
      (adds_one IsPlain own_pass (seated name seats rooms) name.room (joins {X = X} name.serial seats).call false tt)

  seated_by_adds : (said : Option Answer) (seats : ℕ) (rooms : Rooms X) → Adds IsPlain own_pass rooms (seated_by said seats rooms)
  seated_by_adds None seats rooms = adds_none IsPlain own_pass rooms
  seated_by_adds (Some answer.Games) seats rooms = adds_none IsPlain own_pass rooms
  seated_by_adds (Some (answer.Matches rows)) seats rooms = adds_none IsPlain own_pass rooms
  seated_by_adds (Some (answer.Match row)) seats rooms = adds_none IsPlain own_pass rooms
  seated_by_adds (Some (answer.Created name)) seats rooms = seated_adds name seats rooms
  seated_by_adds (Some (answer.Joined key name seat)) seats rooms = adds_none IsPlain own_pass rooms
  seated_by_adds (Some (answer.Renamed name seat)) seats rooms = adds_none IsPlain own_pass rooms
  seated_by_adds (Some (answer.Left name seat)) seats rooms = adds_none IsPlain own_pass rooms
  seated_by_adds (Some (answer.Asked name seat)) seats rooms = adds_none IsPlain own_pass rooms
  seated_by_adds (Some (answer.Again ticket)) seats rooms = adds_none IsPlain own_pass rooms
  seated_by_adds (Some (answer.Refused why)) seats rooms = adds_none IsPlain own_pass rooms

module _ {X G : Type 0} (named : List ℕ → Option X) (rules : X → Rules G) (tape : ℕ → List ℕ) where
  pub open_adds : (h : Hall X) (game : List ℕ) (seats : ℕ) → Adds IsPlain own_pass h.rooms (after_open named rules tape h game seats).0.rooms
  open_adds h game seats =
      let done = opening named rules tape h game seats in
      adds_both IsPlain own_pass h.rooms done.1.rooms _
      (run_adds named rules IsPlain own_pass CreateFits (length h.rooms) create_plain (create_goes named (length h.rooms)) (length h.rooms + 1)
      (fresh own_pass (length h.rooms)) (tries named (length h.rooms) game seats (seed_of h.seed (tape h.place)) 0) (record { rooms = h.rooms; luck = None })
      refl (tries_fits named (length h.rooms) game seats (seed_of h.seed (tape h.place)) 0))
      (seated_by_adds done.0.said seats done.1.rooms)

module _ {X G : Type 0} (rules : X → Rules G) (pass : ℕ) where
  plain_entries : (room : ℕ) (entries : List (Entry (RoomCall X))) (h : History X) (q : ℕ) → AreOf IsPlain pass entries
      → is_attached rules room (entries ++ h) q ≡ is_attached rules room h q
  plain_entries room [] h q a = refl
  plain_entries room (e ∷ entries) h q a = plain_entry rules room (entries ++ h) e.pass q e.call e.starved a.1 ∙ plain_entries room entries h q a.2

  pub plain_adds : (old new : Rooms X) → Adds IsPlain pass old new → (q r : ℕ) → is_attached rules r (history_of new r) q ≡ is_attached rules r (history_of old r) q
  plain_adds old new a q r = ap (λ x. is_attached rules r x q) (a.1 r).1 ∙ plain_entries r (a.1 r).0 (history_of old r) q (a.1 r).2

module _ {X G : Type 0} (named : List ℕ → Option X) (rules : X → Rules G) (tape : ℕ → List ℕ) where
  pub open_placed : (h : Hall X) (game : List ℕ) (seats : ℕ) → IsPlaced rules h → IsPlaced rules (after_open named rules tape h game seats).0
  open_placed h game seats p q r = plain_adds rules own_pass h.rooms (after_open named rules tape h game seats).0.rooms (open_adds named rules tape h game seats) q r ∙ p q r
