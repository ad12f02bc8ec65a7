-- What comes of asking the one room for a match, as session_hall has it.
use Rattle.std.proofs.Common.{◌≡◌, ◌≤◌, ◌<◌, ℕ, Bool, true, false, List, [], ◌∷◌, ◌++◌, length, Option, Some, None, Result, Ok, Err, IfOk, OnOk, refl, sym, ap, ◌∙◌, subst, arith}
use Rattle.any_game.specs.AnyRules.{any_rules, named}
use Rattle.any_game.specs.GameKind.{GameKind}
use Rattle.any_game.specs.declared.any_g.AnyG.{AnyG}
use Rattle.game_sheet.specs.MatchName.{Name}
use Rattle.hall_history.specs.Opening.{joins, own_pass, seat_key, seat_name}
use Rattle.hall_history.specs.Rooms.{History, Rooms}
use Rattle.match_master.specs.Held.{Held, StandsFor, is_starved}
use Rattle.room_history.specs.Room.{reply}
use Rattle.room_history.specs.declared.call.RoomCall.{RoomCall}
use Rattle.room_history.specs.declared.call.RoomCall.TheVariants.{Create, Join}
use Rattle.room_history.specs.declared.reply.RoomReply.{RoomReply}
use Rattle.room_history.specs.declared.reply.RoomReply.TheVariants as answer
use Rattle.room_object.specs.Entry.{entry}
use Rattle.session_hall.specs.Held.{AreBooks}
use Rattle.session_hall.specs.Opens.{CreatesIn, OpensIn, seated_in, tried_by}
use Rattle.session_hall.specs.declared.opening.Tried.{Tried}
use Rattle.session_hall.specs.declared.opening.Tried.TheVariants as hall_tried
use Rattle.session_hall.proofs.RoomByRoom.{OpensFrom, busy_next, made_ends, opens_first, opens_full, refused_ends, serial_there}
use Rattle.kept_room.specs.Journal.{Calls, Since, stands_in}
use Rattle.kept_room.specs.declared.room.KeptRoom.{KeptRoom}
use Rattle.kept_script.specs.Growing.{AreOpening, creating_calls}
use Rattle.kept_script.specs.Tries.{UnlessStarved, tried_as}
use Rattle.kept_script.specs.declared.opening.Tried.{Tried as KeptTried}
use Rattle.kept_script.specs.declared.opening.Tried.TheVariants as kept_tried
use Rattle.kept_script.proofs.OneCall.{in_room}

-- ---- calls for which there was memory

not_starved : (told : RoomReply) (t : Tried) → t ≡ tried_by told → (t ≡ hall_tried.Starved → ⊥) → is_starved told ≡ false
not_starved answer.NoMemory t e n = absurd (n e)
not_starved told t e n = refl

module _ (game : GameKind) (seats : ℕ) (seed : List ℕ) (told : RoomReply) where
  abbrev Created : Type 0
  Created = entry own_pass (Create game seats seed) (is_starved told) ∷ [] ≡ creating_calls (Some game) seats seed

  created_one : is_starved told ≡ false → Created
  created_one e = ap (λ (b : Bool). entry own_pass (Create game seats seed) b ∷ []) e

  pub created_unless : (r : KeptTried) → tried_as r ≡ tried_by told → UnlessStarved r Created
  created_unless kept_tried.Busy e = created_one (not_starved told hall_tried.Busy e (λ n. cc))
  created_unless (kept_tried.Made serial) e = created_one (not_starved told (hall_tried.Made serial) e (λ n. cc))
  created_unless kept_tried.Refused e = created_one (not_starved told hall_tried.Refused e (λ n. cc))
  created_unless kept_tried.Starved e = tt

pub joined_one : (serial seat : ℕ) (call : RoomCall GameKind) (told : RoomReply) → call ≡ Join serial seat (seat_name seat) (seat_key seat) → is_starved told ≡ false
    → entry own_pass call (is_starved told) ∷ [] ≡ joins serial seat ∷ []
joined_one serial seat call told is served =
    ap (λ (b : Bool). entry own_pass call b ∷ []) served ∙ ap (λ (made : RoomCall GameKind). entry own_pass made false ∷ []) is

-- an open that makes no match, and one that makes one
pub opens_none : (game : List ℕ) (seats : ℕ) (seed : List ℕ) (more : Calls) → more ≡ creating_calls (named game) seats seed → AreOpening game seats seed None more
opens_none game seats seed more e = record { are = e; first = tt }

pub opens_made : {E : Type 0} (r : Result (Option Name) E) (game : List ℕ) (seats : ℕ) (seed : List ℕ) (serial : ℕ) (made more : Calls) → made ≡ creating_calls (named game) seats seed
    → IfOk r (λ o. o ≡ Some (record { room = 0; serial = serial })) → OnOk r (more ≡ seated_in serial seats []) → IfOk r (λ o. AreOpening game seats seed o (more ++ made))
opens_made (Ok o) game seats seed serial made more e n s =
    let name : Name = record { room = 0; serial = serial } in
    subst (λ (x : Option Name). AreOpening game seats seed x (more ++ made)) (sym n)
    (record { are = ap (λ (l : Calls). more ++ l) e ∙ ap (λ (l : Calls). l ++ creating_calls (named game) seats seed) s; first = refl })
opens_made (Err x) game seats seed serial made more e n s = s

-- ---- one call of the script's own pass

module _ (room : ℕ) (game : GameKind) (seats : ℕ) (seed : List ℕ) (h : History GameKind) (book : Held GameKind AnyG) where
  abbrev Asked : RoomReply → Type 0
  Asked told = (told ≡ reply any_rules room h (entry own_pass (Create game seats seed) (is_starved told))) × StandsFor any_rules book (entry own_pass (Create game seats seed) (is_starved told) ∷ h)

  pub created_as : (told : RoomReply) → Asked told → CreatesIn room (Some game) seats seed h (tried_by told) book
  created_as answer.NoMemory (e, s) = (entry own_pass (Create game seats seed) true ∷ h, s)
  created_as answer.Busy (e, s) = (ap tried_by e, s)
  created_as (answer.Created serial) (e, s) = (ap tried_by e, s)
  created_as told (e, s) = (ap tried_by e, s)

-- ---- by what the code finds of the room and of what was asked

module _ {D : Type 0} (is_told : D → Type 0) (seen : D → List ℕ) (may_leave : D → List ℕ → Type 0) (moment : D → ℕ) (left_since : D → ℕ → List ℕ → Type 0) (faults : D → ℕ) where
  abbrev Was : KeptRoom D → KeptRoom D → Calls → Type 0
  Was old new more = Since is_told seen may_leave moment left_since faults old new more

  module _ (old new : KeptRoom D) (more : Calls) (some : Calls) (stood : stands_in old.object some) (since : Was old new more) where
    pub same_room : new.object.book.room ≡ old.object.book.room
    same_room = (since.stands some stood).same ∙ since.same_room ∙ sym stood.same

    pub stands_then : (h : Calls) → StandsFor any_rules old.object.book h → StandsFor any_rules new.object.book (more ++ h)
    stands_then h s = (since.stands h (in_room old.object some stood h s)).stands

    pub serves_then : (h : Calls) × stands_in new.object h
    serves_then = (more ++ some, since.stands some stood)

  module _ (old new : KeptRoom D) (some : Calls) (stood : stands_in old.object some) where
    -- a reply, by the number of the book
    replied : (pass : ℕ) (call : RoomCall GameKind) (told : RoomReply) (starved : Bool)
        → ((h : Calls) → stands_in old.object h → told ≡ reply any_rules old.object.room h (entry pass call starved))
        → (h : Calls) → StandsFor any_rules old.object.book h → told ≡ reply any_rules old.object.book.room h (entry pass call starved)
    replied pass call told starved answered h s =
        answered h (in_room old.object some stood h s) ∙ ap (λ (n : ℕ). reply any_rules n h (entry pass call starved)) (sym stood.same)

    pub created_so : (game : GameKind) (seats : ℕ) (seed : List ℕ) (told : RoomReply)
        → ((h : Calls) → stands_in old.object h → told ≡ reply any_rules old.object.room h (entry own_pass (Create game seats seed) (is_starved told)))
        → Was old new (entry own_pass (Create game seats seed) (is_starved told) ∷ [])
        → (h : History GameKind) → StandsFor any_rules old.object.book h → CreatesIn old.object.book.room (Some game) seats seed h (tried_by told) new.object.book
    created_so game seats seed told answered since h s =
        created_as old.object.book.room game seats seed h new.object.book told
        (replied own_pass (Create game seats seed) told (is_starved told) answered h s, stands_then old new (entry own_pass (Create game seats seed) (is_starved told) ∷ []) some stood since h s)

    -- a player was seated, unless there was no memory
    pub seated_unless : {A E : Type 0} (r : Result A E) (serial seat : ℕ) (call : RoomCall GameKind) → call ≡ Join serial seat (seat_name seat) (seat_key seat) → (told : RoomReply) → OnOk r (is_starved told ≡ false)
        → Was old new (entry own_pass call (is_starved told) ∷ []) → (h : History GameKind) → StandsFor any_rules old.object.book h → OnOk r (StandsFor any_rules new.object.book (joins serial seat ∷ h))
    seated_unless (Ok x) serial seat call is told fed since h s =
        subst (λ (made : RoomCall GameKind). StandsFor any_rules new.object.book (entry own_pass made false ∷ h)) is
        (subst (λ (b : Bool). StandsFor any_rules new.object.book (entry own_pass call b ∷ h)) fed
        (stands_then old new (entry own_pass call (is_starved told) ∷ []) some stood since h s))
    seated_unless (Err x) serial seat call is told fed since h s = fed

-- ---- the one room

module _ (rooms : Rooms GameKind) (game : List ℕ) (seats : ℕ) (seed : List ℕ) (old : Held GameKind AnyG) (a : AreBooks (old ∷ []) rooms) (b : Held GameKind AnyG) (same : b.room ≡ old.room) (tried : Tried)
    (created : (h : History GameKind) → StandsFor any_rules old h → CreatesIn old.room (named game) seats seed h tried b) where
  there : 0 < length rooms
  there = subst (λ (n : ℕ). 0 < n) a.count one
    where
      one : 0 < 1
      one = omega arith

  first : OpensFrom rooms game seats seed 0 (old ∷ [])
  first = opens_first rooms game seats seed (old ∷ []) a

  pub full_one : tried ≡ hall_tried.Busy → OpensIn rooms game seats seed (b ∷ []) None
  full_one e =
      opens_full rooms game seats seed (b ∷ [])
      (subst (λ (n : ℕ). OpensFrom rooms game seats seed n (b ∷ [])) a.count (busy_next rooms game seats seed 0 there (old ∷ []) first old refl b same tried created e))

  pub refused_one : tried ≡ hall_tried.Refused → OpensIn rooms game seats seed (b ∷ []) None
  refused_one e = refused_ends rooms game seats seed 0 there (old ∷ []) first old refl b same tried created e

  pub has_serial : (serial : ℕ) → tried ≡ hall_tried.Made serial → 1 ≤ serial
  has_serial serial e = serial_there rooms game seats seed 0 there (old ∷ []) first old refl b same tried created serial e

  made_one : (serial : ℕ) → tried ≡ hall_tried.Made serial → (c : Held GameKind AnyG) → c.room ≡ b.room
      → ((h : History GameKind) → StandsFor any_rules b h → StandsFor any_rules c (seated_in serial seats h)) → (name : Name) → name ≡ record { room = 0; serial = serial }
      → OpensIn rooms game seats seed (c ∷ []) (Some name)
  made_one serial e c k all name n = made_ends rooms game seats seed 0 there (old ∷ []) first old refl b same tried created serial e c k all name n

  pub made_unless : {E : Type 0} (r : Result (Option Name) E) (serial : ℕ) → tried ≡ hall_tried.Made serial → (c : Held GameKind AnyG) → c.room ≡ b.room
      → ((h : History GameKind) → StandsFor any_rules b h → OnOk r (StandsFor any_rules c (seated_in serial seats h))) → IfOk r (λ made. made ≡ Some (record { room = 0; serial = serial }))
      → IfOk r (λ made. OpensIn rooms game seats seed (c ∷ []) made)
  made_unless (Ok made) serial e c k all n =
      let name : Name = record { room = 0; serial = serial } in
      subst (λ (o : Option Name). OpensIn rooms game seats seed (c ∷ []) o) (sym n) (made_one serial e c k all name refl)
  made_unless (Err x) serial e c k all n = n
