-- A request adds entries of its own pass to the rooms' histories, and no other.
use Rattle.std.proofs.Common.{◌≡◌, ◌⊎◌, inl, inr, ℕ, zero, suc, Bool, List, [], ◌∷◌, ◌++◌, Option, refl, sym, ap, ◌∙◌, subst, append_assoc}
use Rattle.game_trait.specs.Rules.{Rules}
use Rattle.room_object.specs.Entry.{Entry, entry}
use Rattle.room_history.specs.declared.call.RoomCall.{RoomCall}
use Rattle.room_history.specs.declared.reply.RoomReply.{RoomReply}
use Rattle.game_hall.specs.Core.{Core, moved}
use Rattle.game_hall.specs.Requests.{next}
use Rattle.game_hall.specs.Run.{run}
use Rattle.game_hall.specs.declared.next.Next.{Next}
use Rattle.game_hall.specs.declared.next.Next.TheVariants.{Calls, Says, Attaches, Silent}
use Rattle.game_hall.specs.declared.request.Request.{Request}
use Rattle.game_hall.proofs.Running.{moved_over}
use Rattle.hall_history.specs.Adding.{Adds, AreOf}
use Rattle.hall_history.specs.Mark.{Lucky, ask_rooms}
use Rattle.hall_history.specs.Parts.{entry_by}
use Rattle.hall_history.specs.Rooms.{Rooms, history_of, with_entry}
use Rattle.hall_history.proofs.Rooming.{same_length, one_entry}

module _ {X : Type 0} (Asks : RoomCall X → Type 0) (pass : ℕ) where
  pub adds_none : (rooms : Rooms X) → Adds Asks pass rooms rooms
  adds_none rooms = (refl, λ room. ([], refl, tt))

  pub adds_one : (rooms : Rooms X) (room : ℕ) (made : RoomCall X) (b : Bool) → Asks made → Adds Asks pass rooms (with_entry rooms room (entry pass made b))
  adds_one rooms room made b a = (same_length rooms room (entry pass made b), λ r. by r (one_entry rooms room (entry pass made b) r))
    where
      by : (r : ℕ) → (history_of (with_entry rooms room (entry pass made b)) r ≡ history_of rooms r)
          ⊎ ((room ≡ r) × (history_of (with_entry rooms room (entry pass made b)) r ≡ entry pass made b ∷ history_of rooms r))
          → (entries : List (Entry (RoomCall X))) × (history_of (with_entry rooms room (entry pass made b)) r ≡ entries ++ history_of rooms r) × AreOf Asks pass entries
      by r (inl p) = ([], p, tt)
      by r (inr p) = (entry pass made b ∷ [], p.1, (refl, a, tt))

  both_of : (later entries : List (Entry (RoomCall X))) → AreOf Asks pass later → AreOf Asks pass entries → AreOf Asks pass (later ++ entries)
  both_of [] entries h k = k
  both_of (e ∷ later) entries h k = (h.0, h.1, both_of later entries h.2 k)

  pub adds_both : (a b c : Rooms X) → Adds Asks pass a b → Adds Asks pass b c → Adds Asks pass a c
  adds_both a b c h k = (
    k.0 ∙ h.0,
    λ r. (
      (k.1 r).0 ++ (h.1 r).0,
      (k.1 r).1 ∙ ap (λ l. (k.1 r).0 ++ l) (h.1 r).1 ∙ sym (append_assoc (k.1 r).0 (h.1 r).0 (history_of a r)),
      both_of (k.1 r).0 (h.1 r).0 (k.1 r).2 (h.1 r).2,
    ),
  )

module _ {X G : Type 0} (named : List ℕ → Option X) (rules : X → Rules G) (Asks : RoomCall X → Type 0) (pass : ℕ) where
  -- over requests of which each call is such a call, and so is what each reply makes of them
  module _ (Fits : Next X → Type 0) (rooms : ℕ)
      (asks : (room : ℕ) (made : RoomCall X) (request : Request) → Fits (Calls room made request) → Asks made)
      (goes : (room : ℕ) (made : RoomCall X) (request : Request) (told : RoomReply) → Fits (Calls room made request) → Fits (next named rooms request told)) where
    pub run_adds : (n : ℕ) (c : Core X) (x : Next X) (s : Lucky X) → c.rooms ≡ rooms → Fits x
        → Adds Asks pass s.rooms (run named (ask_rooms rules pass) n (moved c x) s).1.rooms
    run_adds zero c x s e f = adds_none Asks pass s.rooms
    run_adds (suc n) c (Says a) s e f = adds_none Asks pass s.rooms
    run_adds (suc n) c (Attaches room) s e f = adds_none Asks pass s.rooms
    run_adds (suc n) c Silent s e f = adds_none Asks pass s.rooms
    run_adds (suc n) c (Calls room made request) s e f =
        let told = ask_rooms rules pass room made s in
        let y = next named c.rooms request told.0 in
        adds_both Asks pass s.rooms told.1.rooms _
        (adds_one Asks pass s.rooms room made (entry_by pass made s.luck).starved (asks room made request f))
        (subst (λ d. Adds Asks pass told.1.rooms (run named (ask_rooms rules pass) n d told.1).1.rooms) (sym (moved_over c room made request y))
        (run_adds n c y told.1 e (subst (λ r. Fits (next named r request told.0)) (sym e) (goes room made request told.0 f))))
