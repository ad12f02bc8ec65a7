-- A line that isn't answered by `again` has done, however its mark says that it went, what it does where it is served.
use Rattle.std.proofs.Common.{◌≡◌, ◌⊎◌, inl, inr, ℕ, zero, suc, ◌+◌, Bool, true, false, ◌&&◌, if◌then◌else◌, List, [], ◌∷◌, length, Option, Some, None, refl, sym, ap, ◌∙◌}
use Rattle.game_trait.specs.Rules.{Rules}
use Rattle.game_hall.specs.Core.{Core, asked, is_again, moved, replied, starved, ticket_of}
use Rattle.game_hall.specs.Requests.{hears, next}
use Rattle.game_hall.specs.Run.{run}
use Rattle.game_hall.specs.declared.answer.Answer.{Answer}
use Rattle.game_hall.specs.declared.answer.Answer.TheVariants.{Again}
use Rattle.game_hall.specs.declared.next.Next.{Next}
use Rattle.game_hall.specs.declared.next.Next.TheVariants.{Calls, Says, Attaches, Silent}
use Rattle.game_hall.specs.declared.request.Request.{Request}
use Rattle.game_hall.proofs.Moves.{is_starved_by}
use Rattle.game_hall.proofs.Running.{moved_over}
use Rattle.hall_history.specs.Hall.{Hall, after_line, core_of, request}
use Rattle.hall_history.specs.Mark.{Luck, Lucky, Mark, Served, Starved, Unread, ask_rooms, takes_memory, unheard}
use Rattle.hall_history.specs.Parts.{hall_by, luck_after, runs_out, runs_out_there}
use Rattle.hall_history.specs.Rooms.{Rooms, reply_in, with_entry}
use Rattle.room_history.specs.Room.{reply}
use Rattle.room_history.specs.declared.call.RoomCall.{RoomCall}
use Rattle.room_history.specs.declared.reply.RoomReply.{RoomReply}
use Rattle.room_history.specs.declared.reply.RoomReply.TheVariants as told_as
use Rattle.room_object.specs.Entry.{Entry, entry}
use Rattle.wire_json.specs.ClientReading.{client_read}
use Rattle.wire_json.specs.Refusals.{Refusal as Fault}
use Rattle.wire_json.specs.declared.client.ClientMsg.{ClientMsg}
use Rattle.std.specs.Prelude.{Result}

true_false : true ≡ false → ⊥
true_false e = cc

-- a reply from which a session takes memory to go on is want of memory where there is none, and every other stays as it is
unheard_or : (told : RoomReply) → (unheard told ≡ told) ⊎ (unheard told ≡ told_as.NoMemory)
unheard_or (told_as.Looked row) = inr refl
unheard_or told_as.Busy = inr refl
unheard_or told = inl refl

there_out : (luck : Luck) (takes : Bool) → (runs_out_there luck && takes) ≡ true → runs_out luck ≡ true
there_out None takes e = absurd (true_false (sym e))
there_out (Some luck) takes e = by (runs_out (Some luck)) refl
  where
    by : (b : Bool) → runs_out (Some luck) ≡ b → runs_out (Some luck) ≡ true
    by true f = f
    by false f = absurd (true_false (sym e ∙ ap (λ b. (b && luck.1) && takes) f))

module _ {X G : Type 0} (rules : X → Rules G) (room : ℕ) where
  starved_reply : (h : List (Entry (RoomCall X))) (pass : ℕ) (call : RoomCall X) → reply rules room h (entry pass call true) ≡ told_as.NoMemory
  unfolding reply
  starved_reply h pass call = refl

module _ {X G : Type 0} (named : List ℕ → Option X) (rules : X → Rules G) (pass : ℕ) where
  abbrev with_luck : Rooms X → Luck → Lucky X
  with_luck rooms luck = record { rooms = rooms; luck = luck }

  abbrev runs_by : ℕ → Core X → Lucky X → Core X × Lucky X
  runs_by n c s = run named (ask_rooms rules pass) n c s

  -- both come to the same core and rooms
  abbrev Same : Core X × Lucky X → Core X × Lucky X → Type 0
  Same a b = (a.0 ≡ b.0) × (a.1.rooms ≡ b.1.rooms)

  -- a request that was told of want of memory is at its end
  ends_again : (n : ℕ) (c : Core X) (ask : Request) (s : Lucky X) → is_again (runs_by n (moved c (next named c.rooms ask told_as.NoMemory)) s).0.said ≡ true
  ends_again n c ask s = ap (λ d. is_again (runs_by n d s).0.said) (is_starved_by named c ask) ∙ by n
    where
      by : (n : ℕ) → is_again (runs_by n (starved c (ticket_of (Some ask))) s).0.said ≡ true
      by zero = refl
      by (suc n) = refl

  module _ (n : ℕ) (c : Core X) (room : ℕ) (made : RoomCall X) (ask : Request) (rooms : Rooms X) where
    abbrev begun : Core X
    begun = moved c (Calls room made ask)

    -- what is replied to the call, with or without memory in its room
    abbrev told_if : Bool → RoomReply
    told_if b = reply_in rules rooms room (entry pass made b)

    abbrev heard_if : Bool → Bool → RoomReply
    heard_if b out = if out then unheard (told_if b) else told_if b

    abbrev rooms_if : Bool → Rooms X
    rooms_if b = with_entry rooms room (entry pass made b)

    asks_if : (luck : Luck) (b out : Bool) → (runs_out_there luck && takes_memory made) ≡ b → runs_out luck ≡ out
        → ask_rooms rules pass room made (with_luck rooms luck) ≡ (heard_if b out, with_luck (rooms_if b) (luck_after luck))
    asks_if luck b out p q =
        ap (λ x. (heard_if x (runs_out luck), with_luck (rooms_if x) (luck_after luck))) p
        ∙ ap (λ y. (heard_if b y, with_luck (rooms_if b) (luck_after luck))) q

    goes_if : (s : Lucky X) (told : RoomReply) (t : Lucky X) → ask_rooms rules pass room made s ≡ (told, t)
        → runs_by (suc n) begun s ≡ runs_by n (moved c (next named c.rooms ask told)) t
    goes_if s told t e =
        ap (λ (a : RoomReply × Lucky X). runs_by n (moved (asked begun) (next named c.rooms ask a.0)) a.1) e
        ∙ ap (λ d. runs_by n d t) (moved_over c room made ask (next named c.rooms ask told))

    served_call : ((x : Next X) (after : Rooms X) (luck : Luck) → is_again (runs_by n (moved c x) (with_luck after luck)).0.said ≡ false
        → Same (runs_by n (moved c x) (with_luck after luck)) (runs_by n (moved c x) (with_luck after None)))
        → (luck : Luck) → is_again (runs_by (suc n) begun (with_luck rooms luck)).0.said ≡ false
        → Same (runs_by (suc n) begun (with_luck rooms luck)) (runs_by (suc n) begun (with_luck rooms None))
    served_call later luck e = by (runs_out_there luck && takes_memory made) (runs_out luck) refl refl
      where
        goes_on : Luck → Core X × Lucky X
        goes_on left = runs_by n (moved c (next named c.rooms ask (told_if false))) (with_luck (rooms_if false) left)

        same : runs_by (suc n) begun (with_luck rooms luck) ≡ goes_on (luck_after luck) → Same (runs_by (suc n) begun (with_luck rooms luck)) (runs_by (suc n) begun (with_luck rooms None))
        same f =
            let plain : runs_by (suc n) begun (with_luck rooms None) ≡ goes_on None = goes_if (with_luck rooms None) (told_if false) (with_luck (rooms_if false) None) refl in
            let rest : Same (goes_on (luck_after luck)) (goes_on None) =
            later (next named c.rooms ask (told_if false)) (rooms_if false) (luck_after luck) (ap (λ (d : Core X × Lucky X). is_again d.0.said) (sym f) ∙ e) in (
              ap (λ (d : Core X × Lucky X). d.0) f ∙ rest.0 ∙ ap (λ (d : Core X × Lucky X). d.0) (sym plain),
              ap (λ (d : Core X × Lucky X). d.1.rooms) f ∙ rest.1 ∙ ap (λ (d : Core X × Lucky X). d.1.rooms) (sym plain),
            )

        none : (told : RoomReply) (t : Lucky X) → told ≡ told_as.NoMemory → ask_rooms rules pass room made (with_luck rooms luck) ≡ (told, t)
            → Same (runs_by (suc n) begun (with_luck rooms luck)) (runs_by (suc n) begun (with_luck rooms None))
        none told t f a =
            absurd (true_false
            (sym (ends_again n c ask t)
            ∙ ap (λ x. is_again (runs_by n (moved c (next named c.rooms ask x)) t).0.said) (sym f)
            ∙ ap (λ (d : Core X × Lucky X). is_again d.0.said) (sym (goes_if (with_luck rooms luck) told t a))
            ∙ e))

        by : (b out : Bool) → (runs_out_there luck && takes_memory made) ≡ b → runs_out luck ≡ out
            → Same (runs_by (suc n) begun (with_luck rooms luck)) (runs_by (suc n) begun (with_luck rooms None))
        by false false p q = same (goes_if (with_luck rooms luck) (told_if false) (with_luck (rooms_if false) (luck_after luck)) (asks_if luck false false p q))
        by false true p q = heard (unheard_or (told_if false))
          where
            heard : (unheard (told_if false) ≡ told_if false) ⊎ (unheard (told_if false) ≡ told_as.NoMemory)
                → Same (runs_by (suc n) begun (with_luck rooms luck)) (runs_by (suc n) begun (with_luck rooms None))
            heard (inl f) =
                same (goes_if (with_luck rooms luck) (told_if false) (with_luck (rooms_if false) (luck_after luck))
                (asks_if luck false true p q ∙ ap (λ x. (x, with_luck (rooms_if false) (luck_after luck))) f))
            heard (inr f) = none (unheard (told_if false)) (with_luck (rooms_if false) (luck_after luck)) f (asks_if luck false true p q)
        by true out p q =
            none (unheard (told_if true)) (with_luck (rooms_if true) (luck_after luck))
            (ap (λ x. unheard x) (starved_reply rules room _ pass made))
            (asks_if luck true true p (there_out luck (takes_memory made) p))

  served_run : (n : ℕ) (c : Core X) (x : Next X) (rooms : Rooms X) (luck : Luck) → is_again (runs_by n (moved c x) (with_luck rooms luck)).0.said ≡ false
      → Same (runs_by n (moved c x) (with_luck rooms luck)) (runs_by n (moved c x) (with_luck rooms None))
  served_run zero c x rooms luck e = (refl, refl)
  served_run (suc n) c (Says a) rooms luck e = (refl, refl)
  served_run (suc n) c (Attaches room) rooms luck e = (refl, refl)
  served_run (suc n) c Silent rooms luck e = (refl, refl)
  served_run (suc n) c (Calls room made ask) rooms luck e = served_call n c room made ask rooms (λ x after left f. served_run n c x after left f) luck e

module _ {X G : Type 0} (named : List ℕ → Option X) (rules : X → Rules G) (tape : ℕ → List ℕ) (h : Hall X) (pass : ℕ) where
  abbrev by_mark : Mark → Result ClientMsg Fault → Core X × Lucky X
  by_mark mark read = request named rules tape mark h pass read

  served_request : (mark : Mark) (read : Result ClientMsg Fault) → is_again (by_mark mark read).0.said ≡ false → ((by_mark mark read).0 ≡ (by_mark Served read).0) × ((by_mark mark read).1.rooms ≡ (by_mark Served read).1.rooms)
  served_request Served read e = (refl, refl)
  served_request Unread read e = absurd (true_false e)
  served_request (Starved zero there) read e = absurd (true_false e)
  served_request (Starved (suc n) there) read e =
      served_run named rules pass (length h.rooms + 1) (core_of h pass) (hears named (length h.rooms) (h.at pass) read (tape h.place) h.seed) h.rooms (Some (suc n, there)) e

  pub served_line : (mark : Mark) (line : List ℕ) → is_again (after_line named rules tape mark h pass line).1 ≡ false
      → after_line named rules tape mark h pass line ≡ after_line named rules tape Served h pass line
  served_line mark line e =
      let same = served_request mark (client_read line) e in
      ap (λ c. hall_by h pass (client_read line) (c, record { rooms = (by_mark mark (client_read line)).1.rooms; luck = None })) same.0
      ∙ ap (λ rooms. hall_by h pass (client_read line) ((by_mark Served (client_read line)).0, record { rooms = rooms; luck = None })) same.1
