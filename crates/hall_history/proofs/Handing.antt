-- Step by step along a script: who is attached where, and what is handed out.
use Rattle.std.proofs.Common.{◌≡◌, ◌⊎◌, inl, inr, ℕ, ◌+◌, ◌==◌, Bool, true, false, ◌&&◌, if◌then◌else◌, List, [], ◌∷◌, ◌++◌, length, drop, Option, Some, None, refl, sym, ap, ◌∙◌, subst, append_assoc, append-nil}
use Rattle.game_trait.specs.Rules.{Rules}
use Rattle.room_object.specs.Entry.{Entry, entry}
use Rattle.room_history.specs.Room.{room_of}
use Rattle.room_history.specs.Session.{bytes_handed_out}
use Rattle.room_history.specs.declared.call.RoomCall.{RoomCall}
use Rattle.room_history.specs.declared.call.RoomCall.TheVariants as call
use Rattle.hall_history.specs.Adding.{Adds, AreOf, IsAsking, IsPlain}
use Rattle.hall_history.specs.Parts.{frees_at}
use Rattle.hall_history.specs.Hall.{Hall, after_line}
use Rattle.hall_history.specs.Mark.{Mark}
use Rattle.hall_history.specs.Opening.{after_open, own_pass}
use Rattle.hall_history.specs.Placed.{IsPlaced, is_at}
use Rattle.hall_history.specs.Rooms.{Rooms, history_of, reply_in, with_entry}
use Rattle.hall_history.specs.Script.{Step, Nothing, Seeds, Opens, Says, Takes, Detaches, does, first_mark, runs_script}
use Rattle.hall_history.specs.Told.{bytes_in, handed_by, handed_in, handed_out}
use Rattle.hall_history.proofs.Asking.{plain_asks}
use Rattle.hall_history.proofs.Giving.{line_adds}
use Rattle.hall_history.proofs.Opens.{open_adds, open_placed}
use Rattle.hall_history.proofs.Placing.{frees_placed, in_range, is_here, line_placed}
use Rattle.hall_history.proofs.Rooming.{gets_entry, one_entry, others_stay, same_number}
use Rattle.hall_history.proofs.Telling.{adds_handed, no_take_no_bytes}

plain_are : {X : Type 0} (pass : ℕ) (entries : List (Entry (RoomCall X))) → AreOf IsPlain pass entries → AreOf IsAsking pass entries
plain_are pass [] a = tt
plain_are pass (e ∷ entries) a = (a.0, plain_asks e.call a.1, plain_are pass entries a.2)

pub plain_added : {X : Type 0} (pass : ℕ) (old new : Rooms X) → Adds IsPlain pass old new → Adds IsAsking pass old new
plain_added pass old new a = (a.0, λ r. ((a.1 r).0, (a.1 r).1, plain_are pass (a.1 r).0 (a.1 r).2))

module _ {X G : Type 0} (named : List ℕ → Option X) (rules : X → Rules G) (tape : ℕ → List ℕ) where
  pub does_placed : (mark : Mark) (step : Step) (h : Hall X) → IsPlaced rules h → IsPlaced rules (does named rules tape mark step h).0
  does_placed mark Nothing h p = p
  does_placed mark (Seeds seed) h p = p
  does_placed mark (Opens game seats) h p = open_placed named rules tape h game seats p
  does_placed mark (Says pass line) h p = line_placed named rules tape mark h pass line p
  does_placed mark (Takes pass) h p = frees_placed rules h pass call.Take p
  does_placed mark (Detaches pass) h p = frees_placed rules h pass call.Detach p

module _ {X G : Type 0} (rules : X → Rules G) (pass room j : ℕ) where
  abbrev pub handed : Hall X → List ℕ
  handed h = handed_in rules room (history_of h.rooms room) pass j

  -- a Detach hands nothing out
  pub detach_handed : (h : Hall X) (taker : ℕ) (o : Option ℕ) → handed (frees_at rules h taker call.Detach o).0 ≡ handed h
  detach_handed h taker None = refl
  detach_handed h taker (Some at) = by (one_entry h.rooms at (entry taker call.Detach false) room)
    where
      by : (history_of (with_entry h.rooms at (entry taker call.Detach false)) room ≡ history_of h.rooms room)
          ⊎ ((at ≡ room) × (history_of (with_entry h.rooms at (entry taker call.Detach false)) room ≡ entry taker call.Detach false ∷ history_of h.rooms room))
          → handed_in rules room (history_of (with_entry h.rooms at (entry taker call.Detach false)) room) pass j ≡ handed h
      by (inl e) = ap (λ x. handed_in rules room x pass j) e
      by (inr e) =
          ap (λ x. handed_in rules room x pass j) e.1
          ∙ ap (λ l. handed h ++ l) (no_take_no_bytes rules room pass j (history_of h.rooms room) (entry taker call.Detach false) refl)
          ∙ append-nil (handed h)

  module _ (h : Hall X) (taker : ℕ) (p : IsPlaced rules h) where
    abbrev take_at : Option ℕ → Hall X
    take_at o = (frees_at rules h taker call.Take o).0

    no_take : (a c : Bool) → (a && (false && c)) ≡ false
    no_take true c = refl
    no_take false c = refl

    take_here : (at : ℕ) → h.at taker ≡ Some at → (b : Bool) → (at == room) ≡ b
        → handed (take_at (Some at))
        ≡ handed h ++ (if (taker == pass) && (b && (length ((room_of rules room (history_of h.rooms room)).sessions pass) == j + 1)) then bytes_handed_out (reply_in rules h.rooms at (entry taker call.Take false)) else [])
    take_here at sits true q =
        subst (λ r. handed_in rules r (history_of (with_entry h.rooms at (entry taker call.Take false)) r) pass j
        ≡ handed_in rules r (history_of h.rooms r) pass j ++ (if (taker == pass) && (length ((room_of rules r (history_of h.rooms r)).sessions pass) == j + 1) then bytes_handed_out (reply_in rules h.rooms at (entry taker call.Take false)) else []))
        (same_number at room q)
        (ap (λ x. handed_in rules at x pass j) (gets_entry h.rooms at (entry taker call.Take false) (in_range rules at h.rooms at taker (is_here rules h taker at call.Take p sits))))
    take_here at sits false q =
        ap (λ x. handed_in rules room x pass j) (others_stay h.rooms at room (entry taker call.Take false) q)
        ∙ sym (append-nil (handed h))
        ∙ ap (λ b. handed h ++ (if b then bytes_handed_out (reply_in rules h.rooms at (entry taker call.Take false)) else [])) (sym (no_take (taker == pass) (length ((room_of rules room (history_of h.rooms room)).sessions pass) == j + 1)))

    pub take_handed : (o : Option ℕ) → h.at taker ≡ o
        → handed (take_at o)
        ≡ handed h ++ (if (taker == pass) && (is_at o room && (length ((room_of rules room (history_of h.rooms room)).sessions pass) == j + 1)) then bytes_in (frees_at rules h taker call.Take o).1 else [])
    take_handed None e =
        sym (append-nil (handed h))
        ∙ ap (λ b. handed h ++ (if b then [] else [])) (sym (no_take (taker == pass) (length ((room_of rules room (history_of h.rooms room)).sessions pass) == j + 1)))
    take_handed (Some at) e = take_here at e (at == room) refl

module _ {X G : Type 0} (named : List ℕ → Option X) (rules : X → Rules G) (tape : ℕ → List ℕ) (pass room j : ℕ) where
  step_handed : (mark : Mark) (step : Step) (h : Hall X) → IsPlaced rules h
      → handed_in rules room (history_of (does named rules tape mark step h).0.rooms room) pass j ≡ handed_in rules room (history_of h.rooms room) pass j ++ handed_by rules pass room j step h
  step_handed mark Nothing h p = sym (append-nil (handed rules pass room j h))
  step_handed mark (Seeds seed) h p = sym (append-nil (handed rules pass room j h))
  step_handed mark (Opens game seats) h p =
      adds_handed rules room pass j own_pass h.rooms (after_open named rules tape h game seats).0.rooms (plain_added own_pass h.rooms (after_open named rules tape h game seats).0.rooms (open_adds named rules tape h game seats))
      ∙ sym (append-nil (handed rules pass room j h))
  step_handed mark (Says sayer line) h p =
      adds_handed rules room pass j sayer h.rooms (after_line named rules tape mark h sayer line).0.rooms (line_adds named rules tape mark h sayer line)
      ∙ sym (append-nil (handed rules pass room j h))
  step_handed mark (Takes taker) h p = take_handed rules pass room j h taker p (h.at taker) refl
  step_handed mark (Detaches taker) h p = detach_handed rules pass room j h taker (h.at taker) ∙ sym (append-nil (handed rules pass room j h))

  pub runs_handed : (marks : List Mark) (steps : List Step) (h : Hall X) → IsPlaced rules h
      → handed_in rules room (history_of (runs_script named rules tape marks steps h).0.rooms room) pass j
      ≡ handed_in rules room (history_of h.rooms room) pass j ++ handed_out named rules tape pass room j marks steps h
  runs_handed marks [] h p = sym (append-nil (handed rules pass room j h))
  runs_handed marks (step ∷ steps) h p =
      let next = (does named rules tape (first_mark marks) step h).0 in
      runs_handed (drop 1 marks) steps next (does_placed named rules tape (first_mark marks) step h p)
      ∙ ap (λ l. l ++ handed_out named rules tape pass room j (drop 1 marks) steps next) (step_handed (first_mark marks) step h p)
      ∙ append_assoc (handed rules pass room j h) (handed_by rules pass room j step h) (handed_out named rules tape pass room j (drop 1 marks) steps next)
