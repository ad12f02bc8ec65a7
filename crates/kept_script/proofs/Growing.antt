-- The history of the one room grows by the calls of a line, of a Take or a Detach, and of an open.
use Rattle.std.proofs.Common.{◌≡◌, ◌<◌, ℕ, zero, suc, Bool, true, false, if◌then◌else◌, List, [], ◌∷◌, ◌++◌, length, Option, Some, None, refl, sym, ap, ◌∙◌, subst, arith, append_assoc}
use Rattle.std.proofs.lemmas.List.{length-set}
use Rattle.any_game.specs.AnyRules.{any_rules, named}
use Rattle.any_game.specs.GameKind.{GameKind}
use Rattle.any_game.specs.declared.any_g.AnyG.{AnyG}
use Rattle.game_hall.specs.Core.{Core, asked, fresh, moved}
use Rattle.game_hall.specs.Requests.{created_by, is_busy, makes, tries}
use Rattle.game_hall.specs.declared.answer.Answer.{Answer}
use Rattle.game_hall.specs.declared.answer.Answer.TheVariants as answer
use Rattle.game_hall.specs.declared.next.Next.TheVariants.{Says}
use Rattle.game_sheet.specs.MatchName.{Name}
use Rattle.hall_history.specs.Parts.{frees_at}
use Rattle.hall_history.specs.Hall.{Hall}
use Rattle.hall_history.specs.Mark.{ask_rooms}
use Rattle.hall_history.specs.Opening.{joins, own_entry, own_pass, seated, seated_by}
use Rattle.hall_history.specs.Rooms.{History, Rooms, history_of, with_entry}
use Rattle.match_master.specs.Held.{Held, is_starved}
use Rattle.room_history.specs.declared.call.RoomCall.{RoomCall}
use Rattle.room_history.specs.declared.call.RoomCall.TheVariants.{Create}
use Rattle.room_history.specs.declared.reply.RoomReply.{RoomReply}
use Rattle.room_object.specs.Entry.{entry}
use Rattle.session_driver.specs.Calls.{Did}
use Rattle.session_driver.specs.Freeing.{Frees, FreesAt}
use Rattle.session_driver.specs.Hearing.{Makes, Side}
use Rattle.session_hall.specs.Opens.{made_by, opening_in, seated_in}
use Rattle.session_hall.specs.Requests.{with_calls}
use Rattle.session_hall.proofs.Running.{Lucks, runs, with_luck}
use Rattle.kept_room.specs.Journal.{Calls}
use Rattle.kept_script.specs.Growing.{AreOpening, Grows, IsInFirst, creating_calls, freeing_calls, line_calls, seating_calls}
use Rattle.kept_script.specs.OneRoom.{calls_book}
use Rattle.kept_script.proofs.OneCall.{zero_of}

-- ---- one room

pub one_room : (rooms : Rooms GameKind) → length rooms ≡ 1 → rooms ≡ history_of rooms 0 ∷ []
one_room [] e = absurd (omega (arith, e))
one_room (h ∷ []) e = refl
one_room (h ∷ k ∷ rooms) e = absurd (omega (arith, e))

-- no call
pub grows_none : (rooms : Rooms GameKind) → length rooms ≡ 1 → Grows rooms [] rooms
grows_none rooms e = one_room rooms e

-- ---- a line

abbrev Books : Type 0
Books = List (Held GameKind AnyG)

-- each call of a line is one in the one room
all_there : (s : Side Books) (all : List Did) (t : Side Books) → length s.rooms ≡ 1 → Makes calls_book s all t
    → (length t.rooms ≡ 1) × ((pass : ℕ) (h : History GameKind) → with_calls pass all (h ∷ []) ≡ (line_calls pass all ++ h) ∷ [])
all_there s [] t one e = (ap (λ (x : Side Books). length x.rooms) e ∙ one, λ pass h. refl)
all_there s (made ∷ earlier) t one (m, before, (wanted, called, heard_it)) =
    let so_far = all_there s earlier m one before in
    let here : made.room ≡ 0 = zero_of made.room (subst (λ (n : ℕ). made.room < n) so_far.0 called.here) in (
      ap (λ (bs : Books). length bs) called.set ∙ length-set m.rooms made.room called.book ∙ so_far.0,
      λ pass h.
          ap (λ (rooms : Rooms GameKind). with_entry rooms made.room (entry pass made.call (is_starved made.reply))) (so_far.1 pass h)
          ∙ ap (λ (n : ℕ). with_entry ((line_calls pass earlier ++ h) ∷ []) n (entry pass made.call (is_starved made.reply))) here,
    )

pub line_grows : (s : Side Books) (all : List Did) (t : Side Books) → length s.rooms ≡ 1 → Makes calls_book s all t
    → (pass : ℕ) (rooms after : Rooms GameKind) → length rooms ≡ 1 → after ≡ with_calls pass all rooms → Grows rooms (line_calls pass all) after
line_grows s all t one made pass rooms after many e =
    e ∙ ap (λ (r : Rooms GameKind). with_calls pass all r) (one_room rooms many) ∙ (all_there s all t one made).1 pass (history_of rooms 0)

-- ---- a Take and a Detach

pub freed_grows : (h : Hall GameKind) → length h.rooms ≡ 1 → (pass : ℕ) (made : RoomCall GameKind) (s : Side Books) (told : Option RoomReply) (t : Side Books) → length s.rooms ≡ 1 → s.core.at ≡ h.at pass
    → Frees calls_book made s told t → Grows h.rooms (freeing_calls pass made s.core.at) (frees_at any_rules h pass made (h.at pass)).0.rooms
freed_grows h many pass made s told t one at f = subst (λ (o : Option ℕ). Grows h.rooms (freeing_calls pass made s.core.at) (frees_at any_rules h pass made o).0.rooms) at (by s.core.at f)
  where
    by : (o : Option ℕ) → FreesAt calls_book made o s told t → Grows h.rooms (freeing_calls pass made o) (frees_at any_rules h pass made o).0.rooms
    by None (none, stays) = one_room h.rooms many
    by (Some room) (reply, is, called, core) =
        ap (λ (r : Rooms GameKind). with_entry r room (entry pass made false)) (one_room h.rooms many)
        ∙ ap (λ (n : ℕ). with_entry (history_of h.rooms 0 ∷ []) n (entry pass made false)) (zero_of room (subst (λ (n : ℕ). room < n) one called.here))

-- ---- an open

module _ (game : List ℕ) (seats : ℕ) (seed : List ℕ) (h : History GameKind) where
  abbrev own_core : Core GameKind
  own_core = fresh own_pass 1

  abbrev at_first : Lucks
  at_first = with_luck (h ∷ []) None

  -- the room was asked, and no other is there
  asked_once : (found : Option GameKind) → (runs 2 own_pass (moved own_core (makes found game seats seed 0)) at_first).1.rooms ≡ (creating_calls found seats seed ++ h) ∷ []
  asked_once None = refl
  asked_once (Some x) = by (is_busy told) (created_by 0 told)
    where
      told : RoomReply
      told = (ask_rooms any_rules own_pass 0 (Create x seats seed) at_first).0

      left_core : Core GameKind
      left_core = asked (moved own_core (makes (Some x) game seats seed 0))

      by : (b : Bool) (said : Answer)
          → (runs 1 own_pass (moved left_core (if b then tries named 1 game seats seed 1 else Says said)) (with_luck (with_entry (h ∷ []) 0 (own_entry (Create x seats seed))) None)).1.rooms
          ≡ (creating_calls (Some x) seats seed ++ h) ∷ []
      by true said = refl
      by false said = refl

  asked_rooms : (opening_in (h ∷ []) game seats seed).1.rooms ≡ (creating_calls (named game) seats seed ++ h) ∷ []
  asked_rooms = asked_once (named game)

abbrev seated_at : Option Name → ℕ → Rooms GameKind → Rooms GameKind
seated_at None seats rooms = rooms
seated_at (Some name) seats rooms = seated name seats rooms

by_answer : (said : Option Answer) (seats : ℕ) (rooms : Rooms GameKind) → seated_by said seats rooms ≡ seated_at (made_by said) seats rooms
by_answer None seats rooms = refl
by_answer (Some (answer.Created name)) seats rooms = refl
by_answer (Some other) seats rooms = refl

seats_grow : (name : Name) → name.room ≡ 0 → (seats : ℕ) (h : History GameKind) → seated name seats (h ∷ []) ≡ (seated_in name.serial seats [] ++ h) ∷ []
seats_grow name e zero h = refl
seats_grow name e (suc seats) h =
    ap (λ (rooms : Rooms GameKind). with_entry rooms name.room (joins name.serial seats)) (seats_grow name e seats h)
    ∙ ap (λ (n : ℕ). with_entry ((seated_in name.serial seats [] ++ h) ∷ []) n (joins name.serial seats)) e

seating_grows : (made : Option Name) → IsInFirst made → (seats : ℕ) (h : History GameKind) → seated_at made seats (h ∷ []) ≡ (seating_calls made seats ++ h) ∷ []
seating_grows None first seats h = refl
seating_grows (Some name) first seats h = seats_grow name first seats h

pub open_grows : (rooms : Rooms GameKind) → length rooms ≡ 1 → (game : List ℕ) (seats : ℕ) (seed : List ℕ) (made : Option Name) (more : Calls)
    → made ≡ made_by (opening_in rooms game seats seed).0.said → AreOpening game seats seed made more
    → Grows rooms more (seated_by (opening_in rooms game seats seed).0.said seats (opening_in rooms game seats seed).1.rooms)
open_grows rooms many game seats seed made more is o =
    let h : History GameKind = history_of rooms 0 in
    let creating : Calls = creating_calls (named game) seats seed in
    let left : (opening_in rooms game seats seed).1.rooms ≡ (creating ++ h) ∷ [] =
    subst (λ (r : Rooms GameKind). (opening_in r game seats seed).1.rooms ≡ (creating ++ h) ∷ []) (sym (one_room rooms many)) (asked_rooms game seats seed h) in
    by_answer (opening_in rooms game seats seed).0.said seats (opening_in rooms game seats seed).1.rooms
    ∙ ap (λ (m : Option Name). seated_at m seats (opening_in rooms game seats seed).1.rooms) (sym is)
    ∙ ap (λ (r : Rooms GameKind). seated_at made seats r) left
    ∙ seating_grows made o.first seats (creating ++ h)
    ∙ ap (λ (l : Calls). l ∷ []) (sym (append_assoc (seating_calls made seats) creating h) ∙ ap (λ (l : Calls). l ++ h) (sym o.are))
