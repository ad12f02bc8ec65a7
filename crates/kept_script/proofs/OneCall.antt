-- A call in the one room is a call in a list of one book.
use Rattle.std.proofs.Common.{◌≡◌, ◌≤◌, ◌<◌, ℕ, zero, suc, true, List, [], ◌∷◌, length, refl, sym, ap, ◌∙◌, subst, arith}
use Rattle.any_game.specs.AnyRules.{any_rules}
use Rattle.any_game.specs.GameKind.{GameKind}
use Rattle.game_hall.specs.Kept.{IsNamed}
use Rattle.game_hall.proofs.Replies.{named_by}
use Rattle.hall_history.specs.Hall.{Hall}
use Rattle.hall_history.specs.Rooms.{history_of}
use Rattle.hall_history.specs.Tapes.{hall_tape}
use Rattle.match_master.specs.Held.{StandsFor, is_starved, may_starve}
use Rattle.room_history.specs.Room.{reply}
use Rattle.room_history.specs.declared.call.RoomCall.{RoomCall}
use Rattle.room_history.specs.declared.reply.RoomReply.{RoomReply}
use Rattle.room_object.specs.Entry.{entry}
use Rattle.room_journal.specs.declared.room_book.RoomBook.{RoomBook}
use Rattle.session_driver.specs.Calls.{did}
use Rattle.session_hall.specs.Held.{IsBook, StandsForHall}
use Rattle.kept_room.specs.Journal.{Calls, Since, stands_in}
use Rattle.kept_room.specs.declared.room.KeptRoom.{KeptRoom}
use Rattle.kept_script.specs.KeptPlay.{hall_of}
use Rattle.kept_script.specs.OneRoom.{IsFirst, books_of, calls_book}
use Rattle.kept_script.specs.declared.hall.KeptHall.{KeptHall}

pub zero_of : (room : ℕ) → room < 1 → room ≡ 0
zero_of zero low = refl
zero_of (suc room) low = absurd (omega (arith, low))

-- a book that stands for some calls in its room stands so for others
pub in_room : (b : RoomBook) (some : Calls) → stands_in b some → (h : Calls) → StandsFor any_rules b.book h → stands_in b h
in_room b some w h s = record { few = w.few; same = w.same; stands = s }

module _ {D : Type 0} (is_told : D → Type 0) (seen : D → List ℕ) (may_leave : D → List ℕ → Type 0) (moment : D → ℕ) (left_since : D → ℕ → List ℕ → Type 0) (faults : D → ℕ)
    (old new : KeptRoom D) (pass : ℕ) (call : RoomCall GameKind) (told : RoomReply) (first : IsFirst old)
    (answered : (h : Calls) → stands_in old.object h → told ≡ reply any_rules old.object.room h (entry pass call (is_starved told)))
    (since : Since is_told seen may_leave moment left_since faults old new (entry pass call (is_starved told) ∷ [])) where
  abbrev some_calls : Calls
  some_calls = first.1.0

  stood : stands_in old.object some_calls
  stood = first.1.1

  -- the room stays the first
  pub stays_first : IsFirst new
  stays_first = (since.same_room ∙ first.0, (entry pass call (is_starved told) ∷ some_calls, since.stands some_calls stood))

  same_number : new.object.book.room ≡ old.object.book.room
  same_number = (since.stands some_calls stood).same ∙ since.same_room ∙ sym stood.same

  told_by : (h : Calls) → StandsFor any_rules old.object.book h → told ≡ reply any_rules old.object.book.room h (entry pass call (is_starved told))
  told_by h s = answered h (in_room old.object some_calls stood h s) ∙ ap (λ (n : ℕ). reply any_rules n h (entry pass call (is_starved told))) (sym stood.same)

  pub is_named : IsNamed told
  is_named = named_by any_rules old.object.room some_calls (entry pass call (is_starved told)) told (answered some_calls stood)

  pub one_call : (is_starved told ≡ true → may_starve call ≡ true) → (room : ℕ) → room < 1 → calls_book (books_of old) pass (did room call told) (books_of new)
  one_call fed room low = subst (λ (n : ℕ). calls_book (books_of old) pass (did n call told) (books_of new)) (sym (zero_of room low)) (record {
    old = old.object.book;
    book = new.object.book;
    here = below;
    is = refl;
    room = same_number;
    told = told_by;
    stands = λ h s. (since.stands h (in_room old.object some_calls stood h s)).stands;
    fed = λ whole. fed;
    stopped = λ whole. whole;
    set = refl;
  })
    where
      below : 0 < 1
      below = omega arith

-- what a hall of one room says of its room
module _ {D : Type 0} (held : KeptHall D) (h : Hall GameKind) (numbered : held.room.object.room ≡ 0) (s : StandsForHall hall_tape (hall_of held) h) where
  there : 0 < length h.rooms
  there = omega (arith, s.least)

  own_book : IsBook 0 h.rooms held.room.object.book
  own_book = s.books_held.each 0 held.room.object.book there

  pub first_room : IsFirst held.room
  first_room = (
    numbered,
    (
      history_of h.rooms 0,
      record {
        few = subst (λ (n : ℕ). n ≤ 63) (sym numbered) low;
        same = own_book.number ∙ sym numbered;
        stands = own_book.stands;
      },
    ),
  )
    where
      low : 0 ≤ 63
      low = omega arith
