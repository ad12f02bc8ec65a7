-- What an entry adds to a count over the replies of all rooms.
use Rattle.std.proofs.Common.{◌≡◌, ◌<◌, ℕ, zero, suc, ◌+◌, [], ◌∷◌, length, ap, subst, ◌∙◌, arith}
use Rattle.game_trait.specs.Rules.{Rules}
use Rattle.room_history.specs.Room.{reply}
use Rattle.room_history.specs.declared.call.RoomCall.{RoomCall}
use Rattle.room_history.specs.declared.reply.RoomReply.{RoomReply}
use Rattle.room_object.specs.Entry.{Entry}
use Rattle.hall_history.specs.Counts.{count_from, count_in}
use Rattle.hall_history.specs.Rooms.{History, Rooms, history_of, reply_in, with_entry}

module _ {X G : Type 0} (rules : X → Rules G) (count : RoomReply → ℕ) where
  -- of rooms whose first has this number
  counts_from : (first : ℕ) (rooms : Rooms X) (room : ℕ) (e : Entry (RoomCall X)) → room < length rooms
      → count_from rules count first (with_entry rooms room e) ≡ count_from rules count first rooms + count (reply rules (first + room) (history_of rooms room) e)
  counts_from first [] room e there = absurd (omega (arith, there))
  counts_from first (h ∷ rooms) zero e there =
      subst (λ n. count_in rules count first h + count (reply rules first h e) + count_from rules count (first + 1) rooms
      ≡ count_in rules count first h + count_from rules count (first + 1) rooms + count (reply rules n h e)) (first_number first) (moved_last (count_in rules count first h) (count (reply rules first h e)) (count_from rules count (first + 1) rooms))
    where
      first_number : (n : ℕ) → n ≡ n + 0
      first_number n = omega arith

      moved_last : (a b c : ℕ) → a + b + c ≡ a + c + b
      moved_last a b c = omega arith
  counts_from first (h ∷ rooms) (suc room) e there =
      ap (λ n. count_in rules count first h + n) (counts_from (first + 1) rooms room e (omega (arith, there)))
      ∙ subst (λ n. count_in rules count first h + (count_from rules count (first + 1) rooms + count (reply rules (first + 1 + room) (history_of rooms room) e))
      ≡ count_in rules count first h + count_from rules count (first + 1) rooms + count (reply rules n (history_of rooms room) e)) (next_number first room)
      (all_added (count_in rules count first h) (count_from rules count (first + 1) rooms) (count (reply rules (first + 1 + room) (history_of rooms room) e)))
    where
      next_number : (m n : ℕ) → m + 1 + n ≡ m + suc n
      next_number m n = omega arith

      all_added : (a b c : ℕ) → a + (b + c) ≡ a + b + c
      all_added a b c = omega arith

  pub counts_entry : (rooms : Rooms X) (room : ℕ) (e : Entry (RoomCall X)) → room < length rooms
      → count_from rules count 0 (with_entry rooms room e) ≡ count_from rules count 0 rooms + count (reply_in rules rooms room e)
  counts_entry rooms room e there =
      subst (λ n. count_from rules count 0 (with_entry rooms room e) ≡ count_from rules count 0 rooms + count (reply rules n (history_of rooms room) e)) (from_none room) (counts_from 0 rooms room e there)
    where
      from_none : (n : ℕ) → 0 + n ≡ n
      from_none n = omega arith
