-- What is added to a count over the replies of all rooms: nothing by entries that count nothing, and by a Take what it hands out.
use Rattle.std.proofs.Common.{◌≡◌, ◌<◌, ◌⊎◌, inl, inr, ℕ, zero, suc, ◌+◌, false, List, [], ◌∷◌, ◌++◌, length, refl, sym, ap, ◌∙◌, subst, arith}
use Rattle.game_trait.specs.Rules.{Rules}
use Rattle.hall_history.specs.Adding.{Adds, AreOf, IsAsking}
use Rattle.hall_history.specs.Counts.{accepts, count_from, count_in, hands_out, refuses}
use Rattle.hall_history.specs.Rooms.{History, Rooms, history_of, reply_in, with_entry}
use Rattle.hall_history.proofs.Adds.{adds_one}
use Rattle.hall_history.proofs.Counting.{counts_entry}
use Rattle.game_hall.proofs.Replies.{IsNoAction, IsNoTake, is_reply, keeps_bytes, unjudged}
use Rattle.room_history.specs.Room.{reply}
use Rattle.room_history.specs.declared.call.RoomCall.{RoomCall}
use Rattle.room_history.specs.declared.call.RoomCall.TheVariants as call
use Rattle.room_history.specs.declared.reply.RoomReply.{RoomReply}
use Rattle.room_object.specs.Entry.{Entry, entry}

-- calls to which no reply counts
abbrev pub Uncounted : {X G : Type 0} → (X → Rules G) → (RoomReply → ℕ) → (RoomCall X → Type 0) → Type 0
Uncounted {X = X} rules count Asks = (room : ℕ) (h : History X) (e : Entry (RoomCall X)) → Asks e.call → count (reply rules room h e) ≡ 0

module _ {X G : Type 0} (rules : X → Rules G) where
  pub unaccepted : Uncounted rules accepts IsNoAction
  unaccepted room h e a = (unjudged e.call (reply rules room h e) a (is_reply rules room h e)).0

  pub unrefused : Uncounted rules refuses IsNoAction
  unrefused room h e a = (unjudged e.call (reply rules room h e) a (is_reply rules room h e)).1

  pub unhanded : Uncounted rules hands_out IsNoTake
  unhanded room h e a = keeps_bytes e.call (reply rules room h e) a (is_reply rules room h e)

asking_no_take : {X : Type 0} (made : RoomCall X) → IsAsking made → IsNoTake made
asking_no_take call.Take a = absurd a
asking_no_take call.Detach a = tt
asking_no_take other a = tt

module _ {X G : Type 0} (rules : X → Rules G) where
  pub asking_unhanded : Uncounted rules hands_out IsAsking
  asking_unhanded room h e a = unhanded rules room h e (asking_no_take e.call a)

none_more : (m n : ℕ) → n ≡ 0 → m + n ≡ m
none_more m n e = omega (arith, e)

module _ {X G : Type 0} (rules : X → Rules G) (count : RoomReply → ℕ) (Asks : RoomCall X → Type 0) (none : Uncounted rules count Asks) (pass : ℕ) where
  counts_none : (room : ℕ) (entries : List (Entry (RoomCall X))) (h : History X) → AreOf Asks pass entries → count_in rules count room (entries ++ h) ≡ count_in rules count room h
  counts_none room [] h a = refl
  counts_none room (e ∷ entries) h a = none_more _ _ (none room (entries ++ h) e a.1) ∙ counts_none room entries h a.2

  -- each room's history has grown by such entries alone
  abbrev HaveGrown : Rooms X → Rooms X → Type 0
  HaveGrown old new = (room : ℕ) → (entries : List (Entry (RoomCall X))) × (history_of new room ≡ entries ++ history_of old room) × AreOf Asks pass entries

  same_count : (first : ℕ) (old new : Rooms X) → length new ≡ length old → HaveGrown old new → count_from rules count first new ≡ count_from rules count first old
  same_count first [] [] e g = refl
  same_count first [] (k ∷ new) e g = absurd (omega (arith, e))
  same_count first (h ∷ old) [] e g = absurd (omega (arith, e))
  same_count first (h ∷ old) (k ∷ new) e g =
      ap (λ n. n + count_from rules count (first + 1) new) (ap (λ x. count_in rules count first x) (g 0).1 ∙ counts_none first (g 0).0 h (g 0).2)
      ∙ ap (λ n. count_in rules count first h + n) (same_count (first + 1) old new (omega (arith, e)) (λ room. g (suc room)))

  pub adds_nothing : (old new : Rooms X) → Adds Asks pass old new → count_from rules count 0 new ≡ count_from rules count 0 old
  adds_nothing old new a = same_count 0 old new a.0 a.1

  pub entry_adds_nothing : (rooms : Rooms X) (room : ℕ) (made : RoomCall X) → Asks made → count_from rules count 0 (with_entry rooms room (entry pass made false)) ≡ count_from rules count 0 rooms
  entry_adds_nothing rooms room made a = adds_nothing rooms (with_entry rooms room (entry pass made false)) (adds_one Asks pass rooms room made false a)

-- ---- a Take

module _ {X G : Type 0} (rules : X → Rules G) where
  nothing_taken : (room pass : ℕ) → hands_out (reply rules room [] (entry pass call.Take false)) ≡ 0
  unfolding reply
  nothing_taken room pass = refl

  -- a room is there, or an entry in it changes nothing
  there_or : (rooms : Rooms X) (room : ℕ) (e : Entry (RoomCall X)) → (room < length rooms) ⊎ ((with_entry rooms room e ≡ rooms) × (history_of rooms room ≡ []))
  there_or [] room e = inr (refl, refl)
  there_or (h ∷ rooms) zero e = inl (omega arith)
  there_or (h ∷ rooms) (suc room) e = by (there_or rooms room e)
    where
      by : (room < length rooms) ⊎ ((with_entry rooms room e ≡ rooms) × (history_of rooms room ≡ []))
          → (suc room < length (h ∷ rooms)) ⊎ ((with_entry (h ∷ rooms) (suc room) e ≡ h ∷ rooms) × (history_of (h ∷ rooms) (suc room) ≡ []))
      by (inl below) = inl (omega (arith, below))
      by (inr none) = inr (ap (λ r. h ∷ r) none.0, none.1)

  pub take_adds : (rooms : Rooms X) (room pass : ℕ)
      → count_from rules hands_out 0 (with_entry rooms room (entry pass call.Take false)) ≡ count_from rules hands_out 0 rooms + hands_out (reply_in rules rooms room (entry pass call.Take false))
  take_adds rooms room pass = by (there_or rooms room (entry pass call.Take false))
    where
      by : (room < length rooms) ⊎ ((with_entry rooms room (entry pass call.Take false) ≡ rooms) × (history_of rooms room ≡ []))
          → count_from rules hands_out 0 (with_entry rooms room (entry pass call.Take false)) ≡ count_from rules hands_out 0 rooms + hands_out (reply_in rules rooms room (entry pass call.Take false))
      by (inl below) = counts_entry rules hands_out rooms room (entry pass call.Take false) below
      by (inr none) =
          ap (λ r. count_from rules hands_out 0 r) none.0
          ∙ sym (none_more _ _ (ap (λ h. hands_out (reply rules room h (entry pass call.Take false))) none.1 ∙ nothing_taken room pass))
