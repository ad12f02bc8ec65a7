-- Books and cores stand for a hall's rooms and passes, after one of them has changed too.
use Rattle.std.proofs.Common.{◌≡◌, ◌≢◌, ◌<◌, ℕ, zero, suc, ◌==◌, Bool, true, false, List, [], ◌∷◌, length, slice_index_or, slice_set, refl, sym, ap, ◌∙◌, subst, arith}
use Rattle.std.proofs.lemmas.List.{get_or-set_same, get_or-set_other, length-set}
use Rattle.any_game.specs.AnyRules.{any_rules}
use Rattle.any_game.specs.GameKind.{GameKind}
use Rattle.any_game.specs.declared.any_g.AnyG.{AnyG}
use Rattle.game_hall.specs.Core.{Core, fresh}
use Rattle.game_sheet.specs.MatchName.{Name}
use Rattle.hall_history.specs.Hall.{Hall, core_of}
use Rattle.hall_history.specs.Opening.{joins, seated}
use Rattle.hall_history.specs.Rooms.{History, Rooms, history_of, with_entry}
use Rattle.hall_history.proofs.Rooming.{gets_entry, not_same, others_stay, same_length, same_number}
use Rattle.match_master.specs.Held.{Held, StandsFor}
use Rattle.room_history.specs.declared.call.RoomCall.{RoomCall}
use Rattle.room_object.specs.Entry.{Entry}
use Rattle.session_hall.specs.Held.{AreBooks, AreCores, IsBook}
use Rattle.session_hall.specs.Opens.{seated_in}

abbrev pub Books : Type 0
Books = List (Held GameKind AnyG)

abbrev pub Calls : Type 0
Calls = Entry (RoomCall GameKind)

-- ---- the books

-- one room's history has changed, and its book with it
pub put_book : (books : Books) (rooms next : Rooms GameKind) (room : ℕ) (b : Held GameKind AnyG) → AreBooks books rooms
    → length next ≡ length rooms → room < length rooms → b.room ≡ room → StandsFor any_rules b (history_of next room)
    → ((r : ℕ) → (room == r) ≡ false → history_of next r ≡ history_of rooms r) → AreBooks (slice_set books room b) next
put_book books rooms next room b a l there n s others = record {
  count = length-set books room b ∙ a.count ∙ sym l;
  each = λ r d below. by r d (subst (λ k. r < k) l below) (room == r) refl;
}
  where
    at_room : (d : Held GameKind AnyG) → IsBook room next (slice_index_or (slice_set books room b) room d)
    at_room d = subst (λ x. IsBook room next x) (sym (get_or-set_same books room b d (subst (λ k. room < k) (sym a.count) there))) (record { number = n; stands = s })

    other : (r : ℕ) → (room == r) ≡ false → r ≢ room
    other r e same = not_same room r e (sym same)

    elsewhere : (r : ℕ) (d : Held GameKind AnyG) → r < length rooms → (room == r) ≡ false → IsBook r next (slice_index_or (slice_set books room b) r d)
    elsewhere r d below e =
        let old : IsBook r rooms (slice_index_or books r d) = a.each r d below in
        subst (λ x. IsBook r next x) (sym (get_or-set_other books room r b d (other r e)))
        (record { number = old.number; stands = subst (λ h. StandsFor any_rules (slice_index_or books r d) h) (sym (others r e)) old.stands })

    by : (r : ℕ) (d : Held GameKind AnyG) → r < length rooms → (found : Bool) → (room == r) ≡ found → IsBook r next (slice_index_or (slice_set books room b) r d)
    by r d below true e = subst (λ x. IsBook x next (slice_index_or (slice_set books room b) x d)) (same_number room r e) (at_room d)
    by r d below false e = elsewhere r d below e

-- a room's history has grown by an entry
pub put_entry : (books : Books) (rooms : Rooms GameKind) (room : ℕ) (b : Held GameKind AnyG) (e : Calls) → AreBooks books rooms
    → room < length rooms → b.room ≡ room → StandsFor any_rules b (e ∷ history_of rooms room) → AreBooks (slice_set books room b) (with_entry rooms room e)
put_entry books rooms room b e a there n s =
    put_book books rooms (with_entry rooms room e) room b a (same_length rooms room e) there n
    (subst (λ h. StandsFor any_rules b h) (sym (gets_entry rooms room e there)) s) (λ r other. others_stay rooms room r e other)

-- ---- players at the seats of a match

seated_length : (name : Name) (seats : ℕ) (rooms : Rooms GameKind) → length (seated name seats rooms) ≡ length rooms
seated_length name zero rooms = refl
seated_length name (suc seats) rooms = same_length (seated name seats rooms) name.room (joins name.serial seats) ∙ seated_length name seats rooms

seated_there : (name : Name) (seats : ℕ) (rooms : Rooms GameKind) → name.room < length rooms
    → history_of (seated name seats rooms) name.room ≡ seated_in name.serial seats (history_of rooms name.room)
seated_there name zero rooms there = refl
seated_there name (suc seats) rooms there =
    gets_entry (seated name seats rooms) name.room (joins name.serial seats) (subst (λ k. name.room < k) (sym (seated_length name seats rooms)) there)
    ∙ ap (λ h. joins name.serial seats ∷ h) (seated_there name seats rooms there)

seated_elsewhere : (name : Name) (seats : ℕ) (rooms : Rooms GameKind) (r : ℕ) → (name.room == r) ≡ false → history_of (seated name seats rooms) r ≡ history_of rooms r
seated_elsewhere name zero rooms r e = refl
seated_elsewhere name (suc seats) rooms r e = others_stay (seated name seats rooms) name.room r (joins name.serial seats) e ∙ seated_elsewhere name seats rooms r e

-- a match was made, with players at its seats
pub put_match : (books : Books) (rooms : Rooms GameKind) (name : Name) (seats : ℕ) (b : Held GameKind AnyG) (e : Calls) → AreBooks books rooms
    → name.room < length rooms → b.room ≡ name.room → StandsFor any_rules b (seated_in name.serial seats (e ∷ history_of rooms name.room))
    → AreBooks (slice_set books name.room b) (seated name seats (with_entry rooms name.room e))
put_match books rooms name seats b e a there n s =
    let grown : Rooms GameKind = with_entry rooms name.room e in
    put_book books rooms (seated name seats grown) name.room b a (seated_length name seats grown ∙ same_length rooms name.room e) there n
    (subst (λ h. StandsFor any_rules b h) (sym (seated_there name seats grown (subst (λ k. name.room < k) (sym (same_length rooms name.room e)) there) ∙ ap (λ h. seated_in name.serial seats h) (gets_entry rooms name.room e there))) s)
    (λ r other. seated_elsewhere name seats grown r other ∙ others_stay rooms name.room r e other)

-- ---- a book that stands for whatever history

set_there : (rooms : Rooms GameKind) (room : ℕ) (h : History GameKind) → room < length rooms → history_of (slice_set rooms room h) room ≡ h
set_there [] room h there = absurd (omega (arith, there))
set_there (k ∷ rooms) zero h there = refl
set_there (k ∷ rooms) (suc room) h there = set_there rooms room h (omega (arith, there))

set_elsewhere : (rooms : Rooms GameKind) (room r : ℕ) (h : History GameKind) → r ≢ room → history_of (slice_set rooms room h) r ≡ history_of rooms r
set_elsewhere [] room r h other = refl
set_elsewhere (k ∷ rooms) zero zero h other = absurd (other refl)
set_elsewhere (k ∷ rooms) zero (suc r) h other = refl
set_elsewhere (k ∷ rooms) (suc room) zero h other = refl
set_elsewhere (k ∷ rooms) (suc room) (suc r) h other = set_elsewhere rooms room r h (λ e. other (ap suc e))

pub put_any : (books : Books) (rooms : Rooms GameKind) (room : ℕ) (b : Held GameKind AnyG) (h : History GameKind) → AreBooks books rooms
    → room < length rooms → b.room ≡ room → StandsFor any_rules b h
    → (after : Rooms GameKind) × (length after ≡ length rooms) × AreBooks (slice_set books room b) after
put_any books rooms room b h a there n s =
    let after : Rooms GameKind = slice_set rooms room h in (
      after,
      length-set rooms room h,
      put_book books rooms after room b a (length-set rooms room h) there n (subst (λ k. StandsFor any_rules b k) (sym (set_there rooms room h there)) s)
          (λ r other. set_elsewhere rooms room r h (λ same. not_same room r other (sym same))),
    )

-- ---- the cores

same_core_of : (g h : Hall GameKind) (pass : ℕ) → length h.rooms ≡ length g.rooms → h.at pass ≡ g.at pass → core_of h pass ≡ core_of g pass
same_core_of g h pass l e = ap (λ n. record (fresh pass n) { at = h.at pass }) l ∙ ap (λ at. record (fresh pass (length g.rooms)) { at = at }) e

pub same_cores : (cores : List (Core GameKind)) (g h : Hall GameKind) → AreCores cores g → length h.rooms ≡ length g.rooms → ((pass : ℕ) → h.at pass ≡ g.at pass) → AreCores cores h
same_cores cores g h a l e = record { count = a.count; each = λ pass d below. a.each pass d below ∙ sym (same_core_of g h pass l (e pass)) }

-- one session has moved
pub put_core : (cores : List (Core GameKind)) (g h : Hall GameKind) (pass : ℕ) (c : Core GameKind) → AreCores cores g → pass < 32
    → length h.rooms ≡ length g.rooms → c ≡ core_of h pass → ((q : ℕ) → (pass == q) ≡ false → h.at q ≡ g.at q) → AreCores (slice_set cores pass c) h
put_core cores g h pass c a there l is others = record {
  count = length-set cores pass c ∙ a.count;
  each = λ q d below. by q d below (pass == q) refl;
}
  where
    at_pass : (d : Core GameKind) → slice_index_or (slice_set cores pass c) pass d ≡ core_of h pass
    at_pass d = get_or-set_same cores pass c d (subst (λ k. pass < k) (sym a.count) there) ∙ is

    other : (q : ℕ) → (pass == q) ≡ false → q ≢ pass
    other q e same = not_same pass q e (sym same)

    by : (q : ℕ) (d : Core GameKind) → q < 32 → (found : Bool) → (pass == q) ≡ found → slice_index_or (slice_set cores pass c) q d ≡ core_of h q
    by q d below true e = subst (λ x. slice_index_or (slice_set cores pass c) x d ≡ core_of h x) (same_number pass q e) (at_pass d)
    by q d below false e = get_or-set_other cores pass q c d (other q e) ∙ a.each q d below ∙ sym (same_core_of g h q l (others q e))
