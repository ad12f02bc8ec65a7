-- A list has the rows of the matches that stand in the rooms, and changes no room.
use Rattle.std.proofs.Common.{◌≡◌, ℕ, zero, suc, ◌+◌, Bool, true, false, if◌then◌else◌, List, [], ◌∷◌, ◌++◌, length, Option, Some, None, refl, sym, ap, ◌∙◌, subst, arith, append_assoc, append-nil}
use Rattle.std.specs.Str.{bytes_eq}
use Rattle.game_trait.specs.Rules.{Rules}
use Rattle.room_object.specs.Entry.{Entry, entry}
use Rattle.room_history.specs.Match.{Match}
use Rattle.room_history.specs.Others.{KeepsAll}
use Rattle.room_history.specs.Reply.{looked_match, match_row, reply_by}
use Rattle.room_history.specs.Room.{reply, room_of}
use Rattle.room_history.specs.declared.call.RoomCall.{RoomCall}
use Rattle.room_history.specs.declared.call.RoomCall.TheVariants.{Look}
use Rattle.room_history.specs.declared.reply.RoomReply.{RoomReply}
use Rattle.room_history.specs.declared.reply.RoomReply.TheVariants as told_as
use Rattle.wire_json.specs.declared.match_row.MatchRow.{MatchRow}
use Rattle.game_hall.specs.Core.{Core, moved}
use Rattle.game_hall.specs.Requests.{after_listing, lists, lists_of, next, with_row}
use Rattle.game_hall.specs.Run.{run}
use Rattle.game_hall.specs.declared.answer.Answer.TheVariants as answer
use Rattle.game_hall.specs.declared.next.Next.{Next}
use Rattle.game_hall.specs.declared.next.Next.TheVariants.{Calls, Says}
use Rattle.game_hall.specs.declared.request.Request.TheVariants.{Listing}
use Rattle.game_hall.proofs.Running.{moved_over}
use Rattle.hall_history.specs.Hall.{Hall, core_of}
use Rattle.hall_history.specs.Listing.{list_done, standing_row, standing_rows}
use Rattle.hall_history.specs.Mark.{Lucky, ask_rooms}
use Rattle.hall_history.specs.Rooms.{Rooms, history_of, reply_in, with_entry}
use Rattle.hall_history.proofs.Filling.{below, not_below}
use Rattle.hall_history.proofs.Keeping.{KeepsRooms, keeps_both, keeps_none, keeps_one, look_keeps}
use Rattle.hall_history.proofs.Rooming.{Unasked, still_unasked}

module _ {X G : Type 0} (rules : X → Rules G) where
  -- what a room replies to a look, by the match that stands in it
  abbrev shows : ℕ → Option (Match X G) → RoomReply
  shows room None = told_as.NoMatch
  shows room (Some m) = told_as.Looked (match_row rules room m)

  looked : (room : ℕ) (standing : Option (Match X G)) → reply_by (λ m. told_as.Looked (match_row rules room m)) (looked_match standing None) ≡ shows room standing
  looked room None = refl
  looked room (Some m) = refl

  look_told : (room : ℕ) (h : List (Entry (RoomCall X))) (pass : ℕ) → reply rules room h (entry pass (Look None) false) ≡ shows room (room_of rules room h).standing
  unfolding reply
  look_told room h pass = looked room (room_of rules room h).standing

  module _ (game : List ℕ) where
    row_added : (rows : List MatchRow) (room : ℕ) (standing : Option (Match X G)) → with_row game rows (shows room standing) ≡ rows ++ standing_row rules game room standing
    row_added rows room None = sym (append-nil rows)
    row_added rows room (Some m) = by (bytes_eq (match_row rules room m).game game)
      where
        by : (b : Bool) → (if b then rows ++ match_row rules room m ∷ [] else rows) ≡ rows ++ (if b then match_row rules room m ∷ [] else [])
        by true = refl
        by false = sym (append-nil rows)

    goes_on_with : (count : ℕ) (rows : List MatchRow) (at : ℕ) (standing : Option (Match X G))
        → after_listing count game rows at (shows at standing) ≡ lists {X = X} count game (rows ++ standing_row rules game at standing) (at + 1)
    goes_on_with count rows at None = ap (λ rs. lists {X = X} count game rs (at + 1)) (row_added rows at None)
    goes_on_with count rows at (Some m) = ap (λ rs. lists {X = X} count game rs (at + 1)) (row_added rows at (Some m))

module _ {X G : Type 0} (named : List ℕ → Option X) (rules : X → Rules G) (pass : ℕ) (game : List ℕ) where
  abbrev look : Entry (RoomCall X)
  look = entry pass (Look None) false

  abbrev with_rooms : Rooms X → Lucky X
  with_rooms rooms = record { rooms = rooms; luck = None }

  abbrev ran : ℕ → Core X → Next X → Rooms X → Core X × Lucky X
  ran n c x rooms = run named (ask_rooms rules pass) n (moved c x) (with_rooms rooms)

  abbrev here : Rooms X → ℕ → List MatchRow
  here rooms at = standing_row rules game at (room_of rules at (history_of rooms at)).standing

  -- the next room is looked at
  looks_on : (k at : ℕ) (c : Core X) (rows : List MatchRow) (rooms : Rooms X) → c.rooms ≡ at + suc k
      → ran (suc (suc k)) c (lists c.rooms game rows at) rooms ≡ ran (suc k) c (lists c.rooms game (rows ++ here rooms at) (at + 1)) (with_entry rooms at look)
  looks_on k at c rows rooms l =
      ap (λ b. ran (suc (suc k)) c (if b then Calls at (Look None) (Listing game rows at) else Says (answer.Matches rows)) rooms) (below at c.rooms k l)
      ∙ ap (λ d. run named (ask_rooms rules pass) (suc k) d (with_rooms (with_entry rooms at look)))
      (moved_over c at (Look None) (Listing game rows at) (next named c.rooms (Listing game rows at) (reply_in rules rooms at look)))
      ∙ ap (λ told. ran (suc k) c (after_listing c.rooms game rows at told) (with_entry rooms at look)) (look_told rules at (history_of rooms at) pass)
      ∙ ap (λ x. ran (suc k) c x (with_entry rooms at look)) (goes_on_with rules game c.rooms rows at (room_of rules at (history_of rooms at)).standing)

  ends_there : (at : ℕ) (c : Core X) (rows : List MatchRow) (rooms : Rooms X) → c.rooms ≡ at + 0
      → ran 1 c (lists c.rooms game rows at) rooms ≡ ran 1 c (Says (answer.Matches rows)) rooms
  ends_there at c rows rooms l =
      ap (λ b. ran 1 c (if b then Calls at (Look None) (Listing game rows at) else Says (answer.Matches rows)) rooms) (not_below at c.rooms l)

  module _ (old : Rooms X) (c : Core X) where
    all_rows : (k at : ℕ) (rows : List MatchRow) (rooms : Rooms X) → c.rooms ≡ at + k → Unasked old rooms at
        → (ran (suc k) c (lists c.rooms game rows at) rooms).0.said ≡ Some (answer.Matches (rows ++ standing_rows rules game old at k))
    all_rows zero at rows rooms l u = ap (λ d. d.0.said) (ends_there at c rows rooms l) ∙ ap (λ rs. Some (answer.Matches rs)) (sym (append-nil rows))
    all_rows (suc k) at rows rooms l u =
        ap (λ d. d.0.said) (looks_on k at c rows rooms l)
        ∙ all_rows k (at + 1) (rows ++ here rooms at) (with_entry rooms at look) (l ∙ omega arith) (still_unasked old rooms at look u)
        ∙ ap (λ h. Some (answer.Matches ((rows ++ standing_row rules game at (room_of rules at h).standing) ++ standing_rows rules game old (at + 1) k))) (u at (omega arith))
        ∙ ap (λ rs. Some (answer.Matches rs)) (append_assoc rows (here old at) (standing_rows rules game old (at + 1) k))

    all_stay : (k at : ℕ) (rows : List MatchRow) (rooms : Rooms X) → c.rooms ≡ at + k → KeepsRooms rules rooms (ran (suc k) c (lists c.rooms game rows at) rooms).1.rooms
    all_stay zero at rows rooms l = subst (λ d. KeepsRooms rules rooms d.1.rooms) (sym (ends_there at c rows rooms l)) (keeps_none rules rooms)
    all_stay (suc k) at rows rooms l =
        subst (λ d. KeepsRooms rules rooms d.1.rooms) (sym (looks_on k at c rows rooms l))
        (keeps_both rules rooms (with_entry rooms at look) (ran (suc k) c (lists c.rooms game (rows ++ here rooms at) (at + 1)) (with_entry rooms at look)).1.rooms
        (keeps_one rules rooms at look (look_keeps rules at (history_of rooms at) pass None false))
        (all_stay k (at + 1) (rows ++ here rooms at) (with_entry rooms at look) (l ∙ omega arith)))

module _ {X G : Type 0} (named : List ℕ → Option X) (rules : X → Rules G) (tape : ℕ → List ℕ) where
  -- a list looks at room after room
  looks_through : (h : Hall X) (pass : ℕ) (game : List ℕ) (x : X) → named game ≡ Some x
      → list_done named rules tape h pass game ≡ ran named rules pass game (suc (length h.rooms)) (core_of h pass) (lists (length h.rooms) game [] 0) h.rooms
  looks_through h pass game x found =
      ap (λ n. run named (ask_rooms rules pass) n (moved (core_of h pass) (lists_of (length h.rooms) (named game) game)) (record { rooms = h.rooms; luck = None })) one_more
      ∙ ap (λ o. run named (ask_rooms rules pass) (suc (length h.rooms)) (moved (core_of h pass) (lists_of (length h.rooms) o game)) (record { rooms = h.rooms; luck = None })) found
    where
      one_more : length h.rooms + 1 ≡ suc (length h.rooms)
      one_more = omega arith

  pub rows_listed : (h : Hall X) (pass : ℕ) (game : List ℕ) (x : X) → named game ≡ Some x
      → (list_done named rules tape h pass game).0.said ≡ Some (answer.Matches (standing_rows rules game h.rooms 0 (length h.rooms)))
  rows_listed h pass game x found =
      ap (λ d. d.0.said) (looks_through h pass game x found)
      ∙ all_rows named rules pass game h.rooms (core_of h pass) (length h.rooms) 0 [] h.rooms (omega arith) (λ r l. refl)

  pub lists_change_nothing : (h : Hall X) (pass : ℕ) (game : List ℕ) (x : X) → named game ≡ Some x
      → (room : ℕ) → KeepsAll (room_of rules room (history_of h.rooms room)) (room_of rules room (history_of (list_done named rules tape h pass game).1.rooms room))
  lists_change_nothing h pass game x found =
      subst (λ d. KeepsRooms rules h.rooms d.1.rooms) (sym (looks_through h pass game x found))
      (all_stay named rules pass game h.rooms (core_of h pass) (length h.rooms) 0 [] h.rooms (omega arith))
