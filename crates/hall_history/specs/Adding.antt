-- What lines add to the rooms' histories.
use Rattle.std.specs.Prelude.{◌≡◌, ℕ, List, [], ◌∷◌, ◌++◌, length}
use Rattle.room_history.specs.declared.call.RoomCall.{RoomCall}
use Rattle.room_history.specs.declared.call.RoomCall.TheVariants.{Attach, Take, Detach, Clear}
use Rattle.room_object.specs.Entry.{Entry}
use Rattle.hall_history.specs.Rooms.{Rooms, history_of}

-- a call that takes nothing, sets nobody free and clears no match
abbrev pub IsAsking : {X : Type 0} → RoomCall X → Type 0
IsAsking Take = ⊥
IsAsking Detach = ⊥
IsAsking (Clear serial) = ⊥
IsAsking call = Unit {0}

-- one that attaches nobody either
abbrev pub IsPlain : {X : Type 0} → RoomCall X → Type 0
IsPlain (Attach serial viewer protocol) = ⊥
IsPlain Take = ⊥
IsPlain Detach = ⊥
IsPlain (Clear serial) = ⊥
IsPlain call = Unit {0}

-- entries of one pass, with such calls
abbrev pub AreOf : {X : Type 0} → (RoomCall X → Type 0) → ℕ → List (Entry (RoomCall X)) → Type 0
AreOf Calls pass [] = Unit {0}
AreOf Calls pass (e ∷ entries) = (e.pass ≡ pass) × Calls e.call × AreOf Calls pass entries

-- each room's history has grown by such entries alone
abbrev pub Adds : {X : Type 0} → (RoomCall X → Type 0) → ℕ → Rooms X → Rooms X → Type 0
Adds {X = X} Calls pass old new = (length new ≡ length old)
    × ((room : ℕ) → (entries : List (Entry (RoomCall X)))
    × (history_of new room ≡ entries ++ history_of old room) × AreOf Calls pass entries)
