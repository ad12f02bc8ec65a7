-- What a room is that came to its state by its records, and what a further change makes of it.
use Rattle.std.specs.Prelude.{◌≡◌, ◌≤◌, ℕ, List, [], ◌∷◌, ◌++◌, map, true, false, Option, Some, None, option_map}
use Rattle.any_game.specs.AnyRules.{any_rules}
use Rattle.any_game.specs.GameKind.{GameKind}
use Rattle.any_game.specs.declared.any_g.AnyG.{AnyG}
use Rattle.room_object.specs.Entry.{Entry, entry}
use Rattle.seat_roster.specs.Player.{Player}
use Rattle.match_master.specs.Held.{Held, StandsFor}
use Rattle.object_journal.specs.declared.replaying.Replayed.{Replayed}
use Rattle.object_journal.specs.declared.replaying.Replayed.TheVariants as replayed
use Rattle.room_history.specs.Match.{Match}
use Rattle.room_history.specs.Room.{reply, serials, standing}
use Rattle.room_history.specs.declared.call.RoomCall.{RoomCall}
use Rattle.room_changes.specs.ChangesOf.{changes_of, is_accepted}
use Rattle.room_changes.specs.Kept.{kept}
use Rattle.room_changes.specs.declared.change.Change.{Change}
use Rattle.room_journal.specs.Kept.{changes_read, room_records}

-- the pass that makes actions again
abbrev pub replayer : ℕ
replayer = 4294967264

abbrev pub key_at : Option Player → Option (List ℕ)
key_at seat = option_map (λ (player : Player). player.key) seat

-- these are the keys of the match's seats, and it is the latest that was made
pub record FitsMatch {X G : Type 0} (keys : List (Option (List ℕ))) (serials : ℕ) (m : Match X G) : Type 0 where
  pub latest : m.serial ≡ serials
  pub some : 1 ≤ serials
  pub keys_are : keys ≡ map key_at m.roster

abbrev pub Fits : {X G : Type 0} → List (Option (List ℕ)) → ℕ → Option (Match X G) → Type 0
Fits keys serials None = Unit {0}
Fits keys serials (Some m) = FitsMatch keys serials m

-- the book stands for the history of the room of this number
pub record StandsIn (room : ℕ) (book : Held GameKind AnyG) (h : List (Entry (RoomCall GameKind))) : Type 0 where
  pub few : room ≤ 63
  pub same : book.room ≡ room
  pub stands : StandsFor any_rules book h

-- the records of a history read back as its changes
abbrev pub ReadsBack : ℕ → List (Entry (RoomCall GameKind)) → Type 0
ReadsBack room h = changes_read (room_records room h) ≡ Some (changes_of any_rules room h)

-- the records read back as the changes, and the keys are those of the match that stands
pub record HasCome (room : ℕ) (keys : List (Option (List ℕ))) (h : List (Entry (RoomCall GameKind))) : Type 0 where
  pub told : ReadsBack room h
  pub fits : Fits keys (serials any_rules room h) (standing any_rules room h)

module _ (room : ℕ) (h : List (Entry (RoomCall GameKind))) where
  -- a change was made
  pub record HasDone (c : Change GameKind) (book : Held GameKind AnyG) (keys : List (Option (List ℕ))) : Type 0 where
    pub after : List (Entry (RoomCall GameKind))
    pub stands : StandsFor any_rules book after
    pub adds : changes_of any_rules room after ≡ changes_of any_rules room h ++ c ∷ []
    pub fits : Fits keys (serials any_rules room after) (standing any_rules room after)

  -- what becomes of a change
  abbrev pub Does : Change GameKind → Held GameKind AnyG → List (Option (List ℕ)) → Replayed → Type 0
  Does c book keys replayed.Done = HasDone c book keys
  Does c book keys replayed.Refused = kept any_rules room (changes_of any_rules room h ++ c ∷ []) ≡ None
  Does c book keys replayed.NoMemory = Unit {0}

  -- calls were made, and no change
  pub record HasStayed (book : Held GameKind AnyG) : Type 0 where
    pub after : List (Entry (RoomCall GameKind))
    pub stands : StandsFor any_rules book after
    pub same : changes_of any_rules room after ≡ changes_of any_rules room h

  -- a change was made more
  pub record HasAdded (c : Change GameKind) (book : Held GameKind AnyG) : Type 0 where
    pub after : List (Entry (RoomCall GameKind))
    pub stands : StandsFor any_rules book after
    pub adds : changes_of any_rules room after ≡ changes_of any_rules room h ++ c ∷ []

  -- what becomes of an action that a session submits, which may not be its player's any more
  abbrev pub Tries : Change GameKind → Held GameKind AnyG → Replayed → Type 0
  Tries c book replayed.Done = HasAdded c book
  Tries c book replayed.Refused = HasStayed book
  Tries c book replayed.NoMemory = Unit {0}

  -- what becomes of its call
  abbrev pub Calls : ℕ → RoomCall GameKind → Held GameKind AnyG → Replayed → Type 0
  Calls pass call book replayed.Done = StandsFor any_rules book (entry pass call false ∷ h) × (is_accepted (reply any_rules room h (entry pass call false)) ≡ true)
  Calls pass call book replayed.Refused = StandsFor any_rules book (entry pass call false ∷ h) × (is_accepted (reply any_rules room h (entry pass call false)) ≡ false)
  Calls pass call book replayed.NoMemory = Unit {0}
