-- The member `act` of a client's line: a move, an event, an undo or a redo, by names.
use Rattle.std.specs.Prelude.{◌≤◌, ℕ, List, length, codes, IsUtf8}
use Rattle.serde_json.specs.Data.{Data, null, number, string, array, unsigned, Members, no_members, member}
use Rattle.game_sheet.specs.EventNames.{event_text}
use Rattle.sheet_json.specs.Arguments.{arguments, AreArguments}
use Rattle.game_sheet.specs.declared.act.EventKind.{EventKind}
use Rattle.game_sheet.specs.declared.act.EventKind.TheVariants.{EndTurn, EndPhase, SetPhase, EndStage, SetStage, EndGame}
use Rattle.wire_json.specs.declared.asked.Asked.{Asked}
use Rattle.wire_json.specs.declared.asked.Asked.TheVariants.{Move, Event, Undo, Redo}
use Rattle.wire_json.specs.declared.asked.AskedTo.{AskedTo}
use Rattle.wire_json.specs.declared.asked.AskedTo.TheVariants.{Nothing, Seat, Name}

abbrev pub aim : AskedTo → Data
aim Nothing = null
aim (Seat seat) = number (unsigned seat)
aim (Name name) = string name

abbrev pub from_kind : List ℕ → Members
from_kind name = member (codes "kind") (string (codes "move")) (member (codes "move") (string name) no_members)

abbrev pub from_to : AskedTo → Members
from_to to = member (codes "kind") (string (codes "event")) (member (codes "to") (aim to) no_members)

abbrev pub asked_members : Asked → Members
asked_members (Move name args) = member (codes "args") (array (arguments args)) (from_kind name)
asked_members (Event kind to) = member (codes "event") (string (event_text kind)) (from_to to)
asked_members Undo = member (codes "kind") (string (codes "undo")) no_members
asked_members Redo = member (codes "kind") (string (codes "redo")) no_members

abbrev pub IsWord : List ℕ → Type 0
IsWord name = (1 ≤ length name) × (length name ≤ 32)

-- what an event of a kind may be aimed at
abbrev pub MayAim : EventKind → AskedTo → Type 0
MayAim EndTurn Nothing = Unit {0}
MayAim EndTurn (Seat seat) = seat ≤ 255
MayAim EndPhase Nothing = Unit {0}
MayAim SetPhase (Name name) = IsWord name
MayAim EndStage Nothing = Unit {0}
MayAim SetStage (Name name) = IsWord name
MayAim EndGame Nothing = Unit {0}
MayAim kind to = ⊥

abbrev pub AskedFits : Asked → Type 0
AskedFits (Move name args) = IsWord name × AreArguments args
AskedFits (Event kind to) = MayAim kind to
AskedFits asked = Unit {0}

-- what a caller sees to, where the types keep the rest
abbrev pub IsAskable : Asked → Type 0
IsAskable (Move name args) = IsWord name
IsAskable (Event kind to) = MayAim kind to
IsAskable Undo = Unit {0}
IsAskable Redo = Unit {0}

-- what every name is, since the types hold texts
abbrev pub AimIsUtf8 : AskedTo → Type 0
AimIsUtf8 (Name name) = IsUtf8 name
AimIsUtf8 to = Unit {0}

abbrev pub AskedIsUtf8 : Asked → Type 0
AskedIsUtf8 (Move name args) = IsUtf8 name
AskedIsUtf8 (Event kind to) = AimIsUtf8 to
AskedIsUtf8 asked = Unit {0}
