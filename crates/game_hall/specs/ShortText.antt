-- The parts of the short lines to clients, as they are written one after another.
use Rattle.std.specs.Prelude.{ℕ, List, ◌++◌, codes, decimal, Option, Some, None}
use Rattle.game_sheet.specs.MatchName.{Name}
use Rattle.wire_json.specs.MatchText.{match_text}
use Rattle.wire_json.specs.RefusalText.{member_text}
use Rattle.wire_json.specs.declared.refusal.Member.{Member}

abbrev pub ticket_text : Option ℕ → List ℕ
ticket_text None = codes "null"
ticket_text (Some ticket) = decimal ticket

abbrev pub field_text : Option Member → List ℕ
field_text None = codes "null"
field_text (Some field) = codes "\"" ++ member_text field ++ codes "\""

-- a match and a seat of it, and the end of the line
abbrev pub place_text : Name → ℕ → List ℕ → List ℕ
place_text name seat ending = match_text name ++ codes "\",\"seat\":" ++ decimal seat ++ ending
