-- What a replay prints: how many records a journal has, and the match that they make, with what a spectator sees of it.
use Rattle.std.specs.Prelude.{ℕ, List, [], ◌∷◌, ◌++◌, Option, Some, None, codes, decimal}
use Rattle.serde_json.specs.Written.{compact_text}
use Rattle.any_game.specs.AnyRules.{any_rules}
use Rattle.any_game.specs.GameKind.{GameKind}
use Rattle.any_game.specs.declared.any_g.AnyG.{AnyG}
use Rattle.game_sheet.specs.MatchName.{Name}
use Rattle.player_sight.specs.SnapshotData.{snapshot_data}
use Rattle.room_history.specs.Match.{Match}
use Rattle.room_history.specs.Shown.{snapshot}
use Rattle.wire_json.specs.MatchText.{match_text}

-- a match by its name, with what is seen of it
abbrev pub shown_text : Name → List ℕ → List ℕ
shown_text name view = codes "match " ++ match_text name ++ codes "\nview " ++ view ++ 10 ∷ []

-- the match that stands
abbrev pub standing_text : ℕ → Option (Match GameKind AnyG) → List ℕ
standing_text room None = codes "match -\n"
standing_text room (Some m) = shown_text (record { room = room; serial = m.serial }) (compact_text (snapshot_data (any_rules m.game).sheet (snapshot any_rules m None)))

abbrev pub replay_text : ℕ → ℕ → Option (Match GameKind AnyG) → List ℕ
replay_text room records standing = codes "records " ++ decimal records ++ 10 ∷ standing_text room standing
