-- The names of the kinds of event that a player may ask for.
use Rattle.std.specs.Prelude.{ℕ, List, [], ◌∷◌, codes, Option}
use Rattle.std.specs.List.{find}
use Rattle.std.specs.Str.{bytes_eq}
use Rattle.game_sheet.specs.declared.act.EventKind.{EventKind}
use Rattle.game_sheet.specs.declared.act.EventKind.TheVariants.{EndTurn, EndPhase, SetPhase, EndStage, SetStage, EndGame}

abbrev pub event_text : EventKind → List ℕ
event_text EndTurn = codes "endTurn"
event_text EndPhase = codes "endPhase"
event_text SetPhase = codes "setPhase"
event_text EndStage = codes "endStage"
event_text SetStage = codes "setStage"
event_text EndGame = codes "endGame"

abbrev pub kinds : List EventKind
kinds = EndTurn ∷ EndPhase ∷ SetPhase ∷ EndStage ∷ SetStage ∷ EndGame ∷ []

-- the kind with a name
abbrev pub kind_from : List ℕ → Option EventKind
kind_from name = find (λ kind. bytes_eq name (event_text kind)) kinds
