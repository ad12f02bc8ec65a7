-- What done actions come to, one after the other, the latest first in the list.
use Rattle.std.specs.Prelude.{List, [], ◌∷◌, Result}
use Rattle.game_sheet.specs.declared.refusal.GameRule.{GameRule}
use Rattle.game_trait.specs.Rules.{Rules}
use Rattle.phase_flow.specs.Action.{once}
use Rattle.phase_flow.specs.Reached.{Reached}
use Rattle.reducer.specs.Accepted.{Accepted}
use Rattle.std.specs.Result.{result_unwrap_or}

-- an action that is refused leaves it as it was
abbrev pub folded : {G : Type 0} → Rules G → Reached G → List Accepted → Reached G
folded rules first [] = first
folded rules first (a ∷ done) = let now = folded rules first done in result_unwrap_or (once rules now a.seat a.act) now

-- for the laws: what an action leads to
abbrev pub unless_refused : {G : Type 0} → Reached G → Result (Reached G) GameRule → Reached G
unless_refused before result = result_unwrap_or result before

-- what each done action led on from
abbrev pub came_by : {G : Type 0} → Rules G → Reached G → List Accepted → List (Reached G)
came_by rules first [] = []
came_by rules first (a ∷ done) = folded rules first done ∷ came_by rules first done

-- what each undone action leads to, the next first in the list
abbrev pub leads_to : {G : Type 0} → Rules G → Reached G → List Accepted → List (Reached G)
leads_to rules now [] = []
leads_to rules now (a ∷ undone) = unless_refused now (once rules now a.seat a.act) ∷ leads_to rules (unless_refused now (once rules now a.seat a.act)) undone
