-- Which actions break no public rule of a match where it stands: it goes on, the seat may act, and it has the move, or players may ask for the event.
use Rattle.std.specs.Prelude.{◌≡◌, ◌==◌, ℕ, Bool, true, false, List, [], ◌∷◌, None}
use Rattle.std.specs.List.{list_any}
use Rattle.game_sheet.specs.declared.act.Act.{Act}
use Rattle.game_sheet.specs.declared.act.Act.TheVariants.{Move, Event as Asks, Undo, Redo}
use Rattle.game_sheet.specs.declared.act.Event.{Event}
use Rattle.game_sheet.specs.declared.act.Event.TheVariants.{EndTurn, EndPhase, SetPhase, EndStage, SetStage, EndGame}
use Rattle.game_sheet.specs.declared.act.EventKind.{EventKind}
use Rattle.game_sheet.specs.declared.act.EventKind.TheVariants as kind
use Rattle.game_sheet.specs.declared.ctx.Ctx.{Ctx}
use Rattle.game_sheet.specs.declared.sheet.Sheet.{Sheet}
use Rattle.game_trait.specs.InSheet.{ActInSheet}
use Rattle.game_trait.specs.Rules.{Rules}
use Rattle.phase_flow.specs.Reached.{Reached}
use Rattle.reducer.specs.Accepted.{Accepted}
use Rattle.reducer.specs.Fold.{fold}
use Rattle.stage_map.specs.Moves.{may, moves}

-- whether an event is of a kind; no player asks for a spec to be set
abbrev pub is_of_kind : Event → EventKind → Bool
is_of_kind (EndTurn to) kind.EndTurn = true
is_of_kind EndPhase kind.EndPhase = true
is_of_kind (SetPhase to) kind.SetPhase = true
is_of_kind EndStage kind.EndStage = true
is_of_kind (SetStage to) kind.SetStage = true
is_of_kind (EndGame outcome) kind.EndGame = true
is_of_kind event other = false

-- whether the seat has the move, or the players the event
abbrev pub has_act : Sheet → Ctx → ℕ → Act → Bool
has_act sheet ctx seat (Move id args) = list_any (λ m. m == id) (moves sheet ctx seat)
has_act sheet ctx seat (Asks event) = list_any (is_of_kind event) sheet.events
has_act sheet ctx seat Undo = true
has_act sheet ctx seat Redo = true

pub record IsAdmitted (sheet : Sheet) (ctx : Ctx) (seat : ℕ) (act : Act) : Type 0 where
  pub goes_on : ctx.over ≡ None
  pub active : may ctx seat ≡ true
  pub has : has_act sheet ctx seat act ≡ true

-- each accepted action was one of these where the match then stood, and in the sheet; the latest is first in the list
abbrev pub IsPlayed : {G : Type 0} → Rules G → Reached G → List Accepted → Type 0
IsPlayed rules first [] = Unit {0}
IsPlayed rules first (a ∷ accepted) = ActInSheet rules.sheet a.act × IsAdmitted rules.sheet (fold rules first accepted).ctx a.seat a.act × IsPlayed rules first accepted
