-- A lifted game keeps to its sheet where the game does: the proof of this law of games, which no other definition cites.
use Rattle.std.specs.Prelude.{[], Option, Some, None}
use Rattle.any_game.specs.Lifted.{lifted, lifted_deed}
use Rattle.any_game.specs.declared.any_g.AnyG.{AnyG}
use Rattle.game_sheet.specs.declared.sheet.Sheet.{Sheet}
use Rattle.game_trait.specs.Deed.{Deed, Done, GaveUp, Invalid, Lack}
use Rattle.game_trait.specs.Queues.{KeepsToSheet, QueuesInSheet}
use Rattle.game_trait.specs.Rules.{Rules}
use Rattle.std.specs.Option.{option_map_or}

deed_keeps : {G E : Type 0} (sheet : Sheet) (inject : G → AnyG) (deed : Deed G E) → QueuesInSheet sheet deed → QueuesInSheet sheet (lifted_deed inject deed)
deed_keeps sheet inject (Done g words queued) keeps = keeps
deed_keeps sheet inject (GaveUp why) keeps = tt

own_keeps : {G E : Type 0} (sheet : Sheet) (inject : G → AnyG) (own : Option G) (otherwise : Deed AnyG E) (go : G → Deed G E) → QueuesInSheet sheet otherwise → ((g : G) → QueuesInSheet sheet (go g)) → QueuesInSheet sheet (option_map_or (λ g. lifted_deed inject (go g)) own otherwise)
own_keeps sheet inject None otherwise go keeps each = keeps
own_keeps sheet inject (Some g) otherwise go keeps each = deed_keeps sheet inject (go g) (each g)

pub lifted_keeps : {G : Type 0} (inject : G → AnyG) (project : AnyG → Option G) (rules : Rules G) → KeepsToSheet rules → KeepsToSheet (lifted inject project rules)
lifted_keeps inject project rules keeps = record {
  play = λ g ctx seat id args words known. own_keeps rules.sheet inject (project g) (GaveUp Invalid) (λ own. rules.play own ctx seat id args words) tt (λ own. keeps.play own ctx seat id args words known);
  on_move = λ g ctx seat words. own_keeps {E = Lack} rules.sheet inject (project g) (Done g words []) (λ own. rules.on_move own ctx seat words) tt (λ own. keeps.on_move own ctx seat words);
  turn_begin = λ g ctx words. own_keeps {E = Lack} rules.sheet inject (project g) (Done g words []) (λ own. rules.turn_begin own ctx words) tt (λ own. keeps.turn_begin own ctx words);
  turn_end = λ g ctx words. own_keeps {E = Lack} rules.sheet inject (project g) (Done g words []) (λ own. rules.turn_end own ctx words) tt (λ own. keeps.turn_end own ctx words);
  phase_begin = λ g ctx phase words. own_keeps {E = Lack} rules.sheet inject (project g) (Done g words []) (λ own. rules.phase_begin own ctx phase words) tt (λ own. keeps.phase_begin own ctx phase words);
  phase_end = λ g ctx phase words. own_keeps {E = Lack} rules.sheet inject (project g) (Done g words []) (λ own. rules.phase_end own ctx phase words) tt (λ own. keeps.phase_end own ctx phase words);
  game_end = λ g ctx words. own_keeps {E = Lack} rules.sheet inject (project g) (Done g words []) (λ own. rules.game_end own ctx words) tt (λ own. keeps.game_end own ctx words);
}
