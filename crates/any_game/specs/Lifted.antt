-- A game lifted to the states of all games: on its own states it is as it was; on a state of another game no move is allowed or offered,
-- nothing is hidden or undone, the hooks leave the state, and nothing ends.
use Rattle.std.specs.Prelude.{false, [], option_map, Option, None}
use Rattle.any_game.specs.Values.{any_value}
use Rattle.any_game.specs.declared.any_g.AnyG.{AnyG}
use Rattle.game_trait.specs.Deed.{Deed, Done, GaveUp, Invalid}
use Rattle.game_trait.specs.Rules.{Rules, idle, idle_at}
use Rattle.std.specs.Option.{option_map_or}

-- the same deed, whose state is put among those of all games
abbrev pub lifted_deed : {G E : Type 0} → (G → AnyG) → Deed G E → Deed AnyG E
lifted_deed inject (Done g words queued) = Done (inject g) words queued
lifted_deed inject (GaveUp why) = GaveUp why

-- of an own state what its game says, of any other what stands here for it
abbrev pub lifted : {G : Type 0} → (G → AnyG) → (AnyG → Option G) → Rules G → Rules AnyG
lifted inject project rules = record {
  sheet = rules.sheet;
  setup = λ seats words. lifted_deed inject (rules.setup seats words);
  play = λ g ctx seat id args words. option_map_or (λ own. lifted_deed inject (rules.play own ctx seat id args words)) (project g) (GaveUp Invalid);
  on_move = λ g ctx seat words. option_map_or (λ own. lifted_deed inject (rules.on_move own ctx seat words)) (project g) (idle_at g ctx seat words);
  turn_begin = λ g ctx words. option_map_or (λ own. lifted_deed inject (rules.turn_begin own ctx words)) (project g) (idle g ctx words);
  turn_end = λ g ctx words. option_map_or (λ own. lifted_deed inject (rules.turn_end own ctx words)) (project g) (idle g ctx words);
  phase_begin = λ g ctx phase words. option_map_or (λ own. lifted_deed inject (rules.phase_begin own ctx phase words)) (project g) (idle_at g ctx phase words);
  phase_end = λ g ctx phase words. option_map_or (λ own. lifted_deed inject (rules.phase_end own ctx phase words)) (project g) (idle_at g ctx phase words);
  game_end = λ g ctx words. option_map_or (λ own. lifted_deed inject (rules.game_end own ctx words)) (project g) (idle g ctx words);
  end_if = λ g ctx. option_map_or (λ own. rules.end_if own ctx) (project g) None;
  turn_end_if = λ g ctx. option_map_or (λ own. rules.turn_end_if own ctx) (project g) false;
  phase_end_if = λ g ctx. option_map_or (λ own. rules.phase_end_if own ctx) (project g) false;
  play_order = λ g ctx. option_map_or (λ own. rules.play_order own ctx) (project g) [];
  view = λ g ctx viewer. option_map_or (λ own. inject (rules.view own ctx viewer)) (project g) g;
  undoable = λ g ctx id. option_map_or (λ own. rules.undoable own ctx id) (project g) false;
  options = λ g ctx seat. option_map_or (λ own. rules.options own ctx seat) (project g) [];
  own = λ g. option_map_or rules.own (project g) false;
  value = λ g. option_map_or rules.value (project g) (any_value g);
  read = λ v. option_map inject (rules.read v);
}
