-- What a described game means, by its parts.
use Rattle.std.specs.Prelude.{false, slice_get, Some, None}
use Rattle.std.specs.Option.{option_map_or}
use Rattle.game_slots.specs.Tables.{strip, table_fits}
use Rattle.game_slots.specs.declared.table.Table.{Table}
use Rattle.game_trait.specs.Offers.{offered}
use Rattle.game_trait.specs.Rules.{Rules}
use Rattle.slot_json.specs.TableForms.{table_read, table_value}
use Rattle.described_game.specs.Hooks.{hooked, match_over, opened, phase_begun, phase_ended, phase_over, seats_ordered, turn_code, turn_over}
use Rattle.described_game.specs.Moves.{played}
use Rattle.described_game.specs.Offers.{all_offers}
use Rattle.described_game.specs.declared.parts.GameParts.{GameParts}
use Rattle.described_game.specs.declared.parts.MoveCode.{MoveCode}

abbrev pub rules_of : GameParts → Rules Table
rules_of parts = record {
  sheet = parts.sheet;
  setup = λ seats words. opened parts seats words;
  play = λ table ctx seat id args words. played parts table ctx seat id args words;
  on_move = λ table ctx seat words. hooked parts (turn_code parts ctx).on_move (Some seat) table ctx words;
  turn_begin = λ table ctx words. hooked parts (turn_code parts ctx).on_begin None table ctx words;
  turn_end = λ table ctx words. hooked parts (turn_code parts ctx).on_end None table ctx words;
  phase_begin = λ table ctx phase words. phase_begun parts table ctx phase words;
  phase_end = λ table ctx phase words. phase_ended parts table ctx phase words;
  game_end = λ table ctx words. hooked parts parts.on_end None table ctx words;
  end_if = λ table ctx. match_over parts table ctx;
  turn_end_if = λ table ctx. turn_over parts table ctx;
  phase_end_if = λ table ctx. phase_over parts table ctx;
  play_order = λ table ctx. seats_ordered parts table ctx;
  view = λ table ctx viewer. strip table viewer;
  undoable = λ table ctx id. option_map_or (λ (code : MoveCode). code.undoable) (slice_get parts.moves id) false;
  options = λ table ctx seat. offered ctx seat (all_offers parts table ctx seat);
  own = λ table. table_fits parts.layout.rows table;
  value = λ table. table_value parts.layout table;
  read = λ v. table_read parts.layout v;
}
