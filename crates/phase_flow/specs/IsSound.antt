-- What holds of every table in a match: its seats are within the sheet's bounds, the current seat stands at its place of the play order,
-- the phase is in the sheet, the map is sound and shown by the context, and no count of moves passes a bound.
use Rattle.std.specs.Prelude.{◌≡◌, ◌<◌, ◌≤◌, ℕ, length, slice_index, Some}
use Rattle.game_sheet.specs.declared.ctx.Ctx.{Ctx}
use Rattle.game_sheet.specs.declared.sheet.Sheet.{Sheet}
use Rattle.stage_map.specs.Active.{Map, shown}
use Rattle.stage_map.specs.Laws.{IsSoundIn}
use Rattle.turn_order.specs.PlayOrder.{IsPlayOrder}

pub record IsSound (sheet : Sheet) (most : ℕ) (ctx : Ctx) (active : Map) : Type 0 where
  pub seats_least : sheet.min_seats ≤ ctx.seats
  pub seats_most : ctx.seats ≤ sheet.max_seats
  pub order : IsPlayOrder ctx.seats ctx.order
  pub pos : ctx.pos < length ctx.order
  pub current : slice_index ctx.order ctx.pos ≡ ctx.current
  pub phase : (phase : ℕ) → ctx.phase ≡ Some phase → phase < length sheet.phases
  pub map_sound : IsSoundIn sheet ctx.seats most active
  pub shows : ctx.active ≡ shown active
  pub moves : ctx.moves ≤ most

abbrev pub BoundGrows : Type 0
BoundGrows = (sheet : Sheet) (most more : ℕ) (ctx : Ctx) (active : Map) → most ≤ more → IsSound sheet most ctx active → IsSound sheet more ctx active
