-- A context is in order where its match has 1 to 16 seats, and its play order has 1 to 64 entries and a place that is one of them.
use Rattle.std.specs.Prelude.{◌+◌, ◌<◌, ◌≤◌, length}
use Rattle.game_sheet.specs.declared.ctx.Ctx.{Ctx}

pub record IsOrdered (ctx : Ctx) : Type 0 where
  pub seats_least : 1 ≤ ctx.seats
  pub seats_most : ctx.seats ≤ 16
  pub order_least : 1 ≤ length ctx.order
  pub order_most : length ctx.order ≤ 64

pub record IsPlaced (ctx : Ctx) : Type 0 where
  pub ordered : IsOrdered ctx
  pub pos : ctx.pos < length ctx.order

-- a task takes at most one turn, and leaves the context in order
pub record Goes (before after : Ctx) : Type 0 where
  pub turn : after.turn ≤ before.turn + 1
  pub placed : IsPlaced after
