-- A list of the sheet serves as an order.
use Rattle.std.proofs.Common.{◌≤◌, length}
use Rattle.phase_flow.proofs.Fits.{copy_keeps, custom_serves}
use Rattle.phase_flow.proofs.turns.order_list.Goals as goal

pub returns-in-Custom-clause-least : goal.returns-in-Custom-clause-least
returns-in-Custom-clause-least g c =
    let serves = custom_serves (g.X.Game.rules c.args.game.now).sheet c.sheet.result.now c.args.table.now.ctx c.turn_row.result.now c.in-Custom.listed c.sheet.ensures.value c.sheet.ensures.fits c.turn_row.ensures c.in-Custom.is in
    copy_keeps (λ order. 1 ≤ length order) c.from_slice.result c.as_slice.result.now c.in-Custom.listed c.from_slice.ensures c.as_slice.ensures serves.least

pub returns-in-Custom-clause-most : goal.returns-in-Custom-clause-most
returns-in-Custom-clause-most g c =
    let serves = custom_serves (g.X.Game.rules c.args.game.now).sheet c.sheet.result.now c.args.table.now.ctx c.turn_row.result.now c.in-Custom.listed c.sheet.ensures.value c.sheet.ensures.fits c.turn_row.ensures c.in-Custom.is in
    copy_keeps (λ order. length order ≤ 64) c.from_slice.result c.as_slice.result.now c.in-Custom.listed c.from_slice.ensures c.as_slice.ensures serves.most
