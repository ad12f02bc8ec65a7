-- What a piece of code is given from outside: the context, the seat that moves, the arguments, the rows of constants, and those of slots.
use Rattle.std.specs.Prelude.{ℕ, List, Option}
use Rattle.game_sheet.specs.declared.args.Arg.{Arg}
use Rattle.game_sheet.specs.declared.ctx.Ctx.{Ctx}
use Rattle.game_slots.specs.declared.rows.SlotRow.{SlotRow}
use Rattle.game_slots.specs.declared.rows.TableRows.{TableRows}
use Rattle.game_code.specs.declared.scene.Scene.{Scene}

pub record Setting : Type 0 where
  pub context : Ctx
  pub seat : Option ℕ
  pub arguments : List Arg
  pub constants : List (List (Option Arg))
  pub rows : TableRows
  pub work : List SlotRow

abbrev pub setting_of : Scene → Setting
setting_of scene = record {
  context = scene.context.now;
  seat = scene.seat;
  arguments = scene.arguments.now;
  constants = scene.constants.now;
  rows = scene.rows.now;
  work = scene.work.now;
}
