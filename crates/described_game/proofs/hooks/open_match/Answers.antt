-- The first state is made by code that queues nothing.
use Rattle.std.proofs.Common.{[], ap, ◌∙◌, subst}
use Rattle.std.specs.Prelude.{None}
use Rattle.game_code.specs.Runs.{Performs, performed}
use Rattle.game_code.specs.Setting.{Setting}
use Rattle.game_sheet.specs.declared.ctx.Ctx.{Ctx}
use Rattle.game_slots.specs.Tables.{started}
use Rattle.game_slots.specs.declared.table.Table.{Table}
use Rattle.game_trait.specs.Deed.{Deed, Lack}
use Rattle.described_game.specs.Hooks.{opening_context}
use Rattle.described_game.specs.Moves.{setting_at}
use Rattle.described_game.proofs.DeedLemmas.{opens, queues_none}
use Rattle.described_game.proofs.hooks.open_match.Goals as goal

pub returns-clause-deed : goal.returns-clause-deed
returns-clause-deed c =
    let parts = c.args.parts.now in
    let words = c.args.tape.now.left in
    let s = setting_at parts (opening_context c.args.seats) None [] in
    let table = started parts.layout.rows c.args.seats in
    let result = c.perform-opened.result in
    let left = c.perform-opened.new.tape.left in
    let queued = c.perform-opened.new.events in
    let same =
    ap (λ (x : Setting). performed parts.setup x c.in_ok-table.table words) (c.scene_at-scene.ensures ∙ ap (λ (ctx : Ctx). setting_at parts ctx None []) c.opening_context-context.ensures)
    ∙ ap (λ (t : Table). performed parts.setup s t words) c.in_ok-table.ensures in
    let done = subst (λ (m : Deed Table Lack). Performs result left queued m) same c.perform-opened.ensures.deed in
    opens result left queued (performed parts.setup s table words) (queues_none parts.setup s table words c.requires) done
