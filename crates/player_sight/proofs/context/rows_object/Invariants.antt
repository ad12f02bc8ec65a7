use Rattle.std.proofs.Common.{◌≡◌, take}
use Rattle.serde_json.specs.View.{members_view}
use Rattle.player_sight.specs.CtxData.{rows_members}
use Rattle.player_sight.proofs.context.rows_object.Given as goal

abbrev pub invariant-loop-row : goal.invariant-loop-row
invariant-loop-row l = members_view l.map.entries ≡ rows_members l.sheet (take l.row-index l.rows)
