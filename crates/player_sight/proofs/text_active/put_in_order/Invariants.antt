use Rattle.std.proofs.Common.{◌≡◌, ◌++◌, false, drop}
use Rattle.serde_json.specs.Written.{members_text}
use Rattle.player_sight.specs.RowList.{row_list}
use Rattle.player_sight.proofs.text_active.put_in_order.Given as goal

-- what is written and the text of the rest are the whole text
abbrev pub invariant-loop-row : goal.invariant-loop-row
invariant-loop-row l = l.out.items ++ members_text l.later (row_list l.sheet (drop l.row-index l.rows)) ≡ l.initial.out.items ++ members_text false (row_list l.sheet l.rows)
