use Rattle.std.proofs.Common.{◌≡◌, drop}
use Rattle.stage_map.specs.Rows.{put_all}
use Rattle.stage_map.proofs.spec_rows.with_named.Given as goal

-- the rest of the entries put on the rows so far is all of them put on the first ones
abbrev pub invariant-loop-entry : goal.invariant-loop-entry
invariant-loop-entry l = put_all l.spec (drop l.entry-index l.entry-items) l.rows ≡ put_all l.spec l.entry-items l.initial.rows
