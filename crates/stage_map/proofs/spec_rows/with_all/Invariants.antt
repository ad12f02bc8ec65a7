use Rattle.std.proofs.Common.{◌≡◌, drop, map}
use Rattle.stage_map.specs.Rows.{put_all}
use Rattle.stage_map.proofs.spec_rows.with_all.Given as goal

-- the rest of the order put on the rows so far is the whole order put on the first ones
abbrev pub invariant-loop-seat : goal.invariant-loop-seat
invariant-loop-seat l = put_all l.spec (map (λ seat. (seat, l.place)) (drop l.seat-index l.order)) l.rows ≡ put_all l.spec (map (λ seat. (seat, l.place)) l.order) l.initial.rows
