-- One seat more is taken.
use Rattle.std.proofs.Common.{◌+◌, ◌-◌, ◌*◌, ap, ◌∙◌, arith}
use Rattle.slot_json.specs.TextBytes.{rows_bytes, taken}
use Rattle.slot_json.proofs.TakenLaws.{seat_taken}
use Rattle.slot_json.proofs.bytes.+entries_taken.Goals as goal

pub returns : goal.returns
returns t c =
    c.entries_taken.ensures
    ∙ ap (λ o. taken o ((rows_bytes c.args.names.now c.args.rows.now + 2 + 1) * (c.args.seats - 1))) (c.taken-left.ensures ∙ ap (λ o. taken o 3) c.rows_taken.ensures)
    ∙ seat_taken c.args.left (rows_bytes c.args.names.now c.args.rows.now) c.args.seats (omega arith)
