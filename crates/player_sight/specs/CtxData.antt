-- The JSON value of a match's context. The active players are an object from each seat, in decimal, to its stage; of two
-- rows of one seat the later counts.
use Rattle.std.specs.Prelude.{ℕ, List, true, Option, fold, codes, decimal}
use Rattle.serde_json.specs.Data.{Data, null, boolean, object, Members, member, no_members, put}
use Rattle.game_sheet.specs.declared.act.Outcome.{Outcome}
use Rattle.game_sheet.specs.declared.act.Outcome.TheVariants.{Winner, Draw, Ended}
use Rattle.game_sheet.specs.declared.ctx.Ctx.{Ctx}
use Rattle.game_sheet.specs.declared.sheet.Sheet.{Sheet}
use Rattle.sheet_json.specs.Seats.{natural}
use Rattle.player_sight.specs.Parts.{naturals, phase_or_null, stage_or_null}
use Rattle.std.specs.Option.{option_map_or}

abbrev pub with_row : Sheet → Members → ℕ × Option ℕ → Members
with_row sheet ms row = put (decimal row.0) (stage_or_null sheet row.1) ms

abbrev pub rows_members : Sheet → List (ℕ × Option ℕ) → Members
rows_members sheet rows = fold (with_row sheet) no_members rows

abbrev pub active_data : Sheet → Option (List (ℕ × Option ℕ)) → Data
active_data sheet active = option_map_or (λ rows. object (rows_members sheet rows)) active null

abbrev pub outcome_data : Outcome → Data
outcome_data (Winner seat) = object (member (codes "winner") (natural seat) no_members)
outcome_data Draw = object (member (codes "draw") (boolean true) no_members)
outcome_data Ended = object (member (codes "ended") (boolean true) no_members)

abbrev pub over_data : Option Outcome → Data
over_data over = option_map_or outcome_data over null

abbrev pub ctx_data : Sheet → Ctx → Data
ctx_data sheet ctx = object
    (member (codes "activePlayers") (active_data sheet ctx.active)
    (member (codes "currentPlayer") (natural ctx.current)
    (member (codes "gameover") (over_data ctx.over)
    (member (codes "numMoves") (natural ctx.moves)
    (member (codes "numPlayers") (natural ctx.seats)
    (member (codes "phase") (phase_or_null sheet ctx.phase)
    (member (codes "playOrder") (naturals ctx.order)
    (member (codes "playOrderPos") (natural ctx.pos)
    (member (codes "turn") (natural ctx.turn) no_members)))))))))
