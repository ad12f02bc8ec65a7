-- The last members of a context, of an action, of an entry and of a snapshot, as they are written and as they are put.
use Rattle.std.specs.Prelude.{ℕ, codes}
use Rattle.serde_json.specs.Data.{Data, string, Members, member, no_members, put}
use Rattle.game_sheet.specs.declared.ctx.Ctx.{Ctx}
use Rattle.game_sheet.specs.declared.sheet.Sheet.{Sheet}
use Rattle.move_log.specs.declared.entry.Entry.{Entry}
use Rattle.sheet_json.specs.Seats.{natural}
use Rattle.player_sight.specs.CtxData.{over_data}
use Rattle.player_sight.specs.Parts.{naturals, phase_or_null}

abbrev pub from_pos : Ctx → Members
from_pos ctx = member (codes "playOrderPos") (natural ctx.pos) (member (codes "turn") (natural ctx.turn) no_members)

abbrev pub from_phase : Sheet → Ctx → Members
from_phase sheet ctx = member (codes "phase") (phase_or_null sheet ctx.phase) (member (codes "playOrder") (naturals ctx.order) (from_pos ctx))

abbrev pub from_moves : Sheet → Ctx → Members
from_moves sheet ctx = member (codes "numMoves") (natural ctx.moves) (member (codes "numPlayers") (natural ctx.seats) (from_phase sheet ctx))

abbrev pub from_over : Sheet → Ctx → Members
from_over sheet ctx = member (codes "gameover") (over_data ctx.over) (from_moves sheet ctx)

abbrev pub from_kind : Data → Members
from_kind name = member (codes "kind") (string (codes "move")) (member (codes "move") name no_members)

abbrev pub from_seat : Entry → Members
from_seat e = member (codes "seat") (natural e.seat) (member (codes "turn") (natural e.turn) no_members)

abbrev pub from_number : Sheet → Entry → Members
from_number sheet e = member (codes "number") (natural e.number) (member (codes "phase") (phase_or_null sheet e.phase) (from_seat e))

abbrev pub from_log : Data → ℕ → Members
from_log log number = member (codes "log") log (member (codes "number") (natural number) no_members)

-- the members from the count of seats on, put into an object
abbrev pub with_last_members : Data → Data → Ctx → Members → Members
with_last_members phase order ctx ms =
    put (codes "turn") (natural ctx.turn)
    (put (codes "playOrderPos") (natural ctx.pos)
    (put (codes "playOrder") order
    (put (codes "phase") phase
    (put (codes "numPlayers") (natural ctx.seats) ms))))
