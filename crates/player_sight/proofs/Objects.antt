-- The values of a context, an entry and a snapshot, given those of their parts.
use Rattle.std.specs.Prelude.{ℕ, codes}
use Rattle.serde_json.specs.Data.{Data, object, member, no_members}
use Rattle.game_sheet.specs.declared.ctx.Ctx.{Ctx}
use Rattle.move_log.specs.declared.entry.Entry.{Entry}
use Rattle.sheet_json.specs.Seats.{natural}

-- of the active players, the end, the phase and the play order
abbrev pub ctx_object : Data → Data → Data → Data → Ctx → Data
ctx_object active over phase order ctx = object
    (member (codes "activePlayers") active
    (member (codes "currentPlayer") (natural ctx.current)
    (member (codes "gameover") over
    (member (codes "numMoves") (natural ctx.moves)
    (member (codes "numPlayers") (natural ctx.seats)
    (member (codes "phase") phase
    (member (codes "playOrder") order
    (member (codes "playOrderPos") (natural ctx.pos)
    (member (codes "turn") (natural ctx.turn) no_members)))))))))

-- of the action and the phase
abbrev pub entry_object : Data → Data → Entry → Data
entry_object act phase e = object
    (member (codes "act") act
    (member (codes "number") (natural e.number)
    (member (codes "phase") phase
    (member (codes "seat") (natural e.seat)
    (member (codes "turn") (natural e.turn) no_members)))))

abbrev pub snapshot_object : Data → Data → Data → ℕ → Data
snapshot_object ctx g log number =
    object (member (codes "ctx") ctx (member (codes "g") g (member (codes "log") log (member (codes "number") (natural number) no_members))))
