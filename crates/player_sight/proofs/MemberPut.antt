-- The members of a context, an entry and a snapshot, put one after another into an empty object, are its value.
use Rattle.std.proofs.Common.{◌≡◌, ℕ, codes, refl}
use Rattle.serde_json.specs.Data.{Data, object, Members, no_members, put}
use Rattle.game_sheet.specs.declared.ctx.Ctx.{Ctx}
use Rattle.move_log.specs.declared.entry.Entry.{Entry}
use Rattle.sheet_json.specs.Seats.{natural}
use Rattle.player_sight.proofs.Objects.{ctx_object, entry_object, snapshot_object}
use Rattle.player_sight.specs.Tails.{with_last_members}

pub ctx_put : (active over phase order : Data) (ctx : Ctx) (m m1 m2 m3 m4 last : Members) → m ≡ no_members
    → m1 ≡ put (codes "activePlayers") active m → m2 ≡ put (codes "currentPlayer") (natural ctx.current) m1
    → m3 ≡ put (codes "gameover") over m2 → m4 ≡ put (codes "numMoves") (natural ctx.moves) m3
    → last ≡ with_last_members phase order ctx m4 → object last ≡ ctx_object active over phase order ctx
ctx_put active over phase order ctx m m1 m2 m3 m4 last e e1 e2 e3 e4 is = rw (is, e4, e3, e2, e1, e) refl

pub entry_put : (act phase : Data) (entry : Entry) (m m1 m2 m3 m4 m5 : Members) → m ≡ no_members
    → m1 ≡ put (codes "act") act m → m2 ≡ put (codes "number") (natural entry.number) m1 → m3 ≡ put (codes "phase") phase m2
    → m4 ≡ put (codes "seat") (natural entry.seat) m3 → m5 ≡ put (codes "turn") (natural entry.turn) m4 → object m5 ≡ entry_object act phase entry
entry_put act phase entry m m1 m2 m3 m4 m5 e e1 e2 e3 e4 e5 = rw (e5, e4, e3, e2, e1, e) refl

pub snapshot_put : (ctx g log : Data) (number : ℕ) (m m1 m2 m3 m4 : Members) → m ≡ no_members
    → m1 ≡ put (codes "g") g m → m2 ≡ put (codes "ctx") ctx m1 → m3 ≡ put (codes "log") log m2
    → m4 ≡ put (codes "number") (natural number) m3 → object m4 ≡ snapshot_object ctx g log number
snapshot_put ctx g log number m m1 m2 m3 m4 e e1 e2 e3 e4 = rw (e4, e3, e2, e1, e) refl
