-- What the calls of a turn on the bench leave.
use Rattle.std.proofs.Common.{◌≡◌, ◌≤◌, ◌∙◌, ℕ, Bool, List, Option, Some, None, inl, inr, ap, refl}
use Rattle.any_game.specs.GameKind.{GameKind}
use Rattle.dice_words.specs.Strip.{Strip}
use Rattle.game_hall.specs.Core.{Core, fresh, with_bench}
use Rattle.game_sheet.specs.MatchName.{Name}
use Rattle.room_history.specs.declared.call.RoomCall.{RoomCall}
use Rattle.session_bench.specs.Wishing.{Rises, Seen, Sought}
use Rattle.session_driver.specs.Hearing.{side}
use Rattle.session_pool.specs.Passes.{Pass}
use Rattle.session_pool.specs.Placed.{IsIdle}
use Rattle.session_pool.specs.Sittings.{Detaches, Leaves}
use Rattle.session_pool.specs.Turn.{AsksOnce, stand}

-- a takeover is one call at most
pub asks_once : (wanted : Option (Name × ℕ)) (c : Core GameKind) (p : Seen) (d : Core GameKind) (q : Seen) → Sought wanted c p d q → AsksOnce p q
asks_once None c p d q h = inl h.1
asks_once (Some seat) c p d q (told, asks, is) = inr (seat, told, asks)

-- a core whose bot sat down is as idle as before
pub idle_sat : (rooms : ℕ) (c : Core GameKind) (sat : Bool) → IsIdle rooms c → IsIdle rooms (record c { sat = sat })
idle_sat rooms c sat idle = record {
  done = record { rooms_are = idle.done.rooms_are; few = idle.done.few; uncalled = idle.done.uncalled; closed = idle.done.closed };
  written = idle.written;
  rests = idle.rests;
}

-- a core that has done nothing is idle
pub idle_fresh : (pass rooms : ℕ) → rooms ≤ 64 → IsIdle rooms (with_bench (fresh pass rooms))
idle_fresh pass rooms few = record {
  done = record { rooms_are = refl; few = few; uncalled = refl; closed = refl };
  written = refl;
  rests = tt;
}

-- what is left of a session: a Detach, a bot that rose, and a core that has done nothing
pub left_so : (may_refuse : RoomCall GameKind → Bool) (passes : List Pass) (c : Core GameKind) (words : Strip) (bench : Seen) (seat : Option (Name × ℕ)) (after : List Pass) (d : Core GameKind) (p : Seen)
    (core : Core GameKind) (none : Option (Name × ℕ)) → Detaches may_refuse (side passes c) (side after d) → Rises c.sat seat bench p → core ≡ with_bench (fresh c.pass c.rooms) → none ≡ None
    → Leaves may_refuse (stand passes c words bench seat) (stand after core words p none)
left_so may_refuse passes c words bench seat after d p core none detaches rises is gone = (
  side after d,
  p,
  detaches,
  rises,
  ap (λ k. stand after k words p none) is ∙ ap (λ o. stand after (with_bench (fresh c.pass c.rooms)) words p o) gone,
)
