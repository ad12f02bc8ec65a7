use Rattle.std.proofs.Common.{◌≡◌, ◌≤◌, [], map}
use Rattle.std.specs.Prelude.{All, vec_len, vec_capacity}
use Rattle.any_game.specs.AnyRules.{any_rules}
use Rattle.match_master.specs.Held.{StandsFor}
use Rattle.session_pool.specs.Rooms.{numbers}
use Rattle.session_pool.proofs.rooms.plain_rooms.Given as goal

abbrev pub invariant-loop-room : goal.invariant-loop-room
invariant-loop-room l =
    (map (λ b. b.room) l.books.items ≡ numbers 0 l.room)
    × All (λ b. StandsFor any_rules b []) l.books.items
    × (vec_len l.books ≡ l.room) × (l.rooms ≤ vec_capacity l.books)
