-- A watch, which has one pass more of each room: what its passes were shown of others, and which histories begin as a session's passes have seen.
use Rattle.std.specs.Prelude.{◌≡◌, ◌<◌, ℕ, List, [], ◌∷◌, length, map, Option, Some, None, option_map, slice_index_or}
use Rattle.any_game.specs.GameKind.{GameKind}
use Rattle.room_desk.specs.History.{Begins, DeskId}
use Rattle.room_history.specs.declared.call.RoomCall.{RoomCall}
use Rattle.room_object.specs.Entry.{Entry}
use Rattle.session_pool.specs.Passes.{Pass}
use Rattle.session_pool.specs.Turn.{Stand}

-- the calls of a room, the latest first
abbrev pub History : Type 0
History = List (Entry (RoomCall GameKind))

-- each of these histories begins as that of its place
abbrev pub AllBegin : List History → List History → Type 0
AllBegin [] [] = Unit {0}
AllBegin (h ∷ histories) (seen ∷ more) = Begins h seen × AllBegin histories more
AllBegin histories more = ⊥

-- what passes have seen
abbrev pub seen_of : List Pass → List History
seen_of passes = map (λ p. p.seen) passes

-- a session stands where its passes have seen beginnings of these histories
abbrev pub StandsIn : List History → Stand → Type 0
StandsIn histories s = AllBegin histories (seen_of s.passes)

-- ---- while links are served, a pass of a watch may be out

abbrev pub desk_at : Option Pass → Option DeskId
desk_at at = option_map (λ p. p.desk) at

-- the pass has seen what this one has
abbrev pub Knows : Option Pass → Pass → Type 0
Knows None p = ⊥
Knows (Some watch) p = Begins watch.seen p.seen

-- each has seen what that of its place has
pub record AllKnow (watch : List (Option Pass)) (passes : List Pass) : Type 0 where
  pub many : length passes ≡ length watch
  pub each : (k : ℕ) (o : Option Pass) (p : Pass) → k < length watch → Knows (slice_index_or watch k o) (slice_index_or passes k p)
