-- How `serve` ends, by what its words ask for, and what it then says of the door, the sink and the rooms that are handed back.
use Rattle.std.specs.Prelude.{◌≡◌, ◌⊎◌, ◌≤◌, ◌<◌, ◌+◌, ℕ, List, [], All, Bool, Option, Some, None, IsSome, option_map}
use Rattle.any_game.specs.AnyRules.{any_rules}
use Rattle.any_game.specs.GameKind.{GameKind}
use Rattle.board_links.specs.Pieces.{told_bytes}
use Rattle.command_words.specs.declared.serve.ServeWords.{ServeWords}
use Rattle.door_serve.specs.Ends.{EndsBy, Reports}
use Rattle.any_game.specs.declared.any_g.AnyG.{AnyG}
use Rattle.door_serve.specs.Rooms.{Calls, Hosted, Stand, hosted, plain}
use Rattle.match_master.specs.Held.{Held as Book, StandsFor}
use Rattle.room_keeper.specs.declared.gauged_room.GaugedRoom.{GaugedRoom}
use Rattle.door_serve.specs.declared.serving.ServeEnd.{ServeEnd}
use Rattle.door_serve.specs.declared.serving.ServeEnd.TheVariants as end
use Rattle.session_pool.specs.Turn.{Stand as Standing}
use Rattle.session_pool.specs.Watched.{StandsIn}
use Rattle.line_runner.specs.declared.exit.Exit.{Exit}
use Rattle.line_runner.specs.declared.exit.Exit.TheVariants.{Done, WriteFault, NoMemory, DoorFault}

-- the end of a run that served
abbrev pub exit_of : ServeEnd → Exit
exit_of end.Done = Done
exit_of end.DoorFault = DoorFault
exit_of end.WriteFault = WriteFault
exit_of end.NoMemory = NoMemory

-- how many bots are asked for
abbrev pub seats_asked : Option (GameKind × ℕ) → ℕ
seats_asked None = 0
seats_asked (Some table) = table.1

-- how many links there are with those of the bots, where a door told how many it held
abbrev pub held_with : Option (GameKind × ℕ) → Option ℕ → Option ℕ
held_with None links = links
held_with (Some table) links = option_map (λ n. n + table.1) links

-- Of so many bots' links so many were given: all of them where the door gave a link, since bots' links come first.
pub record GaveBots (seats bots given : ℕ) : Type 0 where
  pub most : bots ≤ seats
  pub first : 0 < given → bots ≡ seats

-- So many rooms were served so, with so many bots' links before those of the door: each of these is a session too.
pub record ServesSeats {B : Type 0} (known : Hosted B) (how : ServeEnd) (many sessions seats : ℕ) (rooms : List B) (faults : ℕ) (links : Option ℕ) (shut : Bool)
    (faults_after given : ℕ) (sink_faults sink_faults_after : ℕ) (held held_after : Option (List ℕ)) : Type 0 where
  pub bots : ℕ
  pub gave : GaveBots seats bots given
  pub ended : EndsBy how sessions faults links shut faults_after (bots + given) sink_faults sink_faults_after
  pub reports : IsSome held → Reports known many (bots + given) rooms how (told_bytes held) held_after

-- The serving that was asked for. The door had so many faults and held so many links, where it told them; afterwards it is shut or not, has so
-- many faults, and has given so many links. The sink had so many faults and held this before, and so afterwards. The links of the bots that were
-- given count as the door's do.
pub record Serves {B : Type 0} (known : Hosted B) (asked : ServeWords) (exit : Exit) (rooms : List B) (faults : ℕ) (links : Option ℕ) (shut : Bool)
    (faults_after given : ℕ) (sink_faults sink_faults_after : ℕ) (held held_after : Option (List ℕ)) : Type 0 where
  pub how : ServeEnd
  pub bots : ℕ
  pub gave : GaveBots (seats_asked asked.bots) bots given
  pub exits : exit ≡ exit_of how
  pub ended : EndsBy how asked.sessions faults (held_with asked.bots links) shut faults_after (bots + given) sink_faults sink_faults_after
  pub reports : IsSome held → Reports known asked.rooms (bots + given) rooms how (told_bytes held) held_after

-- Links were served by sessions whose passes had seen these histories before, of which this is known. Each room that comes back stands for one history, and
-- the sessions' passes had seen beginnings of these in the end; or none comes back, since there was no memory to set them up.
abbrev pub ServedIn : {B : Type 0} → Hosted B → (List Calls → Type 0) → (List Calls → (Standing → Type 0) → Type 0) → List B → Type 0
ServedIn known opened served rooms = (pasts : List Calls) × opened pasts
    × (((histories : List Calls) × Stand known.stands_for rooms histories × served pasts (StandsIn histories)) ⊎ ((rooms ≡ []) × served pasts (λ s. Unit {0})))

-- each history comes to the same book as no call at all
abbrev pub AreNew : List Calls → Type 0
AreNew pasts = All (λ past. (book : Book GameKind AnyG) × StandsFor any_rules book [] × StandsFor any_rules book past) pasts

-- rooms that keep nothing, each with a gauge
abbrev pub gauged : Hosted (GaugedRoom GameKind (Book GameKind AnyG))
gauged = hosted (λ r. plain.number r.room) (λ r h. plain.stands_for r.room h) (λ r. plain.has_stopped r.room)
