-- The lines of a page and what each asks for. A line that begins with `<` is one of the server, and one that begins with `!` a command of a
-- player, of which only actions do anything. Every other begins at a match: the name of a game, a blank, and the line that asks a server for the
-- stream of the match.
use Rattle.std.specs.Prelude.{ℕ, ◌==◌, ◌+◌, if◌then◌else◌, List, take, drop, position, bytes_eq, codes, length, Option, Some, None, option_and_then, Result, Ok, Err}
use Rattle.std.specs.Str.Lossy.{utf8_valid_len}
use Rattle.any_game.specs.AnyRules.{named}
use Rattle.any_game.specs.GameKind.{GameKind}
use Rattle.link_play.specs.Commands.{Command, Acts, command_of}
use Rattle.link_play.specs.Doing.{Who}
use Rattle.page_player.specs.declared.line.PageLine.{PageLine}
use Rattle.page_player.specs.declared.line.PageLine.TheVariants as line
use Rattle.wire_json.specs.ClientReading.{client_read}
use Rattle.wire_json.specs.Refusals.{Refusal}
use Rattle.wire_json.specs.declared.asked.Asked.{Asked}
use Rattle.wire_json.specs.declared.client.ClientMsg.{ClientMsg}
use Rattle.wire_json.specs.declared.client.ClientMsg.TheVariants.{Sync}

pub data PageStep : Type 0 where
  Begins : GameKind → Who → PageStep
  Hears : List ℕ → PageStep
  Asks : Asked → PageStep
  Nothing : PageStep

-- an action is made; no other command does anything
abbrev pub asks_for : Option Command → PageStep
asks_for (Some (Acts asked)) = Asks asked
asks_for other = Nothing

-- who asks for the stream, if this line of a client does
abbrev pub who_asks : Result ClientMsg Refusal → Option Who
who_asks (Ok (Sync name viewer protocol)) = Some (record { name = name; viewer = viewer })
who_asks other = None

-- bytes that are a text
abbrev pub text_of : List ℕ → Option (List ℕ)
text_of word = if utf8_valid_len word == length word then Some word else None

abbrev pub begins : Option GameKind → Option Who → Option PageStep
begins (Some kind) (Some who) = Some (Begins kind who)
begins kind who = None

-- the game stands before the first blank, the client's line behind it
abbrev pub begins_at : List ℕ → Option ℕ → Option PageStep
begins_at line None = None
begins_at line (Some place) = begins (option_and_then named (text_of (take place line))) (who_asks (client_read (drop (place + 1) line)))

-- what a line asks for; none where it is in no form
abbrev pub step_of : List ℕ → Option PageStep
step_of line =
    if bytes_eq (take 1 line) (codes "<") then Some (Hears (drop 1 line))
    else if bytes_eq (take 1 line) (codes "!") then Some (asks_for (command_of (drop 1 line)))
    else begins_at line (position (λ b. b == 32) line)

-- the same by what a line is, with what stands behind its mark
abbrev pub step_by : PageLine → Option PageStep
step_by (line.Hears rest) = Some (Hears rest.now)
step_by (line.Asks rest) = Some (asks_for (command_of rest.now))
step_by (line.Begins rest) = begins_at rest.now (position (λ b. b == 32) rest.now)
