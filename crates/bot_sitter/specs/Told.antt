-- What the lines that a bot's link was sent have told it: the key of its seat, and whether it is to end or begin again.
use Rattle.std.specs.Prelude.{ℕ, List, true, false, fold, Option, Some, None, Result, Ok, Err}
use Rattle.wire_json.specs.Refusals.{Refusal}
use Rattle.wire_json.specs.ServerReading.{server_read}
use Rattle.wire_json.specs.declared.server.ServerMsg.{ServerMsg}
use Rattle.wire_json.specs.declared.server.ServerMsg.TheVariants as message
use Rattle.bot_sitter.specs.declared.told.Told.{Told}

abbrev pub nothing : Told
nothing = record { key = None; over = false; again = false; left = false }

-- the key that the first `joined` gave
abbrev pub first_key : Option (List ℕ) → List ℕ → Option (List ℕ)
first_key None key = Some key
first_key (Some given) key = Some given

abbrev pub told_of : Told → ServerMsg → Told
told_of t (message.Joined key name seat) = record { key = first_key t.key key; over = t.over; again = t.again; left = t.left }
told_of t (message.Left name seat) = record { key = t.key; over = t.over; again = t.again; left = true }
told_of t (message.Again ticket) = record { key = t.key; over = t.over; again = true; left = t.left }
told_of t (message.Refused why) = record { key = t.key; over = true; again = t.again; left = t.left }
told_of t (message.Bye why) = record { key = t.key; over = true; again = t.again; left = t.left }
told_of t other = t

-- a line in no form ends a bot's session, as a refusal and a bye do
abbrev pub told_read : Told → Result ServerMsg Refusal → Told
told_read t (Ok m) = told_of t m
told_read t (Err fault) = record { key = t.key; over = true; again = t.again; left = t.left }

abbrev pub told_line : Told → List ℕ → Told
told_line t line = told_read t (server_read line)

-- by these lines, in order
abbrev pub told_by : List (List ℕ) → Told
told_by lines = fold told_line nothing lines
