-- What a client makes of a line that it reads: what it is told, or why the line is none for it, and what it then has come to.
use Rattle.std.specs.Prelude.{◌≡◌, MatchBool, ℕ, ◌+◌, ◌==◌, List, [], ◌∷◌, ◌++◌, Bool, true, false, if◌then◌else◌, position, Option, Some, None, Result, Ok, Err, option_and_then}
use Rattle.std.specs.List.{remove}
use Rattle.game_sheet.specs.MatchName.{Name}
use Rattle.game_trait.specs.Rules.{Rules}
use Rattle.sight_reading.specs.CtxReading.{ctx_in}
use Rattle.sight_reading.specs.EntryReading.{entry_in}
use Rattle.sight_reading.specs.Reading.{◌>>=◌}
use Rattle.sight_reading.specs.SnapshotReading.{snapshot_in}
use Rattle.player_sight.specs.declared.shown.Snapshot.{Snapshot}
use Rattle.move_log.specs.declared.entry.Entry.{Entry}
use Rattle.player_sight.specs.Change.{patched}
use Rattle.player_sight.specs.CtxData.{ctx_data}
use Rattle.serde_json.specs.Data.{Data, array, no_items}
use Rattle.wire_json.specs.Refusals.{Refusal}
use Rattle.wire_json.specs.ServerReading.{server_read}
use Rattle.wire_json.specs.declared.server.ServerMsg.{ServerMsg}
use Rattle.wire_json.specs.declared.server.ServerMsg.TheVariants as message
use Rattle.client_predict.specs.Client.{Client, Held, Playing}
use Rattle.client_predict.specs.declared.change.Change.{Change}
use Rattle.client_predict.specs.declared.told.FeedNo.{FeedNo}
use Rattle.client_predict.specs.declared.told.FeedNo.TheVariants as no
use Rattle.client_predict.specs.declared.told.Told.{Told}
use Rattle.client_predict.specs.declared.told.Told.TheVariants.{Synced, Updated, Accepted, Refused, Again, Ended, Other}
use Rattle.client_predict.specs.declared.waiting.Waiting.{Waiting}
use Rattle.std.specs.Option.{option_map_or}

-- what a line comes to
pub record Heard (G : Type 0) : Type 0 where
  pub told : Result Told FeedNo
  pub client : Client G

-- the line is none for the client, which is gone from then on
abbrev pub lost : {G : Type 0} → Client G → FeedNo → Heard G
lost c why = record { told = Err why; client = record { gone = true; playing = c.playing } }

-- the client is told something, and nothing of it changes
abbrev pub only_told : {G : Type 0} → Client G → Told → Heard G
only_told c told = record { told = Ok told; client = c }

-- its part in the match is another from then on
abbrev pub goes_on : {G : Type 0} → Client G → Told → Playing G → Heard G
goes_on c told p = record { told = Ok told; client = record { gone = c.gone; playing = Some p } }

-- the stream has ended
abbrev pub ended : {G : Type 0} → Client G → Told → Heard G
ended c told = record { told = Ok told; client = record { gone = true; playing = c.playing } }

-- ---- a sync

abbrev pub begun : {G : Type 0} → Name → Option ℕ → Snapshot G → Playing G
begun name seat s = record { name = name; seat = seat; settled = s; waiting = []; ticket = 1 }

abbrev pub synced : {G : Type 0} → Client G → Name → Option ℕ → Option (Snapshot G) → Heard G
synced c name seat None = lost c no.BadLine
synced c name seat (Some s) = record { told = Ok Synced; client = record { gone = false; playing = Some (begun name seat s) } }

-- ---- an accepted action

-- what a line shows of it; nothing where a part is in no form of the game
abbrev pub change_in : {G : Type 0} → Rules G → Data → Data → Data → Option (Change G)
change_in rules ctx entry g = ctx_in rules.sheet ctx >>= λ c.
    entry_in rules.sheet entry >>= λ e.
    rules.read g >>= λ s.
    Some (record { ctx = c; entry = e; g = s })

abbrev pub settled_by : {G : Type 0} → Snapshot G → Change G → ℕ → Snapshot G
settled_by s change number = record { number = number; ctx = change.ctx; g = change.g; log = s.log ++ change.entry ∷ [] }

-- another snapshot is settled
abbrev pub settles : {G : Type 0} → Playing G → Snapshot G → Playing G
settles p s = record { name = p.name; seat = p.seat; settled = s; waiting = p.waiting; ticket = p.ticket }

-- only the number after the settled one is taken in
abbrev pub in_step : {G : Type 0} → Client G → Option (Playing G) → ℕ → Heard G → Heard G
in_step c None number heard = lost c no.BadLine
in_step c (Some p) number heard = if number == p.settled.number + 1 then heard else lost c (no.OutOfStep p.settled.number number)

abbrev pub taken : {G : Type 0} → Client G → Option (Playing G) → Change G → ℕ → Heard G
taken c playing change number = option_map_or (λ p. goes_on c Updated (settles p (settled_by p.settled change number))) playing (lost c no.BadLine)

-- an update: all its parts are read before its number is looked at
abbrev pub updated : {G : Type 0} → Client G → Option (Playing G) → Option (Change G) → ℕ → Heard G
updated c playing made number = option_map_or (λ change. in_step c playing number (taken c playing change number)) made (lost c no.BadLine)

-- a change: the context and the state are those whose values are the settled ones', changed as the line says
abbrev pub change_onto : {G : Type 0} → Rules G → Snapshot G → Entry → Data → Data → Data → Option (Change G)
change_onto rules s entry ctx gone put = ctx_in rules.sheet (patched (ctx_data rules.sheet s.ctx) (array no_items) ctx) >>= λ c.
    rules.read (patched (rules.value s.g) gone put) >>= λ g.
    Some (record { ctx = c; entry = entry; g = g })

abbrev pub change_by : {G : Type 0} → Rules G → Option (Playing G) → Entry → Data → Data → Data → Option (Change G)
change_by rules playing entry ctx gone put = option_and_then (λ p. change_onto rules p.settled entry ctx gone put) playing

abbrev pub patched_by : {G : Type 0} → Rules G → Client G → Option (Playing G) → Entry → Data → Data → Data → ℕ → Heard G
patched_by rules c playing entry ctx gone put number = option_map_or (λ change. taken c playing change number) (change_by rules playing entry ctx gone put) (lost c no.BadLine)

-- only its entry is read before its number is looked at
abbrev pub changed : {G : Type 0} → Rules G → Client G → Option (Playing G) → Option Entry → Data → Data → Data → ℕ → Heard G
changed rules c playing None ctx gone put number = lost c no.BadLine
changed rules c playing (Some entry) ctx gone put number = in_step c playing number (patched_by rules c playing entry ctx gone put number)

-- ---- a verdict

abbrev pub has_ticket : ℕ → Waiting → Bool
has_ticket ticket w = w.ticket == ticket

-- the waiting action at a place is taken out
abbrev pub answered : {G : Type 0} → Playing G → ℕ → Playing G
answered p place = record { name = p.name; seat = p.seat; settled = p.settled; waiting = remove p.waiting place; ticket = p.ticket }

-- the oldest waiting action that has the ticket waits no more
abbrev pub verdict : {G : Type 0} → Client G → Option (Playing G) → ℕ → Told → Heard G
verdict c None ticket told = lost c (no.UnknownTicket ticket)
verdict c (Some p) ticket told = option_map_or (λ place. goes_on c told (answered p place)) (position (has_ticket ticket) p.waiting) (lost c (no.UnknownTicket ticket))

-- ---- any line

abbrev pub unless_gone : {G : Type 0} → Client G → Heard G → Heard G
unless_gone c heard = if c.gone then lost c no.Gone else heard

-- a line of another kind is a direct answer, which changes nothing
abbrev pub hears : {G : Type 0} → Rules G → Client G → ServerMsg → Heard G
hears rules c (message.Sync name seat protocol snapshot) = synced c name seat (snapshot_in rules snapshot)
hears rules c (message.Update ctx entry g number) = unless_gone c (updated c c.playing (change_in rules ctx entry g) number)
hears rules c (message.Change ctx entry gone put number) = unless_gone c (changed rules c c.playing (entry_in rules.sheet entry) ctx gone put number)
hears rules c (message.Ok number ticket) = unless_gone c (verdict c c.playing ticket (Accepted ticket))
hears rules c (message.No number reason ticket) = unless_gone c (verdict c c.playing ticket (Refused ticket reason))
hears rules c (message.Again ticket) = unless_gone c (option_map_or (λ t. verdict c c.playing t (Again (Some t))) ticket (only_told c (Again None)))
hears rules c (message.Bye why) = unless_gone c (ended c (Ended why))
hears rules c other = unless_gone c (only_told c Other)

abbrev pub hears_line : {G : Type 0} → Rules G → Client G → Result ServerMsg Refusal → Heard G
hears_line rules c (Ok m) = hears rules c m
hears_line rules c (Err fault) = unless_gone c (lost c no.BadLine)

unfoldable pub reads : {G : Type 0} → Rules G → Client G → List ℕ → Heard G
reads rules c line = hears_line rules c (server_read line)

-- ---- how the code is tied to this: want of memory is free and changes nothing, and all else is exact

abbrev pub is_starved : Result Told FeedNo → Bool
is_starved (Ok told) = false
is_starved (Err no.Gone) = false
is_starved (Err no.BadLine) = false
is_starved (Err (no.OutOfStep have was)) = false
is_starved (Err (no.UnknownTicket ticket)) = false
is_starved (Err no.NoMemory) = true

abbrev pub Hears : {X G : Type 0} → Held X G → Result Told FeedNo → Held X G → Heard G → Type 0
Hears old result new heard =
    MatchBool (is_starved result) (new ≡ old) ((result ≡ heard.told) × (new ≡ record { game = old.game; key = old.key; client = heard.client }))
