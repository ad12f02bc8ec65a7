-- What a client comes to that makes no act and reads lines in order, passing over those that are verdicts and direct answers.
use Rattle.std.specs.Prelude.{ℕ, List, Bool, true, false, Result, Ok, Err, filter, fold}
use Rattle.std.specs.List.{list_any}
use Rattle.client_predict.specs.Client.{Client, fresh}
use Rattle.client_predict.specs.Reading.{reads}
use Rattle.game_trait.specs.Rules.{Rules}
use Rattle.wire_json.specs.Refusals.{Refusal}
use Rattle.wire_json.specs.ServerReading.{server_read}
use Rattle.wire_json.specs.declared.server.ServerMsg.{ServerMsg}
use Rattle.wire_json.specs.declared.server.ServerMsg.TheVariants as message

-- the messages that tell of a match: a snapshot, what an accepted action led to, and that the stream has ended; and a line that is no
-- message isn't passed over
abbrev pub is_told : Result ServerMsg Refusal → Bool
is_told (Ok (message.Sync name seat protocol snapshot)) = true
is_told (Ok (message.Update ctx entry g number)) = true
is_told (Ok (message.Change ctx entry gone put number)) = true
is_told (Ok (message.Bye why)) = true
is_told (Ok other) = false
is_told (Err fault) = true

abbrev pub told_lines : List (List ℕ) → List (List ℕ)
told_lines lines = filter (λ line. is_told (server_read line)) lines

-- the lines are read in order
abbrev pub reads_all : {G : Type 0} → Rules G → Client G → List (List ℕ) → Client G
reads_all rules c lines = fold (λ c line. (reads rules c line).client) c lines

abbrev pub followed : {G : Type 0} → Rules G → List (List ℕ) → Client G
followed rules lines = reads_all rules fresh (told_lines lines)

abbrev pub is_sync : Result ServerMsg Refusal → Bool
is_sync (Ok (message.Sync name seat protocol snapshot)) = true
is_sync read = false

abbrev pub is_bye : Result ServerMsg Refusal → Bool
is_bye (Ok (message.Bye why)) = true
is_bye read = false

abbrev pub has_sync : List (List ℕ) → Bool
has_sync lines = list_any (λ line. is_sync (server_read line)) lines

abbrev pub has_bye : List (List ℕ) → Bool
has_bye lines = list_any (λ line. is_bye (server_read line)) lines
