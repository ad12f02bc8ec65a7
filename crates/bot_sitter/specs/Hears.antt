-- The client of a bot's link, which exists once `joined` was read.
use Rattle.std.specs.Prelude.{ℕ, List, fold, Option, Some, None, Result, Ok}
use Rattle.client_predict.specs.Client.{Client, fresh}
use Rattle.client_predict.specs.Reading.{reads}
use Rattle.game_trait.specs.Rules.{Rules}
use Rattle.wire_json.specs.Refusals.{Refusal}
use Rattle.wire_json.specs.ServerReading.{server_read}
use Rattle.wire_json.specs.declared.server.ServerMsg.{ServerMsg}
use Rattle.wire_json.specs.declared.server.ServerMsg.TheVariants as message

abbrev pub begins_by : {G : Type 0} → Result ServerMsg Refusal → Option (Client G)
begins_by (Ok (message.Joined key name seat)) = Some fresh
begins_by read = None

abbrev pub client_after : {G : Type 0} → Rules G → Option (Client G) → List ℕ → Option (Client G)
client_after rules None line = begins_by (server_read line)
client_after rules (Some c) line = Some (reads rules c line).client

abbrev pub clients_after : {G : Type 0} → Rules G → Option (Client G) → List (List ℕ) → Option (Client G)
clients_after rules c lines = fold (client_after rules) c lines
