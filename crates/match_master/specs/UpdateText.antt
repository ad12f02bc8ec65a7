-- The line that tells a viewer of an accepted action, by what is held of the match before it and what it comes to.
use Rattle.std.specs.Prelude.{◌≡◌, ℕ, List, [], ◌∷◌, Option}
use Rattle.game_trait.specs.Rules.{Rules}
use Rattle.move_log.specs.Redact.{redact}
use Rattle.move_log.specs.declared.entry.Entry.{Entry}
use Rattle.phase_flow.specs.Reached.{Reached}
use Rattle.player_sight.specs.CtxData.{ctx_data}
use Rattle.player_sight.specs.EntryData.{entry_data}
use Rattle.reducer.specs.Prepared.{Coming}
use Rattle.reducer.specs.Standing.{Standing}
use Rattle.serde_json.specs.Data.{Data}
use Rattle.wire_json.specs.declared.protocol.Protocol.{Protocol}
use Rattle.wire_json.specs.declared.protocol.Protocol.TheVariants.{One, Two}
use Rattle.player_sight.specs.Change.{gone_part, put_part}
use Rattle.wire_json.specs.declared.server.ServerMsg.{ServerMsg}
use Rattle.wire_json.specs.declared.server.ServerMsg.TheVariants.{Change, Update}
use Rattle.wire_json.specs.ServerText.{text}
use Rattle.match_master.specs.Attached.{Lines}
use Rattle.match_master.specs.declared.made_lines.MadeLine.{MadeLine}

-- the value of what a viewer sees of a state
abbrev pub value_seen : {G : Type 0} → Rules G → Reached G → Option ℕ → Data
value_seen rules t seat = rules.value (rules.view t.g t.ctx seat)

abbrev pub action_message : {G : Type 0} → Rules G → Standing G → Coming G → Entry → Option ℕ → Protocol → ServerMsg
action_message rules before after entry seat One =
    Update (ctx_data rules.sheet after.table.ctx) (entry_data rules.sheet (redact rules.sheet seat entry)) (value_seen rules after.table seat) after.number
action_message rules before after entry seat Two =
    Change (put_part (ctx_data rules.sheet before.table.ctx) (ctx_data rules.sheet after.table.ctx)) (entry_data rules.sheet (redact rules.sheet seat entry))
    (gone_part (value_seen rules before.table seat) (value_seen rules after.table seat)) (put_part (value_seen rules before.table seat) (value_seen rules after.table seat)) after.number

abbrev pub action_line : {G : Type 0} → Rules G → Standing G → Coming G → Entry → Lines
action_line rules before after entry seat protocol = text (action_message rules before after entry seat protocol)

-- each line that was made is that of its viewer and protocol
abbrev pub AreMade : Lines → List MadeLine → Type 0
AreMade lines [] = Unit {0}
AreMade lines (m ∷ made) = (m.line.value.items ≡ lines m.seat m.protocol) × AreMade lines made
