-- The lines that a bot's link gives.
use Rattle.std.specs.Prelude.{◌≡◌, ℕ, List, ◌++◌, codes, decimal, slice_get, Bool, true, false, Option, Some, None}
use Rattle.client_predict.specs.Acting.{submitted, with_act}
use Rattle.client_predict.specs.Client.{Client, Playing}
use Rattle.game_sheet.specs.declared.args.Arg.{Arg}
use Rattle.game_sheet.specs.declared.sheet.MoveRow.{MoveRow}
use Rattle.game_trait.specs.Rules.{Rules}
use Rattle.wire_json.specs.declared.asked.Asked.{Asked}
use Rattle.wire_json.specs.declared.asked.Asked.TheVariants as asked
use Rattle.wire_json.specs.declared.client.ClientMsg.{ClientMsg}
use Rattle.wire_json.specs.declared.client.ClientMsg.TheVariants as message
use Rattle.wire_json.specs.declared.protocol.Protocol.TheVariants as protocol
use Rattle.bot_sitter.specs.Ears.{IsLine}
use Rattle.bot_sitter.specs.Sitting.{Sitting, told_to}

-- the bot of seat p is called `bot<p>`
abbrev pub bot_name : ℕ → List ℕ
bot_name seat = codes "bot" ++ decimal seat

abbrev pub join_of : {X G : Type 0} → Sitting X G → ClientMsg
join_of s = message.Join s.name (bot_name s.seat) s.seat

abbrev pub sync_of : {X G : Type 0} → Sitting X G → List ℕ → ClientMsg
sync_of s key = message.Sync s.name (Some (s.seat, key)) protocol.One

abbrev pub leave_of : {X G : Type 0} → Sitting X G → List ℕ → ClientMsg
leave_of s key = message.Leave key s.name s.seat

-- an option as a client asks for it
abbrev pub move_asked : Option MoveRow → List Arg → Asked
move_asked None args = asked.Undo
move_asked (Some row) args = asked.Move row.name args

abbrev pub option_asked : {G : Type 0} → Rules G → ℕ × List Arg → Asked
option_asked rules offer = move_asked (slice_get rules.sheet.moves offer.0) offer.1

-- the sitting after each of its steps
abbrev pub gave_join : {X G : Type 0} → Sitting X G → Sitting X G
gave_join s = record s { gave = record { join = true; sync = s.gave.sync; leave = s.gave.leave } }

abbrev pub gave_sync : {X G : Type 0} → Sitting X G → Sitting X G
gave_sync s = record s { gave = record { join = s.gave.join; sync = true; leave = s.gave.leave } }

abbrev pub gave_leave : {X G : Type 0} → Sitting X G → Sitting X G
gave_leave s = record s { gave = record { join = s.gave.join; sync = s.gave.sync; leave = true } }

abbrev pub with_last : {X G : Type 0} → Sitting X G → ℕ → Sitting X G
with_last s number = record s { last = Some number }

-- the client makes an act, and its line is given
pub record GivesAct {X G : Type 0} (rules : Rules G) (starved : Bool) (asked : Asked) (line : List ℕ) (old new : Sitting X G) : Type 0 where
  -- the key that was told, which is that of what was sent unless a call had no memory
  pub key : Option (List ℕ)
  pub key_is : starved ≡ false → key ≡ (told_to old).key
  pub c : Client G
  pub p : Playing G
  pub client : old.client ≡ Some c
  pub playing : c.playing ≡ Some p
  pub line_is : IsLine (message.Act (submitted rules key p asked)) line
  pub after : new ≡ record old { client = Some (record { gone = c.gone; playing = Some (with_act rules p asked) }) }
