-- What a bot's link makes of the lines that it is sent: what they told it, and its client, which exists once `joined` was read.
use Rattle.std.specs.Prelude.{◌≡◌, ℕ, List, [], ◌∷◌, ◌++◌, Option, Some, None, IfSome, is_some}
use Rattle.client_predict.specs.Acting.{submitted, with_act}
use Rattle.client_predict.specs.Client.{Client, Held, Playing}
use Rattle.game_trait.specs.Rules.{Rules}
use Rattle.wire_json.specs.ClientText.{client_text}
use Rattle.wire_json.specs.declared.asked.Asked.{Asked}
use Rattle.wire_json.specs.declared.client.ClientMsg.{ClientMsg}
use Rattle.wire_json.specs.declared.client.ClientMsg.TheVariants as message
use Rattle.bot_sitter.specs.Told.{nothing}
use Rattle.bot_sitter.specs.declared.told.Told.{Told}

pub record Ear (X G : Type 0) : Type 0 where
  pub game : X
  pub told : Told
  pub client : Option (Client G)

abbrev pub quiet_ear : {X G : Type 0} → X → Ear X G
quiet_ear game = record { game = game; told = nothing; client = None }

-- the game is there twice until the client has it; the client plays it with the key that was told
pub record IsEar {X G : Type 0} (game : X) (spare : Option X) (client : Option (Held X G)) (told : Told) : Type 0 where
  pub spare_is : client ≡ None → spare ≡ Some game
  pub game_is : IfSome client (λ held. held.game ≡ game)
  pub key_is : IfSome client (λ held. held.key ≡ told.key)
  pub joined : is_some client ≡ is_some told.key

-- the line of a message, without its newline
abbrev pub IsLine : ClientMsg → List ℕ → Type 0
IsLine message line = line ++ 10 ∷ [] ≡ client_text message

-- the client makes an act, under the key that was told, and its line is given
pub record ActsBy {X G : Type 0} (rules : Rules G) (asked : Asked) (line : List ℕ) (old new : Ear X G) : Type 0 where
  pub c : Client G
  pub p : Playing G
  pub client_is : old.client ≡ Some c
  pub playing : c.playing ≡ Some p
  pub line_is : IsLine (message.Act (submitted rules old.told.key p asked)) line
  pub after : new ≡ record { game = old.game; told = old.told; client = Some (record { gone = c.gone; playing = Some (with_act rules p asked) }) }

-- the same of the client alone
pub record ActedBy {X G : Type 0} (rules : Rules G) (asked : Asked) (line : List ℕ) (old new : Held X G) : Type 0 where
  pub p : Playing G
  pub playing : old.client.playing ≡ Some p
  pub line_is : IsLine (message.Act (submitted rules old.key p asked)) line
  pub after : new ≡ record { game = old.game; key = old.key; client = record { gone = old.client.gone; playing = Some (with_act rules p asked) } }
