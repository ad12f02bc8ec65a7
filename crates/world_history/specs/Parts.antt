-- Names for parts of what a client's action makes of a world, by which the laws speak of them.
use Rattle.std.specs.Prelude.{ℕ, List, Some}
use Rattle.game_trait.specs.Rules.{Rules}
use Rattle.client_predict.specs.Acting.{submitted, with_act}
use Rattle.client_predict.specs.Client.{Held, Playing}
use Rattle.wire_json.specs.ClientText.{client_text}
use Rattle.wire_json.specs.declared.asked.Asked.{Asked}
use Rattle.wire_json.specs.declared.client.ClientMsg.TheVariants.{Act}

module _ {X G : Type 0} (rules : X → Rules G) where
  abbrev pub with_action : Held X G → Playing G → Asked → Held X G
  with_action held p asked =
      record { game = held.game; key = held.key; client = record { gone = held.client.gone; playing = Some (with_act (rules held.game) p asked) } }

  abbrev pub act_line : Held X G → Playing G → Asked → List ℕ
  act_line held p asked = client_text (Act (submitted (rules held.game) held.key p asked))
