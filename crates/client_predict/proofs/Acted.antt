-- An action that is made is what the definition says.
use Rattle.std.proofs.Common.{◌≡◌, ◌==◌, ℕ, List, Bool, false, length, Option, Some, refl}
use Rattle.game_trait.specs.Rules.{Rules}
use Rattle.wire_json.specs.ClientText.{client_text}
use Rattle.wire_json.specs.declared.asked.Asked.{Asked}
use Rattle.wire_json.specs.declared.client.ClientMsg.TheVariants.{Act}
use Rattle.client_predict.specs.Acting.{act_told, submitted, with_act, IsActed}
use Rattle.client_predict.specs.Stack.{playing_of}
use Rattle.client_predict.specs.declared.part.Part.{Part}
use Rattle.client_predict.specs.declared.told.Predicted.{Predicted}

pub acted_is : {X G : Type 0} (rules : Rules G) (game : X) (key : Option (List ℕ)) (gone : Bool) (p q : Part G) (asked : Asked) (line : List ℕ) (told : Predicted)
    → gone ≡ false → (length p.waiting.items == 32) ≡ false
    → line ≡ client_text (Act (submitted rules key (playing_of p) asked)) → told ≡ act_told rules (playing_of p) asked → playing_of q ≡ with_act rules (playing_of p) asked
    → IsActed rules (record { game = game; key = key; client = record { gone = gone; playing = Some (playing_of p) } }) asked line told
    (record { game = game; key = key; client = record { gone = gone; playing = Some (playing_of q) } })
acted_is rules game key gone p q asked line told here few sent guessed waits = record {
  p = playing_of p;
  playing = refl;
  may = rw (here, few) refl;
  sent = sent;
  guessed = guessed;
  waits = rw waits refl;
}
