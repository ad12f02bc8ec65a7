-- What an action comes to.
use Rattle.std.proofs.Common.{◌≡◌, ℕ, List, [], ◌++◌, Option, Some, None, ap, sym, refl, subst, ◌∙◌}
use Rattle.any_game.specs.AnyRules.{any_rules}
use Rattle.any_game.specs.GameKind.{GameKind}
use Rattle.any_game.specs.declared.any_g.AnyG.{AnyG}
use Rattle.client_predict.specs.Acting.{IsActed, act_no}
use Rattle.client_predict.specs.Client.{Client, Held, Playing}
use Rattle.client_predict.specs.declared.told.ActNo.{ActNo}
use Rattle.client_predict.specs.declared.told.Predicted.{Predicted}
use Rattle.page_player.specs.Drawing.{to_send}
use Rattle.page_player.specs.Page.{acted, acted_by}
use Rattle.wire_json.specs.declared.asked.Asked.{Asked}

module _ (h : Held GameKind AnyG) (asked : Asked) where
  -- a client that makes none stays, and nothing is to be sent
  pub not_made : (why : ActNo) → act_no h.client.gone h.client.playing ≡ Some why → acted h asked ≡ (h, [])
  not_made why e = ap (λ o. acted_by h asked o h.client.playing) e

  -- the client that made one, and its line
  pub made : (line : List ℕ) (told : Predicted) (new : Held GameKind AnyG) → IsActed (any_rules h.game) h asked line told new → acted h asked ≡ (new, to_send line)
  made line told new is =
      let may : act_no h.client.gone h.client.playing ≡ None = ap (act_no h.client.gone) is.playing ∙ is.may in
      ap (λ o. acted_by h asked o h.client.playing) may
      ∙ ap (acted_by h asked None) is.playing
      ∙ rw (is.waits, is.sent) refl
