use Rattle.std.proofs.Common.{◌≡◌, ◌∙◌, false, ap}
use Rattle.serde_json.specs.Written.{has_float}
use Rattle.card_games.specs.FloatFree.{bids_float_free, cards_float_free, texts_float_free}
use Rattle.std.proofs.lemmas.Result.{IfOk-weaker}
use Rattle.serde_json.specs.View.{view}
use Rattle.table_states.specs.StateForms.{board_form, board_laws, points_form, points_laws}
use Rattle.any_game.proofs.any_g.AnyG.to_value.Goals as goal

pub returns-in_ok-to_json-in-HighHand-clause-float_free : goal.returns-in_ok-to_json-in-HighHand-clause-float_free
returns-in_ok-to_json-in-HighHand-clause-float_free c = ap has_float c.in_ok-to_json-in-HighHand.ensures ∙ cards_float_free c.in-HighHand.cards

pub returns-in_ok-to_json-in-BlindBid-clause-float_free : goal.returns-in_ok-to_json-in-BlindBid-clause-float_free
returns-in_ok-to_json-in-BlindBid-clause-float_free c = ap has_float c.in_ok-to_json-in-BlindBid.ensures ∙ bids_float_free c.in-BlindBid.bids

pub returns-in_ok-to_json-in-Captions-clause-float_free : goal.returns-in_ok-to_json-in-Captions-clause-float_free
returns-in_ok-to_json-in-Captions-clause-float_free c = ap has_float c.in_ok-to_json-in-Captions.ensures ∙ texts_float_free c.in-Captions.texts

pub returns-in-TicTacToe-clause-float_free : goal.returns-in-TicTacToe-clause-float_free
returns-in-TicTacToe-clause-float_free c = IfOk-weaker c.to_value.result (λ v. view v ≡ board_form.value c.in-TicTacToe.board) (λ v. has_float (view v) ≡ false) (λ v is. ap has_float is ∙ board_laws.laws.float_free c.in-TicTacToe.board) c.to_value.ensures

pub returns-in-Pig-clause-float_free : goal.returns-in-Pig-clause-float_free
returns-in-Pig-clause-float_free c = IfOk-weaker c.to_value-in-Pig.result (λ v. view v ≡ points_form.value c.in-Pig.scores) (λ v. has_float (view v) ≡ false) (λ v is. ap has_float is ∙ points_laws.laws.float_free c.in-Pig.scores) c.to_value-in-Pig.ensures
