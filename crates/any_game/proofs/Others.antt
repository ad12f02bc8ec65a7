-- No game reads another game's states: their values have other members.
use Rattle.std.proofs.Common.{◌≡◌, ◌≢◌, Bool, false, IsTrue, Option, Some, None, refl}
use Rattle.std.proofs.lemmas.Bool.{false≢true}
use Rattle.any_game.specs.AnyRules.{any_rules}
use Rattle.any_game.specs.GameKind.{GameKind, TicTacToe, Countdown, Pig, HighHand, BlindBid, Captions}
use Rattle.any_game.specs.Values.{any_value, as_bids, as_board, as_cards, as_heap, as_points, as_texts}
use Rattle.any_game.specs.declared.any_g.AnyG.{AnyG}
use Rattle.card_games.specs.Parts.{bids_value, cards_value, own_bids, own_state, own_texts, texts_value}
use Rattle.serde_json.specs.Data.{Data}
use Rattle.table_states.specs.StateForms.{board_form, heap_form, points_form}
use Rattle.std.specs.Option.{option_map_or}

unread_own : {S : Type 0} (own : S → Bool) (value : S → Data) (other : Data) (read : Data → Option AnyG) (g : Option S) → ((x : S) → read (value x) ≡ None) → IsTrue (option_map_or own g false) → read (option_map_or value g other) ≡ None
unread_own own value other read None unread is = absurd (false≢true is)
unread_own own value other read (Some x) unread is = unread x

-- another game has another name
abbrev pub AreOther : GameKind → GameKind → Type 0
AreOther k l = (any_rules l).sheet.name ≢ (any_rules k).sheet.name

board_unread : (l : GameKind) → AreOther TicTacToe l → (x : _) → (any_rules l).read (board_form.value x) ≡ None
board_unread TicTacToe h x = absurd (h refl)
board_unread other h x = refl

heap_unread : (l : GameKind) → AreOther Countdown l → (x : _) → (any_rules l).read (heap_form.value x) ≡ None
heap_unread Countdown h x = absurd (h refl)
heap_unread other h x = refl

points_unread : (l : GameKind) → AreOther Pig l → (x : _) → (any_rules l).read (points_form.value x) ≡ None
points_unread Pig h x = absurd (h refl)
points_unread other h x = refl

cards_unread : (of : _) (l : GameKind) → AreOther (HighHand of) l → (x : _) → (any_rules l).read (cards_value x) ≡ None
cards_unread of (HighHand deck) h x = absurd (h refl)
cards_unread of other h x = refl

bids_unread : (l : GameKind) → AreOther BlindBid l → (x : _) → (any_rules l).read (bids_value x) ≡ None
bids_unread BlindBid h x = absurd (h refl)
bids_unread other h x = refl

texts_unread : (l : GameKind) → AreOther Captions l → (x : _) → (any_rules l).read (texts_value x) ≡ None
texts_unread Captions h x = absurd (h refl)
texts_unread other h x = refl

pub unread : (k l : GameKind) → AreOther k l → (g : AnyG) → IsTrue ((any_rules k).own g) → (any_rules l).read ((any_rules k).value g) ≡ None
unread TicTacToe l h g = unread_own board_form.own board_form.value (any_value g) (any_rules l).read (as_board g) (board_unread l h)
unread Countdown l h g = unread_own heap_form.own heap_form.value (any_value g) (any_rules l).read (as_heap g) (heap_unread l h)
unread Pig l h g = unread_own points_form.own points_form.value (any_value g) (any_rules l).read (as_points g) (points_unread l h)
unread (HighHand deck) l h g = unread_own own_state cards_value (any_value g) (any_rules l).read (as_cards g) (cards_unread deck l h)
unread BlindBid l h g = unread_own own_bids bids_value (any_value g) (any_rules l).read (as_bids g) (bids_unread l h)
unread Captions l h g = unread_own own_texts texts_value (any_value g) (any_rules l).read (as_texts g) (texts_unread l h)
