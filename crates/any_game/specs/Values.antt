-- The states of all games: each is written down as its own game writes it.
use Rattle.std.specs.Prelude.{◌≡◌, Option, Some, None, IfSome, refl}
use Rattle.any_game.specs.declared.any_g.AnyG.{AnyG}
use Rattle.any_game.specs.declared.any_g.AnyG.TheVariants.{TicTacToe, Countdown, Pig, HighHand, BlindBid, Captions}
use Rattle.card_games.specs.BlindBid.{Bids, bids_form}
use Rattle.card_games.specs.Captions.{Texts, texts_form}
use Rattle.card_games.specs.HighHand.{Cards, cards_form}
use Rattle.serde_json.specs.Data.{Data}
use Rattle.table_states.specs.Points.{Points}
use Rattle.table_states.specs.StateForms.{board_form, heap_form, points_form}
use Rattle.table_states.specs.declared.board.Board.{Board}
use Rattle.table_states.specs.declared.heap.Heap.{Heap}

abbrev pub any_value : AnyG → Data
any_value (TicTacToe board) = board_form.value board
any_value (Countdown heap) = heap_form.value heap
any_value (Pig points) = points_form.value points
any_value (HighHand cards) = cards_form.value cards
any_value (BlindBid bids) = bids_form.value bids
any_value (Captions texts) = texts_form.value texts

-- a state as one of tic-tac-toe, if it is one
abbrev pub as_board : AnyG → Option Board
as_board (TicTacToe board) = Some board
as_board _ = None

-- a state as one of Countdown, if it is one
abbrev pub as_heap : AnyG → Option Heap
as_heap (Countdown heap) = Some heap
as_heap _ = None

-- a state as one of Pig, if it is one
abbrev pub as_points : AnyG → Option Points
as_points (Pig points) = Some points
as_points _ = None

-- a state as one of High Hand, if it is one
abbrev pub as_cards : AnyG → Option Cards
as_cards (HighHand cards) = Some cards
as_cards _ = None

-- a state as one of Blind Bid, if it is one
abbrev pub as_bids : AnyG → Option Bids
as_bids (BlindBid bids) = Some bids
as_bids _ = None

-- a state as one of Captions, if it is one
abbrev pub as_texts : AnyG → Option Texts
as_texts (Captions texts) = Some texts
as_texts _ = None

-- what is one of a game's states is that state and no other
pub is_board : (g : AnyG) → IfSome (as_board g) (λ board. g ≡ TicTacToe board)
is_board (TicTacToe board) = refl
is_board _ = tt

pub is_heap : (g : AnyG) → IfSome (as_heap g) (λ heap. g ≡ Countdown heap)
is_heap (Countdown heap) = refl
is_heap _ = tt

pub are_points : (g : AnyG) → IfSome (as_points g) (λ points. g ≡ Pig points)
are_points (Pig points) = refl
are_points _ = tt

pub are_cards : (g : AnyG) → IfSome (as_cards g) (λ cards. g ≡ HighHand cards)
are_cards (HighHand cards) = refl
are_cards _ = tt

pub are_bids : (g : AnyG) → IfSome (as_bids g) (λ bids. g ≡ BlindBid bids)
are_bids (BlindBid bids) = refl
are_bids _ = tt

pub are_texts : (g : AnyG) → IfSome (as_texts g) (λ texts. g ≡ Captions texts)
are_texts (Captions texts) = refl
are_texts _ = tt
