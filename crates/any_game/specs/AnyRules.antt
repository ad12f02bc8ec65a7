-- What each of the games means, all over the same states, and which game a name stands for.
use Rattle.std.specs.Prelude.{ℕ, List, [], ◌∷◌, Option, None, find, bytes_eq, refl}
use Rattle.any_game.specs.GameKind.{GameKind, TicTacToe, Countdown, Pig, HighHand, BlindBid, Captions}
use Rattle.any_game.specs.InSheet.{lifted_keeps}
use Rattle.any_game.specs.Lifted.{lifted}
use Rattle.any_game.specs.LiftedLaws.{lifted_lawful}
use Rattle.any_game.specs.Values.{are_bids, are_cards, are_points, as_bids, as_board, as_cards, as_heap, as_points, as_texts, are_texts, is_board, is_heap}
use Rattle.any_game.specs.declared.any_g.AnyG.{AnyG}
use Rattle.any_game.specs.declared.any_g.AnyG.TheVariants.{TicTacToe as OfTicTacToe, Countdown as OfCountdown, Pig as OfPig, HighHand as OfHighHand, BlindBid as OfBlindBid, Captions as OfCaptions}
use Rattle.card_games.specs.BidLaws.{blind_bid_in_sheet, blind_bid_lawful}
use Rattle.card_games.specs.BlindBid.{blind_bid}
use Rattle.card_games.specs.CaptionLaws.{captions_in_sheet, captions_lawful}
use Rattle.card_games.specs.Captions.{captions}
use Rattle.card_games.specs.CardLaws.{high_hand_in_sheet, high_hand_lawful}
use Rattle.card_games.specs.HighHand.{high_hand}
use Rattle.game_trait.specs.Lawful.{Lawful}
use Rattle.game_trait.specs.Queues.{KeepsToSheet}
use Rattle.game_trait.specs.Rules.{Rules}
use Rattle.open_game.specs.OpenGames.{open_in_sheet, open_lawful}
use Rattle.open_game.specs.OpenRules.{of_open}
use Rattle.table_states.proofs.CountdownLaws.{countdown_laws}
use Rattle.table_states.proofs.PigLaws.{pig_laws}
use Rattle.table_states.proofs.TicTacToeLaws.{tic_tac_toe_laws}
use Rattle.table_states.specs.Countdown.{countdown}
use Rattle.table_states.specs.Pig.{pig}
use Rattle.table_states.specs.StateForms.{board_form, board_laws, heap_form, heap_laws, points_form, points_laws}
use Rattle.table_states.specs.TicTacToe.{tic_tac_toe}

abbrev pub any_rules : GameKind → Rules AnyG
any_rules TicTacToe = lifted OfTicTacToe as_board (of_open board_form tic_tac_toe)
any_rules Countdown = lifted OfCountdown as_heap (of_open heap_form countdown)
any_rules Pig = lifted OfPig as_points (of_open points_form pig)
any_rules (HighHand deck) = lifted OfHighHand as_cards (high_hand deck)
any_rules BlindBid = lifted OfBlindBid as_bids blind_bid
any_rules Captions = lifted OfCaptions as_texts captions

-- a game's name is the one on its sheet; a High Hand by name shuffles
abbrev pub named : List ℕ → Option GameKind
named name = find (λ kind. bytes_eq name (any_rules kind).sheet.name) (TicTacToe ∷ Countdown ∷ Pig ∷ HighHand None ∷ BlindBid ∷ Captions ∷ [])

-- no game queues what its sheet doesn't have
pub any_in_sheet : (kind : GameKind) → KeepsToSheet (any_rules kind)
any_in_sheet TicTacToe = lifted_keeps OfTicTacToe as_board (of_open board_form tic_tac_toe) (open_in_sheet board_form board_laws tic_tac_toe tic_tac_toe_laws)
any_in_sheet Countdown = lifted_keeps OfCountdown as_heap (of_open heap_form countdown) (open_in_sheet heap_form heap_laws countdown countdown_laws)
any_in_sheet Pig = lifted_keeps OfPig as_points (of_open points_form pig) (open_in_sheet points_form points_laws pig pig_laws)
any_in_sheet (HighHand deck) = lifted_keeps OfHighHand as_cards (high_hand deck) (high_hand_in_sheet deck)
any_in_sheet BlindBid = lifted_keeps OfBlindBid as_bids blind_bid blind_bid_in_sheet
any_in_sheet Captions = lifted_keeps OfCaptions as_texts captions captions_in_sheet

-- each game keeps the laws of games
pub any_lawful : (kind : GameKind) → Lawful (any_rules kind)
any_lawful TicTacToe = lifted_lawful OfTicTacToe as_board (λ own. refl) is_board (of_open board_form tic_tac_toe) (open_lawful board_form board_laws tic_tac_toe tic_tac_toe_laws)
any_lawful Countdown = lifted_lawful OfCountdown as_heap (λ own. refl) is_heap (of_open heap_form countdown) (open_lawful heap_form heap_laws countdown countdown_laws)
any_lawful Pig = lifted_lawful OfPig as_points (λ own. refl) are_points (of_open points_form pig) (open_lawful points_form points_laws pig pig_laws)
any_lawful (HighHand deck) = lifted_lawful OfHighHand as_cards (λ own. refl) are_cards (high_hand deck) (high_hand_lawful deck)
any_lawful BlindBid = lifted_lawful OfBlindBid as_bids (λ own. refl) are_bids blind_bid blind_bid_lawful
any_lawful Captions = lifted_lawful OfCaptions as_texts (λ own. refl) are_texts captions captions_lawful
