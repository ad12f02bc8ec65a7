-- Which game a value that holds one of them is.
use Rattle.any_game.specs.GameKind.{GameKind, TicTacToe, Countdown, Pig, HighHand, BlindBid, Captions}
use Rattle.any_game.specs.declared.choice.Picked.{Picked}
use Rattle.any_game.specs.declared.choice.Picked.TheVariants.{TicTacToe as PickedTicTacToe, Countdown as PickedCountdown, Pig as PickedPig, HighHand as PickedHighHand, BlindBid as PickedBlindBid, Captions as PickedCaptions}

abbrev pub kind_of : Picked → GameKind
kind_of (PickedTicTacToe _) = TicTacToe
kind_of (PickedCountdown _) = Countdown
kind_of (PickedPig _) = Pig
kind_of (PickedHighHand lifted) = HighHand lifted.game
kind_of (PickedBlindBid _) = BlindBid
kind_of (PickedCaptions _) = Captions
