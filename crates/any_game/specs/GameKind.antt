-- The six games that a match may be of.
use Rattle.std.specs.Prelude.{Option}
use Rattle.card_games.specs.declared.dealt.Dealt.{Dealt}

pub data GameKind : Type 0 where
  TicTacToe : GameKind
  Countdown : GameKind
  Pig : GameKind
  -- of a deck in a fixed order, or of shuffled packs
  HighHand : Option Dealt → GameKind
  BlindBid : GameKind
  Captions : GameKind
