-- The offers so far and those of the rest of the moves are all offers.
use Rattle.std.proofs.Common.{◌≡◌, ◌++◌, drop}
use Rattle.game_code.specs.Setting.{setting_of}
use Rattle.described_game.specs.Offers.{all_offers, offers_from}
use Rattle.described_game.proofs.offers.all_offers.Given as goal

abbrev pub invariant-loop-place : goal.invariant-loop-place
invariant-loop-place l = l.offers ++ offers_from l.ids (setting_of l.scene) l.table l.place (drop l.place l.parts.moves) ≡ all_offers l.parts l.table l.context l.seat
