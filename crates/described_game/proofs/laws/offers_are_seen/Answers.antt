-- Conditions and lists read what the seat sees.
use Rattle.described_game.proofs.OfferLaws.{offers_seen}
use Rattle.described_game.proofs.laws.offers_are_seen.Goals as goal

pub returns : goal.returns
returns c = offers_seen c.args.game.now.parts c.args.table.now c.args.context.now c.args.seat c.args.game.now.sound.sight
