-- Only rows with which a move is allowed are offered.
use Rattle.described_game.proofs.OfferLaws.{offers_allowed}
use Rattle.described_game.proofs.laws.offers_are_allowed.Goals as goal

pub returns : goal.returns
returns c = offers_allowed c.args.game.now.parts c.args.table.now c.args.context.now c.args.seat
