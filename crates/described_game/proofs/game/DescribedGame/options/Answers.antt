-- A sheet has few moves.
use Rattle.described_game.proofs.SoundLemmas.{few_moves}
use Rattle.described_game.proofs.game.DescribedGame.options.Goals as goal

pub all_offers-requires-clause-few : goal.all_offers-requires-clause-few
all_offers-requires-clause-few c = few_moves c.args.self.now.parts c.args.self.now.sound
