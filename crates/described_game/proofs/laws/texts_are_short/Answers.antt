-- The bytes were counted by the rows of the slots.
use Rattle.std.proofs.Common.{refl}
use Rattle.described_game.specs.Tests.{texts_fit}
use Rattle.slot_json.proofs.TextLaws.{short_texts}
use Rattle.described_game.proofs.laws.texts_are_short.Goals as goal

pub returns : goal.returns
returns c = short_texts c.args.game.now.parts.layout (texts_fit c.args.game.now.parts) refl c.args.game.now.sound.names c.args.game.now.sound.texts
