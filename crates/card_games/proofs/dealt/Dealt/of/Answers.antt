use Rattle.std.proofs.Common.{◌∙◌, ap}
use Rattle.card_games.specs.Pack.{are_cards}
use Rattle.card_games.proofs.PackLemmas.{are_cards-permuted}
use Rattle.card_games.proofs.dealt.Dealt.of.Goals as goal

pub invariant_of-result : goal.invariant_of-result
invariant_of-result c = record { proper = ap are_cards c.from_vec.ensures ∙ are_cards-permuted c.args.deck.items c.requires }
